-- A return, an action at a time.
use Rattle.std.proofs.Common.{Bool, true, false, List, [], ◌∷◌}
use Rattle.fp_tables.specs.Programs.{return_stands}
use Rattle.fp_tables.specs.declared.program.Act.{Act}

-- what is left of the rule behind an action that is a return, or isn't
abbrev pub stands_after : Bool → Bool → List Act → Bool
stands_after wanted false rest = return_stands wanted rest
stands_after wanted true [] = wanted
stands_after wanted true (a ∷ rest) = false
