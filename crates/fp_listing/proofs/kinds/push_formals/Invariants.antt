use Rattle.std.proofs.Common.{◌≡◌, ◌++◌, map, take}
use Rattle.fp_base.specs.Rendered.{joined}
use Rattle.fp_listing.specs.Kinds.{formal_text}
use Rattle.fp_listing.proofs.kinds.push_formals.Given as goal

abbrev pub invariant-loop-at : goal.invariant-loop-at
invariant-loop-at l = l.out ≡ l.initial.out ++ joined (map (formal_text l.types) (take l.at l.formals))
