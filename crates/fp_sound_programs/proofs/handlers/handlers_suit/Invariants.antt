use Rattle.std.proofs.Common.{◌≡◌, true, take}
use Rattle.std.specs.List.{list_all}
use Rattle.fp_tables.specs.Programs.{handler_suits}
use Rattle.fp_sound_programs.proofs.handlers.handlers_suit.Given as goal

abbrev pub invariant-loop-handler : goal.invariant-loop-handler
invariant-loop-handler l = list_all (handler_suits l.tables) (take l.handler-index l.handlers) ≡ true
