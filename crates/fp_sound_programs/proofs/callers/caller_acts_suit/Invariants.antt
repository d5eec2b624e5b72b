use Rattle.std.proofs.Common.{◌≡◌, drop}
use Rattle.fp_tables.specs.Bound.{scope_of}
use Rattle.fp_tables.specs.Acts.{suit_in_turn}
use Rattle.fp_tables.specs.Programs.{caller_act_suits, caller_acts_suit}
use Rattle.fp_sound_programs.proofs.callers.caller_acts_suit.Given as goal

abbrev pub invariant-loop-act : goal.invariant-loop-act
invariant-loop-act l = caller_acts_suit l.tables l.acts ≡ suit_in_turn l.tables (caller_act_suits l.tables) (scope_of l.bound) (drop l.act-index l.acts)
