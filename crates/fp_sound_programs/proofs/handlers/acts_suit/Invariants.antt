use Rattle.std.proofs.Common.{◌≡◌, drop}
use Rattle.fp_tables.specs.Bound.{scope_of}
use Rattle.fp_tables.specs.Acts.{suit_in_turn}
use Rattle.fp_tables.specs.Programs.{act_suits}
use Rattle.fp_sound_programs.proofs.handlers.acts_suit.Given as goal

abbrev pub invariant-loop-act : goal.invariant-loop-act
invariant-loop-act l =
    suit_in_turn l.tables (act_suits l.tables l.handler.instance l.handler.place) (scope_of l.initial.bound) l.handler.acts
    ≡ suit_in_turn l.tables (act_suits l.tables l.handler.instance l.handler.place) (scope_of l.bound) (drop l.act-index l.handler.acts)
