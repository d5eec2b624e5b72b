-- A queued instance with a queue of one call under `hook`, and a caller that calls it three times, with a handler or without.
use Rattle.std.specs.Prelude.{List, [], ◌∷◌, None, pos, codes}
use Rattle.fp_base.specs.declared.value.Value.{Int}
use Rattle.fp_tables.specs.declared.program.Handler.{Handler}
use Rattle.fp_tables.specs.declared.program.Program.{Program}
use Rattle.fp_tables.specs.declared.program.Spot.{Spot}
use Rattle.fp_tables.specs.declared.program.Spot.TheVariants as spot
use Rattle.fp_tables.specs.declared.program.Verb.TheVariants.{Dispatch}
use Rattle.fp_events.specs.FullQueue.{arrival_with, call_with, first_put, hook_left, second}
use Rattle.fp_events.specs.declared.event.Entry.{Entry}
use Rattle.fp_events.specs.declared.event.Point.TheVariants as point
use Rattle.fp_events.specs.declared.event.What.TheVariants as what

-- the caller k calls with 1, 2 and 3
abbrev pub three_calls : List Handler → Program
three_calls handlers = record {
  steps = 10000;
  callers = (record { name = codes "k"; acts = call_with 1 ∷ call_with 2 ∷ call_with 3 ∷ [] }) ∷ [];
  handlers = handlers;
  answers = [];
}

-- a handler of the queued instance that dispatches once
abbrev pub dispatching : Spot → Handler
dispatching place = record {
  instance = 0;
  place = place;
  acts = (record { verb = Dispatch; subject = record { instance = 0; port = 0; number = 0 }; name = 0; with = []; bind = None }) ∷ [];
}

abbrev pub at_the_hook : Handler
at_the_hook = dispatching (spot.HookPort 0)

abbrev pub at_the_port : Handler
at_the_port = dispatching (spot.Port 0)

abbrev pub handled_entries : List Entry
handled_entries =
    first_put ∷
    second what.Hooked ∷
    (record { stamp = 3; actor = 0; instance = 0; what = what.Take 1 (point.Port 0 0) (Int (pos 1) ∷ []) }) ∷
    (record { stamp = 4; actor = 0; instance = 0; what = what.Done }) ∷
    (record { stamp = 5; actor = 0; instance = 0; what = what.Leave None }) ∷
    (record { stamp = 6; actor = 0; instance = 0; what = what.Put 2 (arrival_with 3) }) ∷
    []

abbrev pub unhandled_entries : List Entry
unhandled_entries =
    first_put ∷
    second what.Hooked ∷
    hook_left ∷
    (record { stamp = 4; actor = 0; instance = 0; what = what.Hooked (arrival_with 3) }) ∷
    (record { stamp = 5; actor = 0; instance = 0; what = what.Leave None }) ∷
    []
