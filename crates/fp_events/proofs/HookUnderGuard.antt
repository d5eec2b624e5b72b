-- A hook runs while its actor holds the guard, which is kept over the hook's frame; its handler has the value of the call that is lost.
use Rattle.std.specs.Prelude.{ℕ, false, pos, List, [], ◌∷◌, codes, Some, None, refl}
use Rattle.fp_base.specs.declared.value.Value.{Int}
use Rattle.fp_tables.specs.declared.kind.Kind.TheVariants as kind
use Rattle.fp_tables.specs.declared.component.Full.TheVariants as full
use Rattle.fp_tables.specs.declared.component.Way.TheVariants as way
use Rattle.fp_tables.specs.declared.component.Role.TheVariants as role
use Rattle.fp_tables.specs.declared.component.Queueing.TheVariants as queueing
use Rattle.fp_tables.specs.declared.program.Act.{Act}
use Rattle.fp_tables.specs.declared.program.Arg.TheVariants.{Given, Bound}
use Rattle.fp_tables.specs.declared.program.Spot.TheVariants as spot
use Rattle.fp_tables.specs.declared.program.Verb.TheVariants as verb
use Rattle.fp_events.specs.declared.event.Arrival.{Arrival}
use Rattle.fp_events.specs.declared.event.Fate.TheVariants as fate
use Rattle.fp_events.specs.declared.event.Point.TheVariants as point
use Rattle.fp_events.specs.declared.event.Origin.TheVariants as origin
use Rattle.fp_events.specs.declared.event.What.{What}
use Rattle.fp_events.specs.declared.event.What.TheVariants as what
use Rattle.fp_events.specs.declared.event.Finish.TheVariants as finish
use Rattle.fp_tables.specs.Lookup.{Described}
use Rattle.fp_tables.specs.declared.program.Program.{Program}
use Rattle.fp_events.specs.declared.event.Entry.{Entry}
use Rattle.fp_events.specs.Due.{due}
use Rattle.fp_events.specs.Follows.{follows}
use Rattle.fp_events.specs.Tells.{tells}
use Rattle.fp_events.specs.Leaves.{leaves}
use Rattle.fp_events.specs.Answers.{answers}
use Rattle.fp_events.specs.Fits.{fits, what_fits}
use Rattle.fp_events.specs.Step.{instance_part, actor_part}
use Rattle.fp_events.specs.Worked.{Makes}

-- a guarded input g, an internal port p under hook with one formal, and a channel t; the queue holds one call
abbrev tables : Described
tables = record {
  model = record {
    constants = [];
    types = [];
    ports = (record { name = codes "P"; formals = []; result = None }) ∷ [];
    components =
        (record {
          name = codes "A";
          queueing = queueing.Queued;
          ports =
              (record { name = codes "g"; role = role.Input way.Guarded; size = 1; of = Some 0; formals = [] }) ∷
              (record {
                name = codes "p";
                role = role.Internal (way.Later (pos 0) full.Hook);
                size = 1;
                of = None;
                formals = (record { name = codes "a"; kind = kind.U8; by_ref = false; note = [] }) ∷ [];
              }) ∷
              [];
          commands = [];
          events = [];
          channels = (record { name = codes "t"; id = 0; kind = kind.U8; on_change = false; format = None; limits = []; note = [] }) ∷ [];
          params = [];
          matches = [];
          machines = [];
        }) ∷
        [];
    machines = [];
    instances = (record { name = codes "a"; component = 0; base = 0; queue = Some 1; stack = None; priority = None; cpu = None }) ∷ [];
    topologies = (record { name = codes "T"; instances = 0 ∷ []; links = []; wires = [] }) ∷ [];
    order = [];
  };
  topology = 0;
}

abbrev call_g : Act
call_g = record { verb = verb.Call; subject = record { instance = 0; port = 0; number = 0 }; name = 0; with = []; bind = None }

abbrev post_p : ℕ → Act
post_p n = record { verb = verb.Post; subject = record { instance = 0; port = 1; number = 0 }; name = 0; with = Given (Int (pos n)) ∷ []; bind = None }

abbrev write_a : Act
write_a = record { verb = verb.Write; subject = record { instance = 0; port = 0; number = 0 }; name = 0; with = Bound (codes "a") ∷ []; bind = None }

-- two callers call g, whose handler calls p with 1 and with 2; the hook handler of p writes the value
abbrev program : Program
program = record {
  steps = 10000;
  callers = (record { name = codes "k0"; acts = call_g ∷ [] }) ∷ (record { name = codes "k1"; acts = call_g ∷ [] }) ∷ [];
  handlers = (record { instance = 0; place = spot.Port 0; acts = post_p 1 ∷ post_p 2 ∷ [] }) ∷ (record { instance = 0; place = spot.HookPort 1; acts = write_a ∷ [] }) ∷ [];
  answers = [];
}

-- the actors, in the order of their steps
abbrev order : List ℕ
order = 0 ∷ 0 ∷ 0 ∷ 0 ∷ 0 ∷ 0 ∷ 1 ∷ 1 ∷ 1 ∷ 1 ∷ 1 ∷ 1 ∷ 1 ∷ 1 ∷ []

abbrev entry : ℕ → ℕ → What → Entry
entry n a w = record { stamp = n; actor = a; instance = 0; what = w }

abbrev called : Arrival
called = record { point = point.Port 0 0; origin = origin.Caller; with = [] }

abbrev posted : ℕ → Arrival
posted n = record { point = point.Post 1; origin = origin.Own; with = Int (pos n) ∷ [] }

abbrev written : ℕ → What
written n = what.Write 0 fate.Unwired (Int (pos n))

abbrev entries : List Entry
entries =
    entry 1 0 (what.Guard called) ∷
    entry 2 0 (what.Put 1 (posted 1)) ∷
    entry 3 0 (what.Hooked (posted 2)) ∷
    entry 4 0 (written 2) ∷
    entry 5 0 (what.Leave None) ∷
    entry 6 0 (what.Leave None) ∷
    entry 7 1 (what.Guard called) ∷
    entry 8 1 (what.Hooked (posted 1)) ∷
    entry 9 1 (written 1) ∷
    entry 10 1 (what.Leave None) ∷
    entry 11 1 (what.Hooked (posted 2)) ∷
    entry 12 1 (written 2) ∷
    entry 13 1 (what.Leave None) ∷
    entry 14 1 (what.Leave None) ∷
    []

-- after so many entries these actors have no step
abbrev idle : List (ℕ × List ℕ)
idle =
    (1, 1 ∷ []) ∷
    (2, 1 ∷ []) ∷
    (3, 1 ∷ []) ∷
    (4, 1 ∷ []) ∷
    (5, 1 ∷ []) ∷
    (6, 0 ∷ []) ∷
    (7, 0 ∷ []) ∷
    (10, 0 ∷ []) ∷
    (13, 0 ∷ []) ∷
    (14, 0 ∷ 1 ∷ []) ∷
    []

computed : Makes tables program order entries finish.Complete idle
unfolding due follows tells leaves answers fits what_fits instance_part actor_part
computed = record { entries = refl; ending = refl; waiting = refl }
