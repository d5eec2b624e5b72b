-- A queued instance with a queue of one call, and a caller that calls it twice.
use Rattle.std.specs.Prelude.{ℕ, [], ◌∷◌, Some, None, pos, false, codes}
use Rattle.fp_base.specs.declared.value.Value.{Int}
use Rattle.fp_tables.specs.Lookup.{Described}
use Rattle.fp_tables.specs.declared.component.Component.{Component}
use Rattle.fp_tables.specs.declared.component.Full.{Full}
use Rattle.fp_tables.specs.declared.component.Port.{Port}
use Rattle.fp_tables.specs.declared.component.Queueing.TheVariants.{Queued}
use Rattle.fp_tables.specs.declared.component.Role.TheVariants.{Input}
use Rattle.fp_tables.specs.declared.component.Way.TheVariants.{Later}
use Rattle.fp_tables.specs.declared.kind.Formal.{Formal}
use Rattle.fp_tables.specs.declared.kind.Kind.TheVariants.{U8}
use Rattle.fp_tables.specs.declared.program.Act.{Act}
use Rattle.fp_tables.specs.declared.program.Arg.TheVariants.{Given}
use Rattle.fp_tables.specs.declared.program.Program.{Program}
use Rattle.fp_tables.specs.declared.program.Verb.TheVariants.{Call}
use Rattle.fp_events.specs.declared.event.Arrival.{Arrival}
use Rattle.fp_events.specs.declared.event.Entry.{Entry}
use Rattle.fp_events.specs.declared.event.Origin.TheVariants.{Caller}
use Rattle.fp_events.specs.declared.event.Point.TheVariants as point
use Rattle.fp_events.specs.declared.event.What.{What}
use Rattle.fp_events.specs.declared.event.What.TheVariants.{Put, Leave}

-- port P(a: U8)
abbrev pub formal_a : Formal
formal_a = record { name = codes "a"; kind = U8; by_ref = false; note = [] }

-- async input port i: P, with this policy
abbrev pub input_i : Full → Port
input_i policy = record { name = codes "i"; role = Input (Later (pos 0) policy); size = 1; of = Some 0; formals = formal_a ∷ [] }

-- queued component Q
abbrev pub component_q : Full → Component
component_q policy = record {
  name = codes "Q";
  queueing = Queued;
  ports = input_i policy ∷ [];
  commands = [];
  events = [];
  channels = [];
  params = [];
  matches = [];
  machines = [];
}

-- instance q: Q base id 0 queue size 1, and the topology T with it
abbrev pub full_queue : Full → Described
full_queue policy = record {
  model = record {
    constants = [];
    types = [];
    ports = (record { name = codes "P"; formals = formal_a ∷ []; result = None }) ∷ [];
    components = component_q policy ∷ [];
    machines = [];
    instances = (record { name = codes "q"; component = 0; base = 0; queue = Some 1; stack = None; priority = None; cpu = None }) ∷ [];
    topologies = (record { name = codes "T"; instances = 0 ∷ []; links = []; wires = [] }) ∷ [];
    order = [];
  };
  topology = 0;
}

-- a call of q.i with this value
abbrev pub call_with : ℕ → Act
call_with n = record { verb = Call; subject = record { instance = 0; port = 0; number = 0 }; name = 0; with = Given (Int (pos n)) ∷ []; bind = None }

-- the caller k calls with 1 and then with 2
abbrev pub two_calls : Program
two_calls = record { steps = 10000; callers = (record { name = codes "k"; acts = call_with 1 ∷ call_with 2 ∷ [] }) ∷ []; handlers = []; answers = [] }

abbrev pub arrival_with : ℕ → Arrival
arrival_with n = record { point = point.Port 0 0; origin = Caller; with = Int (pos n) ∷ [] }

-- 1 k q put 1 i[0] via caller (1)
abbrev pub first_put : Entry
first_put = record { stamp = 1; actor = 0; instance = 0; what = Put 1 (arrival_with 1) }

-- 2 k q .. i[0] via caller (2)
abbrev pub second : (Arrival → What) → Entry
second what = record { stamp = 2; actor = 0; instance = 0; what = what (arrival_with 2) }

-- 3 k q leave
abbrev pub hook_left : Entry
hook_left = record { stamp = 3; actor = 0; instance = 0; what = Leave None }
