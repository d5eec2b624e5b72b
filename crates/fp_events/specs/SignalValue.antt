-- An active instance with a machine whose signal has a value, and a caller that sends it a 5.
use Rattle.std.specs.Prelude.{ℕ, List, [], ◌∷◌, Some, None, pos, false, codes}
use Rattle.fp_base.specs.declared.value.Value.{Int}
use Rattle.fp_tables.specs.Lookup.{Described}
use Rattle.fp_tables.specs.declared.component.Component.{Component}
use Rattle.fp_tables.specs.declared.component.Full.TheVariants as full
use Rattle.fp_tables.specs.declared.component.Queueing.TheVariants.{Active}
use Rattle.fp_tables.specs.declared.component.Role.TheVariants.{Input}
use Rattle.fp_tables.specs.declared.component.Way.TheVariants.{Later, Sync}
use Rattle.fp_tables.specs.declared.kind.Kind.TheVariants.{U8, Bool}
use Rattle.fp_tables.specs.declared.machine.Machine.{Machine}
use Rattle.fp_tables.specs.declared.machine.Node.TheVariants.{State}
use Rattle.fp_tables.specs.declared.program.Arg.TheVariants.{Given, Bound}
use Rattle.fp_tables.specs.declared.program.Program.{Program}
use Rattle.fp_tables.specs.declared.program.Spot.TheVariants as spot
use Rattle.fp_tables.specs.declared.program.Verb.TheVariants.{Call, Signal, Write}
use Rattle.fp_events.specs.declared.event.Entry.{Entry}
use Rattle.fp_events.specs.declared.event.Fate.TheVariants.{Unwired}
use Rattle.fp_events.specs.declared.event.Origin.TheVariants as origin
use Rattle.fp_events.specs.declared.event.Point.TheVariants as point
use Rattle.fp_events.specs.declared.event.What.{What}
use Rattle.fp_events.specs.declared.event.What.TheVariants as what

-- state machine M { signal s: U8; action a: U8; action b: bool; initial enter A; state A { on s do { a } } }
abbrev pub machine_m : Machine
machine_m = record {
  name = codes "M";
  external = false;
  signals = (record { name = codes "s"; kind = Some U8 }) ∷ [];
  actions = (record { name = codes "a"; kind = Some U8 }) ∷ (record { name = codes "b"; kind = Some Bool }) ∷ [];
  guards = [];
  initial = Some (record { actions = []; target = Some 0 });
  vertices =
      (record {
        name = codes "A";
        parent = None;
        node = State None [] [] ((record { signal = 0; guard = None; step = record { actions = 0 ∷ []; target = None } }) ∷ []);
      }) ∷
      [];
}

-- active component C { sync input port go: P; telemetry n: U8; state machine instance m: M }
abbrev pub component_c : Component
component_c = record {
  name = codes "C";
  queueing = Active;
  ports = (record { name = codes "go"; role = Input Sync; size = 1; of = Some 0; formals = [] }) ∷ [];
  commands = [];
  events = [];
  channels = (record { name = codes "n"; id = 0; kind = U8; on_change = false; format = None; limits = []; note = [] }) ∷ [];
  params = [];
  matches = [];
  machines = (record { name = codes "m"; machine = 0; way = Later (pos 0) full.Assert }) ∷ [];
}

abbrev pub signalled : Described
signalled = record {
  model = record {
    constants = [];
    types = [];
    ports = (record { name = codes "P"; formals = []; result = None }) ∷ [];
    components = component_c ∷ [];
    machines = machine_m ∷ [];
    instances = (record { name = codes "c"; component = 0; base = 0; queue = Some 4; stack = None; priority = None; cpu = None }) ∷ [];
    topologies = (record { name = codes "T"; instances = 0 ∷ []; links = []; wires = [] }) ∷ [];
    order = [];
  };
  topology = 0;
}

-- the caller k calls c.go, whose handler sends m the signal with 5; the handler of a writes its value to n
abbrev pub sends_five : Program
sends_five = record {
  steps = 10000;
  callers =
      (record {
        name = codes "k";
        acts = (record { verb = Call; subject = record { instance = 0; port = 0; number = 0 }; name = 0; with = []; bind = None }) ∷ [];
      }) ∷
      [];
  handlers =
      (record {
        instance = 0;
        place = spot.Port 0;
        acts =
            (record { verb = Signal; subject = record { instance = 0; port = 0; number = 0 }; name = 0; with = Given (Int (pos 5)) ∷ []; bind = None }) ∷
            [];
      }) ∷
      (record {
        instance = 0;
        place = spot.Action 0 0;
        acts =
            (record { verb = Write; subject = record { instance = 0; port = 0; number = 0 }; name = 0; with = Bound (codes "value") ∷ []; bind = None }) ∷
            [];
      }) ∷
      [];
  answers = [];
}

-- the machine's move, by these actions
abbrev pub move_by : List ℕ → What
move_by actions = what.Move 0 0 actions 0

abbrev pub signalled_entries : List Entry
signalled_entries =
    (record { stamp = 1; actor = 0; instance = 0; what = what.Enter (record { point = point.Port 0 0; origin = origin.Caller; with = [] }) }) ∷
    (record { stamp = 2; actor = 0; instance = 0; what = what.Put 1 (record { point = point.Signal 0 0; origin = origin.Own; with = Int (pos 5) ∷ [] }) }) ∷
    (record { stamp = 3; actor = 0; instance = 0; what = what.Leave None }) ∷
    (record { stamp = 4; actor = 1; instance = 0; what = what.Take 1 (point.Signal 0 0) (Int (pos 5) ∷ []) }) ∷
    (record { stamp = 5; actor = 1; instance = 0; what = what.Start 0 [] 0 }) ∷
    (record { stamp = 6; actor = 1; instance = 0; what = move_by (0 ∷ []) }) ∷
    (record { stamp = 7; actor = 1; instance = 0; what = what.Write 0 Unwired (Int (pos 5)) }) ∷
    (record { stamp = 8; actor = 1; instance = 0; what = what.Done }) ∷
    []

-- the actors, in the order of their steps
abbrev pub signalled_order : List ℕ
signalled_order = 0 ∷ 0 ∷ 0 ∷ 1 ∷ 1 ∷ 1 ∷ 1 ∷ 1 ∷ []

-- after so many entries these actors have no step
abbrev pub signalled_idle : List (ℕ × List ℕ)
signalled_idle = (0, 1 ∷ []) ∷ (1, 1 ∷ []) ∷ (3, 0 ∷ []) ∷ (4, 0 ∷ []) ∷ (7, 0 ∷ []) ∷ (8, 0 ∷ 1 ∷ []) ∷ []
