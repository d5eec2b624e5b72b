-- Logs that were worked out by hand, to their exact texts. The tables have the names that the logs speak of, and no more.
use Rattle.std.specs.Prelude.{◌≡◌, ℕ, false, ◌++◌, List, [], ◌∷◌, codes, Option, Some, None, pos, refl}
use Rattle.std.specs.Fmt.{digits}
use Rattle.fp_base.specs.declared.value.Value.{Value, Int, Enumerated}
use Rattle.fp_tables.specs.Lookup.{Described}
use Rattle.fp_tables.specs.declared.kind.Kind.TheVariants as kind
use Rattle.fp_tables.specs.declared.component.Port.{Port}
use Rattle.fp_tables.specs.declared.component.Command.{Command}
use Rattle.fp_tables.specs.declared.component.Event.{Event}
use Rattle.fp_tables.specs.declared.component.Channel.{Channel}
use Rattle.fp_tables.specs.declared.component.Param.{Param}
use Rattle.fp_tables.specs.declared.component.Running.{Running}
use Rattle.fp_tables.specs.declared.component.Component.{Component}
use Rattle.fp_tables.specs.declared.component.CommandPart.{CommandPart}
use Rattle.fp_tables.specs.declared.component.CommandPart.TheVariants as part
use Rattle.fp_tables.specs.declared.component.Queueing.{Queueing}
use Rattle.fp_tables.specs.declared.component.Queueing.TheVariants as queueing
use Rattle.fp_tables.specs.declared.component.Role.TheVariants as role
use Rattle.fp_tables.specs.declared.component.Way.TheVariants as way
use Rattle.fp_tables.specs.declared.machine.Machine.{Machine}
use Rattle.fp_tables.specs.declared.machine.Named.{Named}
use Rattle.fp_tables.specs.declared.machine.Node.TheVariants as node
use Rattle.fp_tables.specs.declared.machine.Vertex.{Vertex}
use Rattle.fp_tables.specs.declared.topology.Instance.{Instance}
use Rattle.fp_tables.specs.declared.program.Program.{Program}
use Rattle.fp_events.specs.declared.event.Point.{Point}
use Rattle.fp_events.specs.declared.event.Point.TheVariants as point
use Rattle.fp_events.specs.declared.event.Origin.{Origin}
use Rattle.fp_events.specs.declared.event.Origin.TheVariants as origin
use Rattle.fp_events.specs.declared.event.Arrival.{Arrival}
use Rattle.fp_events.specs.declared.event.Fate.TheVariants as fate
use Rattle.fp_events.specs.declared.event.What.{What}
use Rattle.fp_events.specs.declared.event.What.TheVariants as what
use Rattle.fp_events.specs.declared.event.Entry.{Entry}
use Rattle.fp_events.specs.declared.event.Finish.TheVariants as finish
use Rattle.fp_logtext.specs.Log.{Log}

abbrev port : List ℕ → Port
port name = record { name = name; role = role.Output; size = 1; of = None; formals = [] }

abbrev command : List ℕ → CommandPart → Command
command name p = record { name = name; part = p; way = way.Sync; opcode = 0; formals = []; note = [] }

abbrev event : List ℕ → Event
event name = record { name = name; id = 0; severity = 0; formals = []; format = []; fields = record { parts = [] }; throttle = None; note = [] }

abbrev channel : List ℕ → Channel
channel name = record { name = name; id = 0; kind = kind.U8; on_change = false; format = None; limits = []; note = [] }

abbrev param : List ℕ → Param
param name = record { name = name; id = 0; kind = kind.U8; default = Int (pos 0); written = false; note = [] }

abbrev component : Queueing → List Port → List Command → List Event → List Channel → List Param → List Running → Component
component q ports commands events channels params machines = record {
  name = [];
  queueing = q;
  ports = ports;
  commands = commands;
  events = events;
  channels = channels;
  params = params;
  matches = [];
  machines = machines;
}

abbrev instance : List ℕ → ℕ → Instance
instance name c = record { name = name; component = c; base = 0; queue = None; stack = None; priority = None; cpu = None }

abbrev tables : List Component → List Machine → List Instance → List ℕ → Described
tables cs ms is placed = record {
  model = record {
    constants = [];
    types = [];
    ports = [];
    components = cs;
    machines = ms;
    instances = is;
    topologies = (record { name = []; instances = placed; links = []; wires = [] }) ∷ [];
    order = [];
  };
  topology = 0;
}

-- one caller k
abbrev program : Program
program = record { steps = 10000; callers = (record { name = codes "k"; acts = [] }) ∷ []; handlers = []; answers = [] }

abbrev entry : ℕ → ℕ → ℕ → What → Entry
entry n a i w = record { stamp = n; actor = a; instance = i; what = w }

abbrev arrival : Point → Origin → List Value → Arrival
arrival p o vs = record { point = p; origin = o; with = vs }

abbrev number : ℕ → Value
number n = Int (pos n)

abbrev named : List ℕ → Named
named name = record { name = name; kind = None }

abbrev state : List ℕ → Option ℕ → Vertex
state name p = record { name = name; parent = p; node = node.State None [] [] [] }

-- ---- a machine starts and moves

abbrev nested : Described
nested =
    tables (component queueing.Active (port (codes "go") ∷ []) [] [] [] [] ((record { name = codes "m"; machine = 0; way = way.Sync }) ∷ []) ∷ [])
    ((record {
      name = codes "M";
      external = false;
      signals = named (codes "s") ∷ [];
      actions = named (codes "xa") ∷ named (codes "xb") ∷ named (codes "ea") ∷ named (codes "t") ∷ named (codes "ia") ∷ [];
      guards = [];
      initial = None;
      vertices = state (codes "A") None ∷ state (codes "B") (Some 0) ∷ [];
    }) ∷ [])
    (instance (codes "c") 0 ∷ []) (0 ∷ [])

nested_states :
    Log nested program (
    entry 1 0 0 (what.Enter (arrival (point.Port 0 0) origin.Caller [])) ∷
    entry 2 0 0 (what.Put 1 (arrival (point.Signal 0 0) origin.Own [])) ∷
    entry 3 0 0 (what.Leave None) ∷
    entry 4 1 0 (what.Take 1 (point.Signal 0 0) []) ∷
    entry 5 1 0 (what.Start 0 (2 ∷ 4 ∷ []) 1) ∷
    entry 6 1 0 (what.Move 0 0 (1 ∷ 0 ∷ 3 ∷ 2 ∷ 4 ∷ []) 1) ∷
    entry 7 1 0 what.Done ∷
    []) finish.Complete
    ≡ codes "1 k c enter go[0] via caller ()\n2 k c put 1 signal m.s via self ()\n3 k c leave\n"
    ++ codes "4 @c c take 1 signal m.s ()\n5 @c c start m [ea, ia] A.B\n6 @c c move m s [xb, xa, t, ea, ia] A.B\n7 @c c done\nend complete\n"
unfolding digits
nested_states = refl

-- ---- a command to its response

abbrev dispatched : Described
dispatched =
    tables (
    component queueing.Active (port (codes "regIn") ∷ port (codes "cmdOut") ∷ port (codes "status") ∷ port (codes "go") ∷ []) [] [] [] [] [] ∷
    component queueing.Passive (port (codes "logIn") ∷ port (codes "textIn") ∷ port (codes "tlmIn") ∷ port (codes "timeIn") ∷ []) [] [] [] [] [] ∷
    component queueing.Active (port (codes "cmdIn") ∷ port (codes "cmdReg") ∷ port (codes "cmdResp") ∷ port (codes "log") ∷ port (codes "logText") ∷ port (codes "tlm") ∷ port (codes "clock") ∷ [])
    (command (codes "RUN") part.Plain ∷ []) (event (codes "Ran") ∷ []) (channel (codes "Count") ∷ []) [] [] ∷
    [])
    [] (instance (codes "D.disp") 0 ∷ instance (codes "D.sinks") 1 ∷ instance (codes "D.w1") 2 ∷ instance (codes "D.w2") 2 ∷ []) (0 ∷ 1 ∷ 2 ∷ 3 ∷ [])

abbrev from : ℕ → ℕ → Option (List ℕ) → Origin
from i k remark = origin.Wire (record { instance = i; port = k; number = 0 }) remark

abbrev good : Value
good = Enumerated (codes "Fw.Response") (codes "OK") (pos 0)

command_to_response :
    Log dispatched program (
    entry 1 0 0 (what.Put 1 (arrival (point.Port 3 0) origin.Caller [])) ∷
    entry 2 1 0 (what.Take 1 (point.Port 3 0) []) ∷
    entry 3 1 2 (what.Put 1 (arrival (point.Command 0) (from 0 1 None) (number 7 ∷ []))) ∷
    entry 4 1 0 what.Done ∷
    entry 4 2 2 (what.Take 1 (point.Command 0) (number 7 ∷ [])) ∷
    entry 5 2 2 (what.Emit 0 fate.Sent (codes "ran 7")) ∷
    entry 6 2 1 (what.Enter (arrival (point.Port 0 0) (from 2 3 (Some (codes "Ran"))) (number 0 ∷ []))) ∷
    entry 7 2 1 (what.Leave None) ∷
    entry 8 2 2 (what.Write 0 fate.Sent (number 1)) ∷
    entry 9 2 1 (what.Enter (arrival (point.Port 2 0) (from 2 5 (Some (codes "Count"))) (number 0 ∷ []))) ∷
    entry 10 2 1 (what.Leave None) ∷
    entry 11 2 0 (what.Put 2 (arrival (point.Port 2 0) (from 2 2 (Some (codes "OK"))) (number 0 ∷ good ∷ []))) ∷
    entry 12 1 0 (what.Take 2 (point.Port 2 0) (number 0 ∷ good ∷ [])) ∷
    entry 12 2 2 what.Done ∷
    entry 13 1 0 what.Done ∷
    []) finish.Complete
    ≡ codes "1 k D.disp put 1 go[0] via caller ()\n2 @D.disp D.disp take 1 go[0] ()\n3 @D.disp D.w1 put 1 command RUN via D.disp.cmdOut[0] (7)\n"
    ++ codes "4 @D.disp D.disp done\n4 @D.w1 D.w1 take 1 command RUN (7)\n5 @D.w1 D.w1 emit Ran sent \"ran 7\"\n"
    ++ codes "6 @D.w1 D.sinks enter logIn[0] via D.w1.log[0] as Ran (0)\n7 @D.w1 D.sinks leave\n8 @D.w1 D.w1 write Count sent (1)\n"
    ++ codes "9 @D.w1 D.sinks enter tlmIn[0] via D.w1.tlm[0] as Count (0)\n10 @D.w1 D.sinks leave\n11 @D.w1 D.disp put 2 status[0] via D.w1.cmdResp[0] as OK (0, OK)\n"
    ++ codes "12 @D.disp D.disp take 2 status[0] (0, OK)\n12 @D.w1 D.w1 done\n13 @D.disp D.disp done\nend complete\n"
unfolding digits
command_to_response = refl

-- ---- the greatest priority first

abbrev queued : Described
queued = tables (component queueing.Queued (port (codes "a") ∷ port (codes "b") ∷ port (codes "c") ∷ port (codes "go") ∷ []) [] [] [] [] [] ∷ []) [] (instance (codes "q") 0 ∷ []) (0 ∷ [])

abbrev put : ℕ → ℕ → Entry
put n k = entry n 0 0 (what.Put n (arrival (point.Port k 0) origin.Caller (number n ∷ [])))

abbrev take : ℕ → ℕ → ℕ → Entry
take n m k = entry n 0 0 (what.Take m (point.Port k 0) (number m ∷ []))

abbrev done : ℕ → Entry
done n = entry n 0 0 what.Done

greatest_first :
    Log queued program (
    put 1 0 ∷ put 2 1 ∷ put 3 1 ∷ put 4 2 ∷ entry 5 0 0 (what.Enter (arrival (point.Port 3 0) origin.Caller [])) ∷ take 6 2 1 ∷ done 7 ∷ take 8 3 1 ∷ done 9 ∷ take 10 4 2 ∷ done 11 ∷ take 12 1 0 ∷ done 13 ∷
    entry 14 0 0 what.Empty ∷ entry 15 0 0 (what.Leave None) ∷ []) finish.Complete
    ≡ codes "1 k q put 1 a[0] via caller (1)\n2 k q put 2 b[0] via caller (2)\n3 k q put 3 b[0] via caller (3)\n4 k q put 4 c[0] via caller (4)\n5 k q enter go[0] via caller ()\n"
    ++ codes "6 k q take 2 b[0] (2)\n7 k q done\n8 k q take 3 b[0] (3)\n9 k q done\n10 k q take 4 c[0] (4)\n11 k q done\n12 k q take 1 a[0] (1)\n13 k q done\n14 k q empty\n15 k q leave\nend complete\n"
unfolding digits
greatest_first = refl

-- ---- a parameter is set, read and saved

abbrev prm : Described
prm =
    tables (component queueing.Passive (port (codes "go") ∷ []) (command (codes "P_PRM_SET") (part.SetParam 0) ∷ command (codes "P_PRM_SAVE") (part.SaveParam 0) ∷ []) (event (codes "E") ∷ []) (channel (codes "t") ∷ []) (param (codes "P") ∷ []) [] ∷ [])
    [] (instance (codes "c") 0 ∷ []) (0 ∷ [])

set_read_saved :
    Log prm program (
    entry 1 0 0 (what.Set (arrival (point.Command 0) origin.Caller (number 9 ∷ []))) ∷
    entry 2 0 0 (what.Leave None) ∷
    entry 3 0 0 (what.Enter (arrival (point.Port 0 0) origin.Caller [])) ∷
    entry 4 0 0 (what.Read 0 (number 9)) ∷
    entry 5 0 0 (what.Leave None) ∷
    entry 6 0 0 (what.Save (arrival (point.Command 1) origin.Caller []) (number 9)) ∷
    entry 7 0 0 (what.Leave None) ∷
    []) finish.Complete
    ≡ codes "1 k c set P via caller (9)\n2 k c leave\n3 k c enter go[0] via caller ()\n4 k c read P (9)\n5 k c leave\n6 k c save P via caller (9)\n7 k c leave\nend complete\n"
unfolding digits
set_read_saved = refl

-- ---- what a throttle holds and what is the same, and the end of a run that was cut off

held_and_same :
    Log prm program (
    entry 47 0 0 (what.Emit 0 fate.Unwired (codes "v a")) ∷
    entry 48 0 0 (what.Emit 0 fate.Held (codes "v a")) ∷
    entry 49 0 0 (what.Write 0 fate.Unwired (number 1)) ∷
    entry 50 0 0 (what.Write 0 fate.Same (number 1)) ∷
    []) finish.Spent
    ≡ codes "47 k c emit E unwired \"v a\"\n48 k c emit E held \"v a\"\n49 k c write t unwired (1)\n50 k c write t same (1)\nend spent\n"
unfolding digits
held_and_same = refl

-- ---- moves without actions

abbrev chosen : Described
chosen =
    tables (component queueing.Active [] [] [] [] [] ((record { name = codes "m"; machine = 0; way = way.Sync }) ∷ []) ∷ [])
    ((record {
      name = codes "M";
      external = false;
      signals = named (codes "s") ∷ [];
      actions = [];
      guards = [];
      initial = None;
      vertices = state (codes "A") None ∷ state (codes "B") None ∷ [];
    }) ∷ [])
    (instance (codes "c") 0 ∷ []) (0 ∷ [])

choices :
    Log chosen program (entry 1 1 0 (what.Start 0 [] 0) ∷ entry 2 1 0 (what.Move 0 0 [] 0) ∷ entry 3 1 0 (what.Move 0 0 [] 1) ∷ []) finish.Stuck
    ≡ codes "1 @c c start m [] A\n2 @c c move m s [] A\n3 @c c move m s [] B\nend stuck\n"
unfolding digits
choices = refl
