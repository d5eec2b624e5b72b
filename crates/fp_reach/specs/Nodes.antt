-- Where an action arrives, the handler that handles it there at once, and the guards and turns. Scenarios are this profile's own.
use Rattle.std.specs.Prelude.{ℕ, cond, nat_lt, List, [], ◌++◌, length, Option, Some, None, option_map, option_and_then, option_to_list}
use Rattle.fp_tables.specs.Lookup.{Described, wire_from}
use Rattle.fp_tables.specs.Acts.{command_of, machine_at}
use Rattle.fp_tables.specs.Programs.{port_way, command_way, signal_way}
use Rattle.fp_tables.specs.Specials.{special_wire}
use Rattle.fp_tables.specs.declared.component.Full.TheVariants.{Hook}
use Rattle.fp_tables.specs.declared.component.Way.{Way}
use Rattle.fp_tables.specs.declared.component.Way.TheVariants.{Later, Sync, Guarded}
use Rattle.fp_tables.specs.declared.component.CommandPart.{CommandPart}
use Rattle.fp_tables.specs.declared.component.CommandPart.TheVariants.{Plain, SetParam, SaveParam}
use Rattle.fp_tables.specs.declared.component.Special.{Special}
use Rattle.fp_tables.specs.declared.component.Special.TheVariants as special
use Rattle.fp_tables.specs.declared.component.Command.{Command as Described_command}
use Rattle.fp_tables.specs.declared.machine.Machine.{Machine}
use Rattle.fp_tables.specs.declared.topology.End.{End}
use Rattle.fp_tables.specs.declared.program.Act.{Act}
use Rattle.fp_tables.specs.declared.program.Verb.{Verb}
use Rattle.fp_tables.specs.declared.program.Verb.TheVariants as verb
use Rattle.fp_tables.specs.declared.program.Spot.{Spot}
use Rattle.fp_tables.specs.declared.program.Spot.TheVariants as spot
use Rattle.fp_reach.specs.declared.node.Node.{Node}
use Rattle.fp_reach.specs.declared.node.Node.TheVariants.{At, Implied}
use Rattle.fp_reach.specs.declared.node.Arrival.{Arrival}
use Rattle.fp_reach.specs.declared.node.Arrival.TheVariants as arrival
use Rattle.fp_reach.specs.declared.node.Lock.{Lock}
use Rattle.fp_reach.specs.declared.node.Lock.TheVariants.{Guard, Turn}

abbrev pub at_end : End → Arrival
at_end e = arrival.Port e.instance e.port

-- what is sync or guarded is handled at once; what is asynchronous isn't, but under `hook` its hook handler is, since the queue may be full
abbrev pub handled : Way → Node → Node → Option Node
handled (Later priority Hook) now hook = Some hook
handled (Later priority full) now hook = None
handled way now hook = Some now

abbrev pub hooked : Way → Node → Option Node
hooked (Later priority Hook) hook = Some hook
hooked way hook = None

abbrev pub guarded : ℕ → Way → Option Lock
guarded i Guarded = Some (Guard i)
guarded i way = None

-- what is guarded is handled under the guard of its instance, and what is asynchronous within its turn
abbrev pub held : ℕ → Way → Option Lock
held i Guarded = Some (Guard i)
held i (Later priority full) = Some (Turn i)
held i Sync = None

-- a command that its component has is handled at its way, and one that sets or saves a parameter by its implied handler
abbrev pub led_by_command : ℕ → ℕ → Described_command → Option Node
led_by_command i n c = of_part c.part
  where
    of_part : CommandPart → Option Node
    of_part Plain = handled c.way (At i (spot.Command n)) (At i (spot.HookCommand n))
    of_part part = Some (Implied i n)

module _ (t : Described) where
  -- where the call of a special port of the instance arrives, if it is connected
  abbrev pub sent : ℕ → Special → Option Arrival
  sent i s = option_map (λ (w : End × End). at_end w.1) (special_wire t i s)

  -- where an action of a handler of the instance arrives: calls, commands and responses at the other end of the wire, emits and writes
  -- where the event and the telemetry port lead, posts and signals at the instance itself
  abbrev pub arrival_of : ℕ → Act → Option Arrival
  arrival_of i a = of_verb a.verb
    where
      of_verb : Verb → Option Arrival
      of_verb verb.Call = option_map at_end (wire_from t a.subject)
      of_verb verb.Respond = option_map at_end (wire_from t a.subject)
      of_verb verb.Command = option_map (λ (e : End). arrival.Command e.instance a.name) (wire_from t a.subject)
      of_verb verb.Emit = sent i special.Event
      of_verb verb.Write = sent i special.Tlm
      of_verb verb.Post = Some (arrival.Port i a.subject.port)
      of_verb verb.Signal = Some (arrival.Signal i a.subject.port)
      of_verb verb.Read = None
      of_verb verb.Dispatch = None
      of_verb verb.Return = None

  -- the handler that handles an arrival at once
  abbrev pub leads : Arrival → Option Node
  leads (arrival.Port i p) = option_and_then (λ w. handled w (At i (spot.Port p)) (At i (spot.HookPort p))) (port_way t i p)
  leads (arrival.Command i n) = option_and_then (led_by_command i n) (command_of t i n)
  leads (arrival.Signal i r) = option_and_then (λ w. hooked w (At i (spot.HookSignal r))) (signal_way t i r)

  -- the guard that an arrival takes
  abbrev pub guards : Arrival → Option Lock
  guards (arrival.Port i p) = option_and_then (guarded i) (port_way t i p)
  guards (arrival.Command i n) = option_and_then (guarded i) (command_way t i n)
  guards (arrival.Signal i r) = None

  -- the guard or the turn with which a handler opens: that of an action of a machine has the turn, as each asynchronous one
  abbrev pub opens : ℕ → Spot → Option Lock
  opens i (spot.Port p) = option_and_then (held i) (port_way t i p)
  opens i (spot.Command n) = option_and_then (held i) (command_way t i n)
  opens i (spot.Action r k) = option_and_then (λ (m : Machine). cond (nat_lt k (length m.actions)) (Some (Turn i)) None) (machine_at t i r)
  opens i place = None

  -- where what a set or a save command sends arrives: the response, and before it the call that saves
  abbrev pub sent_for : ℕ → Option CommandPart → List Arrival
  sent_for i (Some (SetParam k)) = option_to_list (sent i special.CmdResp)
  sent_for i (Some (SaveParam k)) = option_to_list (sent i special.PrmSet) ++ option_to_list (sent i special.CmdResp)
  sent_for i _ = []

  abbrev pub sends : ℕ → ℕ → List Arrival
  sends i n = sent_for i (option_map (λ (c : Described_command). c.part) (command_of t i n))

  -- the handler that handles at once what an action does, and the guard or turn that the action takes: a dispatch takes the turn
  abbrev pub led : ℕ → Act → Option Node
  led i a = option_and_then leads (arrival_of i a)

  abbrev pub taken_with : ℕ → Act → Verb → Option Lock
  taken_with i a verb.Dispatch = Some (Turn i)
  taken_with i a _ = option_and_then guards (arrival_of i a)

  abbrev pub taken : ℕ → Act → Option Lock
  taken i a = taken_with i a a.verb
