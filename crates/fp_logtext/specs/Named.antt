-- Whether the positions of entries name something of the tables or the program.
use Rattle.std.specs.Prelude.{ℕ, Bool, true, ◌&&◌, nat_lt, is_some, List}
use Rattle.std.specs.List.{list_all}
use Rattle.fp_tables.specs.Lists.{some_and}
use Rattle.fp_tables.specs.Lookup.{Described}
use Rattle.fp_tables.specs.Positions.{port_of}
use Rattle.fp_tables.specs.declared.component.Port.{Port as PortOf}
use Rattle.fp_tables.specs.declared.machine.Machine.{Machine}
use Rattle.fp_tables.specs.declared.program.Program.{Program}
use Rattle.fp_tables.specs.declared.model.Model.{Model}
use Rattle.fp_events.specs.Fits.{actor_count}
use Rattle.fp_events.specs.declared.event.Point.{Point}
use Rattle.fp_events.specs.declared.event.Point.TheVariants.{Port, Command, Post, Signal}
use Rattle.fp_events.specs.declared.event.Origin.{Origin}
use Rattle.fp_events.specs.declared.event.Origin.TheVariants.{Caller, Own, Wire}
use Rattle.fp_events.specs.declared.event.Arrival.{Arrival}
use Rattle.fp_events.specs.declared.event.What.{What}
use Rattle.fp_events.specs.declared.event.What.TheVariants as what
use Rattle.fp_events.specs.declared.event.Entry.{Entry}
use Rattle.fp_logtext.specs.Names.{action_of, vertex_of, instance_name, port_name, command_name, event_name, channel_name, param_name, machine_at, signal_name, set_name, saved_name}

module _ (m : Model) where
  -- a port that there is, and a number below its size
  abbrev pub port_is_named : ℕ → ℕ → ℕ → Bool
  port_is_named i k number = some_and (λ (p : PortOf). nat_lt number p.size) (port_of m i k)

  abbrev pub point_is_named : ℕ → Point → Bool
  point_is_named i (Port k number) = port_is_named i k number
  point_is_named i (Command k) = is_some (command_name m i k)
  point_is_named i (Post k) = is_some (port_name m i k)
  point_is_named i (Signal running signal) = is_some (signal_name m i running signal)

  abbrev pub origin_is_named : Origin → Bool
  origin_is_named Caller = true
  origin_is_named Own = true
  origin_is_named (Wire e _) = port_is_named e.instance e.port e.number

  abbrev pub arrival_is_named : ℕ → Arrival → Bool
  arrival_is_named i r = point_is_named i r.point && origin_is_named r.origin

  abbrev pub going_is_named : List ℕ → ℕ → Machine → Bool
  going_is_named actions leaf x = list_all (λ a. is_some (action_of x a)) actions && is_some (vertex_of x leaf)

  abbrev pub what_is_named : ℕ → What → Bool
  what_is_named i (what.Enter r) = arrival_is_named i r
  what_is_named i (what.Guard r) = arrival_is_named i r
  what_is_named i (what.Put number r) = arrival_is_named i r
  what_is_named i (what.Dropped r) = arrival_is_named i r
  what_is_named i (what.Hooked r) = arrival_is_named i r
  what_is_named i (what.Asserted r) = arrival_is_named i r
  what_is_named i (what.Set r) = arrival_is_named i r
  what_is_named i (what.Save r v) = arrival_is_named i r
  what_is_named i (what.Leave v) = true
  what_is_named i what.Done = true
  what_is_named i (what.Take number point vs) = point_is_named i point
  what_is_named i what.Empty = true
  what_is_named i (what.Emit event became text) = is_some (event_name m i event)
  what_is_named i (what.Write channel became v) = is_some (channel_name m i channel)
  what_is_named i (what.Read param v) = is_some (param_name m i param)
  what_is_named i (what.Start running actions leaf) = some_and (going_is_named actions leaf) (machine_at m i running)
  what_is_named i (what.Move running signal actions leaf) = is_some (signal_name m i running signal) && some_and (going_is_named actions leaf) (machine_at m i running)

  -- the point of a set is a set command, and that of a save a save command
  abbrev pub sets_or_saves : ℕ → What → Bool
  sets_or_saves i (what.Set r) = is_some (set_name m i r.point)
  sets_or_saves i (what.Save r v) = is_some (saved_name m i r.point)
  sets_or_saves i _ = true

abbrev pub entry_is_named : Described → Program → Entry → Bool
entry_is_named t program e = nat_lt e.actor (actor_count t program) && is_some (instance_name t.model e.instance) && what_is_named t.model e.instance e.what

abbrev pub are_named : Described → Program → List Entry → Bool
are_named t program es = list_all (entry_is_named t program) es

abbrev pub set_and_save_commands : Described → List Entry → Bool
set_and_save_commands t es = list_all (λ (e : Entry). sets_or_saves t.model e.instance e.what) es
