-- Whether the positions of an entry name something of the tables, and its values have the kinds of their places.
use Rattle.std.specs.Prelude.{ℕ, Bool, true, false, cond, ◌&&◌, ◌+◌, nat_lt, List, [], ◌∷◌, map, length, Option, Some, None, option_map, option_and_then, is_some, unwrap_or, slice_get}
use Rattle.std.specs.List.{list_all}
use Rattle.fp_tables.specs.Specials.{component}
use Rattle.fp_base.specs.declared.value.Value.{Value}
use Rattle.fp_tables.specs.Lookup.{Described}
use Rattle.fp_tables.specs.declared.kind.Kind.{Kind}
use Rattle.fp_tables.specs.declared.kind.Formal.{Formal}
use Rattle.fp_tables.specs.declared.component.Channel.{Channel}
use Rattle.fp_tables.specs.declared.component.Event.{Event}
use Rattle.fp_tables.specs.declared.component.Port.{Port as PortOf}
use Rattle.fp_tables.specs.declared.machine.Machine.{Machine}
use Rattle.fp_tables.specs.declared.machine.Named.{Named}
use Rattle.fp_tables.specs.declared.program.Program.{Program}
use Rattle.fp_events.specs.Lookup.{machine, actives, callers}
use Rattle.fp_tables.specs.Types.{has_kind, have_kinds}
use Rattle.fp_tables.specs.Arguments.{is_one_kind}
use Rattle.fp_events.specs.declared.event.Point.{Point}
use Rattle.fp_events.specs.declared.event.Point.TheVariants.{Port, Command, Post, Signal}
use Rattle.fp_events.specs.declared.event.Origin.{Origin}
use Rattle.fp_events.specs.declared.event.Origin.TheVariants.{Wire}
use Rattle.fp_events.specs.declared.event.Arrival.{Arrival}
use Rattle.fp_events.specs.declared.event.Ask.{Ask}
use Rattle.fp_events.specs.declared.event.Ask.TheVariants as ask
use Rattle.fp_events.specs.declared.event.What.{What}
use Rattle.fp_events.specs.declared.event.What.TheVariants as what
use Rattle.fp_tables.specs.Acts.{is_placed}
use Rattle.fp_events.specs.Manners.{Manner, saves, manner}

abbrev pub actor_count : Described → Program → ℕ
actor_count t program = callers program + length (actives t)

module _ (t : Described) (program : Program) where
  abbrev pub kinds : List Formal → List Kind
  kinds fs = map (λ f. f.kind) fs

  abbrev pub port_at : ℕ → ℕ → Option PortOf
  port_at i n = slice_get (component t i).ports n

  abbrev pub signal_kinds : Option Kind → List Kind
  signal_kinds None = []
  signal_kinds (Some k) = k ∷ []

  -- the signal of a machine instance
  abbrev pub signal_at : ℕ → ℕ → ℕ → Option Named
  signal_at i running signal = option_and_then (λ (m : Machine). slice_get m.signals signal) (machine t i running)

  -- the kinds of a place's values, none where there is no such place
  abbrev pub place_kinds : ℕ → Point → Option (List Kind)
  place_kinds i (Port n number) = option_and_then (λ (p : PortOf). cond (nat_lt number p.size) (Some (kinds p.formals)) None) (port_at i n)
  place_kinds i (Command n) = option_map (λ c. kinds c.formals) (slice_get (component t i).commands n)
  place_kinds i (Post n) = option_map (λ (p : PortOf). kinds p.formals) (port_at i n)
  place_kinds i (Signal running signal) = option_map (λ (s : Named). signal_kinds s.kind) (signal_at i running signal)

  abbrev pub point_fits : ℕ → Point → List Value → Bool
  point_fits i point with = is_some (manner t i point) && unwrap_or (option_map (λ ks. have_kinds t.model.types ks with) (place_kinds i point)) false

  abbrev pub origin_fits : Origin → Bool
  origin_fits (Wire e sent_as) = is_placed t e.instance && unwrap_or (option_map (λ (p : PortOf). nat_lt e.number p.size) (port_at e.instance e.port)) false
  origin_fits _ = true

  abbrev pub arrival_fits : ℕ → Arrival → Bool
  arrival_fits i r = point_fits i r.point r.with && origin_fits r.origin

  abbrev pub value_fits : Option Kind → Value → Bool
  value_fits None v = false
  value_fits (Some k) v = has_kind t.model.types k v

  -- the kind of the parameter that a save command saves
  abbrev pub saved_kind : ℕ → Option Manner → Option Kind
  saved_kind i (Some (saves k)) = option_map (λ x. x.kind) (slice_get (component t i).params k)
  saved_kind i _ = None

  -- a machine's action that takes a value is given one of its type, aliases being their targets
  abbrev pub gives_kind : Option Kind → Option Kind → Bool
  gives_kind None k = true
  gives_kind (Some j) None = false
  gives_kind (Some j) (Some k) = is_one_kind t.model.types k j

  abbrev pub actions_fit : Option Kind → Machine → List ℕ → Bool
  actions_fit k m actions = list_all (λ a. unwrap_or (option_map (λ (x : Named). gives_kind x.kind k) (slice_get m.actions a)) false) actions

  abbrev pub going_fits : Option Kind → Option Machine → List ℕ → ℕ → Bool
  going_fits k None actions leaf = false
  going_fits k (Some m) actions leaf = actions_fit k m actions && nat_lt leaf (length m.vertices)

  unfoldable pub what_fits : ℕ → What → Bool
  what_fits i (what.Enter r) = arrival_fits i r
  what_fits i (what.Guard r) = arrival_fits i r
  what_fits i (what.Put number r) = arrival_fits i r
  what_fits i (what.Dropped r) = arrival_fits i r
  what_fits i (what.Hooked r) = arrival_fits i r
  what_fits i (what.Asserted r) = arrival_fits i r
  what_fits i (what.Set r) = arrival_fits i r
  what_fits i (what.Save r v) = arrival_fits i r && value_fits (saved_kind i (manner t i r.point)) v
  what_fits i (what.Leave v) = true
  what_fits i what.Done = true
  what_fits i (what.Take number point with) = point_fits i point with
  what_fits i what.Empty = true
  what_fits i (what.Emit event fate text) = is_some (slice_get (component t i).events event)
  what_fits i (what.Write channel fate v) = value_fits (option_map (λ x. x.kind) (slice_get (component t i).channels channel)) v
  what_fits i (what.Read param v) = value_fits (option_map (λ x. x.kind) (slice_get (component t i).params param)) v
  what_fits i (what.Start running actions leaf) = going_fits None (machine t i running) actions leaf
  what_fits i (what.Move running signal actions leaf) =
      is_some (signal_at i running signal) && going_fits (option_and_then (λ (s : Named). s.kind) (signal_at i running signal)) (machine t i running) actions leaf

  -- the same, of an actor of the program and an instance of the topology
  unfoldable pub fits : ℕ → ℕ → What → Bool
  fits a i w = nat_lt a (actor_count t program) && is_placed t i && what_fits i w

  -- one value for each formal of an event
  abbrev pub event_takes : List Value → Event → Bool
  event_takes with e = have_kinds t.model.types (kinds e.formals) with

  -- what an ask names is there, its values have the kinds of their places, and an arrival's origin names a port of the topology
  unfoldable pub ask_fits : ℕ → Ask → Bool
  ask_fits i (ask.Arrive r) = arrival_fits i r
  ask_fits i (ask.Emit event with) = unwrap_or (option_map (event_takes with) (slice_get (component t i).events event)) false
  ask_fits i (ask.Write channel v) = value_fits (option_map (λ (x : Channel). x.kind) (slice_get (component t i).channels channel)) v
  ask_fits i (ask.Read param) = is_some (slice_get (component t i).params param)
  ask_fits i (ask.Advance running signal v) = is_some (signal_at i running signal)
  ask_fits i _ = true
