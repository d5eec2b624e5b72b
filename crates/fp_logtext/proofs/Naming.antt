-- Where an entry fits, its positions name something and its values have the kinds of their places.
use Rattle.std.proofs.Common.{◌≡◌, ℕ, Bool, true, false, cond, List, length, Option, Some, None, option_map, option_and_then, unwrap_or, is_some, refl, sym, ap, ◌∙◌, slice_get, nat_lt}
use Rattle.std.specs.List.{list_all}
use Rattle.fp_base.proofs.Passing.{all_implied}
use Rattle.fp_base.proofs.Lists.{get_below}
use Rattle.fp_tables.specs.Specials.{component}
use Rattle.fp_base.specs.declared.value.Value.{Value}
use Rattle.fp_base.proofs.Bools.{both, join}
use Rattle.fp_tables.specs.Lists.{some_and}
use Rattle.fp_tables.specs.Lookup.{Described}
use Rattle.fp_tables.specs.Positions.{port_of}
use Rattle.fp_tables.specs.Types.{have_kinds}
use Rattle.fp_tables.specs.declared.kind.Kind.{Kind}
use Rattle.fp_tables.specs.declared.component.Channel.{Channel}
use Rattle.fp_tables.specs.declared.component.Command.{Command}
use Rattle.fp_tables.specs.declared.component.Param.{Param}
use Rattle.fp_tables.specs.declared.component.Port.{Port as PortOf}
use Rattle.fp_tables.specs.declared.machine.Machine.{Machine}
use Rattle.fp_tables.specs.declared.machine.Named.{Named}
use Rattle.fp_tables.specs.declared.program.Program.{Program}
use Rattle.fp_events.specs.Fits.{place_kinds, port_at, kinds, signal_kinds, signal_at, point_fits, origin_fits, arrival_fits, value_fits, saved_kind, actions_fit, going_fits, what_fits, gives_kind}
use Rattle.fp_events.specs.Lookup.{machine}
use Rattle.fp_events.specs.Manners.{manner}
use Rattle.fp_events.specs.declared.event.Point.{Point}
use Rattle.fp_events.specs.declared.event.Point.TheVariants.{Port, Command as OfCommand, Post, Signal}
use Rattle.fp_events.specs.declared.event.Origin.{Origin}
use Rattle.fp_events.specs.declared.event.Origin.TheVariants.{Caller, Own, Wire}
use Rattle.fp_events.specs.declared.event.Arrival.{Arrival}
use Rattle.fp_events.specs.declared.event.What.{What}
use Rattle.fp_events.specs.declared.event.What.TheVariants as what
use Rattle.fp_base.proofs.Options.{mapped_some, then_some, some_of}
use Rattle.fp_logtext.specs.Names.{action_of, vertex_of, signal_of, machine_at, signal_name}
use Rattle.fp_logtext.specs.Named.{point_is_named, origin_is_named, arrival_is_named, going_is_named, what_is_named}
use Rattle.fp_logtext.specs.Fitting.{is_of, suit_point, values_fit}
use Rattle.fp_run_laws.proofs.Lists.{mapped_test, some_mapped}
use Rattle.fp_run_laws.proofs.Parts.{port_in, command_in, event_in, channel_in, param_in}
use Rattle.fp_logtext.proofs.Components.{machine_in}
use Rattle.fp_tables.proofs.Optional.{some_and_of, some_and_at}
use Rattle.fp_events.proofs.Fitting.{kind_there}

module _ (t : Described) (program : Program) where
  point_kinds : (i : ℕ) (point : Point) (vs : List Value) → point_fits t program i point vs ≡ true → suit_point t program i point vs ≡ true
  point_kinds i point vs h =
      sym (mapped_test (λ ks. have_kinds t.model.types ks vs) (place_kinds t program i point))
      ∙ (both (is_some (manner t i point)) (unwrap_or (option_map (λ ks. have_kinds t.model.types ks vs) (place_kinds t program i point)) false) h).1

  below_size : (b : Bool) (ks js : List Kind) → cond b (Some ks) None ≡ Some js → b ≡ true
  below_size true ks js h = refl
  below_size false ks js h = absurd (cc)

  kinds_named : (i : ℕ) (point : Point) (ks : List Kind) → place_kinds t program i point ≡ Some ks → point_is_named t.model i point ≡ true
  kinds_named i (Port k number) ks h =
      let p = then_some (λ (p : PortOf). cond (nat_lt number p.size) (Some (kinds t program p.formals)) None) (port_at t program i k) ks h in
      some_and_at (λ (p : PortOf). nat_lt number p.size) (port_of t.model i k) p.0 (sym (port_in t i k) ∙ p.1) (below_size (nat_lt number p.0.size) _ ks p.2)
  kinds_named i (OfCommand k) ks h =
      let c = mapped_some (λ (c : Command). kinds t program c.formals) (slice_get (component t i).commands k) ks h in
      ap (λ (o : Option Command). is_some (option_map (λ (x : Command). x.name) o)) (sym (command_in t i k) ∙ c.1)
  kinds_named i (Post k) ks h =
      let p = mapped_some (λ (p : PortOf). kinds t program p.formals) (port_at t program i k) ks h in
      ap (λ (o : Option PortOf). is_some (option_map (λ (x : PortOf). x.name) o)) (sym (port_in t i k) ∙ p.1)
  kinds_named i (Signal running signal) ks h =
      let s = mapped_some (λ (s : Named). signal_kinds t program s.kind) (signal_at t program i running signal) ks h in
      signal_named i running signal s.0 s.1
    where
      signal_named : (i running signal : ℕ) (s : Named) → signal_at t program i running signal ≡ Some s → is_some (signal_name t.model i running signal) ≡ true
      signal_named i running signal s h =
          let x = then_some (λ (m : Machine). slice_get m.signals signal) (machine t i running) s h in
          ap (λ (o : Option Machine). is_some (option_and_then (λ x. signal_of x signal) o)) (sym (machine_in t i running) ∙ x.1)
          ∙ ap (λ (o : Option Named). is_some (option_map (λ (n : Named). n.name) o)) x.2

  point_named : (i : ℕ) (point : Point) (vs : List Value) → point_fits t program i point vs ≡ true → point_is_named t.model i point ≡ true
  point_named i point vs h =
      let ks = some_and_of (λ ks. have_kinds t.model.types ks vs) (place_kinds t program i point) (point_kinds i point vs h) in
      kinds_named i point ks.0 ks.1

  origin_named : (o : Origin) → origin_fits t program o ≡ true → origin_is_named t.model o ≡ true
  origin_named Caller h = refl
  origin_named Own h = refl
  origin_named (Wire e remark) h =
      ap (some_and (λ (p : PortOf). nat_lt e.number p.size)) (sym (port_in t e.instance e.port))
      ∙ sym (mapped_test (λ (p : PortOf). nat_lt e.number p.size) (port_at t program e.instance e.port)) ∙ (both _ _ h).1

  arrival_named : (i : ℕ) (r : Arrival) → arrival_fits t program i r ≡ true → arrival_is_named t.model i r ≡ true
  arrival_named i r h =
      let b = both (point_fits t program i r.point r.with) (origin_fits t program r.origin) h in
      join (point_is_named t.model i r.point) (origin_is_named t.model r.origin) (point_named i r.point r.with b.0) (origin_named r.origin b.1)

  arrival_kinds : (i : ℕ) (r : Arrival) → arrival_fits t program i r ≡ true → suit_point t program i r.point r.with ≡ true
  arrival_kinds i r h = point_kinds i r.point r.with (both (point_fits t program i r.point r.with) (origin_fits t program r.origin) h).0

  of_kind : (k : Option Kind) (v : Value) → value_fits t program k v ≡ true → is_of t program k v ≡ true
  of_kind None v h = h
  of_kind (Some k) v h = h

  going_named : (k : Option Kind) (o : Option Machine) (actions : List ℕ) (leaf : ℕ) → going_fits t program k o actions leaf ≡ true → some_and (going_is_named t.model actions leaf) o ≡ true
  going_named k None actions leaf h = absurd (cc)
  going_named k (Some x) actions leaf h =
      let b = both (actions_fit t program k x actions) (nat_lt leaf (length x.vertices)) h in
      join (list_all (λ a. is_some (action_of x a)) actions) (is_some (vertex_of x leaf))
      (all_implied (λ a. unwrap_or (option_map (λ (n : Named). gives_kind t program n.kind k) (slice_get x.actions a)) false) (λ a. is_some (action_of x a)) actions (λ a e. there (slice_get x.actions a) e) b.0)
      (some_mapped _ (slice_get x.vertices leaf) ∙ get_below x.vertices leaf b.1)
    where
      there : (o : Option Named) → unwrap_or (option_map (λ (n : Named). gives_kind t program n.kind k) o) false ≡ true → is_some (option_map (λ (n : Named). n.name) o) ≡ true
      there None e = absurd (cc)
      there (Some n) e = refl

  pub fit_named : (i : ℕ) (w : What) → what_fits t program i w ≡ true → what_is_named t.model i w ≡ true
  unfolding what_fits
  fit_named i (what.Enter r) h = arrival_named i r h
  fit_named i (what.Guard r) h = arrival_named i r h
  fit_named i (what.Put number r) h = arrival_named i r h
  fit_named i (what.Dropped r) h = arrival_named i r h
  fit_named i (what.Hooked r) h = arrival_named i r h
  fit_named i (what.Asserted r) h = arrival_named i r h
  fit_named i (what.Set r) h = arrival_named i r h
  fit_named i (what.Save r v) h = arrival_named i r (both (arrival_fits t program i r) (value_fits t program (saved_kind t program i (manner t i r.point)) v) h).0
  fit_named i (what.Leave v) h = refl
  fit_named i what.Done h = refl
  fit_named i (what.Take number point vs) h = point_named i point vs h
  fit_named i what.Empty h = refl
  fit_named i (what.Emit event became text) h = some_mapped _ _ ∙ ap is_some (sym (event_in t i event)) ∙ h
  fit_named i (what.Write channel became v) h = some_mapped _ _ ∙ ap is_some (sym (channel_in t i channel)) ∙ kind_there t program (λ (c : Channel). c.kind) (slice_get (component t i).channels channel) v h
  fit_named i (what.Read param v) h = some_mapped _ _ ∙ ap is_some (sym (param_in t i param)) ∙ kind_there t program (λ (p : Param). p.kind) (slice_get (component t i).params param) v h
  fit_named i (what.Start running actions leaf) h =
      ap (some_and (going_is_named t.model actions leaf)) (sym (machine_in t i running)) ∙ going_named None (machine t i running) actions leaf h
  fit_named i (what.Move running signal actions leaf) h =
      let b = both (is_some (signal_at t program i running signal)) (going_fits t program (option_and_then (λ (s : Named). s.kind) (signal_at t program i running signal)) (machine t i running) actions leaf) h in
      let s = some_of (signal_at t program i running signal) b.0 in
      join (is_some (signal_name t.model i running signal)) (some_and (going_is_named t.model actions leaf) (machine_at t.model i running))
      (kinds_named i (Signal running signal) (signal_kinds t program s.0.kind) (ap (option_map (λ (n : Named). signal_kinds t program n.kind)) s.1))
      (ap (some_and (going_is_named t.model actions leaf)) (sym (machine_in t i running)) ∙ going_named _ (machine t i running) actions leaf b.1)

  pub fit_values : (i : ℕ) (w : What) → what_fits t program i w ≡ true → values_fit t program i w ≡ true
  unfolding what_fits
  fit_values i (what.Enter r) h = arrival_kinds i r h
  fit_values i (what.Guard r) h = arrival_kinds i r h
  fit_values i (what.Put number r) h = arrival_kinds i r h
  fit_values i (what.Dropped r) h = arrival_kinds i r h
  fit_values i (what.Hooked r) h = arrival_kinds i r h
  fit_values i (what.Asserted r) h = arrival_kinds i r h
  fit_values i (what.Set r) h = arrival_kinds i r h
  fit_values i (what.Save r v) h =
      let b = both (arrival_fits t program i r) (value_fits t program (saved_kind t program i (manner t i r.point)) v) h in
      join (suit_point t program i r.point r.with) (is_of t program (saved_kind t program i (manner t i r.point)) v)
      (arrival_kinds i r b.0) (of_kind (saved_kind t program i (manner t i r.point)) v b.1)
  fit_values i (what.Take number point vs) h = point_kinds i point vs h
  fit_values i (what.Write channel became v) h = of_kind _ v h
  fit_values i (what.Read param v) h = of_kind _ v h
  fit_values i _ h = refl
