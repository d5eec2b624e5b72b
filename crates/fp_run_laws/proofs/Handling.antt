-- The lists of actions that entries put into frames.
use Rattle.std.proofs.Common.{◌≡◌, ℕ, ◌⊎◌, inl, inr, Bool, true, false, cond, codes, ◌&&◌, ◌||◌, ◌==◌, nat_lt, List, [], ◌∷◌, ◌++◌, map, zip, find, Option, Some, None, option_map, option_and_then, option_to_list, unwrap_or, is_some, refl, sym, ap, ◌∙◌, subst, slice_get}
use Rattle.fp_tables.specs.Specials.{component, special_wire}
use Rattle.fp_base.proofs.Options.{then_some, mapped_some, same_some}
use Rattle.fp_base.specs.declared.value.Value.{Value}
use Rattle.fp_base.proofs.Sameness.{nat_same}
use Rattle.fp_base.proofs.Bools.{both}
use Rattle.fp_tables.specs.Acts.{command_of, machine_at, binds, suit_in_turn}
use Rattle.fp_tables.specs.Arguments.{Scope, nothing_bound, formals_bound, kinds_of}
use Rattle.fp_tables.specs.Lookup.{Described}
use Rattle.fp_tables.specs.Positions.{port_of}
use Rattle.fp_tables.specs.Lists.{some_and}
use Rattle.fp_tables.specs.Programs.{is_general_input, is_internal, is_hooked, value_bound, act_suits, caller_act_suits, port_bound, command_bound, port_way, command_way, signal_way, bound_at, handler_suits}
use Rattle.fp_tables.specs.Sound.{IsSoundFor}
use Rattle.fp_tables.specs.SoundPrograms.{IsSoundProgram, same_spot}
use Rattle.fp_tables.specs.Types.{has_kind, have_kinds}
use Rattle.fp_tables.specs.declared.kind.Kind.{Kind}
use Rattle.fp_tables.specs.declared.component.Command.{Command}
use Rattle.fp_tables.specs.declared.component.Port.{Port as PortOf}
use Rattle.fp_tables.specs.declared.component.Special.{Special}
use Rattle.fp_tables.specs.declared.machine.Machine.{Machine}
use Rattle.fp_tables.specs.declared.machine.Named.{Named}
use Rattle.fp_tables.specs.declared.program.Act.{Act}
use Rattle.fp_tables.specs.declared.program.Handler.{Handler}
use Rattle.fp_tables.specs.declared.program.Program.{Program}
use Rattle.fp_tables.specs.declared.program.Spot.{Spot}
use Rattle.fp_tables.specs.declared.program.Spot.TheVariants as spot
use Rattle.fp_events.specs.Actor.{Bindings, Action, act, send, advance, Doing, Opened, own, arrived, taken}
use Rattle.fp_events.specs.Fits.{kinds, port_at, signal_kinds, signal_at, place_kinds, point_fits, actions_fit, gives_kind}
use Rattle.fp_events.specs.Follows.{handling, hook_spot, hooking, sends, with_value, performed}
use Rattle.fp_events.specs.Lookup.{machine, names, handler}
use Rattle.fp_events.specs.Manners.{manner}
use Rattle.fp_events.specs.declared.event.Point.{Point}
use Rattle.fp_events.specs.declared.event.Point.TheVariants.{Port, Command as OfCommand, Post, Signal}
use Rattle.fp_run_laws.specs.Suits.{BoundSuits, Source, caller, at, source, AdvanceSuits, ActionsSuit, MayReturn, DoingSuits, DoingsSuit}
use Rattle.fp_run_laws.proofs.Lists.{find_passes}
use Rattle.fp_run_laws.proofs.Parts.{port_in, command_in}
use Rattle.fp_run_laws.proofs.Scopes.{nothing_suits, one_more_suits, formals_suit}
use Rattle.fp_run_laws.proofs.Places.{machine_here}
use Rattle.fp_base.specs.Names.{is_name}
use Rattle.fp_run_laws.proofs.Notes.{AreNamed}
use Rattle.fp_run_laws.proofs.Asks.{never}
use Rattle.fp_tables.proofs.Aliases.{one_kind}
use Rattle.fp_tables.proofs.Spots.{spot_equal}
use Rattle.fp_tables.proofs.Optional.{some_and_of}

module _ (t : Described) (program : Program) where
  -- ---- a program's own lists

  acts_at_place : (i : ℕ) (place : Spot) (scope : Scope) (xs : List Act) → suit_in_turn t (act_suits t i place) scope xs ≡ true → ActionsSuit t program (at i place) scope (map act xs)
  acts_at_place i place scope [] h = tt
  acts_at_place i place scope (x ∷ xs) h =
      let b = both (act_suits t i place scope x) (suit_in_turn t (act_suits t i place) (binds t x scope) xs) h in
      (b.0, acts_at_place i place (binds t x scope) xs b.1)

  pub acts_of_caller : (scope : Scope) (xs : List Act) → suit_in_turn t (caller_act_suits t) scope xs ≡ true → ActionsSuit t program caller scope (map act xs)
  acts_of_caller scope [] h = tt
  acts_of_caller scope (x ∷ xs) h =
      let b = both (caller_act_suits t scope x) (suit_in_turn t (caller_act_suits t) (binds t x scope) xs) h in
      (b.0, acts_of_caller (binds t x scope) xs b.1)

  module _ (good : IsSoundProgram t program) where
    -- a handler's actions suit what its place binds, where there is one
    abbrev Suited : ℕ → Spot → Type 0
    Suited i place = (handler program i place ≡ []) ⊎ ((scope : Scope) × (bound_at t i place ≡ Some scope) × (suit_in_turn t (act_suits t i place) scope (handler program i place) ≡ true))

    suited : (i : ℕ) (place : Spot) → Suited i place
    suited i place = go (find (λ (h : Handler). (h.instance == i) && same_spot h.place place) program.handlers) refl
      where
        go : (o : Option Handler) → find (λ (h : Handler). (h.instance == i) && same_spot h.place place) program.handlers ≡ o → Suited i place
        go None is = inl (ap (λ (o : Option Handler). unwrap_or (option_map (λ (h : Handler). h.acts) o) []) is)
        go (Some h) is =
            let f = find_passes (λ (h : Handler). (h.instance == i) && same_spot h.place place) (handler_suits t) program.handlers h good.handlers_suit is in
            let b = both (h.instance == i) (same_spot h.place place) f.0 in
            let here : h.instance ≡ i = nat_same.equal h.instance i b.0 in
            let there : h.place ≡ place = spot_equal h.place place b.1 in
            let s = some_and_of (λ scope. suit_in_turn t (act_suits t h.instance h.place) scope h.acts) (bound_at t h.instance h.place) (both _ _ f.1).1 in
            let acts : handler program i place ≡ h.acts = ap (λ (o : Option Handler). unwrap_or (option_map (λ (h : Handler). h.acts) o) []) is in
            inr (
              s.0,
              ap (λ (n : ℕ). bound_at t n place) (sym here) ∙ ap (bound_at t h.instance) (sym there) ∙ s.1,
              ap (λ (l : List Act). suit_in_turn t (act_suits t i place) s.0 l) acts ∙ ap (λ (n : ℕ). suit_in_turn t (act_suits t n place) s.0 h.acts) (sym here)
                  ∙ ap (λ (q : Spot). suit_in_turn t (act_suits t h.instance q) s.0 h.acts) (sym there) ∙ s.2,
            )

    -- a list with a handler's actions, where what is bound has the types that its place binds
    handler_list : (o : Opened) (i : ℕ) (result : Option Kind) (place : Spot) (bound : Bindings) → ((p : Spot) → source o i p ≡ at i p) → MayReturn t program o i result place
        → ((scope : Scope) → bound_at t i place ≡ Some scope → BoundSuits t.model.types scope bound)
        → DoingSuits t program o i result (λ scope. scope) (record { actions = map act (handler program i place); bound = bound })
    handler_list o i result place bound inside may suits = go (suited i place)
      where
        go : Suited i place → DoingSuits t program o i result (λ scope. scope) (record { actions = map act (handler program i place); bound = bound })
        go (inl e) = record {
          place = place;
          scope = nothing_bound;
          returns = may;
          actions = subst (λ (l : List Act). ActionsSuit t program (source o i place) nothing_bound (map act l)) (sym e) tt;
          bound = nothing_suits t.model.types bound;
        }
        go (inr s) = record {
          place = place;
          scope = s.0;
          returns = may;
          actions = subst (λ (q : Source). ActionsSuit t program q s.0 (map act (handler program i place))) (sym (inside place)) (acts_at_place i place s.0 (handler program i place) s.2);
          bound = suits s.0 s.1;
        }

    -- ---- what a point's values are bound to

    chosen : {X : Type 0} (b : Bool) (x y : X) → cond b (Some x) None ≡ Some y → x ≡ y
    chosen true x y h = same_some h
    chosen false x y h = absurd (cc)

    values_of_point : (i : ℕ) (point : Point) (vs : List Value) → point_fits t program i point vs ≡ true → (ks : List Kind) × (place_kinds t program i point ≡ Some ks) × (have_kinds t.model.types ks vs ≡ true)
    values_of_point i point vs h = go (place_kinds t program i point) (both (is_some (manner t i point)) _ h).1
      where
        go : (o : Option (List Kind)) → unwrap_or (option_map (λ ks. have_kinds t.model.types ks vs) o) false ≡ true → (ks : List Kind) × (o ≡ Some ks) × (have_kinds t.model.types ks vs ≡ true)
        go None h = absurd (cc)
        go (Some ks) h = (ks, refl, h)

    -- the formals of a port with the values of a call
    port_bindings : (i n : ℕ) (p : PortOf) (vs : List Value) (scope : Scope) → slice_get (component t i).ports n ≡ Some p → have_kinds t.model.types (kinds_of p.formals) vs ≡ true → port_bound t i n ≡ Some scope
        → BoundSuits t.model.types scope (zip (unwrap_or (option_map (λ (p : PortOf). names p.formals) (slice_get (component t i).ports n)) []) vs)
    port_bindings i n p vs scope found fit is =
        let q = then_some (λ (p : PortOf). cond (is_general_input p.role || is_internal p.role) (Some (formals_bound p.formals)) None) (port_of t.model i n) scope is in
        let same : p ≡ q.0 = same_some (sym found ∙ port_in t i n ∙ q.1) in
        let bound : formals_bound p.formals ≡ scope = ap (λ (p : PortOf). formals_bound p.formals) same ∙ chosen _ (formals_bound q.0.formals) scope q.2 in
        subst (λ (o : Option PortOf). BoundSuits t.model.types scope (zip (unwrap_or (option_map (λ (p : PortOf). names p.formals) o) []) vs)) (sym found)
        (subst (λ (s : Scope). BoundSuits t.model.types s (zip (names p.formals) vs)) bound (formals_suit t.model.types p.formals vs fit))

    -- the formals of a port, with the values of an arrival at one of its numbers or of an internal call
    port_values : (i n number : ℕ) (vs : List Value) (scope : Scope) → point_fits t program i (Port n number) vs ≡ true → port_bound t i n ≡ Some scope
        → BoundSuits t.model.types scope (zip (unwrap_or (option_map (λ (p : PortOf). names p.formals) (slice_get (component t i).ports n)) []) vs)
    port_values i n number vs scope fit is =
        let v = values_of_point i (Port n number) vs fit in
        let p = then_some (λ (p : PortOf). cond (nat_lt number p.size) (Some (kinds t program p.formals)) None) (port_at t program i n) v.0 v.1 in
        let ks : kinds t program p.0.formals ≡ v.0 = chosen _ (kinds t program p.0.formals) v.0 p.2 in
        port_bindings i n p.0 vs scope p.1 (ap (λ (l : List Kind). have_kinds t.model.types l vs) ks ∙ v.2) is

    post_values : (i n : ℕ) (vs : List Value) (scope : Scope) → point_fits t program i (Post n) vs ≡ true → port_bound t i n ≡ Some scope
        → BoundSuits t.model.types scope (zip (unwrap_or (option_map (λ (p : PortOf). names p.formals) (slice_get (component t i).ports n)) []) vs)
    post_values i n vs scope fit is =
        let v = values_of_point i (Post n) vs fit in
        let p = mapped_some (λ (p : PortOf). kinds t program p.formals) (port_at t program i n) v.0 v.1 in
        port_bindings i n p.0 vs scope p.1 (ap (λ (l : List Kind). have_kinds t.model.types l vs) p.2 ∙ v.2) is

    -- the formals of a command
    command_values : (i n : ℕ) (vs : List Value) (scope : Scope) → point_fits t program i (OfCommand n) vs ≡ true → command_bound t i n ≡ Some scope
        → BoundSuits t.model.types scope (zip (unwrap_or (option_map (λ (c : Command). names c.formals) (slice_get (component t i).commands n)) []) vs)
    command_values i n vs scope fit is =
        let v = values_of_point i (OfCommand n) vs fit in
        let c = mapped_some (λ (c : Command). kinds t program c.formals) (slice_get (component t i).commands n) v.0 v.1 in
        let d = mapped_some (λ (c : Command). formals_bound c.formals) (command_of t i n) scope is in
        let same : c.0 ≡ d.0 = same_some (sym c.1 ∙ command_in t i n ∙ d.1) in
        let bound : formals_bound c.0.formals ≡ scope = ap (λ (c : Command). formals_bound c.formals) same ∙ d.2 in
        subst (λ (o : Option Command). BoundSuits t.model.types scope (zip (unwrap_or (option_map (λ (c : Command). names c.formals) o) []) vs)) (sym c.1)
        (subst (λ (s : Scope). BoundSuits t.model.types s (zip (names c.0.formals) vs)) bound
        (formals_suit t.model.types c.0.formals vs (ap (λ (l : List Kind). have_kinds t.model.types l vs) c.2 ∙ v.2)))

    -- the place whose handler an arrival at a point begins
    abbrev pub spot_of : Point → Spot
    spot_of (Port n number) = spot.Port n
    spot_of (OfCommand n) = spot.Command n
    spot_of (Post n) = spot.Port n
    spot_of (Signal running signal) = spot.Action running 0

    advance_list : (o : Opened) (i : ℕ) (result : Option Kind) (running signal : ℕ) (v : Option Value) → ((p : Spot) → source o i p ≡ at i p) → MayReturn t program o i result (spot.Action running 0)
        → AdvanceSuits t program i running signal v → DoingSuits t program o i result (λ scope. scope) (record { actions = advance running signal v ∷ []; bound = [] })
    advance_list o i result running signal v inside may h = record {
      place = spot.Action running 0;
      scope = nothing_bound;
      returns = may;
      actions = subst (λ (q : Source). ActionsSuit t program q nothing_bound (advance running signal v ∷ [])) (sym (inside (spot.Action running 0))) (h, tt);
      bound = nothing_suits t.model.types [];
    }

    two : (k : Option Kind) (v w : Value) (vs : List Value) → have_kinds t.model.types (signal_kinds t program k) (v ∷ w ∷ vs) ≡ true → ⊥
    two None v w vs h = cc
    two (Some k) v w vs h = never (both (has_kind t.model.types k v) false h).1

    signal_list : (o : Opened) (i : ℕ) (result : Option Kind) (running signal : ℕ) (s : Named) (vs : List Value) → ((p : Spot) → source o i p ≡ at i p) → MayReturn t program o i result (spot.Action running 0)
        → signal_at t program i running signal ≡ Some s → have_kinds t.model.types (signal_kinds t program s.kind) vs ≡ true → DoingSuits t program o i result (λ scope. scope) (handling t program i (Signal running signal) vs)
    signal_list o i result running signal s [] inside may there h = advance_list o i result running signal None inside may (record { named = s; there = there; value = h })
    signal_list o i result running signal s (v ∷ []) inside may there h = advance_list o i result running signal (Some v) inside may (record { named = s; there = there; value = h })
    signal_list o i result running signal s (v ∷ w ∷ vs) inside may there h = absurd (two s.kind v w vs h)

    pub handling_suits : (o : Opened) (i : ℕ) (result : Option Kind) (point : Point) (vs : List Value) → ((p : Spot) → source o i p ≡ at i p) → MayReturn t program o i result (spot_of point)
        → point_fits t program i point vs ≡ true → DoingSuits t program o i result (λ scope. scope) (handling t program i point vs)
    handling_suits o i result (Port n number) vs inside may fit =
        handler_list o i result (spot.Port n) _ inside may (λ scope is. port_values i n number vs scope fit is)
    handling_suits o i result (Post n) vs inside may fit =
        handler_list o i result (spot.Port n) _ inside may (λ scope is. post_values i n vs scope fit is)
    handling_suits o i result (OfCommand n) vs inside may fit =
        handler_list o i result (spot.Command n) _ inside may (λ scope is. command_values i n vs scope fit is)
    handling_suits o i result (Signal running signal) vs inside may fit =
        let v = values_of_point i (Signal running signal) vs fit in
        let s = mapped_some (λ (s : Named). signal_kinds t program s.kind) (signal_at t program i running signal) v.0 v.1 in
        signal_list o i result running signal s.0 vs inside may s.1 (ap (λ (l : List Kind). have_kinds t.model.types l vs) s.2 ∙ v.2)

    -- ---- hooks

    -- a hook handler returns nothing
    hook_silent : (default : Option Value) (name : Option (List ℕ)) (i : ℕ) (result : Option Kind) (point : Point) → MayReturn t program (arrived default name) i result (hook_spot point)
    hook_silent default name i result (Port n number) = λ k h. absurd (cc)
    hook_silent default name i result (OfCommand n) = λ k h. absurd (cc)
    hook_silent default name i result (Post n) = λ k h. absurd (cc)
    hook_silent default name i result (Signal running signal) = λ k h. absurd (cc)

    -- what is bound under `hook`
    under_hook : (b : Bool) (o : Option Scope) (scope : Scope) → cond b o None ≡ Some scope → o ≡ Some scope
    under_hook true o scope h = h
    under_hook false o scope h = absurd (cc)

    pub hooking_suits : (default : Option Value) (name : Option (List ℕ)) (i : ℕ) (result : Option Kind) (point : Point) (vs : List Value) → point_fits t program i point vs ≡ true
        → DoingSuits t program (arrived default name) i result (λ scope. scope) (hooking t program i point vs)
    hooking_suits default name i result (Port n number) vs fit =
        handler_list (arrived default name) i result (spot.HookPort n) _ (λ p. refl) (hook_silent default name i result (Port n number))
        (λ scope is. port_values i n number vs scope fit (under_hook (some_and is_hooked (port_way t i n)) (port_bound t i n) scope is))
    hooking_suits default name i result (Post n) vs fit =
        handler_list (arrived default name) i result (spot.HookPort n) _ (λ p. refl) (hook_silent default name i result (Post n))
        (λ scope is. post_values i n vs scope fit (under_hook (some_and is_hooked (port_way t i n)) (port_bound t i n) scope is))
    hooking_suits default name i result (OfCommand n) vs fit =
        handler_list (arrived default name) i result (spot.HookCommand n) _ (λ p. refl) (hook_silent default name i result (OfCommand n))
        (λ scope is. command_values i n vs scope fit (under_hook (some_and is_hooked (command_way t i n)) (command_bound t i n) scope is))
    hooking_suits default name i result (Signal running signal) vs fit =
        handler_list (arrived default name) i result (spot.HookSignal running) _ (λ p. refl) (hook_silent default name i result (Signal running signal))
        (λ scope is.
        let none : nothing_bound ≡ scope = same_some (under_hook (some_and is_hooked (signal_way t i running)) (Some nothing_bound) scope is) in
        subst (λ (s : Scope). BoundSuits t.model.types s []) none (nothing_suits t.model.types []))

    -- ---- sends

    send_list : (i : ℕ) (place : Spot) (scope : Scope) (s : Special) (note : List ℕ) (rest : List Action) → is_name note ≡ true → ActionsSuit t program (at i place) scope rest
        → ActionsSuit t program (at i place) scope (cond (is_some (special_wire t i s)) (send s note ∷ []) [] ++ rest)
    send_list i place scope s note rest named h = go (is_some (special_wire t i s)) refl
      where
        go : (b : Bool) → is_some (special_wire t i s) ≡ b → ActionsSuit t program (at i place) scope (cond b (send s note ∷ []) [] ++ rest)
        go true e = ((e, named), h)
        go false e = h

    sends_at : (i : ℕ) (place : Spot) (scope : Scope) (ports : List (Special × List ℕ)) → AreNamed ports → ActionsSuit t program (at i place) scope (sends t program i ports).actions
    sends_at i place scope [] named = tt
    sends_at i place scope (p ∷ ps) named = send_list i place scope p.0 p.1 (sends t program i ps).actions named.0 (sends_at i place scope ps named.1)

    -- nothing returns from a machine's action
    silent : (o : Opened) (i : ℕ) (result : Option Kind) (running k : ℕ) → MayReturn t program o i result (spot.Action running k)
    silent own i result running k = tt
    silent taken i result running k = tt
    silent (arrived default name) i result running k = λ j h. absurd (cc)

    pub sends_suit : (o : Opened) (i : ℕ) (result : Option Kind) (ports : List (Special × List ℕ)) → AreNamed ports → ((p : Spot) → source o i p ≡ at i p) → DoingSuits t program o i result (λ scope. scope) (sends t program i ports)
    sends_suit o i result ports named inside = record {
      place = spot.Action 0 0;
      scope = nothing_bound;
      returns = silent o i result 0 0;
      actions = subst (λ (q : Source). ActionsSuit t program q nothing_bound (sends t program i ports).actions) (sym (inside (spot.Action 0 0))) (sends_at i (spot.Action 0 0) nothing_bound ports named);
      bound = nothing_suits t.model.types [];
    }

    -- ---- the actions of a machine

    module _ (sound : IsSoundFor t.model (Some t.topology)) where
      -- there is a value of the type, if there is one
      abbrev pub Has : Option Kind → Option Value → Type 0
      Has None v = Unit {0}
      Has (Some k) None = ⊥
      Has (Some k) (Some v) = has_kind t.model.types k v ≡ true

      pub has_value : (k : Option Kind) (v : Option Value) → have_kinds t.model.types (signal_kinds t program k) (option_to_list v) ≡ true → Has k v
      has_value None v h = tt
      has_value (Some k) None h = absurd (cc)
      has_value (Some k) (Some v) h = (both (has_kind t.model.types k v) true h).0

      -- the value that a machine's walk is given
      value_suits : (k : Option Kind) (v : Option Value) (x : Named) → Has k v → gives_kind t program x.kind k ≡ true
          → BoundSuits t.model.types (value_bound x.kind) (with_value t program v (Some x))
      value_suits k v x fit same = go x.kind refl k v fit same
        where
          go : (j : Option Kind) → x.kind ≡ j → (k : Option Kind) (v : Option Value) → Has k v → gives_kind t program j k ≡ true
              → BoundSuits t.model.types (value_bound j) (with_value t program v (Some x))
          go None is k v fit same = nothing_suits t.model.types (with_value t program v (Some x))
          go (Some j) is None v fit same = absurd (cc)
          go (Some j) is (Some g) None fit same = absurd fit
          go (Some j) is (Some g) (Some v) fit same =
              subst (λ (o : Option Kind). BoundSuits t.model.types (value_bound (Some j)) (cond (is_some o) ((codes "value", v) ∷ []) [])) (sym is)
              (one_more_suits t.model.types (codes "value") j v nothing_bound [] (one_kind t.model.types sound.0.types.no_type_uses_itself g j v same fit) (nothing_suits t.model.types []))

      pub performed_suit : (o : Opened) (i : ℕ) (result : Option Kind) (running : ℕ) (m : Machine) (k : Option Kind) (v : Option Value) (actions : List ℕ) (ds : List Doing) → ((p : Spot) → source o i p ≡ at i p)
          → machine t i running ≡ Some m → Has k v → actions_fit t program k m actions ≡ true
          → DoingsSuit t program o i result (λ scope. scope) ds → DoingsSuit t program o i result (λ scope. scope) (performed t program i running actions v ++ ds)
      performed_suit o i result running m k v [] ds inside found fit all h = h
      performed_suit o i result running m k v (a ∷ actions) ds inside found fit all h =
          let b = both (unwrap_or (option_map (λ (x : Named). gives_kind t program x.kind k) (slice_get m.actions a)) false) (actions_fit t program k m actions) all in
          let x = named_of (slice_get m.actions a) b.0 in
          let here : option_and_then (λ (m : Machine). slice_get m.actions a) (machine t i running) ≡ Some x.0 = ap (option_and_then (λ (m : Machine). slice_get m.actions a)) found ∙ x.1 in
          let there : option_and_then (λ (m : Machine). slice_get m.actions a) (machine_at t i running) ≡ Some x.0 = ap (option_and_then (λ (m : Machine). slice_get m.actions a)) (sym (machine_here t program i running)) ∙ here in (
            handler_list o i result (spot.Action running a) _ inside (silent o i result running a)
                (λ scope is.
                let bound : value_bound x.0.kind ≡ scope = same_some (ap (option_map (λ (x : Named). value_bound x.kind)) (sym there) ∙ is) in
                subst (λ (o : Option Named). BoundSuits t.model.types scope (with_value t program v o)) (sym here)
                (subst (λ (s : Scope). BoundSuits t.model.types s (with_value t program v (Some x.0))) bound (value_suits k v x.0 fit x.2))),
            performed_suit o i result running m k v actions ds inside found fit b.1 h,
          )
        where
          named_of : (o : Option Named) → unwrap_or (option_map (λ (x : Named). gives_kind t program x.kind k) o) false ≡ true → (x : Named) × (o ≡ Some x) × (gives_kind t program x.kind k ≡ true)
          named_of None h = absurd (cc)
          named_of (Some x) h = (x, refl, h)
