-- What an instance tells for what may be asked fits, and what it leaves is kinded.
use Rattle.std.proofs.Common.{◌≡◌, ℕ, suc, Bool, true, false, cond, nat_lt, length, List, [], ◌∷◌, ◌++◌, map, set, get_or, Option, Some, None, option_map, option_and_then, unwrap_or, is_some, refl, sym, ap, ◌∙◌, subst, slice_get, int_lt, ◌⊎◌, inl, inr, ◌==◌}
use Rattle.std.specs.List.{list_all}
use Rattle.fp_tables.specs.Specials.{component}
use Rattle.fp_base.proofs.Options.{mapped_some, then_some, same_some, some_of}
use Rattle.fp_base.proofs.Lists.{all_get, get_below}
use Rattle.fp_tables.specs.declared.kind.Kind.{Kind}
use Rattle.fp_base.specs.declared.value.Value.{Value}
use Rattle.fp_base.proofs.Bools.{both, join}
use Rattle.fp_tables.specs.Components.{takes_its_value}
use Rattle.fp_tables.specs.Lookup.{Described}
use Rattle.fp_tables.specs.Types.{have_kinds}
use Rattle.fp_tables.specs.declared.component.Channel.{Channel}
use Rattle.fp_tables.specs.declared.component.Command.{Command}
use Rattle.fp_tables.specs.declared.component.Event.{Event}
use Rattle.fp_tables.specs.declared.component.Full.{Full}
use Rattle.fp_tables.specs.declared.component.Full.TheVariants as full
use Rattle.fp_tables.specs.declared.component.Param.{Param}
use Rattle.fp_tables.specs.declared.component.CommandPart.{CommandPart}
use Rattle.fp_tables.specs.declared.component.CommandPart.TheVariants.{Plain, SetParam, SaveParam}
use Rattle.fp_tables.specs.declared.component.Port.{Port as PortOf}
use Rattle.fp_tables.specs.declared.component.Role.{Role}
use Rattle.fp_tables.specs.declared.component.Role.TheVariants as role
use Rattle.fp_tables.specs.declared.component.Running.{Running}
use Rattle.fp_tables.specs.declared.component.Way.{Way}
use Rattle.fp_tables.specs.declared.component.Way.TheVariants.{Later, Sync, Guarded}
use Rattle.fp_tables.specs.declared.machine.Machine.{Machine}
use Rattle.fp_tables.specs.declared.machine.Named.{Named}
use Rattle.fp_tables.specs.declared.program.Program.{Program}
use Rattle.fp_events.specs.Fits.{kinds, place_kinds, point_fits, origin_fits, arrival_fits, value_fits, saved_kind, signal_at, going_fits, what_fits, ask_fits, event_takes}
use Rattle.fp_events.specs.Instance.{Inside, Pending, Holding}
use Rattle.fp_events.specs.Leaves.{leaves, with_set, after_going, pending_call}
use Rattle.fp_events.specs.Lookup.{machine, answers_of, queue_size}
use Rattle.fp_events.specs.Machine.{Configuration, Walk, starts, moves}
use Rattle.fp_events.specs.Manners.{Manner, by, sets, saves, manner, input_manner, internal_manner, command_manner}
use Rattle.fp_events.specs.Queue.{greater, next_call, without, overflows, takes}
use Rattle.fp_events.specs.Waits.{is_there, manner_there}
use Rattle.fp_tables.specs.Positions.{part_lies}
use Rattle.fp_events.specs.Tells.{tells, arrives, guards, emits, writes, advances, goes_on, configuration_of}
use Rattle.fp_events.specs.declared.event.Arrival.{Arrival}
use Rattle.fp_events.specs.declared.event.Ask.{Ask}
use Rattle.fp_events.specs.declared.event.Ask.TheVariants as ask
use Rattle.fp_events.specs.declared.event.Point.{Point}
use Rattle.fp_events.specs.declared.event.Point.TheVariants.{Port, Command as OfCommand, Post, Signal}
use Rattle.fp_events.specs.declared.event.What.{What}
use Rattle.fp_events.specs.declared.event.What.TheVariants as what
use Rattle.fp_machine_flat.specs.Moving.{is_leaf}
use Rattle.fp_cell.specs.Kinded.{IsKinded}
use Rattle.fp_cell.proofs.KindsOf.{mapped_test_of, kind_at, there_at, kinds_set, Sets, set_value, set_read}
use Rattle.fp_cell.proofs.Parts.{HasGoodParts}
use Rattle.fp_events.proofs.Fitting.{kind_there}

-- ---- the queue

next_passes : (test : Pending → Bool) (ps : List Pending) (p : Pending) → list_all test ps ≡ true → next_call ps ≡ Some p → test p ≡ true
next_passes test [] p h e = absurd (cc)
next_passes test (q ∷ ps) p h e = go (next_call ps) (λ r f. next_passes test ps r (both (test q) (list_all test ps) h).1 f) refl e
  where
    chosen : (b : Bool) (r : Pending) → test r ≡ true → Some (cond b r q) ≡ Some p → test p ≡ true
    chosen true r good f = ap test (sym (same_some f)) ∙ good
    chosen false r good f = ap test (sym (same_some f)) ∙ (both (test q) (list_all test ps) h).0

    go : (o : Option Pending) → ((r : Pending) → next_call ps ≡ Some r → test r ≡ true) → next_call ps ≡ o → Some (greater q o) ≡ Some p → test p ≡ true
    go None rest is f = ap test (sym (same_some f)) ∙ (both (test q) (list_all test ps) h).0
    go (Some r) rest is f = chosen (int_lt q.priority r.priority) r (rest r is) f

without_passes : (test : Pending → Bool) (n : ℕ) (ps : List Pending) → list_all test ps ≡ true → list_all test (without n ps) ≡ true
without_passes test n [] h = refl
without_passes test n (p ∷ ps) h = go (p.number == n) (without_passes test n ps (both (test p) (list_all test ps) h).1)
  where
    go : (b : Bool) → list_all test (without n ps) ≡ true → list_all test (cond b ps (p ∷ without n ps)) ≡ true
    go true rest = (both (test p) (list_all test ps) h).1
    go false rest = join (test p) (list_all test (without n ps)) (both (test p) (list_all test ps) h).0 rest

last_passes : (test : Pending → Bool) (ps : List Pending) (p : Pending) → list_all test ps ≡ true → test p ≡ true → list_all test (ps ++ p ∷ []) ≡ true
last_passes test [] p h e = join (test p) true e refl
last_passes test (q ∷ ps) p h e =
    join (test q) (list_all test (ps ++ p ∷ [])) (both (test q) (list_all test ps) h).0 (last_passes test ps p (both (test q) (list_all test ps) h).1 e)

-- ---- machines

-- the actions take a value of this kind at most, and the walk ends in a leaf
pub record EndsWell (t : Described) (program : Program) (m : Machine) (k : Option Kind) (w : Walk) : Type 0 where
  pub fits : going_fits t program k (Some m) w.actions w.reached.leaf ≡ true
  pub leaf : is_leaf m w.reached.leaf ≡ true

pub record MachinesGoWell (t : Described) (program : Program) (i : ℕ) : Type 0 where
  pub starting : (running : ℕ) (m : Machine) → machine t i running ≡ Some m → EndsWell t program m None (starts m (answers_of program i running))
  pub moving : (running signal : ℕ) (m : Machine) (named : Named) (c : Configuration) → machine t i running ≡ Some m → slice_get m.signals signal ≡ Some named
      → is_leaf m c.leaf ≡ true → EndsWell t program m named.kind (moves m (answers_of program i running) c signal)

module _ (t : Described) (program : Program) (i a : ℕ) (s : Inside) (good : HasGoodParts t.model.types (component t i)) (goes : MachinesGoWell t program i) (is : IsKinded t program i s) where
  -- what is told fits, and leaves the instance kinded
  pub record GoesOn (w : What) : Type 0 where
    pub fits : what_fits t program i w ≡ true
    pub left : IsKinded t program i (leaves t program i s a w)

  -- where calls, parameters and machines stay
  unmoved : (x : Inside) → x.pending ≡ s.pending → x.params ≡ s.params → x.machines ≡ s.machines → IsKinded t program i x
  unmoved x pending params machines =
      record {
        pending = ap (list_all (λ (p : Pending). point_fits t program i p.point p.with)) pending ∙ is.pending;
        params = ap (have_kinds t.model.types (map (λ (p : Param). p.kind) (component t i).params)) params ∙ is.params;
        leaves = λ running m c found started. is.leaves running m c found (ap (λ (xs : List (Option Configuration)). get_or xs running None) (sym machines) ∙ started);
      }

  with_params : (ps : List Value) → have_kinds t.model.types (map (λ (p : Param). p.kind) (component t i).params) ps ≡ true → (x : Inside)
      → x.pending ≡ s.pending → x.params ≡ ps → x.machines ≡ s.machines → IsKinded t program i x
  with_params ps kinded x pending params machines =
      record {
        pending = ap (list_all (λ (p : Pending). point_fits t program i p.point p.with)) pending ∙ is.pending;
        params = ap (have_kinds t.model.types (map (λ (p : Param). p.kind) (component t i).params)) params ∙ kinded;
        leaves = λ running m c found started. is.leaves running m c found (ap (λ (xs : List (Option Configuration)). get_or xs running None) (sym machines) ∙ started);
      }

  entered : (r : Arrival) → arrival_fits t program i r ≡ true → GoesOn (what.Enter r)
  unfolding what_fits leaves
  entered r fit = record { fits = fit; left = unmoved _ refl refl refl }

  guarded : (r : Arrival) (g : Option Holding) (w : What) → arrival_fits t program i r ≡ true → guards r g ≡ Some w → GoesOn w
  unfolding what_fits leaves
  guarded r None w fit h = subst GoesOn (same_some h) (record { fits = fit; left = unmoved _ refl refl refl })
  guarded r (Some held) w fit h = absurd (cc)

  overflowed : (r : Arrival) (policy : Full) (w : What) → arrival_fits t program i r ≡ true → overflows r policy ≡ Some w → GoesOn w
  unfolding what_fits leaves
  overflowed r full.Dropped w fit h = subst GoesOn (same_some h) (record { fits = fit; left = is })
  overflowed r full.Hook w fit h = subst GoesOn (same_some h) (record { fits = fit; left = unmoved _ refl refl refl })
  overflowed r full.Assert w fit h = subst GoesOn (same_some h) (record { fits = fit; left = is })
  overflowed r full.Block w fit h = absurd (cc)

  point_of : (r : Arrival) → arrival_fits t program i r ≡ true → point_fits t program i r.point r.with ≡ true
  point_of r fit = (both (point_fits t program i r.point r.with) (origin_fits t program r.origin) fit).0

  put_last : (r : Arrival) (number : ℕ) → arrival_fits t program i r ≡ true → GoesOn (what.Put number r)
  unfolding what_fits leaves
  put_last r number fit =
      record {
        fits = fit;
        left = record {
          pending = last_passes (λ (p : Pending). point_fits t program i p.point p.with) s.pending (pending_call t program i number r) is.pending (point_of r fit);
          params = is.params;
          leaves = is.leaves;
        };
      }

  put_or_not : (room : Bool) (r : Arrival) (number : ℕ) (policy : Full) (w : What) → arrival_fits t program i r ≡ true
      → cond room (Some (what.Put number r)) (overflows r policy) ≡ Some w → GoesOn w
  put_or_not true r number policy w fit h = subst GoesOn (same_some h) (put_last r number fit)
  put_or_not false r number policy w fit h = overflowed r policy w fit h

  -- ---- set and save

  is_set : (way : Way) (part : CommandPart) (k : ℕ) → command_manner way part ≡ sets k → part ≡ SetParam k
  is_set way Plain k h = absurd (cc)
  is_set way (SetParam j) k h = let e : j ≡ k = cc in ap SetParam e
  is_set way (SaveParam j) k h = absurd (cc)

  not_input : (r : Role) (k : ℕ) → input_manner r ≡ Some (sets k) → ⊥
  not_input (role.Input way) k h = absurd (cc)
  not_input _ k h = absurd (cc)

  not_internal : (r : Role) (k : ℕ) → internal_manner r ≡ Some (sets k) → ⊥
  not_internal (role.Internal way) k h = absurd (cc)
  not_internal _ k h = absurd (cc)

  set_by : (point : Point) (vs : List Value) (k : ℕ) → point_fits t program i point vs ≡ true → manner t i point ≡ Some (sets k) → Sets t.model.types (component t i).params k vs
  set_by (Port n number) vs k fit h =
      let p = then_some (λ (p : PortOf). input_manner p.role) (slice_get (component t i).ports n) (sets k) h in
      absurd (not_input p.0.role k p.2)
  set_by (Post n) vs k fit h =
      let p = then_some (λ (p : PortOf). internal_manner p.role) (slice_get (component t i).ports n) (sets k) h in
      absurd (not_internal p.0.role k p.2)
  set_by (Signal running signal) vs k fit h =
      let r = mapped_some (λ (r : Running). by r.way) (slice_get (component t i).machines running) (sets k) h in
      let e : by r.0.way ≡ sets k = r.2 in
      absurd (cc)
  set_by (OfCommand n) vs k fit h =
      let c = mapped_some (λ (c : Command). command_manner c.way c.part) (slice_get (component t i).commands n) (sets k) h in
      let found : slice_get (component t i).commands n ≡ Some c.0 = c.1 in
      let fitting = mapped_test_of (λ ks. have_kinds t.model.types ks vs) (place_kinds t program i (OfCommand n))
      (both (is_some (manner t i (OfCommand n))) (unwrap_or (option_map (λ ks. have_kinds t.model.types ks vs) (place_kinds t program i (OfCommand n))) false) fit).1 in
      let same : kinds t program c.0.formals ≡ fitting.0 =
      same_some (sym (ap (option_map (λ (x : Command). kinds t program x.formals)) found) ∙ fitting.1) in
      set_value t.model.types (component t i).params c.0 k vs
      (all_get (takes_its_value (component t i).params) (component t i).commands n c.0 good.commands found)
      (is_set c.0.way c.0.part k c.2)
      (ap (λ (ks : List Kind). have_kinds t.model.types ks vs) same ∙ fitting.2)

  set_params : (r : Arrival) (k : ℕ) → manner t i r.point ≡ Some (sets k) → Sets t.model.types (component t i).params k r.with
      → have_kinds t.model.types (map (λ (p : Param). p.kind) (component t i).params) (with_set s.params (manner t i r.point) r.with) ≡ true
  set_params r k how x =
      rw (how, x.is_value) (kinds_set t.model.types (component t i).params s.params k x.value x.param is.params x.is_param x.of_kind)

  set_it : (r : Arrival) (k : ℕ) → arrival_fits t program i r ≡ true → manner t i r.point ≡ Some (sets k) → GoesOn (what.Set r)
  unfolding what_fits leaves
  set_it r k fit how = record { fits = fit; left = with_params _ (set_params r k how (set_by r.point r.with k (point_of r fit) how)) _ refl refl refl }

  save_it : (r : Arrival) (k : ℕ) (v : Value) → arrival_fits t program i r ≡ true → manner t i r.point ≡ Some (saves k) → slice_get s.params k ≡ Some v → GoesOn (what.Save r v)
  unfolding what_fits leaves
  save_it r k v fit how found =
      let p = kind_at t.model.types (component t i).params s.params k v is.params found in
      record {
        fits = join (arrival_fits t program i r) (value_fits t program (saved_kind t program i (manner t i r.point)) v) fit
            (rw (how, p.1) p.2);
        left = unmoved _ refl refl refl;
      }

  arrived : (r : Arrival) (m : Manner) (w : What) → arrival_fits t program i r ≡ true → manner t i r.point ≡ Some m → arrives t i s r m ≡ Some w → GoesOn w
  arrived r (by Sync) w fit how h = subst GoesOn (same_some h) (entered r fit)
  arrived r (by Guarded) w fit how h = guarded r s.guard w fit h
  arrived r (by (Later priority policy)) w fit how h = put_or_not (nat_lt (length s.pending) (queue_size t i)) r (suc s.puts) policy w fit h
  arrived r (sets k) w fit how h = subst GoesOn (same_some h) (set_it r k fit how)
  arrived r (saves k) w fit how h =
      let v = mapped_some (λ v. what.Save r v) (slice_get s.params k) w h in
      subst GoesOn v.2 (save_it r k v.0 fit how v.1)

  is_save : (way : Way) (part : CommandPart) (k : ℕ) → command_manner way part ≡ saves k → part ≡ SaveParam k
  is_save way Plain k h = absurd (cc)
  is_save way (SetParam j) k h = absurd (cc)
  is_save way (SaveParam j) k h = let e : j ≡ k = cc in ap SaveParam e

  no_input : (r : Role) (k : ℕ) → input_manner r ≡ Some (saves k) → ⊥
  no_input (role.Input way) k h = absurd (cc)
  no_input _ k h = absurd (cc)

  no_internal : (r : Role) (k : ℕ) → internal_manner r ≡ Some (saves k) → ⊥
  no_internal (role.Internal way) k h = absurd (cc)
  no_internal _ k h = absurd (cc)

  -- the parameter of a save command is there
  pub saved_there : (point : Point) (k : ℕ) → manner t i point ≡ Some (saves k) → is_some (slice_get s.params k) ≡ true
  saved_there (Port n number) k h =
      let p = then_some (λ (p : PortOf). input_manner p.role) (slice_get (component t i).ports n) (saves k) h in
      absurd (no_input p.0.role k p.2)
  saved_there (Post n) k h =
      let p = then_some (λ (p : PortOf). internal_manner p.role) (slice_get (component t i).ports n) (saves k) h in
      absurd (no_internal p.0.role k p.2)
  saved_there (Signal running signal) k h =
      let r = mapped_some (λ (r : Running). by r.way) (slice_get (component t i).machines running) (saves k) h in
      let e : by r.0.way ≡ saves k = r.2 in
      absurd (cc)
  saved_there (OfCommand n) k h =
      let c = mapped_some (λ (c : Command). command_manner c.way c.part) (slice_get (component t i).commands n) (saves k) h in
      let lies = all_get (λ (x : Command). part_lies (length (component t i).params) x.part) (component t i).commands n c.0 good.of_params c.1 in
      let below : nat_lt k (length (component t i).params) ≡ true = ap (part_lies (length (component t i).params)) (sym (is_save c.0.way c.0.part k c.2)) ∙ lies in
      sym (there_at t.model.types (component t i).params s.params k is.params) ∙ get_below (component t i).params k below

  -- ---- take and dispatch

  take_it : (p : Pending) → point_fits t program i p.point p.with ≡ true → GoesOn (what.Take p.number p.point p.with)
  unfolding what_fits leaves
  take_it p fit =
      record {
        fits = fit;
        left = record {
          pending = without_passes (λ (p : Pending). point_fits t program i p.point p.with) p.number s.pending is.pending;
          params = is.params;
          leaves = is.leaves;
        };
      }

  empty_it : GoesOn what.Empty
  unfolding what_fits leaves
  empty_it = record { fits = refl; left = is }

  taken : (turn : Option ℕ) (otherwise : Option What) (next : Option Pending) (w : What) → ((p : Pending) → next ≡ Some p → point_fits t program i p.point p.with ≡ true)
      → ((x : What) → otherwise ≡ Some x → GoesOn x) → takes turn otherwise next ≡ Some w → GoesOn w
  taken turn otherwise None w fit other h = other w h
  taken None otherwise (Some p) w fit other h = subst GoesOn (same_some h) (take_it p (fit p refl))
  taken (Some holder) otherwise (Some p) w fit other h = absurd (cc)

  next_fits : (p : Pending) → next_call s.pending ≡ Some p → point_fits t program i p.point p.with ≡ true
  next_fits p h = next_passes (λ (p : Pending). point_fits t program i p.point p.with) s.pending p is.pending h

  -- ---- machines

  after_leaf : (running signal : ℕ) (m : Machine) (w : Walk) → machine t i running ≡ Some m → is_leaf m w.reached.leaf ≡ true
      → (j : ℕ) (n : Machine) (c : Configuration) → machine t i j ≡ Some n → get_or (set s.machines running (Some w.reached)) j None ≡ Some c → is_leaf n c.leaf ≡ true
  after_leaf running signal m w found leaf j n c of started = go (set_read s.machines running j w.reached c started)
    where
      go : (get_or s.machines j None ≡ Some c) ⊎ ((j ≡ running) × (c ≡ w.reached)) → is_leaf n c.leaf ≡ true
      go (inl before) = is.leaves j n c of before
      go (inr now) =
          let same : n ≡ m = same_some (sym of ∙ ap (machine t i) now.0 ∙ found) in
          ap (λ (x : Configuration). is_leaf n x.leaf) now.1 ∙ ap (λ (x : Machine). is_leaf x w.reached.leaf) same ∙ leaf

  going : (k : Option Kind) (running : ℕ) (m : Machine) (w : Walk) → machine t i running ≡ Some m → EndsWell t program m k w
      → going_fits t program k (machine t i running) w.actions w.reached.leaf ≡ true
  going k running m w found ends =
      ap (λ (o : Option Machine). going_fits t program k o w.actions w.reached.leaf) found ∙ ends.fits

  after_going_is : (running signal : ℕ) (m : Machine) (o : Option Configuration) → machine t i running ≡ Some m → configuration_of s running ≡ o
      → after_going t program i s running signal ≡ set s.machines running (Some (goes_on t program i running signal o m).reached)
  after_going_is running signal m o found at = rw (found, at) refl

  moved : (x : Inside) (running signal : ℕ) (m : Machine) (w : Walk) → machine t i running ≡ Some m → is_leaf m w.reached.leaf ≡ true
      → x.pending ≡ s.pending → x.params ≡ s.params → x.machines ≡ set s.machines running (Some w.reached) → IsKinded t program i x
  moved x running signal m w found leaf pending params machines =
      record {
        pending = ap (list_all (λ (p : Pending). point_fits t program i p.point p.with)) pending ∙ is.pending;
        params = ap (have_kinds t.model.types (map (λ (p : Param). p.kind) (component t i).params)) params ∙ is.params;
        leaves = λ j n c of started. after_leaf running signal m w found leaf j n c of (ap (λ (xs : List (Option Configuration)). get_or xs j None) (sym machines) ∙ started);
      }

  start_it : (running : ℕ) (m : Machine) → machine t i running ≡ Some m → configuration_of s running ≡ None
      → GoesOn (what.Start running (starts m (answers_of program i running)).actions (starts m (answers_of program i running)).reached.leaf)
  unfolding what_fits leaves
  start_it running m found at =
      let w = starts m (answers_of program i running) in
      let ends = goes.starting running m found in
      record {
        fits = going None running m w found ends;
        left = moved _ running 0 m w found ends.leaf refl refl (after_going_is running 0 m None found at);
      }

  move_it : (running signal : ℕ) (m : Machine) (c : Configuration) (named : Named) → machine t i running ≡ Some m → configuration_of s running ≡ Some c → signal_at t program i running signal ≡ Some named
      → GoesOn (what.Move running signal (moves m (answers_of program i running) c signal).actions (moves m (answers_of program i running) c signal).reached.leaf)
  unfolding what_fits leaves
  move_it running signal m c named found at signalled =
      let w = moves m (answers_of program i running) c signal in
      let x = then_some (λ (m : Machine). slice_get m.signals signal) (machine t i running) named signalled in
      let same : x.0 ≡ m = same_some (sym x.1 ∙ found) in
      let ends = goes.moving running signal m named c found (ap (λ (n : Machine). slice_get n.signals signal) (sym same) ∙ x.2) (is.leaves running m c found at) in
      record {
        fits = join _ _ (ap is_some signalled)
            (ap (λ (o : Option Named). going_fits t program (option_and_then (λ (n : Named). n.kind) o) (machine t i running) w.actions w.reached.leaf) signalled
            ∙ going named.kind running m w found ends);
        left = moved _ running signal m w found ends.leaf refl refl (after_going_is running signal m (Some c) found at);
      }

  advanced : (running signal : ℕ) (m : Machine) (o : Option Configuration) (named : Named) → machine t i running ≡ Some m → configuration_of s running ≡ o → signal_at t program i running signal ≡ Some named
      → GoesOn (advances running signal o (goes_on t program i running signal o m))
  advanced running signal m None named found at signalled = start_it running m found at
  advanced running signal m (Some c) named found at signalled = move_it running signal m c named found at signalled

  -- ---- events and channels

  left_it : (v : Option Value) → GoesOn (what.Leave v)
  unfolding what_fits leaves
  left_it v = record { fits = refl; left = unmoved _ refl refl refl }

  done_it : GoesOn what.Done
  unfolding what_fits leaves
  done_it = record { fits = refl; left = unmoved _ refl refl refl }

  emitted : (event : ℕ) (with : List Value) (e : Event) → slice_get (component t i).events event ≡ Some e → GoesOn (emits t i s event with e)
  unfolding what_fits leaves
  emitted event with e found = record { fits = ap is_some found; left = unmoved _ refl refl refl }

  written : (channel : ℕ) (v : Value) (c : Channel) → value_fits t program (option_map (λ (x : Channel). x.kind) (slice_get (component t i).channels channel)) v ≡ true → GoesOn (writes t i s channel v c)
  unfolding what_fits leaves
  written channel v c fit = record { fits = fit; left = unmoved _ refl refl refl }

  read_it : (param : ℕ) (v : Value) → slice_get s.params param ≡ Some v → GoesOn (what.Read param v)
  unfolding what_fits leaves
  read_it param v found =
      let p = kind_at t.model.types (component t i).params s.params param v is.params found in
      record { fits = ap (λ (o : Option Param). value_fits t program (option_map (λ (x : Param). x.kind) o) v) p.1 ∙ p.2; left = is }

  manner_known : (r : Arrival) (o : Option Manner) → manner t i r.point ≡ o → is_some o ≡ true → manner_there t i s o ≡ true
  manner_known r None how h = absurd (cc)
  manner_known r (Some (by way)) how h = refl
  manner_known r (Some (sets k)) how h = refl
  manner_known r (Some (saves k)) how h = saved_there r.point k how

  -- what may be asked is there
  pub asked_there : (q : Ask) → ask_fits t program i q ≡ true → is_there t i s q ≡ true
  unfolding ask_fits is_there
  asked_there (ask.Arrive r) can =
      manner_known r (manner t i r.point) refl
      (both (is_some (manner t i r.point)) (unwrap_or (option_map (λ ks. have_kinds t.model.types ks r.with) (place_kinds t program i r.point)) false) (point_of r can)).0
  asked_there (ask.Leave v) can = refl
  asked_there ask.Done can = refl
  asked_there ask.Take can = refl
  asked_there ask.Dispatch can = refl
  asked_there (ask.Emit event with) can = ap is_some (mapped_test_of (event_takes t program with) (slice_get (component t i).events event) can).1
  asked_there (ask.Write channel v) can = kind_there t program (λ (x : Channel). x.kind) (slice_get (component t i).channels channel) v can
  asked_there (ask.Read param) can = sym (there_at t.model.types (component t i).params s.params param is.params) ∙ can
  asked_there (ask.Advance running signal v) can =
      let named = some_of (signal_at t program i running signal) can in
      ap is_some (then_some (λ (m : Machine). slice_get m.signals signal) (machine t i running) named.0 named.1).1

  pub goes_on_well : (q : Ask) (w : What) → ask_fits t program i q ≡ true → tells t program i s q ≡ Some w → GoesOn w
  unfolding tells ask_fits
  goes_on_well (ask.Arrive r) w can h =
      let m = then_some (arrives t i s r) (manner t i r.point) w h in
      arrived r m.0 w can m.1 m.2
  goes_on_well (ask.Leave v) w can h = subst GoesOn (same_some h) (left_it v)
  goes_on_well ask.Done w can h = subst GoesOn (same_some h) done_it
  goes_on_well ask.Take w can h = taken s.turn None (next_call s.pending) w next_fits (λ x e. absurd (cc)) h
  goes_on_well ask.Dispatch w can h = taken s.turn (Some what.Empty) (next_call s.pending) w next_fits (λ x e. subst GoesOn (same_some e) empty_it) h
  goes_on_well (ask.Emit event with) w can h =
      let e = mapped_some (emits t i s event with) (slice_get (component t i).events event) w h in
      subst GoesOn e.2 (emitted event with e.0 e.1)
  goes_on_well (ask.Write channel v) w can h =
      let c = mapped_some (writes t i s channel v) (slice_get (component t i).channels channel) w h in
      subst GoesOn c.2 (written channel v c.0 can)
  goes_on_well (ask.Read param) w can h =
      let v = mapped_some (λ v. what.Read param v) (slice_get s.params param) w h in
      subst GoesOn v.2 (read_it param v.0 v.1)
  goes_on_well (ask.Advance running signal value) w can h =
      let m = mapped_some (λ m. advances running signal (configuration_of s running) (goes_on t program i running signal (configuration_of s running) m)) (machine t i running) w h in
      let named = some_of (signal_at t program i running signal) can in
      subst GoesOn m.2 (advanced running signal m.0 (configuration_of s running) named.0 m.1 refl named.1)
