-- The queue of an instance is what its history leaves untaken.
use Rattle.std.proofs.Common.{◌≡◌, ℕ, suc, ◌≤◌, Bool, true, false, cond, nat_lt, length, Option, Some, None, List, [], ◌∷◌, ◌++◌, refl, sym, ap, ◌∙◌, subst, arith, slice_get, ℤ, ◌==◌, zero-le}
use Rattle.std.proofs.lemmas.Bool.Decides.{nat_tests}
use Rattle.fp_tables.specs.Specials.{component}
use Rattle.fp_base.proofs.Options.{mapped_some, then_some, same_some}
use Rattle.fp_events.specs.SystemRun.{InstanceStep, Run, World, at, opening}
use Rattle.fp_events.proofs.Local.{instance_law}
use Rattle.fp_tables.specs.Lookup.{Described}
use Rattle.fp_tables.specs.declared.component.Full.{Full}
use Rattle.fp_tables.specs.declared.component.Full.TheVariants as full
use Rattle.fp_tables.specs.declared.component.Way.TheVariants.{Later, Sync, Guarded}
use Rattle.fp_tables.specs.declared.program.Program.{Program}
use Rattle.fp_events.specs.Lookup.{queue_size, machine}
use Rattle.fp_events.specs.declared.event.Arrival.{Arrival}
use Rattle.fp_events.specs.declared.event.Ask.{Ask}
use Rattle.fp_events.specs.declared.event.Ask.TheVariants as ask
use Rattle.fp_events.specs.declared.event.What.{What}
use Rattle.fp_events.specs.declared.event.What.TheVariants as what
use Rattle.fp_events.specs.declared.event.Entry.{Entry}
use Rattle.fp_events.specs.Machine.{Configuration, Walk}
use Rattle.fp_events.specs.Instance.{Inside, Pending, Holding, InstanceState}
use Rattle.fp_events.specs.Actor.{ActorState}
use Rattle.fp_events.specs.Manners.{Manner, by, sets, saves, manner}
use Rattle.fp_events.specs.Tells.{arrives, guards, emits, writes, advances, goes_on, tells, configuration_of}
use Rattle.fp_events.specs.Queue.{overflows, takes, next_call, without}
use Rattle.fp_events.specs.Leaves.{leaves}
use Rattle.fp_events.specs.QueueOrder.{untaken_after, untaken_from, IsInOrder, policy_of}
use Rattle.fp_events.specs.Step.{core}
use Rattle.fp_events.proofs.NextCalls.{next_is}
use Rattle.fp_events.proofs.StepLaws.{given, core_laws}

-- more calls than none have a next one
next_some : (p : Pending) (ps : List Pending) → next_call (p ∷ ps) ≡ None → ⊥
next_some p ps h = absurd (cc)

without-length : (n : ℕ) (ps : List Pending) → length (without n ps) ≤ length ps
without-length n [] = omega arith
without-length n (p ∷ ps) = go (p.number == n) (without-length n ps)
  where
    go : (b : Bool) → length (without n ps) ≤ length ps → length (cond b ps (p ∷ without n ps)) ≤ length (p ∷ ps)
    go true h = omega arith
    go false h = omega (arith, h)

length-push : (ps : List Pending) (p : Pending) → length (ps ++ p ∷ []) ≡ suc (length ps)
length-push [] p = refl
length-push (x ∷ ps) p = ap suc (length-push ps p)

module _ (t : Described) (program : Program) (i : ℕ) where
  -- a told entry is in order where the one that it is is
  told_in_order : (ps : List Pending) (x w : What) → IsInOrder t i ps x → Some x ≡ Some w → IsInOrder t i ps w
  told_in_order ps x w is h = subst (IsInOrder t i ps) (same_some h) is

  overflow_in_order : (ps : List Pending) (r : Arrival) (priority : ℤ) (policy : Full) (w : What) → manner t i r.point ≡ Some (by (Later priority policy)) → length ps ≡ queue_size t i
      → overflows r policy ≡ Some w → IsInOrder t i ps w
  overflow_in_order ps r priority full.Dropped w m full h = told_in_order ps _ w (full, ap policy_of m) h
  overflow_in_order ps r priority full.Hook w m full h = told_in_order ps _ w (full, ap policy_of m) h
  overflow_in_order ps r priority full.Assert w m full h = told_in_order ps _ w (full, ap policy_of m) h
  overflow_in_order ps r priority full.Block w m full h = absurd (cc)

  put_in_order : (ps : List Pending) (b : Bool) (n : ℕ) (r : Arrival) (priority : ℤ) (policy : Full) (w : What) → manner t i r.point ≡ Some (by (Later priority policy))
      → length ps ≤ queue_size t i → nat_lt (length ps) (queue_size t i) ≡ b → cond b (Some (what.Put n r)) (overflows r policy) ≡ Some w → IsInOrder t i ps w
  put_in_order ps true n r priority policy w m most is h = told_in_order ps (what.Put n r) w (grind (arith, nat_tests)) h
  put_in_order ps false n r priority policy w m most is h = overflow_in_order ps r priority policy w m (grind (arith, nat_tests)) h

  guard_in_order : (ps : List Pending) (r : Arrival) (g : Option Holding) (w : What) → guards r g ≡ Some w → IsInOrder t i ps w
  guard_in_order ps r None w h = told_in_order ps (what.Guard r) w tt h
  guard_in_order ps r (Some held) w h = absurd (cc)

  arrives_in_order : (s : Inside) (r : Arrival) (m : Manner) (w : What) → manner t i r.point ≡ Some m → length s.pending ≤ queue_size t i → arrives t i s r m ≡ Some w → IsInOrder t i s.pending w
  arrives_in_order s r (by Sync) w e most h = told_in_order s.pending (what.Enter r) w tt h
  arrives_in_order s r (by Guarded) w e most h = guard_in_order s.pending r s.guard w h
  arrives_in_order s r (by (Later priority policy)) w e most h = put_in_order s.pending (nat_lt (length s.pending) (queue_size t i)) (suc s.puts) r priority policy w e most refl h
  arrives_in_order s r (sets k) w e most h = told_in_order s.pending (what.Set r) w tt h
  arrives_in_order s r (saves k) w e most h =
      let m = mapped_some (λ v. what.Save r v) (slice_get s.params k) w h in
      subst (IsInOrder t i s.pending) m.2 tt

  takes_in_order : (ps : List Pending) (turn : Option ℕ) (otherwise : Option What) (next : Option Pending) (w : What) → next_call ps ≡ next
      → (next_call ps ≡ None → otherwise ≡ Some w → IsInOrder t i ps w) → takes turn otherwise next ≡ Some w → IsInOrder t i ps w
  takes_in_order ps turn otherwise None w e good h = good e h
  takes_in_order ps None otherwise (Some p) w e good h = told_in_order ps (what.Take p.number p.point p.with) w (p, next_is ps p e, refl, refl, refl) h
  takes_in_order ps (Some holder) otherwise (Some p) w e good h = absurd (cc)

  empty_in_order : (ps : List Pending) (w : What) → next_call ps ≡ None → Some what.Empty ≡ Some w → IsInOrder t i ps w
  empty_in_order [] w none h = told_in_order [] what.Empty w refl h
  empty_in_order (p ∷ ps) w none h = absurd (next_some p ps none)

  advances_in_order : (ps : List Pending) (running signal : ℕ) (c : Option Configuration) (g : Walk) → IsInOrder t i ps (advances running signal c g)
  advances_in_order ps running signal None g = tt
  advances_in_order ps running signal (Some c) g = tt

  tells_in_order : (s : Inside) (q : Ask) (w : What) → length s.pending ≤ queue_size t i → tells t program i s q ≡ Some w → IsInOrder t i s.pending w
  unfolding tells
  tells_in_order s (ask.Arrive r) w most h =
      let m = then_some (arrives t i s r) (manner t i r.point) w h in
      arrives_in_order s r m.0 w m.1 most m.2
  tells_in_order s (ask.Leave v) w most h = told_in_order s.pending (what.Leave v) w tt h
  tells_in_order s ask.Done w most h = told_in_order s.pending what.Done w tt h
  tells_in_order s ask.Take w most h = takes_in_order s.pending s.turn None (next_call s.pending) w refl (λ e f. absurd (cc)) h
  tells_in_order s ask.Dispatch w most h = takes_in_order s.pending s.turn (Some what.Empty) (next_call s.pending) w refl (λ e f. empty_in_order s.pending w e f) h
  tells_in_order s (ask.Emit event with) w most h =
      let m = mapped_some (emits t i s event with) (slice_get (component t i).events event) w h in
      subst (IsInOrder t i s.pending) m.2 tt
  tells_in_order s (ask.Write channel value) w most h =
      let m = mapped_some (writes t i s channel value) (slice_get (component t i).channels channel) w h in
      subst (IsInOrder t i s.pending) m.2 tt
  tells_in_order s (ask.Read param) w most h =
      let m = mapped_some (λ v. what.Read param v) (slice_get s.params param) w h in
      subst (IsInOrder t i s.pending) m.2 tt
  tells_in_order s (ask.Advance running signal value) w most h =
      let m = mapped_some (λ n. advances running signal (configuration_of s running) (goes_on t program i running signal (configuration_of s running) n)) (machine t i running) w h in
      subst (IsInOrder t i s.pending) m.2 (advances_in_order s.pending running signal (configuration_of s running) (goes_on t program i running signal (configuration_of s running) m.0))

  pub leaves_untaken : (s : Inside) (a : ℕ) (w : What) → (leaves t program i s a w).pending ≡ untaken_after t i s.pending w
  unfolding leaves
  leaves_untaken s a (what.Put number r) = refl
  leaves_untaken s a (what.Take number point with) = refl
  leaves_untaken s a (what.Enter r) = refl
  leaves_untaken s a (what.Guard r) = refl
  leaves_untaken s a (what.Set r) = refl
  leaves_untaken s a (what.Save r v) = refl
  leaves_untaken s a (what.Dropped r) = refl
  leaves_untaken s a (what.Hooked r) = refl
  leaves_untaken s a (what.Asserted r) = refl
  leaves_untaken s a (what.Leave v) = refl
  leaves_untaken s a what.Done = refl
  leaves_untaken s a what.Empty = refl
  leaves_untaken s a (what.Emit event fate text) = refl
  leaves_untaken s a (what.Write channel fate v) = refl
  leaves_untaken s a (what.Read param v) = refl
  leaves_untaken s a (what.Start running actions leaf) = refl
  leaves_untaken s a (what.Move running signal actions leaf) = refl

  within : (ps : List Pending) (w : What) → length ps ≤ queue_size t i → IsInOrder t i ps w → length (untaken_after t i ps w) ≤ queue_size t i
  within ps (what.Put number r) most is = rw (length-push ps _) is
  within ps (what.Take number point with) most is = omega (arith, without-length number ps)
  within ps _ most is = most

module _ (t : Described) (i : ℕ) where
  pub untaken_from-more : (ps : List Pending) (es : List Entry) (e : Entry) → untaken_from t i ps (es ++ e ∷ []) ≡ untaken_after t i (untaken_from t i ps es) e.what
  untaken_from-more ps [] e = refl
  untaken_from-more ps (x ∷ es) e = untaken_from-more (untaken_after t i ps x.what) es e

module _ (t : Described) (program : Program) where
  -- what an instance keeps of its history
  abbrev Keeps : ℕ → List Entry → InstanceState → Type 0
  Keeps i es s = (s.inside.pending ≡ untaken_from t i [] es) × (length s.inside.pending ≤ queue_size t i)

  pub queue_in_order : (es : List Entry) (v : World InstanceState ActorState) → Run (core t program) (opening (core t program)) es v
      → (before : List Entry) (e : Entry) (rest : List Entry) → es ≡ before ++ e ∷ rest
      → IsInOrder t e.instance (untaken_from t e.instance [] (at (core t program) e.instance before)) e.what
  queue_in_order =
      instance_law (core t program) (core_laws t program) Keeps (λ es e. IsInOrder t e.instance (untaken_from t e.instance [] es) e.what)
      (λ i. (refl, zero-le)) more good
    where
      order : (i : ℕ) (s u : InstanceState) (e : Entry) → InstanceStep (core t program) i s e u → length s.inside.pending ≤ queue_size t i → IsInOrder t i s.inside.pending e.what
      order i s u e step most =
          let g = given t program i e.actor step.seen s u step.ask e step.part in
          tells_in_order t program i s.inside step.ask e.what most g.told

      left : (i : ℕ) (s u : InstanceState) (e : Entry) → InstanceStep (core t program) i s e u → u.inside.pending ≡ untaken_after t i s.inside.pending e.what
      left i s u e step =
          let g = given t program i e.actor step.seen s u step.ask e step.part in
          ap (λ (x : Inside). x.pending) g.inside ∙ leaves_untaken t program i s.inside e.actor e.what

      more : (i : ℕ) (es : List Entry) (s u : InstanceState) (e : Entry) → Keeps i es s → InstanceStep (core t program) i s e u → Keeps i (es ++ e ∷ []) u
      more i es s u e keeps step = (
        left i s u e step ∙ ap (λ ps. untaken_after t i ps e.what) keeps.0 ∙ sym (untaken_from-more t i [] es e),
        rw (left i s u e step) (within t program i s.inside.pending e.what keeps.1 (order i s u e step keeps.1)),
      )

      good : (i : ℕ) (es : List Entry) (s u : InstanceState) (e : Entry) → Keeps i es s → InstanceStep (core t program) i s e u → IsInOrder t e.instance (untaken_from t e.instance [] es) e.what
      good i es s u e keeps step =
          let g = given t program i e.actor step.seen s u step.ask e step.part in
          subst (λ (k : ℕ). IsInOrder t k (untaken_from t k [] es) e.what) (sym g.instance) (subst (λ ps. IsInOrder t i ps e.what) keeps.0 (order i s u e step keeps.1))
