-- Stamps and the numbers of calls are of 64 bits in a run.
use Rattle.std.proofs.Common.{◌≡◌, ◌≤◌, ℕ, suc, Bool, true, false, cond, ◌==◌, int_lt, nat_lt, length, Option, Some, None, List, [], ◌∷◌, ◌++◌, refl, sym, ap, subst, slice_get, arith}
use Rattle.std.specs.List.{AllByRecursion, list_all}
use Rattle.std.proofs.lemmas.Bool.Decides.{nat_tests}
use Rattle.fp_base.proofs.Bools.{join}
use Rattle.fp_base.proofs.Lists.{each_push, each_weaker}
use Rattle.fp_base.proofs.Options.{mapped_some, same_some, then_some}
use Rattle.fp_events.specs.SystemRun.{InstanceStep}
use Rattle.fp_events.proofs.Local.{instance_law}
use Rattle.fp_tables.specs.Components.{is_from_1_to}
use Rattle.fp_tables.specs.Lookup.{Described}
use Rattle.fp_tables.specs.Specials.{component}
use Rattle.fp_tables.specs.SoundPrograms.{IsSoundProgram}
use Rattle.fp_tables.specs.declared.component.Full.{Full}
use Rattle.fp_tables.specs.declared.component.Full.TheVariants as full
use Rattle.fp_tables.specs.declared.component.Way.TheVariants.{Later, Sync, Guarded}
use Rattle.fp_tables.specs.declared.program.Program.{Program}
use Rattle.fp_events.specs.Instance.{Inside, InstanceState, Holding, Pending}
use Rattle.fp_events.specs.Leaves.{leaves, pending_call}
use Rattle.fp_events.specs.Lookup.{machine, queue_size}
use Rattle.fp_events.specs.Machine.{Configuration, Walk}
use Rattle.fp_events.specs.Manners.{Manner, by, sets, saves, manner}
use Rattle.fp_events.specs.Queue.{greater, next_call, overflows, takes, without}
use Rattle.fp_events.specs.Run.{World, RunTo}
use Rattle.fp_events.specs.Step.{core}
use Rattle.fp_events.specs.Tells.{advances, arrives, configuration_of, emits, goes_on, guards, tells, writes}
use Rattle.fp_events.specs.declared.event.Arrival.{Arrival}
use Rattle.fp_events.specs.declared.event.Ask.{Ask}
use Rattle.fp_events.specs.declared.event.Ask.TheVariants as ask
use Rattle.fp_events.specs.declared.event.Entry.{Entry}
use Rattle.fp_events.specs.declared.event.What.{What}
use Rattle.fp_events.specs.declared.event.What.TheVariants as what
use Rattle.fp_events.proofs.StepLaws.{given, core_laws}
use Rattle.fp_run_laws.proofs.Lists.{all_of_each}
use Rattle.fp_logtext.specs.Fitting.{is_of_64_bits, number_in, numbers_fit}

abbrev AreNumbered : ℕ → List Pending → Type 0
AreNumbered n ps = AllByRecursion (λ (p : Pending). p.number ≤ n) ps

next_number : (n : ℕ) (ps : List Pending) (p : Pending) → AreNumbered n ps → next_call ps ≡ Some p → p.number ≤ n
next_number n [] p h is = absurd (cc)
next_number n (x ∷ ps) p h is = go (next_call ps) (λ q. next_number n ps q h.1) is
  where
    go : (o : Option Pending) → ((q : Pending) → o ≡ Some q → q.number ≤ n) → Some (greater x o) ≡ Some p → p.number ≤ n
    go None again e = subst (λ (y : Pending). y.number ≤ n) (same_some e) h.0
    go (Some q) again e = subst (λ (y : Pending). y.number ≤ n) (same_some e) (by_test (again q refl))
      where
        by_test : q.number ≤ n → (greater x (Some q)).number ≤ n
        by_test low = elim (int_lt x.priority q.priority) as (λ (b : Bool). (cond b q x).number ≤ n) [ true ↦ low | false ↦ h.0 ]

without_number : (n k : ℕ) (ps : List Pending) → AreNumbered n ps → AreNumbered n (without k ps)
without_number n k [] h = tt
without_number n k (p ∷ ps) h = go (p.number == k) (without_number n k ps h.1)
  where
    go : (b : Bool) → AreNumbered n (without k ps) → AreNumbered n (cond b ps (p ∷ without k ps))
    go true rest = h.1
    go false rest = (h.0, rest)

-- an entry without a number
none_told : (n : ℕ) (x w : What) → number_in x ≡ 0 → Some x ≡ Some w → number_in w ≤ n
none_told n x w none is = let zero : number_in w ≡ 0 = subst (λ (y : What). number_in y ≡ 0) (same_some is) none in omega arith

overflow_number : (n : ℕ) (r : Arrival) (policy : Full) (w : What) → overflows r policy ≡ Some w → number_in w ≤ n
overflow_number n r full.Dropped w h = none_told n _ w refl h
overflow_number n r full.Hook w h = none_told n _ w refl h
overflow_number n r full.Assert w h = none_told n _ w refl h
overflow_number n r full.Block w h = absurd (cc)

put_number : (n puts : ℕ) (b : Bool) (r : Arrival) (policy : Full) (w : What) → suc puts ≤ n → cond b (Some (what.Put (suc puts) r)) (overflows r policy) ≡ Some w → number_in w ≤ n
put_number n puts true r policy w low h = subst (λ (y : What). number_in y ≤ n) (same_some h) low
put_number n puts false r policy w low h = overflow_number n r policy w h

guard_number : (n : ℕ) (r : Arrival) (g : Option Holding) (w : What) → guards r g ≡ Some w → number_in w ≤ n
guard_number n r None w h = none_told n _ w refl h
guard_number n r (Some held) w h = absurd (cc)

take_number : (n : ℕ) (turn : Option ℕ) (otherwise : Option What) (next : Option Pending) (w : What) → ((x : What) → otherwise ≡ Some x → number_in x ≤ n)
    → ((p : Pending) → next ≡ Some p → p.number ≤ n) → takes turn otherwise next ≡ Some w → number_in w ≤ n
take_number n turn otherwise None w else low h = else w h
take_number n None otherwise (Some p) w else low h = subst (λ (y : What). number_in y ≤ n) (same_some h) (low p refl)
take_number n (Some holder) otherwise (Some p) w else low h = absurd (cc)

advance_number : (running signal : ℕ) (c : Option Configuration) (g : Walk) → number_in (advances running signal c g) ≡ 0
advance_number running signal None g = refl
advance_number running signal (Some c) g = refl

module _ (t : Described) (program : Program) (i : ℕ) where
  arrival_number : (n : ℕ) (s : Inside) (r : Arrival) (m : Manner) (w : What) → suc s.puts ≤ n → arrives t i s r m ≡ Some w → number_in w ≤ n
  arrival_number n s r (by Sync) w low h = none_told n _ w refl h
  arrival_number n s r (by Guarded) w low h = guard_number n r s.guard w h
  arrival_number n s r (by (Later priority policy)) w low h = put_number n s.puts (nat_lt (length s.pending) (queue_size t i)) r policy w low h
  arrival_number n s r (sets k) w low h = none_told n _ w refl h
  arrival_number n s r (saves k) w low h =
      let m = mapped_some (λ v. what.Save r v) (slice_get s.params k) w h in
      none_told n (what.Save r m.0) w refl (ap Some m.2)

  told_number : (n : ℕ) (s : Inside) (q : Ask) (w : What) → suc s.puts ≤ n → AreNumbered n s.pending → tells t program i s q ≡ Some w → number_in w ≤ n
  unfolding tells
  told_number n s (ask.Arrive r) w low pending h =
      let m = then_some (arrives t i s r) (manner t i r.point) w h in
      arrival_number n s r m.0 w low m.2
  told_number n s (ask.Leave v) w low pending h = none_told n _ w refl h
  told_number n s ask.Done w low pending h = none_told n _ w refl h
  told_number n s ask.Take w low pending h = take_number n s.turn None (next_call s.pending) w (λ x e. absurd (cc)) (λ p e. next_number n s.pending p pending e) h
  told_number n s ask.Dispatch w low pending h =
      take_number n s.turn (Some what.Empty) (next_call s.pending) w (λ x e. none_told n what.Empty x refl e) (λ p e. next_number n s.pending p pending e) h
  told_number n s (ask.Emit event with) w low pending h =
      let m = mapped_some (emits t i s event with) (slice_get (component t i).events event) w h in
      none_told n (emits t i s event with m.0) w refl (ap Some m.2)
  told_number n s (ask.Write channel value) w low pending h =
      let m = mapped_some (writes t i s channel value) (slice_get (component t i).channels channel) w h in
      none_told n (writes t i s channel value m.0) w refl (ap Some m.2)
  told_number n s (ask.Read param) w low pending h =
      let m = mapped_some (λ v. what.Read param v) (slice_get s.params param) w h in
      none_told n (what.Read param m.0) w refl (ap Some m.2)
  told_number n s (ask.Advance running signal value) w low pending h =
      let m = mapped_some (λ m. advances running signal (configuration_of s running) (goes_on t program i running signal (configuration_of s running) m)) (machine t i running) w h in
      none_told n (advances running signal (configuration_of s running) (goes_on t program i running signal (configuration_of s running) m.0)) w
      (advance_number running signal (configuration_of s running) (goes_on t program i running signal (configuration_of s running) m.0)) (ap Some m.2)

  -- what is pending and how many were put, after an entry
  record Numbered (n : ℕ) (s : Inside) : Type 0 where
    pub puts : s.puts ≤ n
    pub pending : AreNumbered n s.pending

  later : (n m : ℕ) (s : Inside) → n ≤ m → Numbered n s → Numbered m s
  later n m s up h = record { puts = omega (arith, up, h.puts); pending = each_weaker (λ (p : Pending). p.number ≤ n) (λ (p : Pending). p.number ≤ m) (λ p low. omega (arith, up, low)) s.pending h.pending }

  left_numbered : (n : ℕ) (s : Inside) (a : ℕ) (w : What) → Numbered n s → number_in w ≤ n → Numbered n (leaves t program i s a w)
  unfolding leaves
  left_numbered n s a (what.Put number r) h low = record { puts = low; pending = each_push (λ (p : Pending). p.number ≤ n) s.pending (pending_call t program i number r) h.pending low }
  left_numbered n s a (what.Take number point vs) h low = record { puts = h.puts; pending = without_number n number s.pending h.pending }
  left_numbered n s a _ h low = record { puts = h.puts; pending = h.pending }

module _ (t : Described) (program : Program) where
  record Bounded (e : Entry) : Type 0 where
    pub number : number_in e.what ≤ e.stamp
    pub stamp : e.stamp ≤ program.steps

  bounded : (es : List Entry) (v : World) → RunTo t program es v → (before : List Entry) (e : Entry) (rest : List Entry) → es ≡ before ++ e ∷ rest → Bounded e
  bounded =
      instance_law (core t program) (core_laws t program) (λ i es s. Numbered t program i s.last s.inside) (λ es e. Bounded e) (λ i. record { puts = omega arith; pending = tt })
      (λ i es s u e h step. more i s u e h step) (λ i es s u e h step. record { number = number_at i s u e h step; stamp = step.within })
    where
      number_at : (i : ℕ) (s u : InstanceState) (e : Entry) → Numbered t program i s.last s.inside → InstanceStep (core t program) i s e u → number_in e.what ≤ e.stamp
      number_at i s u e h step =
          let g = given t program i e.actor step.seen s u step.ask e step.part in
          let up : suc s.last ≤ e.stamp = omega (arith, g.stamp) in
          let puts : suc s.inside.puts ≤ e.stamp = omega (arith, up, h.puts) in
          told_number t program i e.stamp s.inside step.ask e.what puts (later t program i s.last e.stamp s.inside (omega (arith, up)) h).pending g.told

      more : (i : ℕ) (s u : InstanceState) (e : Entry) → Numbered t program i s.last s.inside → InstanceStep (core t program) i s e u → Numbered t program i u.last u.inside
      more i s u e h step =
          let g = given t program i e.actor step.seen s u step.ask e step.part in
          let up : s.last ≤ e.stamp = omega (arith, g.stamp) in
          subst (λ (n : ℕ). Numbered t program i n u.inside) (sym g.last)
          (subst (λ (x : Inside). Numbered t program i e.stamp x) (sym g.inside)
          (left_numbered t program i e.stamp s.inside e.actor e.what (later t program i s.last e.stamp s.inside up h) (number_at i s u e h step)))

  small : (n : ℕ) → n ≤ program.steps → is_from_1_to 20000 program.steps ≡ true → is_of_64_bits n ≡ true
  small n low range = grind (arith, nat_tests)

  pub run_numbers : IsSoundProgram t program → (es : List Entry) (v : World) → RunTo t program es v → list_all numbers_fit es ≡ true
  run_numbers good es v run =
      all_of_each numbers_fit es
      (λ before rest e is.
      let b = bounded es v run before e rest is in
      join (is_of_64_bits e.stamp) (is_of_64_bits (number_in e.what)) (small e.stamp b.stamp good.steps_are_in_range) (small (number_in e.what) (omega (arith, b.number, b.stamp)) good.steps_are_in_range))
