-- The end of a run, read off its cells and actors.
use Rattle.std.proofs.Common.{◌≡◌, ◌<◌, ◌≤◌, ◌↔◌, ◌+◌, ◌⊎◌, inl, inr, ℕ, zero, suc, Bool, true, false, cond, not, ◌&&◌, ◌||◌, List, [], ◌∷◌, map, filter, length, Option, Some, None, is_some, refl, sym, ap, ap₂, ◌∙◌, subst, arith}
use Rattle.std.specs.List.{list_all, list_any, range_with_len, slice_get}
use Rattle.fp_tables.specs.Lookup.{Described, placed}
use Rattle.fp_tables.specs.Specials.{component}
use Rattle.fp_tables.specs.declared.program.Program.{Program}
use Rattle.fp_events.specs.declared.event.Entry.{Entry}
use Rattle.fp_events.specs.declared.event.Finish.{Finish}
use Rattle.fp_events.specs.declared.event.Finish.TheVariants.{Complete, Stuck, Spent, Asserted}
use Rattle.fp_events.specs.Ends.{EndsAs, IsEnded, can_step, finish, is_asserted, is_complete, is_through, next_stamp, none_pending}
use Rattle.fp_events.specs.Fits.{actor_count}
use Rattle.fp_events.specs.Lookup.{actives, is_active}
use Rattle.fp_events.specs.Run.{World, actors, at, by, IsRun, RunTo}
use Rattle.fp_events.proofs.Ended.{ending}
use Rattle.fp_actor.specs.Acting.{Acting}
use Rattle.fp_cell.specs.Cells.{Standing}
use Rattle.fp_running.specs.Closing.{are_idle}
use Rattle.fp_running.specs.Standing.{AreActors, AreCells, IsSet}

-- lists side by side, item by item
module _ {A : Type 0} where
  pub all_counted : (f : A → Bool) (g : ℕ → Bool) (xs : List A) (b : ℕ) → ((k j : ℕ) (x : A) → j ≡ b + k → slice_get xs k ≡ Some x → f x ≡ g j)
      → list_all f xs ≡ list_all g (range_with_len b (length xs))
  all_counted f g [] b each = refl
  all_counted f g (x ∷ xs) b each =
      ap₂ (λ (u v : Bool). u && v) (each zero b x (omega arith) refl) (all_counted f g xs (b + 1) (λ k j y is found. each (suc k) j y (omega (arith, is)) found))

module _ {A B : Type 0} where
  pub map_counted : (f : A → B) (g : ℕ → B) (xs : List A) (b : ℕ) → ((k j : ℕ) (x : A) → j ≡ b + k → slice_get xs k ≡ Some x → f x ≡ g j)
      → map f xs ≡ map g (range_with_len b (length xs))
  map_counted f g [] b each = refl
  map_counted f g (x ∷ xs) b each =
      ap₂ (λ (u : B) (v : List B). u ∷ v) (each zero b x (omega arith) refl) (map_counted f g xs (b + 1) (λ k j y is found. each (suc k) j y (omega (arith, is)) found))

  pub map_beside : (f : A → B) (g : ℕ → B) (ns : List ℕ) (xs : List A) → length xs ≡ length ns
      → ((k i : ℕ) (x : A) → slice_get ns k ≡ Some i → slice_get xs k ≡ Some x → f x ≡ g i) → map f xs ≡ map g ns
  map_beside f g [] [] count each = refl
  map_beside f g [] (x ∷ xs) count each = absurd (omega (arith, count))
  map_beside f g (n ∷ ns) [] count each = absurd (omega (arith, count))
  map_beside f g (n ∷ ns) (x ∷ xs) count each =
      ap₂ (λ (u : B) (v : List B). u ∷ v) (each zero n x refl refl) (map_beside f g ns xs (omega (arith, count)) (λ k i y there found. each (suc k) i y there found))

module _ (t : Described) (w : World) where
  abbrev pub idle_at : ℕ → Bool
  idle_at i = none_pending (w.instances i).inside.pending

  pub idle_beside : (ns : List ℕ) (cs : List Standing) → length cs ≡ length ns
      → ((k i : ℕ) (c : Standing) → slice_get ns k ≡ Some i → slice_get cs k ≡ Some c → c.state ≡ w.instances i)
      → are_idle t ns cs ≡ list_all idle_at (filter (λ i. is_active (component t i).queueing) ns)
  idle_beside [] cs count each = refl
  idle_beside (n ∷ ns) [] count each = absurd (omega (arith, count))
  idle_beside (n ∷ ns) (c ∷ cs) count each =
      go (is_active (component t n).queueing) (none_pending c.state.inside.pending) (ap (λ s. none_pending s.inside.pending) (each zero n c refl refl))
      (idle_beside ns cs (omega (arith, count)) (λ k i d there found. each (suc k) i d there found))
    where
      go : (active idle : Bool) → idle ≡ idle_at n → are_idle t ns cs ≡ list_all idle_at (filter (λ i. is_active (component t i).queueing) ns)
          → ((not active || idle) && are_idle t ns cs) ≡ list_all idle_at (cond active (n ∷ filter (λ i. is_active (component t i).queueing) ns) (filter (λ i. is_active (component t i).queueing) ns))
      go true idle is rest = ap₂ (λ (u v : Bool). u && v) is rest
      go false idle is rest = rest

module _ (t : Described) (p : Program) (es : List Entry) (cells : List Standing) (acting : List Acting) (set : IsSet t p es cells acting) where
  pub complete : (w : World) → set.world ≡ w → (through idle : Bool) → through ≡ list_all (λ (a : Acting). is_through a.state.thread.frames) acting → idle ≡ are_idle t (placed t) cells
      → (through && idle) ≡ is_complete t p w
  complete w same through idle all_through all_idle = subst (λ (v : World). (through && idle) ≡ is_complete t p v) same (ap₂ (λ (u v : Bool). u && v) (all_through ∙ actors_are) (all_idle ∙ cells_are))
    where
      actors_are : list_all (λ (a : Acting). is_through a.state.thread.frames) acting ≡ list_all (λ a. is_through (set.world.actors a).thread.frames) (actors t p)
      actors_are =
          all_counted (λ (a : Acting). is_through a.state.thread.frames) (λ a. is_through (set.world.actors a).thread.frames) acting 0
          (λ k j x is found. ap (λ (y : Acting). is_through y.state.thread.frames) (set.actors.each k x found) ∙ ap (λ (n : ℕ). is_through (set.world.actors n).thread.frames) (omega (arith, is)))
          ∙ ap (λ n. list_all (λ a. is_through (set.world.actors a).thread.frames) (range_with_len 0 n)) set.actors.count

      cells_are : are_idle t (placed t) cells ≡ list_all (λ i. none_pending (set.world.instances i).inside.pending) (actives t)
      cells_are = idle_beside t set.world (placed t) cells set.cells.count (λ k i c there found. ap (λ (y : Standing). y.state) (set.cells.each k i c there found))

  pub histories_are : map (λ (c : Standing). c.history) cells ≡ map (λ i. at i es) (placed t)
  histories_are = map_beside (λ (c : Standing). c.history) (λ i. at i es) (placed t) cells set.cells.count (λ k i c there found. ap (λ (y : Standing). y.history) (set.cells.each k i c there found))

  pub traces_are : map (λ (a : Acting). a.trace) acting ≡ map (λ a. by a es) (actors t p)
  traces_are =
      map_counted (λ (a : Acting). a.trace) (λ a. by a es) acting 0
      (λ k j x is found. ap (λ (y : Acting). y.trace) (set.actors.each k x found) ∙ ap (λ (n : ℕ). by n es) (omega (arith, is)))
      ∙ ap (λ n. map (λ a. by a es) (range_with_len 0 n)) set.actors.count

-- ---- tests over the first so many numbers

pub none_counted : (p : ℕ → Bool) (n b : ℕ) → ((a : ℕ) → a < b + n → p a ≡ false) → list_any p (range_with_len b n) ≡ false
none_counted p zero b none = refl
none_counted p (suc n) b none = ap₂ (λ (u v : Bool). u || v) (none b (omega arith)) (none_counted p n (b + 1) (λ a low. none a (omega (arith, low))))

pub any_counted : (p : ℕ → Bool) (n b a : ℕ) → b ≤ a → a < b + n → p a ≡ true → list_any p (range_with_len b n) ≡ true
any_counted p zero b a low high h = absurd (omega (arith, low, high))
any_counted p (suc n) b a low high h = go (first b a low) (λ above. any_counted p n (b + 1) a (omega (arith, above)) (omega (arith, high)) h)
  where
    first : (b a : ℕ) → b ≤ a → (a ≡ b) ⊎ (b < a)
    first b a low = grind (arith)

    either : (x y : Bool) → y ≡ true → (x || y) ≡ true
    either true y e = refl
    either false y e = e

    go : (a ≡ b) ⊎ (b < a) → (b < a → list_any p (range_with_len (b + 1) n) ≡ true) → (p b || list_any p (range_with_len (b + 1) n)) ≡ true
    go (inl e) later = rw (subst (λ (x : ℕ). p x ≡ true) e h) refl
    go (inr above) later = either (p b) (list_any p (range_with_len (b + 1) n)) (later above)

-- ---- the end

abbrev pub Ends : Type 0
Ends = (t : Described) (p : Program) (es : List Entry) → IsRun t p es → IsEnded t p es ↔ ((f : Finish) × EndsAs t p es f)

module _ (t : Described) (p : Program) (es : List Entry) where
  -- by what was found: an assert, a step above the limit, or that all is through
  pub ends_as : Ends → IsRun t p es → IsEnded t p es → (f : Finish) (asserted : Bool) → asserted ≡ list_any (λ e. is_asserted e.what) es
      → ((w : World) → RunTo t p es w → cond asserted Asserted (cond (list_any (λ a. is_some (next_stamp t p w a)) (actors t p)) Spent (cond (is_complete t p w) Complete Stuck)) ≡ f)
      → EndsAs t p es f
  ends_as law run ended f asserted is found =
      let e = (law t p es run).0 ended in
      let w : World = e.1.0 in
      let none = ending (list_any (can_step t p w) (actors t p)) (list_any (λ e. is_asserted e.what) es) (list_any (λ a. is_some (next_stamp t p w a)) (actors t p)) (is_complete t p w) e.0 e.1.2 in (
        w,
        e.1.1,
        ap₂ (λ (can : Bool) (a : Bool). cond can None (Some (cond a Asserted (cond (list_any (λ a. is_some (next_stamp t p w a)) (actors t p)) Spent (cond (is_complete t p w) Complete Stuck))))) none (sym is)
            ∙ ap Some (found w e.1.1),
      )
