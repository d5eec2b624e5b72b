-- Cells and actors that are opened one behind another.
use Rattle.std.proofs.Common.{◌≡◌, ◌<◌, ◌≤◌, ℕ, zero, suc, ◌+◌, true, false, List, [], ◌∷◌, ◌++◌, length, length-append, get_or, Some, slice_get, refl, sym, ap, ◌∙◌, subst, arith}
use Rattle.std.proofs.lemmas.Option.{slice_get-get_or}
use Rattle.fp_base.proofs.Options.{same_some}
use Rattle.fp_tables.specs.Acts.{is_placed}
use Rattle.fp_tables.specs.Lookup.{Described, placed}
use Rattle.fp_tables.specs.declared.program.Program.{Program}
use Rattle.fp_tables.proofs.Indexed.{item_in}
use Rattle.fp_events.specs.Actor.{opened_actor}
use Rattle.fp_events.specs.Fits.{actor_count}
use Rattle.fp_events.specs.Run.{opening}
use Rattle.fp_actor.specs.Acting.{Acting}
use Rattle.fp_cell.specs.Cells.{Standing, opened}
use Rattle.fp_running.specs.Standing.{AreActors, AreCells, actor_of, cell_of}

one_more : {A : Type 0} (P : ℕ → A → Type 0) (xs : List A) (y : A) → ((k : ℕ) (x : A) → slice_get xs k ≡ Some x → P k x) → P (length xs) y
    → (k : ℕ) (x : A) → slice_get (xs ++ y ∷ []) k ≡ Some x → P k x
one_more P [] y each here zero x h = subst (P zero) (same_some h) here
one_more P [] y each here (suc k) x h = absurd (cc)
one_more P (z ∷ xs) y each here zero x h = each zero x h
one_more P (z ∷ xs) y each here (suc k) x h = one_more (λ j. P (suc j)) xs y (λ j. each (suc j)) here k x h

-- the first so many items, each being what is said of its number
pub record AreFirst {A : Type 0} (P : ℕ → A → Type 0) (xs : List A) (n : ℕ) : Type 0 where
  pub each : (k : ℕ) (x : A) → slice_get xs k ≡ Some x → P k x
  pub count : length xs ≡ n

longer : {A : Type 0} (P : ℕ → A → Type 0) (xs ys : List A) (y : A) (n : ℕ) → AreFirst P xs n → P n y → ys ≡ xs ++ y ∷ [] → AreFirst P ys (n + 1)
longer P xs ys y n first here is = record {
  each = subst (λ zs. (k : ℕ) (x : _) → slice_get zs k ≡ Some x → P k x) (sym is) (one_more P xs y first.each (subst (λ (k : ℕ). P k y) (sym first.count) here));
  count = ap length is ∙ length-append xs (y ∷ []) ∙ ap (λ (k : ℕ). k + 1) first.count;
}

module _ (t : Described) (p : Program) where
  -- the actor of a number at the opening
  abbrev pub Fresh : ℕ → Acting → Type 0
  Fresh n x = x ≡ actor_of t p [] (opening t p) n x.has_room

  pub one_actor : (xs ys : List Acting) (a : Acting) (n : ℕ) → AreFirst Fresh xs n →
      a ≡ record { tables = t; program = p; number = n; state = record { thread = opened_actor p n; last = 0 }; trace = []; has_room = false } →
      ys ≡ xs ++ a ∷ [] → AreFirst Fresh ys (n + 1)
  one_actor xs ys a n first is more = longer Fresh xs ys a n first (is ∙ ap (λ b. actor_of t p [] (opening t p) n b) (sym (ap (λ (x : Acting). x.has_room) is))) more

  pub all_actors : (xs : List Acting) (n : ℕ) → AreFirst Fresh xs n → n ≡ actor_count t p → AreActors t p [] (opening t p) xs
  all_actors xs n first all = record { each = first.each; count = first.count ∙ all }

  -- the cell of the instance at a place at the opening
  abbrev pub FreshAt : ℕ → Standing → Type 0
  FreshAt k c = (i : ℕ) → slice_get (placed t) k ≡ Some i → c ≡ cell_of t p [] (opening t p) i

  module _ (instances : List ℕ) (here : instances ≡ placed t) (n : ℕ) (below : n < length instances) where
    at_place : slice_get (placed t) n ≡ Some (get_or instances n 0)
    at_place = subst (λ (xs : List ℕ). slice_get xs n ≡ Some (get_or instances n 0)) here (slice_get-get_or instances n 0 below)

    pub is_there : is_placed t (get_or instances n 0) ≡ true
    is_there = item_in (placed t) n (get_or instances n 0) at_place

    pub one_cell : (xs ys : List Standing) (c : Standing) → AreFirst FreshAt xs n → c ≡ opened (record { tables = t; program = p; instance = get_or instances n 0 }) → ys ≡ xs ++ c ∷ []
        → AreFirst FreshAt ys (n + 1)
    one_cell xs ys c first is more =
        longer FreshAt xs ys c n first (λ j at. subst (λ (k : ℕ). c ≡ cell_of t p [] (opening t p) k) (same_some (sym at_place ∙ at)) is) more

  pub all_cells : (instances : List ℕ) → instances ≡ placed t → (xs : List Standing) (n : ℕ) → AreFirst FreshAt xs n → n ≤ length instances → length instances ≤ n
      → AreCells t p [] (opening t p) xs
  all_cells instances here xs n first within all = record {
    each = λ k i c at found. first.each k c found i at;
    count = let e : n ≡ length instances = omega arith in first.count ∙ e ∙ ap length here;
  }
