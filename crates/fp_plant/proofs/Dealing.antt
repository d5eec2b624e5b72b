-- Rows that get one item each.
use Rattle.std.proofs.Common.{◌≡◌, ◌≢◌, ◌≤◌, ◌<◌, ◌⊎◌, inl, inr, ℕ, zero, suc, ◌+◌, List, [], ◌∷◌, ◌++◌, length, drop, get_or, slice_get, slice_set, Some, refl, sym, ap, ap₂, ◌∙◌, subst, arith}
use Rattle.std.specs.Prelude.{All}
use Rattle.std.specs.List.{slice_index_or}
use Rattle.std.proofs.Math.Nat.{eq-or-lt_of_le}
use Rattle.std.proofs.lemmas.List.{length-append, length-set}
use Rattle.std.proofs.lemmas.Option.{slice_get-get_or, slice_get_within, get_or_from_slice_get}
use Rattle.fp_base.proofs.Lists.{drop_head}
use Rattle.fp_base.proofs.Options.{same_some}
use Rattle.fp_base.proofs.Spots.{item_below, push_cases}
use Rattle.fp_gate.specs.Passes.{EachAt}
use Rattle.fp_plant.specs.Rows.{EachItem, HasShape, Extends, Gets}

pub set_here : {A : Type 0} (xs : List A) (i : ℕ) (y : A) → i < length xs → slice_get (slice_set xs i y) i ≡ Some y
set_here [] i y low = absurd (omega (arith, low))
set_here (x ∷ xs) zero y low = refl
set_here (x ∷ xs) (suc i) y low = set_here xs i y (omega (arith, low))

pub set_there : {A : Type 0} (xs : List A) (i j : ℕ) (y : A) → j ≢ i → slice_get (slice_set xs i y) j ≡ slice_get xs j
set_there [] i j y ne = refl
set_there (x ∷ xs) zero zero y ne = absurd (ne refl)
set_there (x ∷ xs) zero (suc j) y ne = refl
set_there (x ∷ xs) (suc i) zero y ne = refl
set_there (x ∷ xs) (suc i) (suc j) y ne = set_there xs i j y (λ e. ne (ap suc e))

-- what holds at each place, by the place or by the item that is found there
pub at_get : {A : Type 0} (P : ℕ → A → Type 0) (xs : List A) (k : ℕ) (x : A) → EachAt P xs → slice_get xs k ≡ Some x → P k x
at_get P xs k x each e = subst (P k) (get_or_from_slice_get xs k x x e) (each k x (slice_get_within xs k x e))

pub get_at : {A : Type 0} (P : ℕ → A → Type 0) (xs : List A) → ((k : ℕ) (x : A) → slice_get xs k ≡ Some x → P k x) → EachAt P xs
get_at P xs each k d low = each k (slice_index_or xs k d) (slice_get-get_or xs k d low)

pub all_get : {A : Type 0} (P : A → Type 0) (xs : List A) (k : ℕ) (x : A) → All P xs → slice_get xs k ≡ Some x → P x
all_get P xs k x each e = subst P (get_or_from_slice_get xs k x x e) (each k x (slice_get_within xs k x e))

pub get_all : {A : Type 0} (P : A → Type 0) (xs : List A) → ((k : ℕ) (x : A) → slice_get xs k ≡ Some x → P x) → All P xs
get_all P xs each k d low = each k (slice_index_or xs k d) (slice_get-get_or xs k d low)

pub all_push : {A : Type 0} (P : A → Type 0) (xs : List A) (x : A) (ys : List A) → All P xs → P x → ys ≡ xs ++ x ∷ [] → All P ys
all_push {A} P xs x ys all here is = get_all P ys (λ k y at. go k y (push_cases xs x k y (subst (λ (z : List A). slice_get z k ≡ Some y) is at)))
  where
    go : (k : ℕ) (y : A) → (slice_get xs k ≡ Some y) ⊎ ((k ≡ length xs) × (y ≡ x)) → P y
    go k y (inl e) = all_get P xs k y all e
    go k y (inr e) = subst P (sym e.1) here

module _ {A : Type 0} where
  -- the rows below this one have got their items, and these items are left
  pub record IsDealt (old : List (List A)) (xs : List A) (at : ℕ) (rest : List A) (new : List (List A)) : Type 0 where
    pub left : drop at xs ≡ rest
    pub within : at + length rest ≡ length xs
    pub wide : length xs ≡ length old
    pub count : length new ≡ length old
    pub done : (r : ℕ) (row : List A) (x : A) → r < at → slice_get old r ≡ Some row → slice_get xs r ≡ Some x → slice_get new r ≡ Some (row ++ x ∷ [])
    pub same : (r : ℕ) → at ≤ r → slice_get new r ≡ slice_get old r

  pub none_dealt : (old : List (List A)) (xs : List A) → length xs ≡ length old → IsDealt old xs 0 xs old
  none_dealt old xs long = record {
    left = refl;
    within = omega arith;
    wide = long;
    count = refl;
    done = λ r row x low here there. absurd (omega (arith, low));
    same = λ r low. refl;
  }

  pub row_there : (old : List (List A)) (xs : List A) (at : ℕ) (x : A) (all rest : List A) (new : List (List A)) → IsDealt old xs at all new → all ≡ x ∷ rest → at < length new
  row_there old xs at x all rest new d is = let long : length all ≡ length (x ∷ rest) = ap length is in omega (arith, long, d.within, d.wide, d.count)

  pub one_dealt : (old : List (List A)) (xs : List A) (at : ℕ) (x : A) (all rest : List A) (new : List (List A)) (row : List A) → IsDealt old xs at all new → all ≡ x ∷ rest
      → row ≡ get_or new at row → IsDealt old xs (at + 1) rest (slice_set new at (row ++ x ∷ []))
  one_dealt old xs at x all rest new row d is here =
      let long : length all ≡ length (x ∷ rest) = ap length is in
      let low : at < length new = row_there old xs at x all rest new d is in
      let head = drop_head xs at x rest (d.left ∙ is) in
      let on : suc at ≡ at + 1 = omega arith in
      record {
        left = ap (λ (n : ℕ). drop n xs) (sym on) ∙ sym head.1;
        within = omega (arith, long, d.within);
        wide = d.wide;
        count = length-set new at (row ++ x ∷ []) ∙ d.count;
        done = λ r old_row y below was its. go r old_row y was its (eq-or-lt_of_le (omega (arith, below)));
        same = λ r above. set_there new at r (row ++ x ∷ []) (λ e. absurd (omega (arith, above, e))) ∙ d.same r (omega (arith, above));
      }
    where
      go : (r : ℕ) (old_row : List A) (y : A) → slice_get old r ≡ Some old_row → slice_get xs r ≡ Some y → (r ≡ at) ⊎ (r < at)
          → slice_get (slice_set new at (row ++ x ∷ [])) r ≡ Some (old_row ++ y ∷ [])
      go r old_row y was its (inl e) =
          let low : at < length new = row_there old xs at x all rest new d is in
          let head = drop_head xs at x rest (d.left ∙ is) in
          let x_is : x ≡ y = same_some (sym head.0 ∙ (ap (slice_get xs) (sym e) ∙ its)) in
          let row_is : row ≡ old_row =
          same_some (sym (slice_get-get_or new at row low ∙ ap Some (sym here)) ∙ (d.same at (omega arith) ∙ (ap (slice_get old) (sym e) ∙ was))) in
          ap (slice_get (slice_set new at (row ++ x ∷ []))) e ∙ (set_here new at (row ++ x ∷ []) low ∙ ap₂ (λ (z : List A) (u : A). Some (z ++ u ∷ [])) row_is x_is)
      go r old_row y was its (inr below) = set_there new at r (row ++ x ∷ []) (λ e. absurd (omega (arith, below, e))) ∙ d.done r old_row y below was its

  pub all_dealt : (old : List (List A)) (xs : List A) (at : ℕ) (rest : List A) (new : List (List A)) → IsDealt old xs at rest new → length rest ≡ 0 → Extends old xs new
  all_dealt old xs at rest new d none = record {
    count = d.count;
    each = λ r row x was its. let low : r < length xs = slice_get_within xs r x its in d.done r row x (omega (arith, low, none, d.within)) was its;
  }

  pub gets_of : (P : ℕ → A → Type 0) (old : List (List A)) (xs : List A) (new : List (List A)) → length xs ≡ length old → Extends old xs new
      → ((r : ℕ) (x : A) → slice_get xs r ≡ Some x → P r x) → Gets P old new
  gets_of P old xs new long more each = record {
    count = more.count;
    each = λ r row was.
        let low : r < length old = slice_get_within old r row was in
        let x = item_below xs r (omega (arith, low, long)) in
        (x.0, more.each r row x.0 was x.1, each r x.0 x.1);
  }

  module _ (P : ℕ → A → Type 0) (old new : List (List A)) (high wide : ℕ) (shape : HasShape old high wide) (more : Gets P old new) where
    -- a row of the new ones is one of the old ones with one item more
    grown : (r : ℕ) (row : List A) → slice_get new r ≡ Some row → (was : List A) × (x : A) × (slice_get old r ≡ Some was) × (row ≡ was ++ x ∷ []) × P r x
    grown r row at =
        let low : r < length new = slice_get_within new r row at in
        let was = item_below old r (omega (arith, low, more.count)) in
        let g = more.each r was.0 was.1 in
        (was.0, g.0, was.1, same_some (sym at ∙ g.1), g.2)

    pub shape_more : HasShape new high (wide + 1)
    shape_more = record {
      count = more.count ∙ shape.count;
      each = λ r row at.
          let g = grown r row at in
          ap length g.3 ∙ (length-append g.0 (g.1 ∷ []) ∙ ap (λ (n : ℕ). n + 1) (shape.each r g.0 g.2));
    }

    pub each_more : (Q : ℕ → ℕ → A → Type 0) → EachItem Q old → ((r : ℕ) (x : A) → P r x → Q r wide x) → EachItem Q new
    each_more Q each new_too r k row y at its =
        let g = grown r row at in
        go g.0 g.1 g.2 g.4 (push_cases g.0 g.1 k y (subst (λ (z : List A). slice_get z k ≡ Some y) g.3 its))
      where
        go : (was : List A) (x : A) → slice_get old r ≡ Some was → P r x → (slice_get was k ≡ Some y) ⊎ ((k ≡ length was) × (y ≡ x)) → Q r k y
        go was x at_was p (inl e) = each r k was y at_was e
        go was x at_was p (inr e) =
            subst (λ (n : ℕ). Q r n y) (sym (e.0 ∙ shape.each r was at_was)) (subst (λ (z : A). Q r wide z) (sym e.1) (new_too r x p))

  pub empty_more : (rows : List (List A)) (n : ℕ) (more : List (List A)) → HasShape rows n 0 → more ≡ rows ++ [] ∷ [] → HasShape more (n + 1) 0
  empty_more rows n more shape is = record {
    count = ap length is ∙ (length-append rows ([] ∷ []) ∙ ap (λ (m : ℕ). m + 1) shape.count);
    each = λ r row at. go r row (push_cases rows [] r row (subst (λ (z : List (List A)). slice_get z r ≡ Some row) is at));
  }
    where
      go : (r : ℕ) (row : List A) → (slice_get rows r ≡ Some row) ⊎ ((r ≡ length rows) × (row ≡ [])) → length row ≡ 0
      go r row (inl e) = shape.each r row e
      go r row (inr e) = ap length e.1
