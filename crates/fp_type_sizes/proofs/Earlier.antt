-- Types as they stand are an order where none uses one that stands behind it.
use Rattle.std.proofs.Common.{◌≡◌, ℕ, zero, suc, ◌+◌, ◌<◌, ◌≤◌, ◌⊎◌, inl, inr, Bool, true, List, [], ◌∷◌, ◌++◌, map, length, Option, Some, None, refl, sym, ap, ◌∙◌, subst, slice_get, arith, length-append}
use Rattle.std.specs.Prelude.{nat_le}
use Rattle.std.specs.List.{list_all}
use Rattle.std.proofs.lemmas.Bool.Decides.{nat_tests}
use Rattle.std.proofs.lemmas.Option.{slice_get_within}
use Rattle.fp_base.proofs.Bools.{both}
use Rattle.fp_base.proofs.Options.{same_some, no_some}
use Rattle.fp_tables.specs.Lists.{all_from, if_some}
use Rattle.fp_tables.specs.Types.{kinds_in}
use Rattle.fp_tables.specs.declared.kind.Kind.{Kind}
use Rattle.fp_tables.specs.declared.kind.Kind.TheVariants as kind
use Rattle.fp_tables.specs.declared.kind.Form.{Form}
use Rattle.fp_tables.specs.declared.kind.Form.TheVariants as form
use Rattle.fp_tables.specs.declared.kind.Field.{Field}
use Rattle.fp_type_sizes.specs.declared.written.WrittenType.{WrittenType}
use Rattle.fp_type_sizes.specs.Found.{UsesType, IsTypeOrder}
use Rattle.fp_type_sizes.specs.Found as found
use Rattle.fp_type_sizes.specs.Earlier.{is_not_later, form_uses_earlier, uses_earlier, AreNumbers}
use Rattle.fp_type_sizes.proofs.NoCycle.{no_cycle}
use Rattle.fp_base.proofs.Spots.{item_below, get_push, before_or_not}

-- ---- numbers

pub numbers_none : (xs : List ℕ) → xs ≡ [] → AreNumbers 0 xs
numbers_none xs e = subst (λ (ys : List ℕ). AreNumbers 0 ys) (sym e) (record { each = refl; at = λ k v h. no_some h })

pub numbers_next : (n : ℕ) (xs more : List ℕ) → AreNumbers n xs → more ≡ xs ++ n ∷ [] → AreNumbers (n + 1) more
numbers_next n xs more are e = subst (λ (ys : List ℕ). AreNumbers (n + 1) ys) (sym e) (record {
  each = let l = length-append xs (n ∷ []) in let k = are.each in omega arith;
  at = λ k v h. at_place k v (get_push xs n v k h);
})
  where
    at_place : (k v : ℕ) → (slice_get xs k ≡ Some v) ⊎ ((k ≡ length xs) × (n ≡ v)) → v ≡ k
    at_place k v (inl h) = are.at k v h
    at_place k v (inr p) = sym p.1 ∙ sym are.each ∙ sym p.0

-- ---- what stands before

all_from_at : (test : ℕ → WrittenType → Bool) (xs : List WrittenType) (n i j : ℕ) (x : WrittenType) → j ≡ n + i → all_from test n xs ≡ true → slice_get xs i ≡ Some x → test j x ≡ true
all_from_at test [] n i j x at all is = no_some is
all_from_at test (y ∷ ys) n zero j x at all is =
    let here = (both (test n y) (all_from test (suc n) ys) all).0 in
    let same : n ≡ j = omega arith in
    subst (λ (k : ℕ). test k x ≡ true) same (subst (λ (z : WrittenType). test n z ≡ true) (same_some is) here)
all_from_at test (y ∷ ys) n (suc i) j x at all is = all_from_at test ys (suc n) i j x (omega arith) (both (test n y) (all_from test (suc n) ys) all).1 is

one : (at n : ℕ) (k : Kind) (w : ℕ) → is_not_later at k ≡ true → slice_get (k ∷ []) n ≡ Some (kind.Named w) → nat_le w at ≡ true
one at zero k w e h = subst (λ (x : Kind). is_not_later at x ≡ true) (same_some h) e
one at (suc n) k w e h = no_some h

each : (at n : ℕ) (fs : List Field) (w : ℕ) → list_all (λ (f : Field). is_not_later at f.kind) fs ≡ true → slice_get (map (λ (f : Field). f.kind) fs) n ≡ Some (kind.Named w) → nat_le w at ≡ true
each at n [] w e h = no_some h
each at zero (f ∷ fs) w e h =
    subst (λ (x : Kind). is_not_later at x ≡ true) (same_some h) (both (is_not_later at f.kind) (list_all (λ (g : Field). is_not_later at g.kind) fs) e).0
each at (suc n) (f ∷ fs) w e h = each at n fs w (both (is_not_later at f.kind) (list_all (λ (g : Field). is_not_later at g.kind) fs) e).1 h

in_form : (at n : ℕ) (f : Form) (w : ℕ) → form_uses_earlier at f ≡ true → slice_get (kinds_in f) n ≡ Some (kind.Named w) → nat_le w at ≡ true
in_form at n form.Abstract w e h = no_some h
in_form at n (form.Alias k) w e h = one at n k w e h
in_form at n (form.Array size k format) w e h = one at n k w e h
in_form at n (form.Struct fields) w e h = each at n fields w e h
in_form at n (form.Enum k cs) w e h = one at n k w e h

module _ (ws : List WrittenType) (earlier : uses_earlier ws ≡ true) (order : List ℕ) (are : AreNumbers (length ws) order) where
  not_later : (v w : ℕ) → UsesType ws v w → w ≤ v
  not_later v w u =
      let test = all_from_at (λ at (x : WrittenType). if_some (form_uses_earlier at) x.form) ws 0 v v u.form.written (omega arith) earlier u.form.here in
      below (in_form v u.at u.shape w (subst (λ (o : Option Form). if_some (form_uses_earlier v) o ≡ true) u.form.form test) u.used)
    where
      below : nat_le w v ≡ true → w ≤ v
      below e = grind (arith, nat_tests)

  stands : (v : ℕ) → v < length ws → slice_get order v ≡ Some v
  stands v lt =
      let p = item_below order v (let e = are.each in omega arith) in
      p.1 ∙ ap (λ (x : ℕ). Some x) (are.at v p.0 p.1)

  pub ordered_as_they_stand : IsTypeOrder ws order
  ordered_as_they_stand = record {
    all = λ v lt. (v, stands v lt);
    within = λ k v e. let same = are.at k v e in let lt = slice_get_within order k v e in let each = are.each in omega arith;
    behind = λ k v w a b e m u. behind k v w e (not_later v w u) (λ same. no_cycle m v refl (found.one (subst (λ (x : ℕ). UsesType ws v x) same u))) (before_or_not w v);
  }
    where
      behind : (k v w : ℕ) → slice_get order k ≡ Some v → w ≤ v → (w ≡ v → ⊥) → (w < v) ⊎ (v ≤ w) → (j : ℕ) × (j < k) × (slice_get order j ≡ Some w)
      behind k v w e low not (inl lt) =
          let same = are.at k v e in
          let below = slice_get_within order k v e in
          let each = are.each in
          (w, omega arith, stands w (omega arith))
      behind k v w e low not (inr ge) = absurd (not (omega arith))
