-- Of each name the first.
use Rattle.std.proofs.Common.{◌≡◌, Bool, true, false, not, cond, ◌||◌, ◌∙◌, ℕ, zero, suc, ◌+◌, List, [], ◌∷◌, ◌++◌, Option, Some, slice_get, refl, sym, ap, subst, arith, bytes_eq}
use Rattle.std.specs.List.{AllByRecursion, filter, find}
use Rattle.std.proofs.lemmas.List.{append-nil}
use Rattle.std.proofs.lemmas.List.Elements.{filter-append}
use Rattle.fp_base.proofs.Lists.{of_item}
use Rattle.fp_base.proofs.Options.{same_some}
use Rattle.fp_base.proofs.Bytes.{same_bytes, bytes_turned, bytes_same}
use Rattle.fp_written_parts.specs.declared.port.WrittenPort.{WrittenPort}
use Rattle.fp_component_rules.specs.Firsts.{AreApart, has_port, is_named, of_each_name, with_port}

-- ---- names

-- a name that one of two equal names isn't
other : (q m n : List ℕ) → bytes_eq q m ≡ false → bytes_eq m n ≡ true → bytes_eq q n ≡ false
other q m n differ e = subst (λ (x : List ℕ). bytes_eq q x ≡ false) (same_bytes m n e) differ

-- ---- what a filter leaves

abbrev pub others : List ℕ → List WrittenPort → List WrittenPort
others name ps = filter (λ (q : WrittenPort). not (is_named name q)) ps

-- names other than the one that is left out stand as before
module _ (q n : List ℕ) (differ : bytes_eq q n ≡ false) where
  left_out : (y : WrittenPort) → not (is_named n y) ≡ false → is_named q y ≡ false
  left_out y e = go (is_named n y) refl e
    where
      go : (b : Bool) → is_named n y ≡ b → not b ≡ false → is_named q y ≡ false
      go true is h = other q n y.name differ is
      go false is h = absurd (cc)

  pub has_others : (ys : List WrittenPort) → has_port q (others n ys) ≡ has_port q ys
  has_others [] = refl
  has_others (y ∷ ys) = go (has_others ys) (not (is_named n y)) refl
    where
      go : has_port q (others n ys) ≡ has_port q ys → (b : Bool) → not (is_named n y) ≡ b → has_port q (cond b (y ∷ others n ys) (others n ys)) ≡ (is_named q y || has_port q ys)
      go rest true is = ap (λ (x : Bool). is_named q y || x) rest
      go rest false is = rest ∙ sym (ap (λ (x : Bool). x || has_port q ys) (left_out y is))

  pub found_others : (ys : List WrittenPort) → find (is_named q) (others n ys) ≡ find (is_named q) ys
  found_others [] = refl
  found_others (y ∷ ys) = go (found_others ys) (not (is_named n y)) refl
    where
      go : find (is_named q) (others n ys) ≡ find (is_named q) ys → (b : Bool) → not (is_named n y) ≡ b
          → find (is_named q) (cond b (y ∷ others n ys) (others n ys)) ≡ cond (is_named q y) (Some y) (find (is_named q) ys)
      go rest true is = ap (λ (o : Option WrittenPort). cond (is_named q y) (Some y) o) rest
      go rest false is = rest ∙ sym (ap (λ (x : Bool). cond x (Some y) (find (is_named q) ys)) (left_out y is))

pub has_each : (q : List ℕ) (xs : List WrittenPort) → has_port q (of_each_name xs) ≡ has_port q xs
has_each q [] = refl
has_each q (x ∷ xs) = go (has_each q xs) (is_named q x) refl
  where
    go : has_port q (of_each_name xs) ≡ has_port q xs → (b : Bool) → is_named q x ≡ b → (b || has_port q (others x.name (of_each_name xs))) ≡ (b || has_port q xs)
    go rest true is = refl
    go rest false is = has_others q x.name is (of_each_name xs) ∙ rest

-- the first of a name is the same
pub found_each : (q : List ℕ) (xs : List WrittenPort) → find (is_named q) (of_each_name xs) ≡ find (is_named q) xs
found_each q [] = refl
found_each q (x ∷ xs) = go (found_each q xs) (is_named q x) refl
  where
    go : find (is_named q) (of_each_name xs) ≡ find (is_named q) xs → (b : Bool) → is_named q x ≡ b
        → cond b (Some x) (find (is_named q) (others x.name (of_each_name xs))) ≡ cond b (Some x) (find (is_named q) xs)
    go rest true is = refl
    go rest false is = found_others q x.name is (of_each_name xs) ∙ rest

-- ---- one port more

module _ (p : WrittenPort) where
  others_pushed : (n : List ℕ) (b : Bool) → is_named n p ≡ b → (ys : List WrittenPort) → others n (ys ++ p ∷ []) ≡ cond b (others n ys) (others n ys ++ p ∷ [])
  others_pushed n b is ys = filter-append (λ (q : WrittenPort). not (is_named n q)) ys (p ∷ []) ∙ go b is
    where
      go : (b : Bool) → is_named n p ≡ b → others n ys ++ cond (not (is_named n p)) (p ∷ []) [] ≡ cond b (others n ys) (others n ys ++ p ∷ [])
      go true e = ap (λ (x : Bool). others n ys ++ cond (not x) (p ∷ []) []) e ∙ append-nil (others n ys)
      go false e = ap (λ (x : Bool). others n ys ++ cond (not x) (p ∷ []) []) e

  first_same : (x : WrittenPort) (ys : List WrittenPort) → is_named p.name x ≡ true → (h : Bool) → x ∷ others x.name ys ≡ x ∷ others x.name (cond h ys (ys ++ p ∷ []))
  first_same x ys is true = refl
  first_same x ys is false = ap (λ (zs : List WrittenPort). x ∷ zs) (sym (others_pushed x.name true (bytes_turned x.name p.name ∙ is) ys))

  first_other : (x : WrittenPort) (ys : List WrittenPort) → is_named p.name x ≡ false → (h : Bool)
      → cond h (x ∷ others x.name ys) (x ∷ (others x.name ys ++ p ∷ [])) ≡ x ∷ others x.name (cond h ys (ys ++ p ∷ []))
  first_other x ys is true = refl
  first_other x ys is false = ap (λ (zs : List WrittenPort). x ∷ zs) (sym (others_pushed x.name false (bytes_turned x.name p.name ∙ is) ys))

  others_with : (x : WrittenPort) (ys : List WrittenPort) → with_port p (x ∷ others x.name ys) ≡ x ∷ others x.name (with_port p ys)
  others_with x ys = go (is_named p.name x) refl
    where
      go : (b : Bool) → is_named p.name x ≡ b
          → cond (b || has_port p.name (others x.name ys)) (x ∷ others x.name ys) (x ∷ (others x.name ys ++ p ∷ [])) ≡ x ∷ others x.name (with_port p ys)
      go true is = first_same x ys is (has_port p.name ys)
      go false is =
          ap (λ (d : Bool). cond d (x ∷ others x.name ys) (x ∷ (others x.name ys ++ p ∷ []))) (has_others p.name x.name is ys)
          ∙ first_other x ys is (has_port p.name ys)

  pub each_pushed : (xs : List WrittenPort) → with_port p (of_each_name xs) ≡ of_each_name (xs ++ p ∷ [])
  each_pushed [] = refl
  each_pushed (x ∷ xs) = others_with x (of_each_name xs) ∙ ap (λ (zs : List WrittenPort). x ∷ others x.name zs) (each_pushed xs)

-- ---- names that differ

abbrev pub Differ : List WrittenPort → Type 0
Differ [] = Unit {0}
Differ (z ∷ zs) = AllByRecursion (λ (y : WrittenPort). not (is_named z.name y) ≡ true) zs × Differ zs

module _ (f : WrittenPort → Bool) where
  all_filtered : (P : WrittenPort → Type 0) (zs : List WrittenPort) → AllByRecursion P zs → AllByRecursion P (filter f zs)
  all_filtered P [] h = tt
  all_filtered P (z ∷ zs) h = go (all_filtered P zs h.1) (f z)
    where
      go : AllByRecursion P (filter f zs) → (b : Bool) → AllByRecursion P (cond b (z ∷ filter f zs) (filter f zs))
      go rest true = (h.0, rest)
      go rest false = rest

  all_pass : (zs : List WrittenPort) → AllByRecursion (λ (y : WrittenPort). f y ≡ true) (filter f zs)
  all_pass [] = tt
  all_pass (z ∷ zs) = go (all_pass zs) (f z) refl
    where
      go : AllByRecursion (λ (y : WrittenPort). f y ≡ true) (filter f zs) → (b : Bool) → f z ≡ b
          → AllByRecursion (λ (y : WrittenPort). f y ≡ true) (cond b (z ∷ filter f zs) (filter f zs))
      go rest true is = (is, rest)
      go rest false is = rest

  differ_filtered : (zs : List WrittenPort) → Differ zs → Differ (filter f zs)
  differ_filtered [] h = tt
  differ_filtered (z ∷ zs) h = go (differ_filtered zs h.1) (f z)
    where
      go : Differ (filter f zs) → (b : Bool) → Differ (cond b (z ∷ filter f zs) (filter f zs))
      go rest true = (all_filtered (λ (y : WrittenPort). not (is_named z.name y) ≡ true) zs h.0, rest)
      go rest false = rest

  all_kept : (zs : List WrittenPort) → AllByRecursion (λ (y : WrittenPort). f y ≡ true) zs → filter f zs ≡ zs
  all_kept [] h = refl
  all_kept (z ∷ zs) h = ap (λ (b : Bool). cond b (z ∷ filter f zs) (filter f zs)) h.0 ∙ ap (λ (ys : List WrittenPort). z ∷ ys) (all_kept zs h.1)

pub each_differ : (xs : List WrittenPort) → Differ (of_each_name xs)
each_differ [] = tt
each_differ (x ∷ xs) =
    (all_pass (λ (q : WrittenPort). not (is_named x.name q)) (of_each_name xs), differ_filtered (λ (q : WrittenPort). not (is_named x.name q)) (of_each_name xs) (each_differ xs))

pub differ_each : (zs : List WrittenPort) → Differ zs → of_each_name zs ≡ zs
differ_each [] h = refl
differ_each (z ∷ zs) h = ap (λ (ys : List WrittenPort). z ∷ others z.name ys) (differ_each zs h.1) ∙ ap (λ (ys : List WrittenPort). z ∷ ys) (all_kept (λ (q : WrittenPort). not (is_named z.name q)) zs h.0)

-- what stands behind may itself have each name once
pub each_joined : (xs ys : List WrittenPort) → of_each_name (xs ++ of_each_name ys) ≡ of_each_name (xs ++ ys)
each_joined [] ys = differ_each (of_each_name ys) (each_differ ys)
each_joined (x ∷ xs) ys = ap (λ (zs : List WrittenPort). x ∷ others x.name zs) (each_joined xs ys)

-- ---- the same by places

differ_at : (z : WrittenPort) (zs : List WrittenPort) (k : ℕ) (q : WrittenPort) → AllByRecursion (λ (y : WrittenPort). not (is_named z.name y) ≡ true) zs → slice_get zs k ≡ Some q
    → z.name ≡ q.name → ⊥
differ_at z zs k q h e same =
    let no : not (is_named z.name q) ≡ true = of_item (λ (y : WrittenPort). not (is_named z.name y) ≡ true) zs k q h e in
    let yes : is_named z.name q ≡ true = bytes_same z.name q.name same in
    absurd (cc)

pub differ_apart : (zs : List WrittenPort) → Differ zs → (j k : ℕ) (p q : WrittenPort) → slice_get zs j ≡ Some p → slice_get zs k ≡ Some q → p.name ≡ q.name → j ≡ k
differ_apart [] h j k p q d e same = absurd (cc)
differ_apart (z ∷ zs) h zero zero p q d e same = refl
differ_apart (z ∷ zs) h zero (suc k) p q d e same = absurd (differ_at z zs k q h.0 e (ap (λ (x : WrittenPort). x.name) (same_some d) ∙ same))
differ_apart (z ∷ zs) h (suc j) zero p q d e same = absurd (differ_at z zs j p h.0 d (ap (λ (x : WrittenPort). x.name) (same_some e) ∙ sym same))
differ_apart (z ∷ zs) h (suc j) (suc k) p q d e same = ap suc (differ_apart zs h.1 j k p q d e same)

apart_head : (z : WrittenPort) (zs all : List WrittenPort) (n : ℕ) → AreApart (z ∷ all) → ((k : ℕ) (y : WrittenPort) → slice_get zs k ≡ Some y → slice_get all (n + k) ≡ Some y)
    → AllByRecursion (λ (y : WrittenPort). not (is_named z.name y) ≡ true) zs
apart_head z [] all n h at = tt
apart_head z (y ∷ zs) all n h at = (
  go (is_named z.name y) refl,
  apart_head z zs all (suc n) h (λ k x e. let same : n + suc k ≡ suc n + k = omega arith in subst (λ (m : ℕ). slice_get all m ≡ Some x) same (at (suc k) x e)),
)
  where
    go : (b : Bool) → is_named z.name y ≡ b → not b ≡ true
    go true is =
        let here : slice_get all (n + 0) ≡ Some y = at 0 y refl in
        let same : zero ≡ suc (n + 0) = h zero (suc (n + 0)) z y refl here (same_bytes z.name y.name is) in
        absurd (omega arith)
    go false is = refl

pub apart_differ : (zs : List WrittenPort) → AreApart zs → Differ zs
apart_differ [] h = tt
apart_differ (z ∷ zs) h = (
  apart_head z zs zs 0 h (λ k y e. let same : k ≡ 0 + k = omega arith in subst (λ (m : ℕ). slice_get zs m ≡ Some y) same e),
  apart_differ zs (λ j k p q d e same. let on = h (suc j) (suc k) p q d e same in omega arith),
)

pub whole : (zs : List WrittenPort) → AreApart zs → of_each_name zs ≡ zs
whole zs h = differ_each zs (apart_differ zs h)
