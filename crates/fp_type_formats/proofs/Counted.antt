-- What is read of elements one by one is what they are as a whole.
use Rattle.std.proofs.Common.{◌≡◌, ℕ, zero, suc, ◌+◌, Bool, true, false, cond, not, ◌&&◌, ◌||◌, ◌⊎◌, inl, inr, List, [], ◌∷◌, length, slice_get, Some, refl, sym, ◌∙◌, ap, subst, arith}
use Rattle.std.proofs.Math.Bool.{or-false, or-true}
use Rattle.std.proofs.Math.Nat.{zero-add}
use Rattle.std.specs.List.{list_any}
use Rattle.fp_base.proofs.Bools.{both, join, or_cases, or_left, or_right, or_assoc}
use Rattle.fp_base.proofs.Options.{same_some}
use Rattle.fp_base.proofs.Numbers.{none_behind}
use Rattle.fp_base.specs.Formats.{is_empty_text}
use Rattle.fp_formats.specs.Spelling.{is_form}
use Rattle.fp_type_formats.specs.declared.reading.Mark.{Mark}
use Rattle.fp_type_formats.specs.declared.reading.Mark.TheVariants as mark
use Rattle.fp_type_formats.specs.declared.reading.Reading.{Reading}
use Rattle.fp_type_formats.specs.Elements.{Element, plain, escape, field, lone, HasUnfitField, fields_of, is_lone, is_other, prints_number}
use Rattle.fp_type_formats.specs.Sorted.{field_mark, mark_of, nothing_read, read_on, with_mark}

marks_other : Mark → Bool
marks_other mark.Other = true
marks_other _ = false

marks_lone : Mark → Bool
marks_lone mark.Lone = true
marks_lone _ = false

one_behind : (a n : ℕ) → (a + 1) + n ≡ a + suc n
one_behind a n = omega arith

-- ---- of one element

field_other : (a b : Bool) → marks_other (cond a (cond b mark.Any mark.Numeric) mark.Other) ≡ not a
unfolding marks_other
field_other true true = refl
field_other true false = refl
field_other false b = refl

field_lone : (a b : Bool) → marks_lone (cond a (cond b mark.Any mark.Numeric) mark.Other) ≡ false
unfolding marks_lone
field_lone true true = refl
field_lone true false = refl
field_lone false b = refl

other_of : (e : Element) → marks_other (mark_of e) ≡ is_other e
unfolding marks_other
other_of (plain b) = refl
other_of (escape b) = refl
other_of (field w) = field_other (is_form w) (is_empty_text w)
other_of (lone b) = refl

lone_of : (e : Element) → marks_lone (mark_of e) ≡ is_lone e
unfolding marks_lone
lone_of (plain b) = refl
lone_of (escape b) = refl
lone_of (field w) = field_lone (is_form w) (is_empty_text w)
lone_of (lone b) = refl

-- a field that prints a number, where what it prints is none: the fields have numbers from one on
unfit_from : (ℕ → Bool) → ℕ → List (List ℕ) → Bool
unfit_from unfit k [] = false
unfit_from unfit k (w ∷ ws) = (prints_number w && unfit k) || unfit_from unfit (k + 1) ws

module _ (unfit : ℕ → Bool) where
  other_with : (m : Mark) (r : Reading) → (with_mark unfit m r).other ≡ (r.other || marks_other m)
  unfolding marks_other
  other_with mark.Text r = sym (or-false r.other)
  other_with mark.Any r = sym (or-false r.other)
  other_with mark.Numeric r = sym (or-false r.other)
  other_with mark.Other r = sym (or-true r.other)
  other_with mark.Lone r = sym (or-false r.other)

  lone_with : (m : Mark) (r : Reading) → (with_mark unfit m r).lone ≡ (r.lone || marks_lone m)
  unfolding marks_lone
  lone_with mark.Text r = sym (or-false r.lone)
  lone_with mark.Any r = sym (or-false r.lone)
  lone_with mark.Numeric r = sym (or-false r.lone)
  lone_with mark.Other r = sym (or-false r.lone)
  lone_with mark.Lone r = sym (or-true r.lone)

  field_unfit : (a b : Bool) (r : Reading) → (with_mark unfit (cond a (cond b mark.Any mark.Numeric) mark.Other) r).unfit ≡ (r.unfit || ((a && not b) && unfit r.fields))
  field_unfit true true r = sym (or-false r.unfit)
  field_unfit true false r = refl
  field_unfit false b r = sym (or-false r.unfit)

  field_counts : (a b : Bool) (r : Reading) → (with_mark unfit (cond a (cond b mark.Any mark.Numeric) mark.Other) r).fields ≡ r.fields + 1
  field_counts true true r = refl
  field_counts true false r = refl
  field_counts false b r = refl

  -- ---- of all

  pub other_on : (r : Reading) (es : List Element) → (read_on unfit r es).other ≡ (r.other || list_any is_other es)
  other_on r [] = sym (or-false r.other)
  other_on r (e ∷ es) =
      other_on (with_mark unfit (mark_of e) r) es ∙ ap (λ (b : Bool). b || list_any is_other es) (other_with (mark_of e) r ∙ ap (λ (b : Bool). r.other || b) (other_of e))
      ∙ or_assoc r.other (is_other e) (list_any is_other es)

  pub lone_on : (r : Reading) (es : List Element) → (read_on unfit r es).lone ≡ (r.lone || list_any is_lone es)
  lone_on r [] = sym (or-false r.lone)
  lone_on r (e ∷ es) =
      lone_on (with_mark unfit (mark_of e) r) es ∙ ap (λ (b : Bool). b || list_any is_lone es) (lone_with (mark_of e) r ∙ ap (λ (b : Bool). r.lone || b) (lone_of e))
      ∙ or_assoc r.lone (is_lone e) (list_any is_lone es)

  fields_on : (r : Reading) (es : List Element) → (read_on unfit r es).fields ≡ r.fields + length (fields_of es)
  fields_on r [] = none_behind r.fields
  fields_on r (plain b ∷ es) = fields_on r es
  fields_on r (escape b ∷ es) = fields_on r es
  fields_on r (field w ∷ es) =
      fields_on (with_mark unfit (field_mark w) r) es ∙ ap (λ (n : ℕ). n + length (fields_of es)) (field_counts (is_form w) (is_empty_text w) r) ∙ one_behind r.fields (length (fields_of es))
  fields_on r (lone b ∷ es) = fields_on (with_mark unfit mark.Lone r) es

  unfit_on : (r : Reading) (es : List Element) → (read_on unfit r es).unfit ≡ (r.unfit || unfit_from unfit r.fields (fields_of es))
  unfolding unfit_from
  unfit_on r [] = sym (or-false r.unfit)
  unfit_on r (plain b ∷ es) = unfit_on r es
  unfit_on r (escape b ∷ es) = unfit_on r es
  unfit_on r (field w ∷ es) =
      unfit_on (with_mark unfit (field_mark w) r) es
      ∙ ap (λ (b : Bool). b || unfit_from unfit (with_mark unfit (field_mark w) r).fields (fields_of es)) (field_unfit (is_form w) (is_empty_text w) r)
      ∙ ap (λ (n : ℕ). (r.unfit || (prints_number w && unfit r.fields)) || unfit_from unfit n (fields_of es)) (field_counts (is_form w) (is_empty_text w) r)
      ∙ or_assoc r.unfit (prints_number w && unfit r.fields) (unfit_from unfit (r.fields + 1) (fields_of es))
  unfit_on r (lone b ∷ es) = unfit_on (with_mark unfit mark.Lone r) es

  pub as_many : (es : List Element) → (read_on unfit nothing_read es).fields ≡ length (fields_of es)
  as_many es = fields_on nothing_read es ∙ zero-add (length (fields_of es))

  -- ---- the field that is unfit

  abbrev IsUnfitBehind : ℕ → List (List ℕ) → Type 0
  IsUnfitBehind k ws = (j : ℕ) × (w : List ℕ) × (slice_get ws j ≡ Some w) × (prints_number w ≡ true) × (unfit (k + j) ≡ true)

  unfit_there : (k : ℕ) (ws : List (List ℕ)) → unfit_from unfit k ws ≡ true → IsUnfitBehind k ws
  unfolding unfit_from
  unfit_there k [] e = absurd (cc)
  unfit_there k (w ∷ ws) e = go (or_cases (prints_number w && unfit k) (unfit_from unfit (k + 1) ws) e) (unfit_there (k + 1) ws)
    where
      further : IsUnfitBehind (k + 1) ws → IsUnfitBehind k (w ∷ ws)
      further (j, v, at, p, u) = (suc j, v, at, p, subst (λ (n : ℕ). unfit n ≡ true) (one_behind k j) u)

      go : ((prints_number w && unfit k) ≡ true) ⊎ (unfit_from unfit (k + 1) ws ≡ true) → (unfit_from unfit (k + 1) ws ≡ true → IsUnfitBehind (k + 1) ws) → IsUnfitBehind k (w ∷ ws)
      go (inl a) rest = let t = both (prints_number w) (unfit k) a in (0, w, refl, t.0, subst (λ (n : ℕ). unfit n ≡ true) (none_behind k) t.1)
      go (inr b) rest = further (rest b)

  unfit_given : (k : ℕ) (ws : List (List ℕ)) (j : ℕ) (w : List ℕ) → slice_get ws j ≡ Some w → prints_number w ≡ true → unfit (k + j) ≡ true → unfit_from unfit k ws ≡ true
  unfolding unfit_from
  unfit_given k [] j w at p u = absurd (cc)
  unfit_given k (v ∷ ws) zero w at p u =
      or_left (prints_number v && unfit k) (unfit_from unfit (k + 1) ws)
      (join (prints_number v) (unfit k) (ap prints_number (same_some at) ∙ p) (subst (λ (n : ℕ). unfit n ≡ true) (sym (none_behind k)) u))
  unfit_given k (v ∷ ws) (suc j) w at p u =
      or_right (prints_number v && unfit k) (unfit_from unfit (k + 1) ws)
      (unfit_given (k + 1) ws j w at p (subst (λ (n : ℕ). unfit n ≡ true) (sym (one_behind k j)) u))

  pub found_unfit : (es : List Element) → (read_on unfit nothing_read es).unfit ≡ true → HasUnfitField (λ k. unfit k ≡ true) es
  found_unfit es e =
      let t = unfit_there 0 (fields_of es) (sym (unfit_on nothing_read es) ∙ e) in
      (t.0, t.1, t.2, t.3, subst (λ (n : ℕ). unfit n ≡ true) (zero-add t.0) t.4)

  pub is_unfit : (es : List Element) → HasUnfitField (λ k. unfit k ≡ true) es → (read_on unfit nothing_read es).unfit ≡ true
  is_unfit es (k, w, at, p, u) =
      unfit_on nothing_read es ∙ unfit_given 0 (fields_of es) k w at p (subst (λ (n : ℕ). unfit n ≡ true) (sym (zero-add k)) u)
