-- What is found of a format by what was read of it is the least rule that it breaks.
use Rattle.std.proofs.Common.{◌≡◌, ℕ, Bool, true, false, cond, not, ◌&&◌, ◌||◌, ◌==◌, ◌⊎◌, inl, inr, List, length, Option, Some, None, refl, sym, ◌∙◌, ap}
use Rattle.std.specs.List.{list_any}
use Rattle.fp_base.proofs.Bools.{both, join, not_true, or_cases, or_left, or_right, not_both}
use Rattle.fp_base.proofs.Calculus.{least_either, least_if, least_same}
use Rattle.fp_base.proofs.Numbers.{same_number}
use Rattle.fp_base.specs.declared.place.Place.{Place}
use Rattle.fp_base.specs.declared.refusal.Refusal.{Refusal}
use Rattle.fp_base.specs.declared.rule.Rule.TheVariants.{FieldCount, FieldKind, LoneBrace}
use Rattle.fp_base.specs.Least.{broken_at, IsLeast, lesser_of}
use Rattle.fp_type_formats.specs.declared.reading.Reading.{Reading}
use Rattle.fp_type_formats.specs.Broken.{BrokenByFields, HasBadField, HasLoneBrace, IsMiscounted}
use Rattle.fp_type_formats.specs.Elements.{Element, IsReading, HasUnfitField, fields_of, is_lone, is_malformed, is_other}
use Rattle.fp_type_formats.specs.Sorted.{IsReadAs, fault_found, nothing_read}
use Rattle.fp_type_formats.proofs.Counted.{as_many, found_unfit, is_unfit, lone_on, other_on}
use Rattle.fp_type_formats.proofs.Existing.{other_number}

-- what each field prints is read off as one likes
pub least_of_fields : (text : List ℕ) (place : Place) (values : ℕ) (U V : ℕ → Type 0) {o : Option Refusal} → ((k : ℕ) → U k → V k) → ((k : ℕ) → V k → U k)
    → IsLeast (BrokenByFields text place values U) o → IsLeast (BrokenByFields text place values V) o
least_of_fields text place values U V to back l = least_same (over U V to) (over V U back) l
  where
    over : (P Q : ℕ → Type 0) → ((k : ℕ) → P k → Q k) → (f : Refusal) → BrokenByFields text place values P f → BrokenByFields text place values Q f
    over P Q by f (inl b) = inl b
    over P Q by f (inr (inl (same, (es, read, inl b)))) = inr (inl (same, (es, read, inl b)))
    over P Q by f (inr (inl (same, (es, read, inr (k, w, at, p, u))))) = inr (inl (same, (es, read, inr (k, w, at, p, by k u))))
    over P Q by f (inr (inr b)) = inr (inr b)

module _ (unfit : ℕ → Bool) (text : List ℕ) (r : Reading) (h : IsReadAs unfit text r) (values : ℕ) (place : Place) where
  others : (es : List Element) → IsReading es text → r.other ≡ list_any is_other es
  others es k = ap (λ (x : Reading). x.other) (h.exact es k) ∙ other_on unfit nothing_read es

  lones : (es : List Element) → IsReading es text → r.lone ≡ list_any is_lone es
  lones es k = ap (λ (x : Reading). x.lone) (h.exact es k) ∙ lone_on unfit nothing_read es

  fields : (es : List Element) → IsReading es text → r.fields ≡ length (fields_of es)
  fields es k = ap (λ (x : Reading). x.fields) (h.exact es k) ∙ as_many unfit es

  malformed : (es : List Element) → IsReading es text → (r.other || r.lone) ≡ is_malformed es
  malformed es k = ap (λ (b : Bool). b || r.lone) (others es k) ∙ ap (λ (b : Bool). list_any is_other es || b) (lones es k)

  not_is : (b : Bool) → b ≡ false → not b ≡ true
  not_is b e = ap not e

  not_as_many : (es : List Element) → IsReading es text → (length (fields_of es) ≡ values → ⊥) → (b : Bool) → (r.fields == values) ≡ b → (r.fields == values) ≡ false
  not_as_many es k none true e = absurd (none (sym (fields es k) ∙ same_number r.fields values e))
  not_as_many es k none false e = e

  least_count : IsLeast (IsMiscounted text place values) (cond (not (r.other || r.lone) && not (r.fields == values)) (Some (broken_at FieldCount place)) None)
  least_count = least_if (not (r.other || r.lone) && not (r.fields == values)) (broken_at FieldCount place)
      (λ e. let t = both (not (r.other || r.lone)) (not (r.fields == values)) e in (
        h.elements,
        h.reading,
        sym (malformed h.elements h.reading) ∙ not_true (r.other || r.lone) t.0,
        λ is. other_number r.fields values (not_true (r.fields == values) t.1) (fields h.elements h.reading ∙ is),
      ))
      (λ e q. not_both (join (not (r.other || r.lone)) (not (r.fields == values)) (not_is (r.other || r.lone) (malformed q.0 q.1 ∙ q.2))
      (not_is (r.fields == values) (not_as_many q.0 q.1 q.3 (r.fields == values) refl))) e)

  least_lone : IsLeast (HasLoneBrace text place) (cond r.lone (Some (broken_at LoneBrace place)) None)
  least_lone = least_if r.lone (broken_at LoneBrace place)
      (λ e. (h.elements, h.reading, sym (lones h.elements h.reading) ∙ e))
      (λ e q. not_both (lones q.0 q.1 ∙ q.2) e)

  found_bad : (es : List Element) → IsReading es text → (r.other || r.unfit) ≡ true → (list_any is_other es ≡ true) ⊎ HasUnfitField (λ k. unfit k ≡ true) es
  found_bad es k e =
      let go : (r.other ≡ true) ⊎ (r.unfit ≡ true) → (list_any is_other es ≡ true) ⊎ HasUnfitField (λ k. unfit k ≡ true) es = elim [
        | inl a ↦ inl (sym (others es k) ∙ a)
        | inr b ↦ inr (found_unfit unfit es (sym (ap (λ (x : Reading). x.unfit) (h.exact es k)) ∙ b))
      ] in
      go (or_cases r.other r.unfit e)

  is_bad : (es : List Element) → IsReading es text → (list_any is_other es ≡ true) ⊎ HasUnfitField (λ k. unfit k ≡ true) es → (r.other || r.unfit) ≡ true
  is_bad es k = elim [
    | inl a ↦ or_left r.other r.unfit (others es k ∙ a)
    | inr b ↦ or_right r.other r.unfit (ap (λ (x : Reading). x.unfit) (h.exact es k) ∙ is_unfit unfit es b)
  ]

  least_bad : IsLeast (HasBadField text place (λ k. unfit k ≡ true)) (cond (r.other || r.unfit) (Some (broken_at FieldKind place)) None)
  least_bad = least_if (r.other || r.unfit) (broken_at FieldKind place)
      (λ e. (h.elements, h.reading, found_bad h.elements h.reading e))
      (λ e q. not_both (is_bad q.0 q.1 q.2) e)

  pub least_found : IsLeast (BrokenByFields text place values (λ k. unfit k ≡ true)) (fault_found r values place)
  least_found =
      least_either (cond (not (r.other || r.lone) && not (r.fields == values)) (Some (broken_at FieldCount place)) None)
      (lesser_of (cond (r.other || r.unfit) (Some (broken_at FieldKind place)) None) (cond r.lone (Some (broken_at LoneBrace place)) None))
      least_count
      (least_either (cond (r.other || r.unfit) (Some (broken_at FieldKind place)) None) (cond r.lone (Some (broken_at LoneBrace place)) None) least_bad least_lone)
