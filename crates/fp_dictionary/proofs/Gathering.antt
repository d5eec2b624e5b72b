-- What is reached, described and in order is what a dictionary describes.
use Rattle.std.proofs.Common.{◌≡◌, ◌∙◌, ℕ, ◌<◌, true, false, List, length, get_or, slice_get, Option, None, Some, refl, sym, ap, subst, arith}
use Rattle.std.specs.Prelude.{IfOk, Result}
use Rattle.std.specs.List.{filter}
use Rattle.std.specs.Ordering.{is_lt}
use Rattle.std.proofs.lemmas.List.Sorted.{IsPermutation-sym, sorted_far}
use Rattle.std.proofs.lemmas.Option.{get_or_from_slice_get}
use Rattle.fp_base.proofs.Lists.{get_within}
use Rattle.fp_base.proofs.Options.{if_ok_then, mapped_some}
use Rattle.fp_tables.specs.Lists.{some_and}
use Rattle.fp_tables.specs.Types.{form_at}
use Rattle.fp_tables.specs.declared.kind.Form.{Form}
use Rattle.fp_tables.specs.declared.kind.Kind.{Kind}
use Rattle.fp_tables.specs.declared.kind.TypeDef.{TypeDef}
use Rattle.fp_tables.specs.declared.model.Model.{Model}
use Rattle.fp_tables.specs.declared.topology.Topology.{Topology}
use Rattle.fp_dictionary.specs.Marks.{describes, no_marks, rounds_read, with_marks}
use Rattle.fp_dictionary.specs.Sorting.{AreByName, type_cmp}
use Rattle.fp_dictionary.specs.Used.{AreUsedTypes, IsDescribed, is_described, kinds_listed}
use Rattle.fp_dictionary.proofs.Filtering.{held_kept, held_moved, kept_held, once_kept, once_moved}
use Rattle.fp_dictionary.proofs.UsedOrdering.{type_ranks}
use Rattle.fp_dictionary.proofs.Reading.{AreReached, all_reached}

form_described : (o : Option Form) → some_and is_described o ≡ true → (f : Form) × (o ≡ Some f) × (is_described f ≡ true)
form_described None h = absurd (cc)
form_described (Some f) h = (f, refl, h)

described_form : (o : Option Form) (f : Form) → o ≡ Some f → is_described f ≡ true → some_and is_described o ≡ true
described_form o f e h = ap (some_and is_described) e ∙ h

form_within : (types : List TypeDef) (k : ℕ) (f : Form) → form_at types k ≡ Some f → k < length types
form_within types k f e = let t = mapped_some (λ (d : TypeDef). d.form) (slice_get types k) f e in get_within types k t.0 t.1

module _ (m : Model) (o : Topology) (reached found ks : List ℕ) where
  pub are_used : AreReached m o reached → found ≡ filter (describes m.types) reached → AreByName m.types found ks → AreUsedTypes m o ks
  are_used all kept moved = record { each = each; all = each_found; once = once; sorted = sorted }
    where
      each : (i k : ℕ) → slice_get ks i ≡ Some k → IsDescribed m o k
      each i k at =
          let before = held_moved ks found i k (IsPermutation-sym found ks moved.permutation) at in
          let there = kept_held (describes m.types) reached k (before.0, subst (λ (xs : List ℕ). slice_get xs before.0 ≡ Some k) kept before.1) in
          let form = form_described (form_at m.types k) there.0 in
          (all.each there.1.0 k there.1.1, form.0, form.1, form.2)

      each_found : (k : ℕ) → IsDescribed m o k → (i : ℕ) × (slice_get ks i ≡ Some k)
      each_found k h =
          let there = all.all k h.0 (form_within m.types k h.1 h.2) in
          let left = held_kept (describes m.types) reached k there.0 there.1 (described_form (form_at m.types k) h.1 h.2 h.3) in
          held_moved found ks left.0 k moved.permutation (subst (λ (xs : List ℕ). slice_get xs left.0 ≡ Some k) (sym kept) left.1)

      once : (i j k : ℕ) → slice_get ks i ≡ Some k → slice_get ks j ≡ Some k → i ≡ j
      once = once_moved found ks moved.permutation (subst (λ (xs : List ℕ). (i j k : ℕ) → slice_get xs i ≡ Some k → slice_get xs j ≡ Some k → i ≡ j) (sym kept) (once_kept (describes m.types) reached all.once))

      sorted : (i j k l : ℕ) → i < j → slice_get ks i ≡ Some k → slice_get ks j ≡ Some l → is_lt (type_cmp m.types l k) ≡ false
      sorted i j k l lt at also =
          let far = sorted_far (λ (a b : ℕ). is_lt (type_cmp m.types a b)) (type_ranks m.types) ks moved.sorted i j k (omega arith) (get_within ks j l also) in
          ap (λ (x : ℕ). is_lt (type_cmp m.types x k)) (sym (get_or_from_slice_get ks j l k also)) ∙ ap (λ (x : ℕ). is_lt (type_cmp m.types (get_or ks j k) x)) (sym (get_or_from_slice_get ks i k k at)) ∙ far

-- ---- from what the calls give

module _ (m : Model) (o : Topology) where
  pub steps_used : {E : Type 0} (types : List TypeDef) (kinds listed : List Kind) (positions left found : List ℕ) (r : Result (List ℕ) E) → types ≡ m.types → kinds ≡ listed
      → listed ≡ kinds_listed m o → positions ≡ (rounds_read types (with_marks (no_marks (length types)) kinds) (length types)).order → left ≡ positions
      → found ≡ filter (describes types) left → IfOk r (AreByName types found) → IfOk r (AreUsedTypes m o)
  steps_used types kinds listed positions left found r t k l p s f named =
      if_ok_then r _ _ (λ ks h. are_used m o positions found ks reached kept (subst (λ (ts : List TypeDef). AreByName ts found ks) t h)) named
    where
      by : List TypeDef → List Kind → List ℕ
      by ts ks = (rounds_read ts (with_marks (no_marks (length ts)) ks) (length ts)).order

      reached : AreReached m o positions
      reached = subst (AreReached m o) (sym (p ∙ ap (λ (ts : List TypeDef). by ts kinds) t ∙ ap (by m.types) (k ∙ l))) (all_reached m o)

      kept : found ≡ filter (describes m.types) positions
      kept = f ∙ ap (λ (ts : List TypeDef). filter (describes ts) left) t ∙ ap (filter (describes m.types)) s
