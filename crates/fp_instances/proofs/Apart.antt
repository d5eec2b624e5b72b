-- Ranges one behind another are apart in whatever order they stand, and then none of them overlaps an earlier one.
use Rattle.std.proofs.Common.{◌≡◌, ℕ, zero, suc, Bool, true, false, not, ◌&&◌, ◌||◌, ℤ, pos, ◌+ℤ◌, int_lt, List, [], ◌∷◌, length, take, slice_get, Option, Some, None, refl, sym, ap, subst, ◌∙◌, arith}
use Rattle.std.specs.Prelude.{find, option_map}
use Rattle.std.specs.List.{list_any}
use Rattle.std.specs.List.Sorted.{IsPermutation}
use Rattle.std.proofs.lemmas.Int.{ints}
use Rattle.std.proofs.lemmas.List.Sorted.{IsPermutation-sym}
use Rattle.std.proofs.lemmas.Map.Keys.{IsDistinct-IsPermutation}
use Rattle.fp_base.specs.declared.refusal.Refusal.{Refusal}
use Rattle.fp_base.specs.Least.{InFirst, IsLeast}
use Rattle.fp_base.proofs.Bools.{both, join}
use Rattle.fp_base.proofs.Calculus.{least_along, least_none, least_only}
use Rattle.fp_base.proofs.Elements.{least_first_all}
use Rattle.fp_base.proofs.Options.{one_some}
use Rattle.fp_tables.proofs.Differing.{apart-Decides}
use Rattle.fp_tables.specs.Lists.{apart}
use Rattle.fp_instances.specs.Ascending.{begins_behind, rise, rise_behind}
use Rattle.fp_instances.specs.Ranges.{OverlapsEarlier, RangesBroken, ends_before, last_of, overlap, overlapping}
use Rattle.fp_instances.specs.declared.ranges.IdRange.{IdRange}

-- ---- one behind another

through : (a b c : ℤ) (top : ℕ) → int_lt a b ≡ true → int_lt (b +ℤ pos top) c ≡ true → int_lt a c ≡ true
through a b c top h k = grind (arith, ints)

ends_through : (q r s : IdRange) → ends_before q r ≡ true → ends_before r s ≡ true → ends_before q s ≡ true
ends_through q r s h k = through (last_of q) r.base s.base r.top h k

no_overlap : (q r : IdRange) → ends_before q r ≡ true → overlap q r ≡ false
no_overlap q r h = rw h refl

none_behind : (q : IdRange) (rs : List IdRange) → rise_behind (Some q) rs ≡ true → list_any (overlap q) rs ≡ false
none_behind q [] h = refl
none_behind q (r ∷ rs) h =
    let parts = both (ends_before q r) (rise_behind (Some r) rs) h in
    rw (no_overlap q r parts.0) (none_behind q rs (onward q r rs parts.0 parts.1))
  where
    onward : (q r : IdRange) (rs : List IdRange) → ends_before q r ≡ true → rise_behind (Some r) rs ≡ true → rise_behind (Some q) rs ≡ true
    onward q r [] h k = refl
    onward q r (s ∷ rs) h k =
        let parts = both (ends_before r s) (rise_behind (Some s) rs) k in
        join (ends_before q s) (rise_behind (Some s) rs) (ends_through q r s h parts.0) parts.1

behind_apart : (before : Option IdRange) (rs : List IdRange) → rise_behind before rs ≡ true → apart overlap rs ≡ true
behind_apart before [] h = refl
behind_apart before (r ∷ rs) h =
    let parts = both (begins_behind before r) (rise_behind (Some r) rs) h in
    rw (none_behind r rs parts.1) (behind_apart (Some r) rs parts.1)

-- ---- in another order

overlap_alike : (q r : IdRange) → overlap q r ≡ overlap r q
overlap_alike q r = swapped (ends_before q r) (ends_before r q)
  where
    swapped : (a b : Bool) → (not a && not b) ≡ (not b && not a)
    swapped true true = refl
    swapped true false = refl
    swapped false true = refl
    swapped false false = refl

pub risen_apart : (rs sorted : List IdRange) → IsPermutation rs sorted → rise sorted ≡ true → apart overlap rs ≡ true
risen_apart rs sorted moved h =
    let before = apart-Decides overlap rs in
    let after = apart-Decides overlap sorted in
    before.1 (IsDistinct-IsPermutation overlap overlap_alike sorted rs (IsPermutation-sym rs sorted moved) (after.0 (behind_apart None sorted h)))

-- ---- then nothing is found

not_found : (r : IdRange) (rs : List IdRange) (k : ℕ) → apart overlap rs ≡ true → slice_get rs k ≡ Some r → find (λ (p : IdRange). overlap p r) (take k rs) ≡ None
not_found r [] k h at = absurd (cc)
not_found r (q ∷ rs) zero h at = refl
not_found r (q ∷ rs) (suc k) h at =
    let parts = both (not (list_any (overlap q) rs)) (apart overlap rs) h in
    rw (apart_from q r rs k parts.0 at) (not_found r rs k parts.1 at)
  where
    apart_from : (q r : IdRange) (rs : List IdRange) (k : ℕ) → not (list_any (overlap q) rs) ≡ true → slice_get rs k ≡ Some r → overlap q r ≡ false
    apart_from q r [] k h at = absurd (cc)
    apart_from q r (s ∷ rs) zero h at = by (overlap q s) refl
      where
        by : (b : Bool) → overlap q s ≡ b → overlap q r ≡ false
        by true e = absurd (cc)
        by false e = (let same : s ≡ r = cc in subst (λ (x : IdRange). overlap q x ≡ false) same e)
    apart_from q r (s ∷ rs) (suc k) h at = apart_from q r rs k (rest (overlap q s) (list_any (overlap q) rs) h) at
      where
        rest : (a b : Bool) → not (a || b) ≡ true → not b ≡ true
        rest true b h = absurd (cc)
        rest false b h = h

pub apart_unbroken : (rs : List IdRange) → apart overlap rs ≡ true → IsLeast (RangesBroken rs) None
apart_unbroken rs h =
    least_none (λ f b. none (find (λ (p : IdRange). overlap p b.1) (take b.0 rs)) (not_found b.1 rs b.0 h b.2) b.3.0 b.3.1)
  where
    none : (o : Option IdRange) → o ≡ None → (q : IdRange) → o ≡ Some q → ⊥
    none o e q f = absurd (cc)

-- ---- what one overlaps

pub fault_least : (rs : List IdRange) (k : ℕ) (r x : IdRange) (o : Option IdRange) (first : Option Refusal) → slice_get rs k ≡ Some x → slice_get rs k ≡ Some r
    → o ≡ find (λ (q : IdRange). overlap q x) (take k rs) → first ≡ option_map (λ (q : IdRange). overlapping q x) o → IsLeast (OverlapsEarlier rs k r) first
fault_least rs k r x o first here at found made =
    least_along (sym made) (by o (sym found))
  where
    same : x ≡ r
    same = one_some (slice_get rs k) x r here at

    by : (p : Option IdRange) → find (λ (q : IdRange). overlap q x) (take k rs) ≡ p → IsLeast (OverlapsEarlier rs k r) (option_map (λ (q : IdRange). overlapping q x) p)
    by None e = least_none (λ f b. absurd (none_found (find (λ (q : IdRange). overlap q r) (take k rs)) (ap (λ (y : IdRange). find (λ (q : IdRange). overlap q y) (take k rs)) (sym same) ∙ e) b.0 b.1))
      where
        none_found : (z : Option IdRange) → z ≡ None → (q : IdRange) → z ≡ Some q → ⊥
        none_found z e q f = absurd (cc)
    by (Some q) e =
        let there : find (λ (p : IdRange). overlap p r) (take k rs) ≡ Some q = ap (λ (y : IdRange). find (λ (p : IdRange). overlap p y) (take k rs)) (sym same) ∙ e in
        least_only (overlapping q x) (q, there, ap (overlapping q) same) (λ f b. b.2 ∙ ap (λ (p : IdRange). overlapping p r) (one_some (find (λ (p : IdRange). overlap p r) (take k rs)) b.0 q b.1 there) ∙ ap (overlapping q) (sym same))

pub all_ranges : (rs : List IdRange) (k : ℕ) (first : Option Refusal) → k ≡ length rs → IsLeast (InFirst k (OverlapsEarlier rs) rs) first → IsLeast (RangesBroken rs) first
all_ranges rs k first e l = least_first_all (OverlapsEarlier rs) rs first (subst (λ (n : ℕ). IsLeast (InFirst n (OverlapsEarlier rs) rs) first) e l)
