-- The members of an object, found by their keys.
use Rattle.std.proofs.Common.{◌≡◌, ℕ, List, [], ◌∷◌, ◌++◌, Some, Less, string_bytes, string_cmp, nat_cmp, is_eq, Bool, true, false, bytes_eq, true≢false, refl, sym, ap, ◌∙◌}
use Rattle.std.proofs.lemmas.Cmp.{nat_list_cmp_total, tied_itself}
use Rattle.std.proofs.lemmas.Slice.Eq.{bytes_eq-Decides}
use Rattle.std.specs.Cmp.Lexicographic.{slice_cmp}
use Rattle.std.specs.List.{AllByRecursion}
use Rattle.std.specs.List.Sorted.{IsStrictlySortedBy}
use Rattle.std.specs.Map.{keys_of}
use Rattle.std.proofs.lemmas.Option.{none-some}
use Rattle.serde_json.specs.Data.{Data}
use Rattle.serde_json.specs.Find.{get_member}
use Rattle.serde_json.specs.View.{view, members_view}
use Rattle.serde_json.proofs.Views.{Entry, member_here, member_later}
use Rattle.fp_base.proofs.Options.{same_some}

less_of_same : (xs ys : List ℕ) → slice_cmp nat_cmp xs ys ≡ Less → ys ≡ xs → ⊥
less_of_same xs ys less same = true≢false (ap is_eq (sym (tied_itself nat_list_cmp_total xs) ∙ ap (slice_cmp nat_cmp xs) (sym same) ∙ less))

below_middle : (first : Entry) (es : List Entry) (e : Entry) (more : List Entry) → AllByRecursion (λ y. string_cmp first.0 y ≡ Less) (keys_of (es ++ e ∷ more)) → string_cmp first.0 e.0 ≡ Less
below_middle first [] e more h = h.0
below_middle first (x ∷ es) e more h = below_middle first es e more h.1

-- no two members have one key, so each is found
pub member_found : (done : List Entry) (e : Entry) (more : List Entry) → IsStrictlySortedBy string_cmp (keys_of (done ++ e ∷ more))
    → get_member (string_bytes e.0) (members_view (done ++ e ∷ more)) ≡ Some (view e.1)
unfolding IsStrictlySortedBy
member_found [] e more h = member_here (string_bytes e.0) e more refl
member_found (first ∷ done) e more h = member_later (string_bytes e.0) first (done ++ e ∷ more) (less_of_same (string_bytes first.0) (string_bytes e.0) (below_middle first done e more h.0)) ∙ member_found done e more h.1

-- what is found is a member
pub found_is_member : (P : Entry → Type 0) (k : List ℕ) (es : List Entry) (x : Data) → AllByRecursion P es → get_member k (members_view es) ≡ Some x → (e : Entry) × (k ≡ string_bytes e.0) × (view e.1 ≡ x) × P e
found_is_member P k [] x all is = absurd (none-some _ is)
found_is_member P k (e ∷ es) x all is = by_case (bytes_eq k (string_bytes e.0)) refl (found_is_member P k es x all.1) where
  by_case : (b : Bool) → bytes_eq k (string_bytes e.0) ≡ b → (get_member k (members_view es) ≡ Some x → (e' : Entry) × (k ≡ string_bytes e'.0) × (view e'.1 ≡ x) × P e') → (e' : Entry) × (k ≡ string_bytes e'.0) × (view e'.1 ≡ x) × P e'
  by_case true same later =
      let here : k ≡ string_bytes e.0 = (bytes_eq-Decides k (string_bytes e.0)).0 same in
      (e, here, same_some (sym (member_here k e es here) ∙ is), all.0)
  by_case false other later = later (sym (member_later k e es (λ here. true≢false (sym ((bytes_eq-Decides k (string_bytes e.0)).1 here) ∙ other))) ∙ is)

pub all_more : (P : Entry → Type 0) (es : List Entry) (e : Entry) → AllByRecursion P es → P e → AllByRecursion P (es ++ e ∷ [])
all_more P [] e all last = (last, tt)
all_more P (x ∷ es) e all last = (all.0, all_more P es e all.1 last)
