-- The least over the elements of a list, one after another.
use Rattle.std.proofs.Common.{◌≡◌, ℕ, ◌+◌, ◌≤◌, List, [], ◌∷◌, length, slice_get, Option, Some, None, refl, sym, arith}
use Rattle.std.proofs.lemmas.Option.{slice_get_within}
use Rattle.fp_base.specs.declared.refusal.Refusal.{Refusal}
use Rattle.fp_base.specs.Least.{InFirst, InSome, IsLeast, lesser_of}
use Rattle.fp_base.proofs.Calculus.{least_along, least_same}
use Rattle.fp_base.proofs.Elements.{least_first_next, least_first_none, least_in_one}

module _ {A : Type 0} (P : A → Refusal → Type 0) (xs : List A) where
  abbrev pub LeastFirst : ℕ → Option Refusal → Type 0
  LeastFirst k first = IsLeast (InFirst k (λ n. P) xs) first

  pub least_start : LeastFirst 0 None
  least_start = least_first_none (λ n. P) xs

  pub least_next : (k : ℕ) (x : A) (first more fault : Option Refusal) → slice_get xs k ≡ Some x → more ≡ lesser_of first fault
      → IsLeast (P x) fault → LeastFirst k first → LeastFirst (k + 1) more
  least_next k x first more fault at is here before =
      least_along (sym is) (least_first_next (λ n. P) xs k first fault before (least_in_one (λ n. P) xs k x fault at here))

  pub least_of_all : (k : ℕ) (first : Option Refusal) → length xs ≤ k → LeastFirst k first → IsLeast (InSome (λ n. P) xs) first
  least_of_all k first past l =
      least_same (λ f t. (t.0, t.1, t.3, t.4)) (λ f t. (t.0, t.1, (let low = slice_get_within xs t.0 t.1 t.2 in omega arith), t.2, t.3)) l

-- of one, and of two
module _ {A : Type 0} (P : A → Refusal → Type 0) where
  pub least_of_one : (x : A) (o : Option Refusal) → IsLeast (P x) o → IsLeast (InSome (λ n. P) (x ∷ [])) o
  least_of_one x o l =
      let long : length (x ∷ []) ≡ 1 = refl in
      least_of_all P (x ∷ []) 1 o (omega arith) (least_next P (x ∷ []) 0 x None o o refl refl l (least_start P (x ∷ [])))

  pub least_of_two : (x y : A) (one other o : Option Refusal) → o ≡ lesser_of one other → IsLeast (P x) one → IsLeast (P y) other
      → IsLeast (InSome (λ n. P) (x ∷ y ∷ [])) o
  least_of_two x y one other o is l m =
      let xs : List A = x ∷ y ∷ [] in
      let long : length xs ≡ 2 = refl in
      least_of_all P xs 2 o (omega arith) (least_next P xs 1 y one o other refl is m (least_next P xs 0 x None one one refl refl l (least_start P xs)))
