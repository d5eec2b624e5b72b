-- The first over the elements of a list, one after another.
use Rattle.std.proofs.Common.{◌≡◌, ℕ, ◌+◌, ◌<◌, ◌≤◌, ◌⊎◌, List, length, slice_get, Option, Some, None, inl, inr, arith, subst, sym}
use Rattle.std.proofs.lemmas.Option.{slice_get_within}
use Rattle.fp_base.specs.declared.refusal.Refusal.{Refusal}
use Rattle.fp_base.specs.Least.{IsLeast, lesser_of, Either, InFirst, InOne, InSome}
use Rattle.fp_base.proofs.Spots.{below_or_at}
use Rattle.fp_base.proofs.Calculus.{least_along, least_none, least_either, least_same}

-- of no element
pub least_first_none : {A : Type 0} (P : ℕ → A → Refusal → Type 0) (xs : List A) → IsLeast (InFirst 0 P xs) None
least_first_none P xs = least_none (λ f t. absurd (omega arith))

-- of the element k
pub least_in_one : {A : Type 0} (P : ℕ → A → Refusal → Type 0) (xs : List A) (k : ℕ) (x : A) (o : Option Refusal)
    → slice_get xs k ≡ Some x → IsLeast (P k x) o → IsLeast (InOne k P xs) o
least_in_one {A = A} P xs k x o at l = least_same (λ f p. (x, at, p)) (λ f t. let same : t.0 ≡ x = cc in subst (λ (z : A). P k z f) same t.2) l

-- one element more
pub least_first_next : {A : Type 0} (P : ℕ → A → Refusal → Type 0) (xs : List A) (n : ℕ) (a b : Option Refusal)
    → IsLeast (InFirst n P xs) a → IsLeast (InOne n P xs) b → IsLeast (InFirst (n + 1) P xs) (lesser_of a b)
least_first_next P xs n a b l m = least_same to back (least_either a b l m)
  where
    to : (f : Refusal) → Either (InFirst n P xs) (InOne n P xs) f → InFirst (n + 1) P xs f
    to f (inl t) = (t.0, t.1, omega arith, t.3, t.4)
    to f (inr t) = (n, t.0, omega arith, t.1, t.2)

    split : (f : Refusal) (t : InFirst (n + 1) P xs f) → (t.0 < n) ⊎ (t.0 ≡ n) → Either (InFirst n P xs) (InOne n P xs) f
    split f t (inl h) = inl (t.0, t.1, h, t.3, t.4)
    split f t (inr h) = inr (t.1, subst (λ (k : ℕ). slice_get xs k ≡ Some t.1) h t.3, subst (λ (k : ℕ). P k t.1 f) h t.4)

    back : (f : Refusal) → InFirst (n + 1) P xs f → Either (InFirst n P xs) (InOne n P xs) f
    back f t = split f t (below_or_at t.0 n t.2)

-- of all
pub least_first_all : {A : Type 0} (P : ℕ → A → Refusal → Type 0) (xs : List A) (o : Option Refusal)
    → IsLeast (InFirst (length xs) P xs) o → IsLeast (InSome P xs) o
least_first_all P xs o l = least_same (λ f t. (t.0, t.1, t.3, t.4)) (λ f t. (t.0, t.1, slice_get_within xs t.0 t.1 t.2, t.2, t.3)) l

-- of as many as there are
pub least_of_all : {A : Type 0} (P : ℕ → A → Refusal → Type 0) (xs : List A) (k : ℕ) (o : Option Refusal) → length xs ≤ k → IsLeast (InFirst k P xs) o → IsLeast (InSome P xs) o
least_of_all P xs k o past l =
    least_same (λ f t. (t.0, t.1, t.3, t.4)) (λ f t. let low = slice_get_within xs t.0 t.1 t.2 in (t.0, t.1, omega (arith, low, past), t.2, t.3)) l

-- one element more, whose fault is known
pub least_next : {A : Type 0} (P : ℕ → A → Refusal → Type 0) (xs : List A) (k : ℕ) (x : A) (first more fault : Option Refusal) → slice_get xs k ≡ Some x → more ≡ lesser_of first fault
    → IsLeast (P k x) fault → IsLeast (InFirst k P xs) first → IsLeast (InFirst (k + 1) P xs) more
least_next P xs k x first more fault at is here before = least_along (sym is) (least_first_next P xs k first fault before (least_in_one P xs k x fault at here))
