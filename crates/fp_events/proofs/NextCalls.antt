-- The next call is the earliest of the greatest priority.
use Rattle.std.proofs.Common.{◌≡◌, Bool, true, false, cond, ℤ, pos, negsuc, int_lt, Option, Some, None, List, [], ◌∷◌, ◌++◌, refl, sym, ap, subst, arith}
use Rattle.std.specs.List.{AllByRecursion}
use Rattle.std.proofs.lemmas.Bool.Decides.{nat_tests}
use Rattle.fp_base.proofs.Options.{same_some}
use Rattle.fp_events.specs.Instance.{Pending}
use Rattle.fp_events.specs.Queue.{greater, next_call}
use Rattle.fp_events.specs.QueueOrder.{IsNext}

-- not above one that is above
not_over : (h q x : ℤ) → int_lt x q ≡ true → int_lt h q ≡ false → int_lt h x ≡ false
not_over (pos h) (pos q) (pos x) a b = grind (arith, nat_tests)
not_over (pos h) (pos q) (negsuc x) a b = grind (arith, nat_tests)
not_over (pos h) (negsuc q) (pos x) a b = grind (arith, nat_tests)
not_over (pos h) (negsuc q) (negsuc x) a b = grind (arith, nat_tests)
not_over (negsuc h) (pos q) (pos x) a b = grind (arith, nat_tests)
not_over (negsuc h) (pos q) (negsuc x) a b = grind (arith, nat_tests)
not_over (negsuc h) (negsuc q) (pos x) a b = grind (arith, nat_tests)
not_over (negsuc h) (negsuc q) (negsuc x) a b = grind (arith, nat_tests)

not_below : (h q x : ℤ) → int_lt q x ≡ false → int_lt h q ≡ false → int_lt h x ≡ false
not_below (pos h) (pos q) (pos x) a b = grind (arith, nat_tests)
not_below (pos h) (pos q) (negsuc x) a b = grind (arith, nat_tests)
not_below (pos h) (negsuc q) (pos x) a b = grind (arith, nat_tests)
not_below (pos h) (negsuc q) (negsuc x) a b = grind (arith, nat_tests)
not_below (negsuc h) (pos q) (pos x) a b = grind (arith, nat_tests)
not_below (negsuc h) (pos q) (negsuc x) a b = grind (arith, nat_tests)
not_below (negsuc h) (negsuc q) (pos x) a b = grind (arith, nat_tests)
not_below (negsuc h) (negsuc q) (negsuc x) a b = grind (arith, nat_tests)

all_over : (h q : ℤ) (xs : List Pending) → AllByRecursion (λ x. int_lt x.priority q ≡ true) xs → int_lt h q ≡ false → AllByRecursion (λ x. int_lt h x.priority ≡ false) xs
all_over h q [] a b = tt
all_over h q (x ∷ xs) a b = (not_over h q x.priority a.0 b, all_over h q xs a.1 b)

all_below : (h q : ℤ) (xs : List Pending) → AllByRecursion (λ x. int_lt q x.priority ≡ false) xs → int_lt h q ≡ false → AllByRecursion (λ x. int_lt h x.priority ≡ false) xs
all_below h q [] a b = tt
all_below h q (x ∷ xs) a b = (not_below h q x.priority a.0 b, all_below h q xs a.1 b)

all_join : (P : Pending → Type 0) (xs : List Pending) (q : Pending) (ys : List Pending) → AllByRecursion P xs → P q → AllByRecursion P ys → AllByRecursion P (xs ++ q ∷ ys)
all_join P [] q ys a b c = (b, c)
all_join P (x ∷ xs) q ys a b c = (a.0, all_join P xs q ys a.1 b c)

pub next_is : (ps : List Pending) (p : Pending) → next_call ps ≡ Some p → IsNext ps p
next_is [] p h = absurd (cc)
next_is (h ∷ ps) p e = go (next_call ps) refl (λ q f. next_is ps q f) e
  where
    by_test : (q : Pending) → IsNext ps q → (b : Bool) → int_lt h.priority q.priority ≡ b → Some (cond b q h) ≡ Some p → IsNext (h ∷ ps) p
    by_test q is true less f = subst (IsNext (h ∷ ps)) (same_some f) (h ∷ is.0, is.1, ap (λ l. h ∷ l) is.2, (less, is.3), is.4)
    by_test q is false less f =
        subst (IsNext (h ∷ ps)) (same_some f) (
          [],
          ps,
          refl,
          tt,
          subst (AllByRecursion (λ x. int_lt h.priority x.priority ≡ false)) (sym is.2) (all_join (λ x. int_lt h.priority x.priority ≡ false) is.0 q is.1 (all_over h.priority q.priority is.0 is.3 less) less (all_below h.priority q.priority is.1 is.4 less)),
        )

    none_left : (qs : List Pending) → next_call qs ≡ None → qs ≡ []
    none_left [] f = refl
    none_left (x ∷ xs) f = absurd (cc)

    alone : (qs : List Pending) → qs ≡ [] → IsNext (h ∷ qs) h
    alone qs f = ([], [], ap (λ l. h ∷ l) f, tt, tt)

    go : (o : Option Pending) → next_call ps ≡ o → ((q : Pending) → o ≡ Some q → IsNext ps q) → Some (greater h o) ≡ Some p → IsNext (h ∷ ps) p
    go None is again f = subst (IsNext (h ∷ ps)) (same_some f) (alone ps (none_left ps is))
    go (Some q) is again f = by_test q (again q refl) (int_lt h.priority q.priority) refl f
