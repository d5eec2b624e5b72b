-- What comparisons say, of numbers and by a closure.
use Rattle.std.proofs.Common.{◌≡◌, ℕ, Bool, true, ◌&&◌, ◌==◌, Ordering, Less, Equal, Greater, nat_cmp, is_eq, refl, ap, arith}
use Rattle.std.specs.Ordering.{is_lt, ordering_then}
use Rattle.std.specs.Fn.{Called, ComparesAs}
use Rattle.std.proofs.lemmas.Bool.Decides.{nat_tests}
use Rattle.std.proofs.lemmas.Fn.{always_returns_same}
use denote.Param.Members.{Mut}
use denote.Ref.{Bor}

pub both_equal : (o p : Ordering) → is_eq (ordering_then o p) ≡ (is_eq o && is_eq p)
both_equal Less p = refl
both_equal Equal p = refl
both_equal Greater p = refl

pub numbers_tie : (m n : ℕ) → is_eq (nat_cmp m n) ≡ (n == m)
numbers_tie m n = grind (arith, nat_tests)

pub numbers_equal : (m n : ℕ) → is_eq (nat_cmp m n) ≡ true → m ≡ n
numbers_equal m n h = grind (arith, nat_tests)

-- a closure that compares and stays as it was
pub compares : {X F : Type 0} {g : Mut F (Bor X × (Bor X × Unit {0})) Ordering} {f : F} (cmp : X → X → Ordering)
    → ((a : Bor X × (Bor X × Unit {0})) (r : Ordering) (h : F) → Called g f a r h → (r ≡ cmp a.0.now a.1.0.now) × (h ≡ f)) → ComparesAs g (λ x y. is_lt (cmp x y)) f
compares {g = g} {f = f} cmp each =
    always_returns_same g (λ a r. is_lt r ≡ is_lt (cmp a.0.now a.1.0.now)) f (λ a r h k. let t = each a r h k in (ap is_lt t.0, t.1))
