-- The numbers of pending calls rise, however calls are put and taken.
use Rattle.std.proofs.Common.{◌≡◌, ℕ, ℤ, suc, ◌<◌, ◌≤◌, Bool, true, false, cond, ◌==◌, List, [], ◌∷◌, ◌++◌, map, Some, refl, sym, ap, arith, ⊎_elim}
use Rattle.std.proofs.lemmas.Bool.Decides.{nat_tests}
use Rattle.fp_events.specs.Instance.{Pending}
use Rattle.std.specs.Ordering.{int_eq}
use Rattle.std.proofs.lemmas.Bool.{cases_Bool}
use Rattle.fp_base.proofs.Numbers.{number_same}
use Rattle.fp_queue.specs.declared.pending.Pending.{Pending as Queued}
use Rattle.fp_queue.specs.Taking.{first_of, without_first}
use Rattle.fp_events.specs.Queue.{without}
use Rattle.fp_cell.specs.declared.calls.Call.{Call}
use Rattle.fp_cell.specs.Waiting.{AreNumbered, pending_of}

-- from a lower number on
lower : (a b high : ℕ) (ps : List (Queued Call)) → a ≤ b → AreNumbered b high ps → AreNumbered a high ps
lower a b high [] h n = omega (arith, h, n)
lower a b high (p ∷ ps) h n = (omega (arith, h, n.0), n.1, n.2)

pub pushed : (low high : ℕ) (ps : List (Queued Call)) (q : Queued Call) → q.item.number ≡ suc high → q.item.again ≡ q.item.with → AreNumbered low high ps → AreNumbered low (suc high) (ps ++ q ∷ [])
pushed low high [] q e g n = (omega (arith, e, n), g, omega (arith, e))
pushed low high (p ∷ ps) q e g n = (n.0, n.1, pushed p.item.number high ps q e g n.2)

pub left : (k : ℤ) (low high : ℕ) (ps : List (Queued Call)) → AreNumbered low high ps → AreNumbered low high (without_first k ps)
left k low high [] n = n
left k low high (p ∷ ps) n =
    ⊎_elim
    (λ (e : int_eq p.priority k ≡ true). rw e (lower low p.item.number high ps (omega (arith, n.0)) n.2))
    (λ (e : int_eq p.priority k ≡ false). rw e (n.0, n.1, left k p.item.number high ps n.2))
    (cases_Bool (int_eq p.priority k))

-- what is found first of a priority has a higher number, and its values stand twice
pub record IsHere (low : ℕ) (q : Queued Call) : Type 0 where
  pub above : low < q.item.number
  pub twice : q.item.again ≡ q.item.with

pub here : (k : ℤ) (low high : ℕ) (ps : List (Queued Call)) (q : Queued Call) → AreNumbered low high ps → first_of k ps ≡ Some q → IsHere low q
here k low high [] q n e = cc
here k low high (p ∷ ps) q n e = by (λ g. here k p.item.number high ps q n.2 g) (int_eq p.priority k) e
  where
    by : (first_of k ps ≡ Some q → IsHere p.item.number q) → (b : Bool) → cond b (Some p) (first_of k ps) ≡ Some q → IsHere low q
    by later true g = let same : p ≡ q = cc in record { above = rw (sym same) n.0; twice = rw (sym same) n.1 }
    by later false g = let h = later g in record { above = omega (arith, h.above, n.0); twice = h.twice }

apart : (a b : ℕ) → a < b → (a == b) ≡ false
apart a b h = grind (arith, nat_tests)

-- without the number of the first of a priority, the list is without that first
pub without_number : (k : ℤ) (low high : ℕ) (ps : List (Queued Call)) (q : Queued Call) → AreNumbered low high ps → first_of k ps ≡ Some q →
    without q.item.number (map pending_of ps) ≡ map pending_of (without_first k ps)
without_number k low high [] q n e = refl
without_number k low high (p ∷ ps) q n e = by (λ g. without_number k p.item.number high ps q n.2 g) (int_eq p.priority k) e
  where
    by : (first_of k ps ≡ Some q → without q.item.number (map pending_of ps) ≡ map pending_of (without_first k ps)) →
        (b : Bool) → cond b (Some p) (first_of k ps) ≡ Some q →
        without q.item.number (map pending_of (p ∷ ps)) ≡ map pending_of (cond b ps (p ∷ without_first k ps))
    by later true g = let same : p ≡ q = cc in rw (number_same p.item.number q.item.number (ap (λ (r : Queued Call). r.item.number) same)) refl
    by later false g =
        let h = here k p.item.number high ps q n.2 g in
        rw (apart p.item.number q.item.number h.above) (ap (λ (qs : List Pending). pending_of p ∷ qs) (later g))
