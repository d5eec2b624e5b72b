-- The item that the queue takes is the call that comes next.
use Rattle.std.proofs.Common.{◌≡◌, ℤ, Bool, true, false, cond, List, [], ◌∷◌, map, Some, refl, ap, arith}
use Rattle.std.specs.Int.{int_max}
use Rattle.std.specs.Prelude.{int_lt}
use Rattle.std.specs.Ordering.{int_eq}
use Rattle.std.proofs.lemmas.Int.{ints, clamps}
use Rattle.fp_queue.specs.declared.pending.Pending.{Pending as Queued}
use Rattle.fp_queue.specs.Taking.{greatest_priority, first_of}
use Rattle.fp_events.specs.Queue.{next_call}
use Rattle.fp_cell.specs.declared.calls.Call.{Call}
use Rattle.fp_cell.specs.Waiting.{pending_of}

pub record IsNext (ps : List (Queued Call)) (q : Queued Call) : Type 0 where
  pub greatest : greatest_priority ps ≡ Some q.priority
  pub first : first_of q.priority ps ≡ Some q
  pub next : next_call (map pending_of ps) ≡ Some (pending_of q)

own : (a : ℤ) → int_eq a a ≡ true
own a = grind (arith, ints)

lower_first : (a b : ℤ) → int_lt a b ≡ true → int_max a b ≡ b
lower_first a b h = grind (arith, ints, clamps)

lower_apart : (a b : ℤ) → int_lt a b ≡ true → int_eq a b ≡ false
lower_apart a b h = grind (arith, ints)

higher_first : (a b : ℤ) → int_lt a b ≡ false → int_max a b ≡ a
higher_first a b h = grind (arith, ints, clamps)

first_own : (p : Queued Call) (ps : List (Queued Call)) → first_of p.priority (p ∷ ps) ≡ Some p
first_own p ps = rw (own p.priority) refl

one_before : (p q : Queued Call) (ps : List (Queued Call)) → IsNext ps q → (b : Bool) → int_lt p.priority q.priority ≡ b → IsNext (p ∷ ps) (cond b q p)
one_before p q ps h true lower = record {
  greatest = rw h.greatest (ap Some (lower_first p.priority q.priority lower));
  first = rw (lower_apart p.priority q.priority lower) h.first;
  next = rw (h.next, lower) refl;
}
one_before p q ps h false higher = record {
  greatest = rw h.greatest (ap Some (higher_first p.priority q.priority higher));
  first = first_own p ps;
  next = rw (h.next, higher) refl;
}

pub next_of : (p : Queued Call) (ps : List (Queued Call)) → (q : Queued Call) × IsNext (p ∷ ps) q
next_of p [] = (p, record { greatest = refl; first = first_own p []; next = refl })
next_of p (r ∷ ps) = let later = next_of r ps in (cond (int_lt p.priority later.0.priority) later.0 p, one_before p later.0 (r ∷ ps) later.1 (int_lt p.priority later.0.priority) refl)
