-- The distances of the tickets out, from the rule's unbounded counts.
use Rattle.std.proofs.Common.{◌≡◌, ℕ, ◌+◌, ◌-◌, ◌*◌, ◌/◌, ◌%◌, ◌^◌, ◌<◌, ◌≤◌, List, get_or, sym, ap, ◌∙◌, arith, Some, Option, true, div-add-mod'}
use Rattle.std.proofs.Math.Nat.{mod-add-mod, mod-mod, add-mul-mod_self_right}
use mathlib.Core.Option.{some}
use native.Mathlib.Decide.{dec_le}
use lib.ListN.{get_elem?}
use Rattle.atomic_table.specs.Table.{State}
use Rattle.atomic_table.proofs.Lists.{one_turn}
use Rattle.fp_gate.specs.declared.booked.Entry.{Entry}
use Rattle.fp_gate.specs.declared.view.View.{View}
use Rattle.fp_gate.specs.Views.{waiting}
use Rattle.fp_gate.specs.Rule.{Ruled}
use Rattle.fp_gate.specs.Words.{ahead, ticket, serving, CountsModulo}
use Rattle.fp_gate.proofs.Views.{waiting-le}

turned_back : (s k : ℕ) → (ahead (s % 2 ^ 64) (k % 2 ^ 64) + s) % 2 ^ 64 ≡ k % 2 ^ 64
turned_back s k =
    let q : ℕ = s / 2 ^ 64 in let r : ℕ = s % 2 ^ 64 in let t : ℕ = k % 2 ^ 64 in let whole : q * 2 ^ 64 + r ≡ s = div-add-mod' s (2 ^ 64) in
    let lines : (t + (2 ^ 64 - r)) + s ≡ t + (q + 1) * 2 ^ 64 = omega arith in
    mod-add-mod (t + (2 ^ 64 - r)) (2 ^ 64) s ∙ (ap (λ (z : ℕ). z % 2 ^ 64) lines ∙ (add-mul-mod_self_right t (q + 1) (2 ^ 64) ∙ mod-mod k (2 ^ 64)))

-- the distance of two numbers less than 2 ^ 64 apart
distance : (s k : ℕ) → s ≤ k → k < s + 2 ^ 64 → ahead (s % 2 ^ 64) (k % 2 ^ 64) ≡ k - s
distance s k le lt = go (dec_le (ahead (s % 2 ^ 64) (k % 2 ^ 64) + s) k)
  where
    a : ℕ
    a = ahead (s % 2 ^ 64) (k % 2 ^ 64)

    small : a < 2 ^ 64
    small = omega arith

    go : Dec (a + s ≤ k) → a ≡ k - s
    go (yes d) = let e : a + s ≡ k = one_turn (a + s) k (2 ^ 64) d (omega arith) (turned_back s k) in omega arith
    go (no d) = let e : k ≡ a + s = one_turn k (a + s) (2 ^ 64) (omega (arith, d)) (omega (arith, small)) (sym (turned_back s k)) in omega arith

module _ {T N I : Type 0} (name : T → N) (history : T → List (Entry I)) (n : N) (s : State (Option T) (View N I)) (r : Ruled name history n s) where
  near : r.drawn < r.served + 2 ^ 64
  near = omega (arith, r.count, waiting-le s.views, r.few)

  is_serving : serving s ≡ r.served % 2 ^ 64
  is_serving = ap (λ (ws : List ℕ). get_or ws 1 0) r.words

  is_ticket : ticket s ≡ r.drawn % 2 ^ 64
  is_ticket = ap (λ (ws : List ℕ). get_or ws 0 0) r.words

  -- the number of views with a ticket is `ticket` minus `serving`
  counted : ahead (serving s) (ticket s) ≡ waiting s.views
  counted = let e : ahead (serving s) (ticket s) ≡ r.drawn - r.served = (λ i. ahead (is_serving i) (is_ticket i)) ∙ distance r.served r.drawn (omega (arith, r.count)) near in omega (arith, r.count, e)

  far : (j k : ℕ) (v : View N I) → get_elem? s.views j ≡ some v → v.ticket ≡ Some k → ahead (serving s) (k % 2 ^ 64) ≡ k - r.served
  far j k v at has = let q = r.out j k v at has in ap (λ (z : ℕ). ahead z (k % 2 ^ 64)) is_serving ∙ distance r.served k q.0 (omega (arith, q.1, near))

  -- the distance of each ticket from `serving` is below that number
  below : (j k : ℕ) (v : View N I) → get_elem? s.views j ≡ some v → v.ticket ≡ Some k → ahead (serving s) (k % 2 ^ 64) < waiting s.views
  below j k v at has = let q = r.out j k v at has in omega (arith, far j k v at has, q.0, q.1, r.count)

  -- and they differ
  differ : (i j k l : ℕ) (v w : View N I) → get_elem? s.views i ≡ some v → get_elem? s.views j ≡ some w → v.ticket ≡ Some k → w.ticket ≡ Some l
      → ahead (serving s) (k % 2 ^ 64) ≡ ahead (serving s) (l % 2 ^ 64) → i ≡ j
  differ i j k l v w at at' has has' same =
      let q = r.out i k v at has in let p = r.out j l w at' has' in let e : k ≡ l = omega (arith, far i k v at has, far j l w at' has', same, q.0, p.0) in
      r.apart i j l v w at at' (has ∙ ap Some e) has'

  served : (j : ℕ) (v : View N I) → get_elem? s.views j ≡ some v → v.in_turn ≡ true → (k : ℕ) × (v.ticket ≡ Some k) × (k % 2 ^ 64 ≡ serving s)
  served j v at on = (r.served, r.turn j v at on, sym is_serving)

pub counts_modulo : {T N I : Type 0} (name : T → N) (history : T → List (Entry I)) → CountsModulo name history
counts_modulo name history n s r = (counted name history n s r, below name history n s r, differ name history n s r, served name history n s r)
