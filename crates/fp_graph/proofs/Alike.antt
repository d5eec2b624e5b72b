-- Relations that hold of the same vertices have the same cycles, chains and orders.
use Rattle.std.proofs.Common.{◌≡◌, ℕ, Bool, List, sym, ◌∙◌, arith}
use Rattle.fp_base.proofs.Bools.{flag_same}
use Rattle.fp_graph.specs.Chains.{LeadsThrough, one, more, IsOnCycle, Chain, alone, longer, AreFlags, IsOrder}

module _ (A B : ℕ → ℕ → Type 0) (f : (v w : ℕ) → A v w → B v w) where
  leads_alike : {v w : ℕ} → LeadsThrough A v w → LeadsThrough B v w
  leads_alike (one {from = v} {to = w} a) = one (f v w a)
  leads_alike (more {between = v} {to = w} l a) = more (leads_alike l) (f v w a)

  pub cycle_alike : (v : ℕ) → IsOnCycle A v → IsOnCycle B v
  cycle_alike v l = leads_alike l

module _ (m n : ℕ) (A B : ℕ → ℕ → Type 0) (many : m ≡ n) (f : (v w : ℕ) → A v w → B v w) (g : (v w : ℕ) → B v w → A v w) where
  pub chain_alike : {v k : ℕ} → Chain m A v k → Chain n B v k
  chain_alike (alone {v = v} lt none) = alone (omega arith) (λ c. none (cycle_alike B A g v c))
  chain_alike (longer {v = v} {next = w} none a c) = longer (λ l. none (cycle_alike B A g v l)) (f v w a) (chain_alike c)

module _ (m n : ℕ) (A B : ℕ → ℕ → Type 0) (many : m ≡ n) (f : (v w : ℕ) → A v w → B v w) (g : (v w : ℕ) → B v w → A v w) where
  pub cyclic_alike : (flags : List Bool) → AreFlags m (IsOnCycle A) flags → AreFlags n (IsOnCycle B) flags
  cyclic_alike flags a = record { each = a.each ∙ many; exact = λ v b e. flag_same b (cycle_alike A B f v) (cycle_alike B A g v) (a.exact v b e) }

  pub chains_alike : (k : ℕ) (flags : List Bool) → AreFlags m (λ v. Chain m A v k) flags → AreFlags n (λ v. Chain n B v k) flags
  chains_alike k flags a = record {
    each = a.each ∙ many;
    exact = λ v b e. flag_same b (λ c. chain_alike m n A B many f g c) (λ c. chain_alike n m B A (sym many) g f c) (a.exact v b e);
  }

  pub order_alike : (order : List ℕ) → IsOrder m A order → IsOrder n B order
  order_alike order o = record {
    all = λ v lt. o.all v (omega arith);
    within = λ k v e. let lt = o.within k v e in omega arith;
    once = o.once;
    behind = λ k v w e none b. o.behind k v w e (λ c. none (cycle_alike A B f v c)) (g v w b);
  }
