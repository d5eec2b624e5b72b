-- Ways that lead on.
use Rattle.std.proofs.Common.{ℕ}
use Rattle.fp_graph.specs.Chains.{LeadsThrough, one, more}

pub leads_join : {L : ℕ → ℕ → Type 0} {a b c : ℕ} → LeadsThrough L a b → LeadsThrough L b c → LeadsThrough L a c
leads_join p (one k) = more p k
leads_join p (more q k) = more (leads_join p q) k
