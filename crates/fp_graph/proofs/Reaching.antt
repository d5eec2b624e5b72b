-- Ways along edges.
use Rattle.std.proofs.Common.{◌≡◌, ℕ, ◌⊎◌, List, inl, inr, refl, sym, subst}
use Rattle.fp_graph.specs.declared.stretch.Stretch.{Stretch}
use Rattle.fp_graph.specs.Graph.{Edge}
use Rattle.fp_graph.specs.Chains.{LeadsThrough, one, more}

module _ (stretches : List Stretch) (targets : List ℕ) where
  -- no step, or some
  abbrev pub Reaches : ℕ → ℕ → Type 0
  Reaches v w = (v ≡ w) ⊎ LeadsThrough (Edge stretches targets) v w

  pub leads_on : {u v w : ℕ} → LeadsThrough (Edge stretches targets) u v → LeadsThrough (Edge stretches targets) v w → LeadsThrough (Edge stretches targets) u w
  leads_on a (one e) = more a e
  leads_on a (more b e) = more (leads_on a b) e

  pub reaches_leads : {u v w : ℕ} → Reaches u v → LeadsThrough (Edge stretches targets) v w → LeadsThrough (Edge stretches targets) u w
  reaches_leads {w = w} (inl e) b = subst (λ (x : ℕ). LeadsThrough (Edge stretches targets) x w) (sym e) b
  reaches_leads (inr a) b = leads_on a b

  pub leads_reaches : {u v w : ℕ} → LeadsThrough (Edge stretches targets) u v → Reaches v w → LeadsThrough (Edge stretches targets) u w
  leads_reaches {u = u} a (inl e) = subst (λ (x : ℕ). LeadsThrough (Edge stretches targets) u x) e a
  leads_reaches a (inr b) = leads_on a b

  pub reaches_edge : {u v w : ℕ} → Reaches u v → Edge stretches targets v w → LeadsThrough (Edge stretches targets) u w
  reaches_edge r e = reaches_leads r (one e)

  pub first_edge : {u w : ℕ} → LeadsThrough (Edge stretches targets) u w → (v : ℕ) × Edge stretches targets u v × Reaches v w
  first_edge {w = w} (one e) = (w, e, inl refl)
  first_edge (more {to = w} a e) = let t = first_edge a in (t.0, t.1, inr (reaches_edge t.2 e))

  -- what each edge keeps, a way keeps
  pub kept : (P : ℕ → Type 0) → ((v w : ℕ) → P v → Edge stretches targets v w → P w) → {u w : ℕ} → LeadsThrough (Edge stretches targets) u w → P u → P w
  kept P step (one {from = v} {to = w} e) p = step v w p e
  kept P step (more {between = v} {to = w} a e) p = step v w (kept P step a p) e

  pub kept_or_same : (P : ℕ → Type 0) → ((v w : ℕ) → P v → Edge stretches targets v w → P w) → {u w : ℕ} → Reaches u w → P u → P w
  kept_or_same P step (inl e) p = subst P e p
  kept_or_same P step (inr a) p = kept P step a p
