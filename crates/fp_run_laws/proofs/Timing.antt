-- One entry more at the end: in a trace it stands with the last stamp before it, and a history stays timed.
use Rattle.std.proofs.Common.{◌≡◌, ℕ, suc, max, List, [], ◌∷◌, ◌++◌, map, refl, ap}
use Rattle.fp_events.specs.SystemRun.{with_before, IsTimed, last_or}

module _ {E : Type 0} (stamp : E → ℕ) where
  pub with_before-push : (n : ℕ) (es : List E) (e : E) → with_before stamp n (es ++ e ∷ []) ≡ with_before stamp n es ++ (e, last_or stamp n es) ∷ []
  with_before-push n [] e = refl
  with_before-push n (x ∷ es) e = ap (λ l. (x, n) ∷ l) (with_before-push (stamp x) es e)

  pub timed-push : (n : ℕ) (ps : List (E × ℕ)) (e : E) (seen : ℕ) → IsTimed stamp n ps
      → stamp e ≡ suc (max (last_or stamp n (map (λ (p : E × ℕ). p.0) ps)) seen) → IsTimed stamp n (ps ++ (e, seen) ∷ [])
  timed-push n [] e seen timed is = (is, tt)
  timed-push n (p ∷ ps) e seen timed is = (timed.0, timed-push (stamp p.0) ps e seen timed.1 is)
