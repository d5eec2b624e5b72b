-- The last action of a list.
use Rattle.std.proofs.Common.{◌≡◌, ℕ, zero, suc, ◌-◌, List, [], ◌∷◌, length, slice_get, Some, ap, arith}
use Rattle.fp_base.proofs.Options.{same_some}
use Rattle.fp_scenario.specs.declared.scenario.ActText.{ActText}
use Rattle.fp_scenario_actions.specs.Listing.{is_return, ends_in_return}

pub last_is : (texts : List ActText) (n : ℕ) (x : ActText) → n ≡ length texts - 1 → Some x ≡ slice_get texts n → is_return x.key ≡ ends_in_return texts
last_is [] n x e f = absurd (cc)
last_is (a ∷ []) zero x e f = ap (λ (y : ActText). is_return y.key) (same_some f)
last_is (a ∷ []) (suc n) x e f = absurd (cc)
last_is (a ∷ b ∷ rest) zero x e f = absurd (omega arith)
last_is (a ∷ b ∷ rest) (suc n) x e f = last_is (b ∷ rest) n x (omega arith) f
