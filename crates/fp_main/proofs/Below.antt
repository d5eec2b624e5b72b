-- A row to which the texts of the numbers below another were added.
use Rattle.std.proofs.Common.{◌≡◌, List, ℕ, suc, ◌++◌, ap, sym, ◌∙◌}
use Rattle.std.proofs.lemmas.List.{append_assoc}
use Rattle.fp_main.specs.Load.{each_below}

-- the text of one number more
pub one_more : (text : ℕ → List ℕ) (n m : ℕ) (old before now : List ℕ) → m ≡ suc n → before ≡ old ++ each_below text n → now ≡ before ++ text n → now ≡ old ++ each_below text m
one_more text n m old before now e stood added =
    added ∙ ap (λ (t : List ℕ). t ++ text n) stood ∙ append_assoc old (each_below text n) (text n) ∙ ap (λ (k : ℕ). old ++ each_below text k) (sym e)

pub all_below : (text : ℕ → List ℕ) (n m : ℕ) (old now : List ℕ) → n ≡ m → now ≡ old ++ each_below text n → now ≡ old ++ each_below text m
all_below text n m old now e stood = stood ∙ ap (λ (k : ℕ). old ++ each_below text k) e
