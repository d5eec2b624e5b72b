-- The last of some names.
use Rattle.std.proofs.Common.{◌≡◌, ℕ, zero, suc, List, [], ◌∷◌, drop, slice_get, Option, Some, None, ap, refl}
use Rattle.fp_base.proofs.Options.{same_some}
use Rattle.fp_tree.specs.declared.name.Name.{Name}
use Rattle.fp_topology_forms.specs.Written.{first_text}

none_there : {A C : Type 0} {x : A} → ◌≡◌ {A = Option A} None (Some x) → C
none_there e = absurd (cc)

some_there : {A C : Type 0} {x : A} → ◌≡◌ {A = Option A} (Some x) None → C
some_there e = absurd (cc)

pub text_there : (ns : List Name) (k : ℕ) (n : Name) → slice_get ns k ≡ Some n → first_text (drop k ns) ≡ n.text
text_there [] k n at = none_there at
text_there (m ∷ ns) zero n at = ap (λ (x : Name). x.text) (same_some at)
text_there (m ∷ ns) (suc k) n at = text_there ns k n at

pub no_text : (ns : List Name) (k : ℕ) → slice_get ns k ≡ None → first_text (drop k ns) ≡ []
no_text [] zero at = refl
no_text [] (suc k) at = refl
no_text (m ∷ ns) zero at = some_there at
no_text (m ∷ ns) (suc k) at = no_text ns k at
