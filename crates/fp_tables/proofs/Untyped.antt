-- What a name is bound to.
use Rattle.std.proofs.Common.{◌≡◌, ℕ, List, Option, Some, None, refl}
use Rattle.fp_tables.specs.Acts.{bound_to}
use Rattle.fp_tables.specs.Arguments.{Scope}

-- nothing is bound without a type
pub none_bound : (name : Option (List ℕ)) (scope : Scope) → bound_to name None scope ≡ scope
none_bound None scope = refl
none_bound (Some name) scope = refl
