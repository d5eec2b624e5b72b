-- Lemmas on arguments.
use Rattle.std.proofs.Common.{◌≡◌, suc, Bool, true, false, ◌&&◌, List, [], ◌∷◌, length, refl, ap}
use Rattle.fp_tables.specs.Arguments.{Scope, kinds_of, argument_suits, arguments_suit}
use Rattle.fp_tables.specs.declared.kind.Formal.{Formal}
use Rattle.fp_tables.specs.declared.kind.TypeDef.{TypeDef}
use Rattle.fp_tables.specs.declared.program.Arg.{Arg}

pub unlike_counts : (types : List TypeDef) (scope : Scope) (fs : List Formal) (xs : List Arg) → (length fs ≡ length xs → ⊥) → false ≡ arguments_suit types scope (kinds_of fs) xs
unlike_counts types scope [] [] h = absurd (h refl)
unlike_counts types scope [] (x ∷ xs) h = refl
unlike_counts types scope (f ∷ fs) [] h = refl
unlike_counts types scope (f ∷ fs) (x ∷ xs) h = go (argument_suits types scope f.kind x) (unlike_counts types scope fs xs (λ e. h (ap suc e)))
  where
    go : (b : Bool) → false ≡ arguments_suit types scope (kinds_of fs) xs → false ≡ (b && arguments_suit types scope (kinds_of fs) xs)
    go true e = e
    go false e = refl
