-- What is there and passes a test.
use Rattle.std.proofs.Common.{◌≡◌, ◌∙◌, Bool, true, Option, Some, None, refl, ap}
use Rattle.fp_tables.specs.Lists.{some_and}

pub some_and_of : {X : Type 0} (p : X → Bool) (o : Option X) → some_and p o ≡ true → (x : X) × (o ≡ Some x) × (p x ≡ true)
some_and_of p None h = absurd (cc)
some_and_of p (Some x) h = (x, refl, h)

pub some_and_at : {X : Type 0} (p : X → Bool) (o : Option X) (x : X) → o ≡ Some x → p x ≡ true → some_and p o ≡ true
some_and_at p o x e h = ap (some_and p) e ∙ h
