-- Whether a test holds of an item of a list with one item more.
use Rattle.std.proofs.Common.{◌≡◌, Bool, ◌||◌, List, [], ◌∷◌, ◌++◌, sym, ap, ap₂, ◌∙◌}
use Rattle.std.specs.List.{list_any}
use Rattle.std.proofs.lemmas.List.Folds.{list_any-append}
use Rattle.std.proofs.Math.Bool.{or-false}

pub any_more : {A : Type 0} (p : A → Bool) (xs ys : List A) (x : A) (a b : Bool) → a ≡ list_any p xs → b ≡ p x → ys ≡ xs ++ x ∷ [] → (a || b) ≡ list_any p ys
any_more p xs ys x a b so_far here is =
    ap₂ (λ (u v : Bool). u || v) so_far (here ∙ sym (or-false (p x))) ∙ sym (ap (list_any p) is ∙ list_any-append p xs (x ∷ []))
