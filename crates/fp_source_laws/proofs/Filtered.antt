-- What holds of each item that a list is made of holds of those that are found in it, and of those that are left of it.
use Rattle.std.proofs.Common.{Bool, true, false, List, [], ◌∷◌, Option, Some, None}
use Rattle.std.specs.Prelude.{cond, filter}
use Rattle.std.specs.List.{AllByRecursion as Each, cons_option, filter_map}
use Rattle.fp_base.proofs.Lists.{InOption}

module _ {A : Type 0} (P : A → Type 0) where
  with_found : (o : Option A) (xs : List A) → InOption P o → Each P xs → Each P (cons_option o xs)
  with_found None xs h k = k
  with_found (Some x) xs h k = (h, k)

  pub each_found : {B : Type 0} (f : B → Option A) (ys : List B) → Each (λ y. InOption P (f y)) ys → Each P (filter_map f ys)
  each_found f [] h = tt
  each_found f (y ∷ ys) h = with_found (f y) (filter_map f ys) h.0 (each_found f ys h.1)

  pub either : (test : Bool) (xs ys : List A) → Each P xs → Each P ys → Each P (cond test xs ys)
  either true xs ys h k = h
  either false xs ys h k = k

  pub each_left : (test : A → Bool) (xs : List A) → Each P xs → Each P (filter test xs)
  each_left test [] h = tt
  each_left test (x ∷ xs) h = either (test x) (x ∷ filter test xs) (filter test xs) (h.0, each_left test xs h.1) (each_left test xs h.1)
