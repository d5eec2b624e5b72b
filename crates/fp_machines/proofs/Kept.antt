-- What a list gives item by item, with one item more.
use Rattle.std.proofs.Common.{◌≡◌, ℕ, ◌+◌, ◌<◌, List, [], ◌∷◌, ◌++◌, length, take, get_or, Option, Some, None, refl, sym, ap, subst, ◌∙◌}
use Rattle.std.specs.List.{filter_map, cons_option}
use Rattle.std.proofs.lemmas.List.Elements.{filter_map-append}
use Rattle.std.specs.Option.{option_to_list}
use Rattle.fp_base.proofs.Lists.{taken_next}

one_kept : {A : Type 0} (o : Option A) → cons_option o [] ≡ option_to_list o
one_kept None = refl
one_kept (Some x) = refl

pub kept_more : {A B : Type 0} (f : A → Option B) (xs : List A) (x : A) → filter_map f (xs ++ x ∷ []) ≡ filter_map f xs ++ option_to_list (f x)
kept_more f xs x = filter_map-append f xs (x ∷ []) ∙ ap (λ ys. filter_map f xs ++ ys) (one_kept (f x))

pub kept_step : {A B : Type 0} (f : A → Option B) (xs ys : List A) (i : ℕ) (x : A) (row row' : List B) → ys ≡ xs → i < length ys → x ≡ get_or ys i x
    → row ≡ filter_map f (take i xs) → row' ≡ row ++ option_to_list (f x) → row' ≡ filter_map f (take (i + 1) xs)
kept_step {A} f xs ys i x row row' same within is was now =
    now ∙ (ap (λ r. r ++ option_to_list (f x)) was ∙ (sym (kept_more f (take i xs) x) ∙ ap (filter_map f) (sym more)))
  where
    more : take (i + 1) xs ≡ take i xs ++ x ∷ []
    more = subst (λ (zs : List A). take (i + 1) zs ≡ take i zs ++ x ∷ []) same (taken_next ys i x within is)
