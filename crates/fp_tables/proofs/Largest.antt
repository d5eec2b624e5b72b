-- The largest of several lists.
use Rattle.std.proofs.Common.{◌≡◌, ℕ, ◌+◌, ◌<◌, max, List, [], ◌∷◌, ◌++◌, map, length, take, get_or, Option, None, Some, unwrap_or, refl, sym, ap, ◌∙◌, arith}
use Rattle.std.proofs.lemmas.List.{take_more, map-append}
use Rattle.fp_tables.specs.Instances.{largest}
use Rattle.fp_tables.specs.Tops.{larger}

larger_step : (n : ℕ) (p q : Option ℕ) → Some (max n (unwrap_or (larger p q) 0)) ≡ larger (Some (max n (unwrap_or p 0))) q
larger_step n None None = refl
larger_step n None (Some b) = ap Some (omega arith)
larger_step n (Some a) None = refl
larger_step n (Some a) (Some b) = ap Some (omega arith)

pub largest_append : (ms ns : List ℕ) → largest (ms ++ ns) ≡ larger (largest ms) (largest ns)
largest_append [] ns = refl
largest_append (m ∷ ms) ns = ap (λ (p : Option ℕ). Some (max m (unwrap_or p 0))) (largest_append ms ns) ∙ larger_step m (largest ms) (largest ns)

largest_one : (n : ℕ) → largest (n ∷ []) ≡ Some n
largest_one n = ap Some (omega arith)

pub largest_more : {X : Type 0} (f : X → ℕ) (xs : List X) (i : ℕ) (x : X) → i < length xs → x ≡ get_or xs i x →
    largest (map f (take (i + 1) xs)) ≡ larger (largest (map f (take i xs))) (Some (f x))
largest_more f xs i x lt e =
    ap (λ ys. largest (map f ys)) (take_more xs i x lt)
    ∙ ap largest (map-append f (take i xs) (get_or xs i x ∷ []))
    ∙ largest_append (map f (take i xs)) (f (get_or xs i x) ∷ [])
    ∙ ap (larger (largest (map f (take i xs)))) (largest_one (f (get_or xs i x)) ∙ ap (λ y. Some (f y)) (sym e))
