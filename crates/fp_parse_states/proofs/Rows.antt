-- How rows grow by elements.
use Rattle.std.proofs.Common.{◌≡◌, ℕ, ◌+◌, List, [], ◌∷◌, ◌++◌, Option, length, refl, ◌∙◌, ap, arith, append_assoc, length-append, Some}
use Rattle.fp_parse_states.specs.Nested.{NestedElements, elements_of, size}
use Rattle.fp_parse_states.specs.Nested.NestedElements.{none, without_body, with_body}

pub sized : (es : NestedElements) (parent : Option ℕ) (n : ℕ) → length (elements_of parent es n) ≡ size es
sized none parent n = refl
sized (without_body before e behind more) parent n = omega (arith, sized more parent (n + 1))
sized (with_body before e inner behind more) parent n =
    omega (arith, sized more parent ((n + 1) + size inner), sized inner (Some n) (n + 1), length-append (elements_of (Some n) inner (n + 1)) (elements_of parent more ((n + 1) + size inner)))

module _ {A : Type 0} where
  one_more : (xs : List A) (x : A) → length (xs ++ x ∷ []) ≡ length xs + 1
  one_more xs x = length-append xs (x ∷ [])

  -- an element without a body
  pub elements_grow : (xs : List A) (x : A) (f : ℕ → List A) → (xs ++ x ∷ []) ++ f (length (xs ++ x ∷ [])) ≡ xs ++ (x ∷ f (length xs + 1))
  elements_grow xs x f = append_assoc xs (x ∷ []) (f (length (xs ++ x ∷ []))) ∙ ap (λ k. xs ++ (x ∷ f k)) (one_more xs x)

  -- its lines
  pub notes_grow : {B : Type 0} (xs : List A) (x : A) (ns a : List B) (g : ℕ → List B) → (ns ++ a) ++ g (length (xs ++ x ∷ [])) ≡ ns ++ (a ++ g (length xs + 1))
  notes_grow xs x ns a g = append_assoc ns a (g (length (xs ++ x ∷ []))) ∙ ap (λ k. ns ++ (a ++ g k)) (one_more xs x)

  -- one with a body, whose elements h gives
  pub elements_grow_within : (xs : List A) (x : A) (h f : ℕ → List A) (k : ℕ) → length (h (length xs + 1)) ≡ k → ((xs ++ x ∷ []) ++ h (length (xs ++ x ∷ []))) ++ f (length ((xs ++ x ∷ []) ++ h (length (xs ++ x ∷ [])))) ≡ xs ++ (x ∷ (h (length xs + 1) ++ f ((length xs + 1) + k)))
  elements_grow_within xs x h f k e =
      ap (λ l. l ++ f (length l)) (elements_grow xs x h) ∙ append_assoc xs (x ∷ h (length xs + 1)) (f (length (xs ++ (x ∷ h (length xs + 1))))) ∙
      ap (λ m. xs ++ (x ∷ (h (length xs + 1) ++ f m))) (omega (arith, e, length-append xs (x ∷ h (length xs + 1))))

  pub notes_grow_within : {B : Type 0} (xs : List A) (x : A) (h : ℕ → List A) (ns a : List B) (i g : ℕ → List B) (k : ℕ) → length (h (length xs + 1)) ≡ k →
      ((ns ++ i (length (xs ++ x ∷ []))) ++ a) ++ g (length ((xs ++ x ∷ []) ++ h (length (xs ++ x ∷ [])))) ≡ ns ++ (i (length xs + 1) ++ (a ++ g ((length xs + 1) + k)))
  notes_grow_within xs x h ns a i g k e =
      ap (λ m. ((ns ++ i m) ++ a) ++ g (length ((xs ++ x ∷ []) ++ h (length (xs ++ x ∷ []))))) (one_more xs x) ∙
      ap (λ l. ((ns ++ i (length xs + 1)) ++ a) ++ g (length l)) (elements_grow xs x h) ∙
      append_assoc (ns ++ i (length xs + 1)) a (g (length (xs ++ (x ∷ h (length xs + 1))))) ∙
      append_assoc ns (i (length xs + 1)) (a ++ g (length (xs ++ (x ∷ h (length xs + 1))))) ∙
      ap (λ m. ns ++ (i (length xs + 1) ++ (a ++ g m))) (omega (arith, e, length-append xs (x ∷ h (length xs + 1))))
