-- A type that uses itself begins chains of every length.
use Rattle.std.proofs.Common.{◌≡◌, ℕ, zero, suc, ◌+◌, Bool, true, false, not, ◌&&◌, ◌||◌, List, [], ◌∷◌, Option, Some, None, option_map, is_some, refl, sym, ap, subst, arith}
use Rattle.std.proofs.lemmas.Bool.Decides.{Decides-eqb}
use Rattle.std.specs.List.{list_any, slice_get}
use Rattle.fp_tables.specs.Lists.{all_from, some_and}
use Rattle.fp_tables.specs.Types.{form_at, kinds_in, uses_constants, is_last, begins_chain, is_named, is_use, Leads, once, again}
use Rattle.fp_tables.specs.declared.kind.Kind.{Kind}
use Rattle.fp_tables.specs.declared.kind.Kind.TheVariants.{Named}
use Rattle.fp_tables.specs.declared.kind.Form.{Form}
use Rattle.fp_tables.specs.declared.kind.TypeDef.{TypeDef}
use Rattle.fp_tables.proofs.Indexed.{all_from_at}

any_more : {X : Type 0} (f g : X → Bool) → ((x : X) → f x ≡ true → g x ≡ true) → (xs : List X) → list_any f xs ≡ true → list_any g xs ≡ true
any_more f g more [] h = absurd (cc)
any_more f g more (x ∷ xs) h = go (f x) (g x) (more x) (any_more f g more xs) h
  where
    go : (a b : Bool) → (a ≡ true → b ≡ true) → (list_any f xs ≡ true → list_any g xs ≡ true) → (a || list_any f xs) ≡ true → (b || list_any g xs) ≡ true
    go true b s rest h = rw (s refl) refl
    go false true s rest h = refl
    go false false s rest h = rest h

some_more : (p q : Kind → Bool) (last : Form → Bool) → ((k : Kind) → p k ≡ true → q k ≡ true) → (o : Option Form) →
    some_and (λ f. list_any p (kinds_in f)) o ≡ true → some_and (λ f. last f || list_any q (kinds_in f)) o ≡ true
some_more p q last more None h = absurd (cc)
some_more p q last more (Some f) h = either (last f) (list_any q (kinds_in f)) (any_more p q more (kinds_in f) h)
  where
    either : (a b : Bool) → b ≡ true → (a || b) ≡ true
    either true b h = refl
    either false b h = h

some_is : (p : Form → Bool) (o : Option Form) → some_and p o ≡ true → is_some o ≡ true
some_is p None h = absurd (cc)
some_is p (Some f) h = refl

module _ (types : List TypeDef) where
  at_name : (q : Kind → Bool) (j : ℕ) → q (Named j) ≡ true → (k : Kind) → is_named j k ≡ true → q k ≡ true
  at_name q j h (Named k) e = subst (λ i. q (Named i) ≡ true) (sym ((Decides-eqb k j).0 e)) h
  at_name q j h _ e = absurd (cc)

  step : (n i j : ℕ) → is_use types i j → begins_chain types n (Named j) ≡ true → begins_chain types (suc n) (Named i) ≡ true
  unfolding begins_chain
  step n i j u h = some_more (is_named j) (begins_chain types n) (λ f. is_last n && uses_constants f) (at_name (begins_chain types n) j h) (form_at types i) u

  begins_none : (i j : ℕ) → is_use types i j → begins_chain types zero (Named i) ≡ true
  unfolding begins_chain
  begins_none i j u = some_is (λ f. list_any (is_named j) (kinds_in f)) (form_at types i) u

  shorter : (n : ℕ) (k : Kind) → begins_chain types (suc n) k ≡ true → begins_chain types n k ≡ true
  unfolding begins_chain
  shorter zero (Named i) h = some_is (λ f. uses_constants f || list_any (begins_chain types zero) (kinds_in f)) (form_at types i) h
  shorter (suc n) (Named i) h =
      some_more (begins_chain types (suc n)) (begins_chain types n) (λ f. is_last n && uses_constants f) (shorter n) (form_at types i) h
  shorter n _ h = absurd (cc)

  longer : (n i j : ℕ) → Leads types i j → begins_chain types n (Named j) ≡ true → begins_chain types (suc n) (Named i) ≡ true
  longer n _ _ (once i j u) h = step n i j u h
  longer n _ _ (again i j k u rest) h = shorter (suc n) (Named i) (step (suc n) i j u (longer n j k rest h))

  begins : (i j : ℕ) → Leads types i j → begins_chain types zero (Named i) ≡ true
  begins _ _ (once i j u) = begins_none i j u
  begins _ _ (again i j k u rest) = begins_none i j u

  at_every_length : (n i : ℕ) → Leads types i i → begins_chain types n (Named i) ≡ true
  at_every_length zero i ring = begins i i ring
  at_every_length (suc n) i ring = longer n i i ring (at_every_length n i ring)

  is_within : (i : ℕ) → begins_chain types zero (Named i) ≡ true → (d : TypeDef) × (slice_get types i ≡ Some d)
  unfolding begins_chain
  is_within i h = go (slice_get types i) h
    where
      go : (o : Option TypeDef) → is_some (option_map (λ (d : TypeDef). d.form) o) ≡ true → (d : TypeDef) × (o ≡ Some d)
      go None h = absurd (cc)
      go (Some d) h = (d, refl)

  pub none_uses_itself : (most : ℕ) → all_from (λ i (_ : TypeDef). not (begins_chain types most (Named i))) 0 types ≡ true → (i : ℕ) → Leads types i i → ⊥
  none_uses_itself most short i ring =
      let d = is_within i (begins i i ring) in
      let here : 0 + i ≡ i = omega arith in
      let off = subst (λ j. not (begins_chain types most (Named j)) ≡ true) here (all_from_at (λ i (_ : TypeDef). not (begins_chain types most (Named i))) 0 types i d.0 short d.1) in
      let on = at_every_length most i ring in
      absurd (cc (off, ap not on))
