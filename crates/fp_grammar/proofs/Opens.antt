-- A token of some kinds begins a spelling.
use Rattle.std.proofs.Common.{◌≡◌, ℕ, true, List, [], ◌∷◌, ◌++◌, Some, refl, sym, inl, inr, append-nil}
use Rattle.fp_base.proofs.Bools.{and_left, and_right, or_cases}
use Rattle.fp_grammar.specs.Grammar.{Grammar, Spells, Among}
use Rattle.fp_grammar.specs.Grammar.Grammar.{token, one_of, seq, map, with_tokens, alt, optional, many, alternating, chain, separated, separated_tail, ref}
use Rattle.fp_grammar.specs.Sets.{is_predictive}
use Rattle.fp_grammar.specs.Promises.{RefsGood}
use Rattle.fp_grammar.specs.Looks.{opens}
use Rattle.fp_grammar.proofs.Lists.{Among-subset}
use Rattle.fp_grammar.proofs.Fits.{good_of}

one_kind : (k j : ℕ) → Among k (j ∷ []) → k ≡ j
one_kind k j (inl e) = e
one_kind k j (inr h) = absurd h

-- a token of these kinds begins a spelling
pub opens_one : {T X : Type 0} (kind : T → ℕ) (g : Grammar T X) (ks : List ℕ) → is_predictive g ≡ true → RefsGood kind g → opens ks g ≡ true → (t : T) → Among (kind t) ks → (more : List T) × (x : X) × Spells kind g (t ∷ more) x
opens_one kind (token k) ks e r o t h = ([], t, (refl, one_kind (kind t) k (Among-subset (kind t) ks (k ∷ []) o h)))
opens_one kind (one_of js) ks e r o t h = ([], t, (refl, Among-subset (kind t) ks js o h))
opens_one kind (seq a b) ks e r o t h =
    let p = opens_one kind a ks (and_left (is_predictive a) _ e) r.0 (and_left (opens ks a) _ o) t h in
    let q = (good_of b (and_left (is_predictive b) _ (and_right (is_predictive a) _ e)) r.1).spelling (and_right (opens ks a) _ o) in
    (p.0 ++ q.0, (p.1, q.1), (t ∷ p.0, q.0, refl, p.2, q.2))
opens_one kind (map f a) ks e r o t h = let p = opens_one kind a ks e r o t h in (p.0, f p.1, (p.1, refl, p.2))
opens_one kind (with_tokens a) ks e r o t h = let p = opens_one kind a ks e r o t h in (p.0, (t ∷ p.0, p.1), (refl, p.2))
opens_one kind (alt a b) ks e r o t h =
    elim (or_cases (opens ks a) (opens ks b) o) [
      | inl f ↦ let p = opens_one kind a ks (and_left (is_predictive a) _ e) r.0 f t h in (p.0, p.1, inl p.2)
      | inr f ↦ let p = opens_one kind b ks (and_left (is_predictive b) _ (and_right (is_predictive a) _ e)) r.1 f t h in (p.0, p.1, inr p.2)
    ]
opens_one kind (optional a) ks e r o t h = let p = opens_one kind a ks (and_left (is_predictive a) _ e) r o t h in (p.0, Some p.1, p.2)
opens_one kind (many a) ks e r o t h = let p = opens_one kind a ks (and_left (is_predictive a) _ e) r o t h in (p.0, p.1 ∷ [], (t ∷ p.0, [], sym (append-nil (t ∷ p.0)), p.2, refl))
opens_one kind (alternating a b) ks e r o t h = let p = opens_one kind a ks (and_left (is_predictive a) _ e) r.0 o t h in (p.0, p.1 ∷ [], (t ∷ p.0, [], sym (append-nil (t ∷ p.0)), p.2, refl))
opens_one kind (chain a b allows build) ks e r o t h = absurd (cc)
opens_one kind (separated a seps) ks e r o t h = let p = opens_one kind a ks (and_left (is_predictive a) _ e) r o t h in (p.0, p.1 ∷ [], (t ∷ p.0, [], sym (append-nil (t ∷ p.0)), p.2, inl (refl, refl)))
opens_one kind (separated_tail a seps) ks e r o t h = absurd (cc)
opens_one kind (ref n) ks e r o t h = absurd (cc)
