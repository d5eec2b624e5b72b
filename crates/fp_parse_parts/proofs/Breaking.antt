-- What breaks the grammar of a kind of file breaks one rule at one place.
use Rattle.std.proofs.Common.{◌≡◌, ℕ, zero, suc, ◌<◌, List, [], ◌∷◌, ◌++◌, length, take, drop, sym, ◌∙◌, ap, subst, inl, inr, arith}
use Rattle.fp_base.specs.declared.place.Place.{Place}
use Rattle.fp_base.specs.declared.rule.Rule.{Rule}
use Rattle.fp_lexer.specs.declared.token.Token.{Token}
use Rattle.fp_grammar.specs.Grammar.{Grammar}
use Rattle.fp_grammar.specs.Broken.{IsBroken}
use Rattle.fp_grammar.proofs.BrokenLemmas.{one_broken, broken_not_spelled}
use Rattle.fp_parse_pieces.specs.Kinds.{kind}
use Rattle.fp_parse_defs.specs.Reading.{BeginsAt, limit}
use Rattle.fp_parse_parts.specs.Files.{Probe, SpellsFile, BrokenRule, BreaksFile}

-- two lists with one last token each
same_last : (f g : List Token) (t s : Token) → f ++ t ∷ [] ≡ g ++ s ∷ [] → t ≡ s
same_last [] [] t s e = cc
same_last [] (y ∷ g) t s e = absurd (empty g s (cc))
  where
    empty : (g : List Token) (s : Token) → [] ≡ g ++ s ∷ [] → ⊥
    empty [] s e = cc
    empty (y ∷ g) s e = cc
same_last (x ∷ f) [] t s e = absurd (empty f t (cc))
  where
    empty : (g : List Token) (s : Token) → g ++ s ∷ [] ≡ [] → ⊥
    empty [] s e = cc
    empty (y ∷ g) s e = cc
same_last (x ∷ f) (y ∷ g) t s e = same_last f g t s (cc)

one_beginning : (before rest : List Token) (place other : Place) → BeginsAt before rest place → BeginsAt before rest other → place ≡ other
one_beginning before (t ∷ rest) place other e f = e ∙ sym f
one_beginning before [] place other (f, t, e, i) (g, s, h, j) = i ∙ ap (λ v. v.at.past) (same_last f g t s (sym e ∙ h)) ∙ sym j

module _ {X : Type 0} (g : ℕ → Grammar Token X) (probe : Probe) where
  one_rule : (before rest : List Token) (rule other : Rule) → BrokenRule g probe before rest rule → BrokenRule g probe before rest other → rule ≡ other
  one_rule before [] rule other e f = e ∙ sym f
  one_rule before (t ∷ rest) rule other (inl (d, e)) (inl (d', f)) = e ∙ sym f
  one_rule before (t ∷ rest) rule other (inl (d, e)) (inr (n, f)) = absurd (n d)
  one_rule before (t ∷ rest) rule other (inr (n, e)) (inl (d, f)) = absurd (n d)
  one_rule before (t ∷ rest) rule other (inr (n, inl (b, e))) (inr (n', inl (b', f))) = e ∙ sym f
  one_rule before (t ∷ rest) rule other (inr (n, inl (b, e))) (inr (n', inr (m, f))) = absurd (m b)
  one_rule before (t ∷ rest) rule other (inr (n, inr (m, e))) (inr (n', inl (b, f))) = absurd (m b)
  one_rule before (t ∷ rest) rule other (inr (n, inr (m, e))) (inr (n', inr (m', f))) = e ∙ sym f

  pub one_break : (tokens : List Token) (rule other : Rule) (place elsewhere : Place) → BreaksFile g probe tokens rule place → BreaksFile g probe tokens other elsewhere → (rule ≡ other) × (place ≡ elsewhere)
  one_break tokens rule other place elsewhere (before, rest, b, p, r) (before', rest', b', p', r') =
      let e = one_broken b b' in (
        one_rule before rest rule other r (subst (λ l. BrokenRule g probe l rest other) (sym e.0) (subst (λ l. BrokenRule g probe before' l other) (sym e.1) r')),
        one_beginning before rest place elsewhere p (subst (λ l. BeginsAt l rest elsewhere) (sym e.0) (subst (λ l. BeginsAt before' l elsewhere) (sym e.1) p')),
      )

  pub broken_no_file : (tokens : List Token) (rule : Rule) (place : Place) (x : X) → BreaksFile g probe tokens rule place → SpellsFile g tokens x → ⊥
  broken_no_file tokens rule place x (before, rest, b, p, r) s = broken_not_spelled b x s

module _ {X : Type 0} (g : ℕ → Grammar Token X) where
  -- where the empty list spells something, what breaks the grammar has tokens
  pub broken_has_tokens : (tokens : List Token) (at : ℕ) → ((x : X) × SpellsFile g [] x) → IsBroken kind (g limit) tokens (take at tokens) (drop at tokens) → 0 < length tokens
  broken_has_tokens [] zero (x, s) b = absurd (b.breaks x s)
  broken_has_tokens [] (suc at) (x, s) b = absurd (b.breaks x s)
  broken_has_tokens (t ∷ tokens) at e b = omega arith
