-- What is read in steps is what the productions that nest spell, so these pass the test for the tokens of lookahead.
use Rattle.std.proofs.Common.{ℕ, List, [], ◌∷◌, ◌++◌, None, refl, ◌∙◌, ap, sym, subst}
use Rattle.fp_lexer.specs.declared.token.Token.{Token}
use Rattle.fp_tree.specs.declared.machine.Behavior.{Behavior}
use Rattle.fp_grammar.specs.Grammar.{Spells}
use Rattle.fp_grammar.specs.Promises.{RefsGood}
use Rattle.fp_grammar.specs.Throughout.{FitsThroughout}
use Rattle.fp_grammar.proofs.StepsGood.{from_good}
use Rattle.fp_parse_pieces.specs.Kinds.{kind}
use Rattle.fp_parse_pieces.proofs.WordsFit.{each_kind}
use Rattle.fp_parse_states.specs.declared.head.LastRead.TheVariants as read
use Rattle.fp_parse_states.specs.Nested.{SpellsRest, elements_of, machine, rest}
use Rattle.fp_parse_states.specs.Bodies.{rest_of_body, nothing_read}
use Rattle.fp_parse_states.proofs.BodiesFit.{driven}
use Rattle.fp_parse_states.proofs.ToSteps.{elements_from, opened_begins, opened_closes}
use Rattle.fp_parse_states.proofs.FromSteps.{Rest, rest_of}

module _ (depth : ℕ) where
  pub into : (w : List Token) (b : Behavior) → Spells kind (rest_of_body depth nothing_read) w b → SpellsRest depth w b
  into w b m = go (rest_of depth nothing_read w b m)
    where
      go : Rest depth [] read.Opening 0 [] [] w b → SpellsRest depth w b
      go (u, t, is, js, e, k, (es, c, (i, j)), f) =
          (u, t, es, e, c, k, f ∙ ap (λ l. record { elements = l; lines = js; closing = t.at }) i ∙ ap (λ l. record { elements = elements_of None es 0; lines = l; closing = t.at }) j)

  pub out : (w : List Token) (b : Behavior) → SpellsRest depth w b → Spells kind (rest_of_body depth nothing_read) w b
  out w b (u, r, es, e, c, k, f) =
      subst (λ l. Spells kind (rest_of_body depth nothing_read) l b) (sym e) (elements_from depth es read.Opening (opened_begins depth) (opened_closes depth) [] 0 [] [] u r [] b k c (refl, f))

  pub rest_good : RefsGood kind (rest depth)
  rest_good =
      let g = from_good (driven depth) nothing_read in
      record {
        spelling = λ e. let s = g.spelling e in (s.0, s.1, into s.0 s.1 s.2);
        empty = λ x s. g.empty x (out [] x s);
        begin = λ t w x s. g.begin t w x (out (t ∷ w) x s);
        extend = λ u t w x y s i. g.extend u t w x y (out u x s) (out (u ++ t ∷ w) y i);
        unique = λ w x y s i. g.unique w x y (out w x s) (out w y i);
      }

  pub machine_fits : FitsThroughout kind (machine depth)
  machine_fits = let g = rest_good in record { predictive = refl; each = refl; refs = assumption (each_kind, g) }
