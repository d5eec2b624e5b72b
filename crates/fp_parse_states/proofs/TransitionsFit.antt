-- What machines do and where they go passes the test for the tokens of lookahead, and a transition is read by what it does first.
use Rattle.std.proofs.Common.{◌≡◌, List, [], ◌∷◌, ◌++◌, Option, Some, None, refl, sym, ◌∙◌, ap, subst, inl, inr, append-nil}
use Rattle.fp_base.specs.declared.place.Span.{Span}
use Rattle.fp_lexer.specs.declared.token.Token.{Token}
use Rattle.fp_tree.specs.declared.name.Qual.{Qual}
use Rattle.fp_tree.specs.declared.machine.Do.{Do}
use Rattle.fp_tree.specs.declared.machine.Transition.{Transition}
use Rattle.fp_tree.specs.declared.machine.Transition.TheVariants as form
use Rattle.fp_grammar.specs.Grammar.{Spells}
use Rattle.fp_grammar.specs.Grammar.Grammar.{seq, optional}
use Rattle.fp_grammar.specs.Same.{IsSameLanguage}
use Rattle.fp_grammar.specs.Promises.{RefsGood}
use Rattle.fp_grammar.specs.Throughout.{FitsThroughout}
use Rattle.fp_grammar.proofs.Sealed.{sealed_good}
use Rattle.fp_grammar.proofs.Sames.{same_good}
use Rattle.fp_parse_pieces.specs.Kinds.{kind, k_dot}
use Rattle.fp_parse_pieces.proofs.WordsFit.{each_kind}
use Rattle.fp_parse_states.specs.Transitions.{k_do, k_enter, do_body, do_list, goto_body, goto, goto_or_do, transition, do_first, entering, made_goto, made_onward}

pub do_fits : FitsThroughout kind do_body
do_fits = record { predictive = refl; each = refl; refs = assumption each_kind }

pub do_good : RefsGood kind do_list
do_good = sealed_good do_body (k_do ∷ []) [] refl refl refl refl do_fits.refs

pub goto_fits : FitsThroughout kind goto_body
goto_fits = let d = do_good in record { predictive = refl; each = refl; refs = assumption (each_kind, d) }

pub goto_good : RefsGood kind goto
goto_good = sealed_good goto_body (k_do ∷ k_enter ∷ []) (k_dot ∷ []) refl refl refl refl goto_fits.refs

pub first_fits : FitsThroughout kind do_first
first_fits = let d = do_good in record { predictive = refl; each = refl; refs = assumption (each_kind, d) }

pub same_transition : IsSameLanguage kind goto_or_do do_first
same_transition = record { into = into; out = out }
  where
    going : (w : List Token) (t : Transition) (o : Option Do) (p : Span × Qual) → t ≡ form.Goto (made_goto (o, p)) → Spells kind (seq (optional do_list) entering) w (o, p) → Spells kind do_first w t
    going w t None p e (u, v, f, s, h) = inr (p, e, subst (λ l. Spells kind entering l p) (sym (f ∙ ap (λ l. l ++ v) s)) h)
    going w t (Some d) p e (u, v, f, s, h) = inl ((d, Some p), e, (u, v, f, s, h))

    into : (w : List Token) (t : Transition) → Spells kind goto_or_do w t → Spells kind do_first w t
    into w t (inl (g, e, (p, f, s))) = going w t p.0 p.1 (e ∙ ap (λ g. form.Goto g) f) s
    into w t (inr (d, e, s)) = inl ((d, None), e, (w, [], sym (append-nil w), s, refl))

    onward : (w : List Token) (t : Transition) (d : Do) (o : Option (Span × Qual)) → t ≡ made_onward (d, o) → Spells kind (seq do_list (optional entering)) w (d, o) → Spells kind goto_or_do w t
    onward w t d None e (u, v, f, s, h) = inr (d, e, subst (λ l. Spells kind do_list l d) (sym (f ∙ ap (λ l. u ++ l) h ∙ append-nil u)) s)
    onward w t d (Some p) e (u, v, f, s, h) = inl (made_goto (Some d, p), e, ((Some d, p), refl, (u, v, f, s, h)))

    out : (w : List Token) (t : Transition) → Spells kind do_first w t → Spells kind goto_or_do w t
    out w t (inl (q, e, s)) = onward w t q.0 q.1 e s
    out w t (inr (p, e, s)) = inl (made_goto (None, p), e, ((None, p), refl, ([], w, refl, refl, s)))

pub transition_good : RefsGood kind transition
transition_good = same_good same_transition (sealed_good do_first (k_do ∷ k_enter ∷ []) (k_dot ∷ k_enter ∷ []) refl refl refl refl first_fits.refs)
