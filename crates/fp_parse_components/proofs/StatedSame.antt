-- A machine and an instance of one begin with the same two words; the language stays the same where these are read first.
use Rattle.std.proofs.Common.{ℕ, List, refl, ◌∙◌, ap, inl, inr}
use Rattle.fp_lexer.specs.declared.token.Token.{Token}
use Rattle.fp_tree.specs.declared.component.Part.{Part}
use Rattle.fp_tree.specs.declared.component.Part.TheVariants as part
use Rattle.fp_grammar.specs.Grammar.{Spells}
use Rattle.fp_grammar.specs.Same.{IsSameLanguage}
use Rattle.fp_parse_pieces.specs.Kinds.{kind}
use Rattle.fp_parse_states.specs.Nested.{made_machine}
use Rattle.fp_parse_components.specs.declared.stated.Stated.TheVariants as stated
use Rattle.fp_parse_components.specs.Ports.{made_running}
use Rattle.fp_parse_components.specs.Parts.{made_machine_behind, made_running_behind, made_stated, machine_or_running, words_first}

module _ (depth : ℕ) where
  into : (w : List Token) (x : Part) → Spells kind (machine_or_running depth) w x → Spells kind (words_first depth) w x
  into w x (inl (m, e, ((word, (n, b)), f, (u, v, g, i, ((t, (n', b')), h, (u', v', g', k, s)))))) =
      ((word, stated.Machine n b), e ∙ ap (λ m. part.Machine m) f, (u, v, g, i, ((t, stated.Machine n' b'), ap made_machine_behind h, (u', v', g', k, inl ((n', b'), refl, s)))))
  into w x (inr (r, e, ((word, (n, (of, q))), f, (u, v, g, i, ((t, (n', (of', q'))), h, (u', v', g', k, s)))))) =
      ((word, stated.Running n of q), e ∙ ap (λ r. part.Running r) f, (u, v, g, i, ((t, stated.Running n' of' q'), ap made_running_behind h, (u', v', g', k, inr ((n', (of', q')), refl, s)))))

  out : (w : List Token) (x : Part) → Spells kind (words_first depth) w x → Spells kind (machine_or_running depth) w x
  out w x ((word, st), e, (u, v, g, i, ((t, st'), h, (u', v', g', k, inl ((n, b), j, s))))) =
      inl (made_machine (word, (n, b)), e ∙ ap (λ st. made_stated (word, st)) (h ∙ j), ((word, (n, b)), refl, (u, v, g, i, ((t, (n, b)), refl, (u', v', g', k, s)))))
  out w x ((word, st), e, (u, v, g, i, ((t, st'), h, (u', v', g', k, inr ((n, (of, q)), j, s))))) =
      inr (made_running (word, (n, (of, q))), e ∙ ap (λ st. made_stated (word, st)) (h ∙ j), ((word, (n, (of, q))), refl, (u, v, g, i, ((t, (n, (of, q))), refl, (u', v', g', k, s)))))

  pub same_stated : IsSameLanguage kind (machine_or_running depth) (words_first depth)
  same_stated = record { into = into; out = out }
