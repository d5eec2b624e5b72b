-- Each token list spells a machine or breaks the grammar.
use Rattle.std.proofs.Common.{ℕ, Bool, true, false, refl}
use Rattle.fp_grammar.specs.Decided.{RefsDecided}
use Rattle.fp_grammar.proofs.Deciding.{answer_of}
use Rattle.fp_grammar.proofs.Nesting.{open_answer}
use Rattle.fp_grammar.proofs.Sames.{same_answer}
use Rattle.fp_grammar.proofs.StepsDecided.{from_decided}
use Rattle.fp_parse_pieces.specs.Kinds.{kind}
use Rattle.fp_parse_defs.proofs.ExpressionsDecided.{type_decided}
use Rattle.fp_parse_states.specs.declared.head.LastRead.{LastRead}
use Rattle.fp_parse_states.specs.declared.head.LastRead.TheVariants as read
use Rattle.fp_parse_states.specs.Transitions.{do_body, do_list, goto_body, goto, transition, do_first}
use Rattle.fp_parse_states.specs.Elements.{element}
use Rattle.fp_parse_states.specs.Nested.{machine, rest}
use Rattle.fp_parse_states.specs.Bodies.{is_inside, next_piece, nothing_read}
use Rattle.fp_parse_states.proofs.TransitionsFit.{do_fits, goto_fits, first_fits, same_transition}
use Rattle.fp_parse_states.proofs.BodiesFit.{driven}
use Rattle.fp_parse_states.proofs.NestedFit.{into, out}

do_decided : RefsDecided kind do_list
do_decided = λ tokens from. open_answer (λ w x s. s) (λ w x s. s) tokens from (answer_of do_body do_fits.predictive do_fits.refs (refl, tt, (refl, tt, (refl, (refl, (refl, tt, (refl, tt, tt)), ((refl, tt, tt), (refl, tt, (refl, tt, tt)))), tt))) tokens from)

goto_decided : RefsDecided kind goto
goto_decided = λ tokens from. open_answer (λ w x s. s) (λ w x s. s) tokens from (answer_of goto_body goto_fits.predictive goto_fits.refs (refl, do_decided, (refl, tt, (refl, tt, (refl, tt, tt)))) tokens from)

transition_decided : RefsDecided kind transition
transition_decided = λ tokens from. open_answer (λ w x s. s) (λ w x s. s) tokens from (same_answer same_transition (answer_of do_first first_fits.predictive first_fits.refs ((refl, do_decided, (refl, tt, (refl, tt, (refl, tt, tt)))), (refl, tt, (refl, tt, (refl, tt, tt)))) tokens from))

module _ (depth : ℕ) where
  element_decided : (i : Bool) → RefsDecided kind (element depth i)
  element_decided true =
      let g = goto_decided in
      ((refl, tt, tt), ((refl, tt, (refl, tt, (refl, tt, (refl, tt, (refl, tt, (refl, g, (refl, tt, (refl, g, tt)))))))), ((refl, tt, g), ((refl, tt, (refl, tt, (refl, (refl, tt, tt), transition_decided))), ((refl, tt, do_decided), (refl, tt, do_decided))))))
  element_decided false =
      let g = goto_decided in
      let t = type_decided depth in
      ((refl, tt, tt), ((refl, tt, (refl, tt, (refl, tt, (refl, tt, (refl, tt, (refl, g, (refl, tt, (refl, g, tt)))))))), ((refl, tt, g), ((refl, tt, (refl, tt, (refl, tt, t))), ((refl, tt, (refl, tt, (refl, tt, t))), (refl, tt, (refl, tt, (refl, tt, t))))))))

  piece_decided : (p : LastRead) (i : Bool) → RefsDecided kind (next_piece depth p i)
  piece_decided read.Opening i = (tt, element_decided i)
  piece_decided read.Separator i = (tt, element_decided i)
  piece_decided read.NoteBefore i = (tt, element_decided i)
  piece_decided read.StateName i = tt
  piece_decided read.Whole i = tt

  rest_decided : RefsDecided kind (rest depth)
  rest_decided = λ tokens from. open_answer (into depth) (out depth) tokens from (from_decided (driven depth) (λ s. piece_decided s.last (is_inside s.opened)) nothing_read tokens from)

  pub machine_decided : RefsDecided kind (machine depth)
  machine_decided = (refl, tt, (refl, tt, (refl, tt, (refl, tt, rest_decided))))
