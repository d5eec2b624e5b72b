use Rattle.std.proofs.Common.{refl}
use Rattle.fp_grammar.proofs.Answering.{handing}
use Rattle.fp_grammar.proofs.Choices.{absent_beside, absent_unless}
use Rattle.fp_grammar.proofs.Steps.{alt_first_accepts, alt_first_refuses, alt_second_accepts, alt_second_refuses}
use Rattle.fp_parse_pieces.proofs.WordsFit.{each_kind}
use Rattle.fp_parse_states.specs.Bodies.{element_piece, single, singles}
use Rattle.fp_parse_states.proofs.BodiesFit as F
use Rattle.fp_parse_states.proofs.pieces.element_or.Goals as goal

pub returns-then-single_at : goal.returns-then-single_at
returns-then-single_at c =
    let a = c.args in
    let n = absent_beside {b = element_piece a.depth a.inside} (singles a.last) c.if-single_at.ensures (F.element_predictive a.depth a.inside) (F.element_filled a.depth a.inside) (F.beside_element a.depth a.last a.inside) (F.element_fits a.depth a.inside).refs in
    handing (λ x to p. alt_first_accepts n p) (λ to p. alt_first_refuses n p) _ c.single.ensures

pub returns : goal.returns
returns c =
    let n = absent_unless {b = single (singles c.args.last)} c.if-single_at.ensures refl refl each_kind in
    handing (λ x to p. alt_second_accepts n p) (λ to p. alt_second_refuses n p) _ c.element_piece.ensures
