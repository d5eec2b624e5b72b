use Rattle.std.proofs.Common.{subst, arith, ◌∙◌}
use Rattle.std.specs.Prelude.{Err, Ok}
use Rattle.fp_base.specs.declared.refusal.Stop.TheVariants.{Broken}
use Rattle.fp_parse_defs.specs.Reading.{AnswersNode}
use Rattle.fp_parse_defs.proofs.ReadingLemmas.{answer_deeper, answer_node, answer_none}
use Rattle.fp_parse_defs.proofs.reading.parse_node.Goals as goal

pub returns-then-to-deeper : goal.returns-then-to-deeper
returns-then-to-deeper g c =
    let e = c.refusal.ensures in
    subst (λ l. AnswersNode g.P.Piece.grammar l c.args.from (Err (Broken c.refusal.result))) c.as_slice-tokens.ensures
    (answer_deeper g.P.Piece.grammar _ _ _ _ _ _ _ c.in_ok-node.ensures.reads c.in_ok-deeper.ensures.reads c.if-to-deeper.true e.rule e.other e.place)

pub returns-in-Some : goal.returns-in-Some
returns-in-Some g c =
    subst (λ l. AnswersNode g.P.Piece.grammar l c.args.from (Ok (c.in-Some.node, c.in_ok-node.to))) c.as_slice-tokens.ensures
    (answer_node g.P.Piece.grammar _ _ _ _ _ _ _ c.in-Some.is c.in_ok-node.ensures.reads c.in_ok-deeper.ensures.reads (omega (arith, c.if-to-deeper.false)))

pub returns-in-None : goal.returns-in-None
returns-in-None g c =
    let e = c.refusal-in-None.ensures in
    subst (λ l. AnswersNode g.P.Piece.grammar l c.args.from (Err (Broken c.refusal-in-None.result))) c.as_slice-tokens.ensures
    (answer_none g.P.Piece.grammar _ _ _ _ _ _ _ c.in-None.is c.in_ok-node.ensures.reads c.in_ok-deeper.ensures.reads (omega (arith, c.if-to-deeper.false)) (e.rule ∙ c.unexpected-rule.ensures) e.other e.place)
