use Rattle.std.proofs.Common.{sym, ◌∙◌, arith}
use Rattle.fp_lexer.proofs.LongStrings.{bad_escaped, bad_free}
use Rattle.fp_lexer.proofs.scan.bad_escape.Goals.{then-escaped, else-escaped+else-breaks_line}
use Rattle.fp_lexer.proofs.scan.bad_escape.Goals as goal

pub body-preserved : goal.body-preserved
body-preserved c = elim c.if-escaped.branch [
  | then-escaped w ↦ record {
    within = omega (arith, c.body-test.true);
    rest = bad_escaped c.body.escaped c.if-escaped.escaped c.args.body.now c.body.at c.body-test.true w.if-escaped.true w.escaped-is ∙ c.body.invariant.rest;
  }
  | else-escaped+else-breaks_line w ↦ record {
    within = omega (arith, c.body-test.true);
    rest = bad_free c.body.escaped c.if-escaped.escaped c.args.body.now c.body.at c.body-test.true w.if-escaped.false (sym w.if-breaks_line.ensures) w.escaped-is ∙ c.body.invariant.rest;
  }
]
