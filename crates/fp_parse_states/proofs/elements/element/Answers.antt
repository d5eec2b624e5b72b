use Rattle.std.proofs.Common.{subst, sym}
use Rattle.fp_grammar.specs.Parses.{Parses}
use Rattle.fp_parse_pieces.specs.Kinds.{kind}
use Rattle.fp_parse_states.specs.Elements as E
use Rattle.fp_parse_states.proofs.elements.element.Goals as goal

pub returns-else-inside : goal.returns-else-inside
returns-else-inside c = subst (λ i. Parses kind (E.element c.args.depth i) c.args.tokens.now c.args.from c.in_machine.result) (sym c.if-inside.false) c.in_machine.ensures
