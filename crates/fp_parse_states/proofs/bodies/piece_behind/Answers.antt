use Rattle.std.proofs.Common.{subst}
use Rattle.fp_grammar.specs.Parses.{Parses}
use Rattle.fp_parse_pieces.specs.Kinds.{kind}
use Rattle.fp_parse_states.specs.Bodies.{next_piece}
use Rattle.fp_parse_states.proofs.bodies.piece_behind.Goals as goal

pub returns : goal.returns
returns c = subst (λ i. Parses kind (next_piece c.args.depth c.args.body.now.last i) c.args.tokens.now c.args.from c.next_piece.result) c.is_inside.ensures c.next_piece.ensures
