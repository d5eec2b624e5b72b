use Rattle.std.proofs.Common.{length, drop}
use Rattle.fp_grammar.proofs.Walk.{Reached}
use Rattle.fp_parse_pieces.specs.Kinds.{kind}
use Rattle.fp_parse_states.specs.Bodies.{rest_of_body, nothing_read}
use Rattle.fp_parse_states.specs.Partial.{body_seen}
use Rattle.fp_parse_states.proofs.bodies.rest_of_body.Given as goal

-- what was read is a body so far, and the rest of it follows
abbrev pub invariant-pieces : goal.invariant-pieces
invariant-pieces l = Reached kind (rest_of_body l.depth nothing_read) (rest_of_body l.depth (body_seen l.body)) (λ body. body) l.tokens l.from l.at

abbrev pub decreases-pieces : goal.decreases-pieces
decreases-pieces l = length (drop l.at l.tokens)
