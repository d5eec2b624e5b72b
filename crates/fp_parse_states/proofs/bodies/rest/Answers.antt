use Rattle.fp_grammar.proofs.Answering.{handing}
use Rattle.fp_grammar.proofs.Nesting.{open_accepts, open_refuses}
use Rattle.fp_parse_states.proofs.NestedFit.{into, out}
use Rattle.fp_parse_states.proofs.bodies.rest.Goals as goal

pub returns : goal.returns
returns c = handing (λ x to p. open_accepts (into c.args.depth) (out c.args.depth) p) (λ to p. open_refuses (into c.args.depth) (out c.args.depth) p) _ c.rest_of_body.ensures
