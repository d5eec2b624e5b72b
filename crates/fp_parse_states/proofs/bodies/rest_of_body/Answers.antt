use Rattle.std.proofs.Common.{sym, ap, ◌∙◌, subst}
use Rattle.fp_grammar.proofs.Answering.{passing}
use Rattle.fp_grammar.proofs.Walk.{Reached, begin, done, stop}
use Rattle.fp_grammar.proofs.StepsGood.{from_fits}
use Rattle.fp_grammar.proofs.StepsWalk.{reads, step_on, step_ends, step_stop}
use Rattle.fp_parse_pieces.specs.Kinds.{kind}
use Rattle.fp_parse_states.specs.Bodies.{rest_of_body, nothing_read}
use Rattle.fp_parse_states.specs.Partial.{body_seen, step_seen}
use Rattle.fp_parse_states.proofs.BodiesFit.{driven}
use Rattle.fp_parse_states.proofs.bodies.rest_of_body.Goals as goal

pub pieces-init : goal.pieces-init
pieces-init c =
    let d = c.args.depth in
    subst (λ s. Reached kind (rest_of_body d nothing_read) (rest_of_body d s) (λ body. body) c.args.tokens.now c.args.from c.args.from) (sym c.new-body.ensures) (begin _ _ (from_fits (driven d) nothing_read))

pub returns-in_err-piece : goal.returns-in_err-piece
returns-in_err-piece c = passing _ _ (λ to p. stop c.pieces.invariant (step_stop (driven c.args.depth) p)) c.in_err-piece.ensures c.from_residual.ensures.1

pub pieces-preserved : goal.pieces-preserved
pieces-preserved c = step_on (driven c.args.depth) c.pieces.invariant c.in_ok-piece.ensures (sym c.in_ok-next.ensures ∙ ap step_seen c.in-On.is)

pub returns-in-Ends : goal.returns-in-Ends
returns-in-Ends c = done c.pieces.invariant (step_ends (driven c.args.depth) c.in_ok-piece.ensures (sym c.in_ok-next.ensures ∙ ap step_seen c.in-Ends.is))

pub pieces-smaller : goal.pieces-smaller
pieces-smaller c = reads (driven c.args.depth) {s = body_seen c.pieces.body} c.in_ok-piece.ensures
