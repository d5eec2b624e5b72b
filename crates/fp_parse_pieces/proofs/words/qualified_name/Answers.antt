use Rattle.std.proofs.Common.{refl, sym, arith}
use Rattle.fp_grammar.proofs.Answering.{passing}
use Rattle.fp_grammar.proofs.Choices.{absent_unless}
use Rattle.fp_grammar.proofs.Steps.{map_accepts, map_refuses}
use Rattle.fp_grammar.proofs.ChainSteps.{chain_begin, chain_first_refused, chain_next, chain_done, chain_stop}
use Rattle.fp_parse_pieces.proofs.WordsFit.{each_kind, qual_fits, dotted_fits, building_as, after_accepts, after_refuses}
use Rattle.fp_parse_pieces.proofs.words.qualified_name.Goals as goal

pub returns-in_err-first : goal.returns-in_err-first
returns-in_err-first c = passing _ _ (λ to p. chain_first_refused qual_fits (map_refuses p)) c.in_err-first.ensures c.from_residual.ensures.1

pub names-init : goal.names-init
names-init c = building_as (sym c.in_ok-qual.ensures) (chain_begin qual_fits (map_accepts c.in_ok-first.ensures))

pub returns-then-not-mark_at : goal.returns-then-not-mark_at
returns-then-not-mark_at c = chain_done c.names.invariant (absent_unless c.if-not-mark_at.ensures refl refl (each_kind, each_kind))

pub returns-in_err-next : goal.returns-in_err-next
returns-in_err-next c = passing _ _ (λ to p. chain_stop c.names.invariant refl (λ e. absurd (omega (arith, e, p.place))) (after_refuses dotted_fits c.if-not-mark_at.ensures p)) c.in_err-next.ensures c.from_residual-in_err-next.ensures.1

pub names-preserved : goal.names-preserved
names-preserved c = building_as (sym c.in_ok-qual-2.ensures) (chain_next c.names.invariant refl (after_accepts dotted_fits c.if-not-mark_at.ensures c.in_ok-next.ensures))
