use Rattle.std.proofs.Common.{rules, arith, refl, sym, ap, ◌∙◌, ◌∷◌, length-drop}
use Rattle.fp_grammar.proofs.Answering.{passing, absent_now, refused_later, as_value, absent_map}
use Rattle.fp_grammar.proofs.Choices.{absent_unless}
use Rattle.fp_grammar.proofs.Walk.{begin, under, next, done, stop, stop_first, as_made}
use Rattle.fp_grammar.proofs.Steps.{map_accepts, map_refuses}
use Rattle.fp_grammar.proofs.TurnSteps.{turn_next, turn_absent, turn_refuses}
use Rattle.fp_grammar.proofs.Throughout.{fits_whole, fits_one, fits_under}
use Rattle.fp_parse_pieces.specs.Lists.{gathered, separated_by, separators, with_noted}
use Rattle.fp_parse_pieces.specs.Lists.ListPiece.{element}
use Rattle.fp_parse_pieces.proofs.WordsFit.{each_kind, separator_accepts, separator_refuses}
use Rattle.fp_parse_pieces.proofs.lists.some_noted.Goals as goal

pub returns-in_err-first-clause-parses : goal.returns-in_err-first-clause-parses
returns-in_err-first-clause-parses g c = λ f. passing _ _ (λ to p. stop_first (under (begin _ _ (fits_whole f))) (map_refuses p)) (c.in_err-first.ensures.parses (fits_under (fits_one (fits_under f)))) c.from_residual.ensures.1

pub separators-init : goal.separators-init
separators-init g c = (c.in_ok-first.ensures.forward, λ f. as_made (λ rest. ap (λ z. gathered (with_noted g.E.Element.with_note) z (element c.in_ok-first.first c.in_ok-first.first_lines ∷ rest)) (sym c.new-row.ensures)) (next (under (begin _ _ (fits_whole f))) (map_accepts (c.in_ok-first.ensures.parses (fits_under (fits_one (fits_under f)))))))

pub returns-then-not-separator_at-clause-parses : goal.returns-then-not-separator_at-clause-parses
returns-then-not-separator_at-clause-parses g c = λ f. as_value (sym c.in_ok-with_noted.ensures) (done (c.separators.invariant.1 f) (turn_absent (c.separators.invariant.1 f).fits (absent_unless {b = separated_by (separators c.args.mark)} c.if-not-separator_at.ensures refl refl (each_kind, each_kind))))

pub returns-in_err-more-clause-parses : goal.returns-in_err-more-clause-parses
returns-in_err-more-clause-parses g c = λ f. passing _ _ (λ to p. stop (c.separators.invariant.1 f) (turn_refuses (c.separators.invariant.1 f).fits (λ e. absurd (omega (arith, e, p.place))) (separator_refuses _ c.if-not-separator_at.ensures p))) c.in_err-more.ensures c.from_residual-in_err-more.ensures.1

pub returns-then-eq-clause-parses : goal.returns-then-eq-clause-parses
returns-then-eq-clause-parses g c = λ f.
    let r = (turn_next (c.separators.invariant.1 f) (separator_accepts _ c.if-not-separator_at.ensures c.in_ok-more.ensures)) in
    as_value (sym (c.in_ok-row.ensures ∙ ap (λ l. with_noted g.E.Element.with_note c.separators.row c.separators.item l) c.in_ok-lines.ensures)) (done r (turn_absent r.fits (absent_map (absent_now _ (search rules) (c.in-Err.ensures.parses (fits_under (fits_one (fits_under f))))))))

pub returns-else-eq-clause-parses : goal.returns-else-eq-clause-parses
returns-else-eq-clause-parses g c = λ f.
    let r = (turn_next (c.separators.invariant.1 f) (separator_accepts _ c.if-not-separator_at.ensures c.in_ok-more.ensures)) in
    refused_later (λ to later p. stop r (turn_refuses r.fits later (map_refuses p))) _ (search rules) (c.in-Err.ensures.parses (fits_under (fits_one (fits_under f))))

pub separators-preserved : goal.separators-preserved
separators-preserved g c = (
  omega (arith, c.separators.invariant.0, c.in_ok-more.ensures.place, c.in-Ok.ensures.forward),
  λ f.
      let r = turn_next (turn_next (c.separators.invariant.1 f) (separator_accepts _ c.if-not-separator_at.ensures c.in_ok-more.ensures)) (map_accepts (c.in-Ok.ensures.parses (fits_under (fits_one (fits_under f))))) in
      as_made (λ rest. ap (λ z. gathered (with_noted g.E.Element.with_note) z (element c.in-Ok.next.0 c.in-Ok.next.1 ∷ rest)) (sym (c.in_ok-row.ensures ∙ ap (λ l. with_noted g.E.Element.with_note c.separators.row c.separators.item l) c.in_ok-lines.ensures))) r,
)

pub separators-smaller : goal.separators-smaller
separators-smaller g c = omega (arith, c.in-Ok.ensures.forward, c.in_ok-more.ensures.place, c.if-not-separator_at.ensures.3, length-drop c.in-Ok.past c.args.tokens.now, length-drop c.separators.at c.args.tokens.now)

pub returns-then-not-separator_at-clause-forward : goal.returns-then-not-separator_at-clause-forward
returns-then-not-separator_at-clause-forward g c = c.separators.invariant.0

pub returns-then-eq-clause-forward : goal.returns-then-eq-clause-forward
returns-then-eq-clause-forward g c = omega (arith, c.separators.invariant.0, c.in_ok-more.ensures.place)
