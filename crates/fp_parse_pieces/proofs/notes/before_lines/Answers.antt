use Rattle.std.proofs.Common.{refl, sym, ap, ◌∙◌, ◌++◌, append-nil, append_assoc, ◌∷◌, []}
use Rattle.fp_grammar.proofs.Answering.{as_value}
use Rattle.fp_grammar.proofs.Walk.{begin, done, as_made}
use Rattle.fp_grammar.proofs.Steps.{absent}
use Rattle.fp_grammar.proofs.ListSteps.{many_next, many_absent}
use Rattle.fp_parse_pieces.proofs.WordsFit.{each_kind, before_lines_fits}
use Rattle.fp_parse_pieces.proofs.notes.before_lines.Goals as goal

pub lines-init : goal.lines-init
lines-init c = as_made (λ rest. ap (λ l. l ++ rest) (sym c.new-lines.ensures)) (begin _ _ before_lines_fits)

pub returns-in-None : goal.returns-in-None
returns-in-None c = as_value (append-nil _) (done c.lines.invariant (many_absent refl refl each_kind (absent c.in-None.ensures)))

pub lines-preserved : goal.lines-preserved
lines-preserved c =
    as_made (λ rest. sym (append_assoc c.lines.lines (c.in_ok-copy-in-Some.field-0 ∷ []) rest) ∙ ap (λ l. l ++ rest) (sym c.in_ok-push-in-Some.ensures.ok))
    (many_next c.lines.invariant (as_value (sym c.in_ok-copy-in-Some.ensures) c.in-Some.ensures.1))
