use Rattle.std.proofs.Common.{sym, ◌∙◌}
use Rattle.fp_base.specs.Least.{broken_at}
use Rattle.fp_base.proofs.Calculus.{least_along, least_if}
use Rattle.fp_machine_rules.proofs.Joined.{marked_set, set_marked}
use Rattle.fp_machine_rules.proofs.placing.flagged_fault.Goals as goal

pub returns : goal.returns
returns c =
    let flags = c.args.flags.now in
    let at = c.args.at in
    least_along (sym c.refusal_if.ensures)
    (least_if c.is_marked.result (broken_at c.args.rule c.args.place) (λ e. marked_set flags at (sym c.is_marked.ensures ∙ e)) (λ e. set_marked flags at (sym c.is_marked.ensures ∙ e)))
