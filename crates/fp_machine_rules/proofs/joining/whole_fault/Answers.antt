use Rattle.std.proofs.Common.{sym}
use Rattle.fp_base.specs.declared.rule.Rule.TheVariants.{InitialCount, MachineTooLarge}
use Rattle.fp_base.specs.Least.{broken_at}
use Rattle.fp_base.proofs.Calculus.{least_along, least_either, least_flag}
use Rattle.fp_machine_rules.specs.Members.{MachineCountsWrong}
use Rattle.fp_machine_rules.specs.Nested.{IsTooLarge}
use Rattle.fp_machine_rules.proofs.Joined.{told_iff}
use Rattle.fp_machine_rules.proofs.joining.whole_fault.Goals as goal

pub returns : goal.returns
returns c =
    let items = c.args.items.now in
    let place = c.args.place in
    least_along (sym c.lesser.ensures)
    (least_either _ _
    (least_along (sym c.refusal_if-count.ensures)
    (least_flag (MachineCountsWrong items) c.machine_counts_wrong-miscounted.result (broken_at InitialCount place)
    (told_iff _ _ (c.machine_counts_wrong-miscounted.ensures items c.requires.gathered))))
    (least_along (sym c.refusal_if-size.ensures)
    (least_flag (IsTooLarge items) c.in_ok-large.large (broken_at MachineTooLarge place) c.in_ok-large.ensures)))
