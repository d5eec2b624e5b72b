use Rattle.std.proofs.Common.{sym, ◌∙◌, arith}
use Rattle.fp_machine_rules.proofs.Outward.{parent_before}
use Rattle.fp_machine_rules.proofs.Depths.{deep_outermost, deep_below}
use Rattle.fp_machine_rules.proofs.nesting.depth_of.Goals as goal

pub depth_at-requires : goal.depth_at-requires
depth_at-requires c =
    let b = parent_before c.args.items.now c.args.vertex c.requires.laid c.args.vertex c.in-Some.parent (sym c.parent_of.ensures ∙ c.in-Some.is) in
    omega (arith, b, c.requires.before.each)

pub returns-in-None-clause-deep : goal.returns-in-None-clause-deep
returns-in-None-clause-deep c = deep_outermost c.args.items.now c.args.vertex c.requires.within (sym c.parent_of.ensures ∙ c.in-None.is)

pub returns-in-Some-clause-deep : goal.returns-in-Some-clause-deep
returns-in-Some-clause-deep c =
    deep_below c.args.items.now c.args.vertex c.in-Some.parent c.depth_at.result (sym c.parent_of.ensures ∙ c.in-Some.is)
    (c.requires.before.exact c.in-Some.parent c.depth_at.result c.depth_at.ensures)

pub returns-in-Some-clause-small : goal.returns-in-Some-clause-small
returns-in-Some-clause-small c =
    let b = parent_before c.args.items.now c.args.vertex c.requires.laid c.args.vertex c.in-Some.parent (sym c.parent_of.ensures ∙ c.in-Some.is) in
    let s = c.requires.before.small c.in-Some.parent c.depth_at.result c.depth_at.ensures in
    omega (arith, b, s)
