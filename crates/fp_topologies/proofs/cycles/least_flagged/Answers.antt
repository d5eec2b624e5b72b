use Rattle.std.proofs.Common.{◌≤◌, length, arith}
use Rattle.fp_topologies.proofs.Flags.{flagged_all, flagged_next, flagged_none}
use Rattle.fp_topologies.proofs.cycles.least_flagged.Goals as goal

pub loop-at-init : goal.loop-at-init
loop-at-init c = flagged_none c.args.flags.now c.args.links.now

pub loop-at-preserved : goal.loop-at-preserved
loop-at-preserved c =
    flagged_next c.args.flags.now c.args.links.now c.loop-at.at c.link_at-link.result c.loop-at.least c.refusal_if-one.result c.lesser-least.result c.flag_at-flag.result
    c.link_at-link.ensures c.flag_at-flag.ensures c.refusal_if-one.ensures c.lesser-least.ensures c.loop-at.invariant

pub returns : goal.returns
returns c =
    let over : length c.args.links.now ≤ c.loop-at.at = omega arith in
    flagged_all c.args.flags.now c.args.links.now c.loop-at.at c.loop-at.least over c.loop-at.invariant
