use Rattle.std.proofs.Common.{◌≤◌, Bool, List, length, subst, arith}
use Rattle.std.proofs.lemmas.List.{take_all}
use Rattle.fp_component_rules.specs.Gifts.{AreBegun}
use Rattle.fp_component_rules.proofs.Ordered.{begun_next, begun_none}
use Rattle.fp_component_rules.proofs.gathering.begun.Goals as goal

pub loop-at-init : goal.loop-at-init
loop-at-init c = begun_none c.in_ok-gifts.gifts.items c.in_ok-gifts.ensures.items

pub loop-at-preserved : goal.loop-at-preserved
loop-at-preserved c =
    begun_next c.args.cyclic.now c.loop-at.at c.is_flagged-leads_to_cycle.result c.loop-at.gifts.items c.nothing.result _ c.is_flagged-leads_to_cycle.ensures c.in_ok-push.ensures.items
    c.nothing.ensures.sums c.nothing.ensures.leads c.loop-at.invariant

pub returns : goal.returns
returns c =
    let over : length c.args.cyclic.now ≤ c.loop-at.at = omega arith in
    subst (λ (flags : List Bool). AreBegun flags c.loop-at.gifts.items) (take_all c.loop-at.at c.args.cyclic.now over) c.loop-at.invariant
