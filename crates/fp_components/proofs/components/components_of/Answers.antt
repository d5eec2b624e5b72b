use Rattle.std.proofs.Common.{sym, subst}
use Rattle.fp_base.proofs.Options.{if_ok_then}
use Rattle.fp_component_rules.specs.Gifts.{AreGifts}
use Rattle.fp_component_rules.specs.Lists.{ArePortLists}
use Rattle.fp_components.specs.Resolved.{AreComponents}
use Rattle.fp_components.proofs.components.components_of.Goals as goal

pub returns-clause-are : goal.returns-clause-are
returns-clause-are c =
    let fs = c.args.interfaces.now in
    if_ok_then c.short.result _ _
    (λ cs same whole. subst (AreComponents fs c.args.definitions.now c.args.types.now.written.now c.args.components.now) (sym same)
    (c.in_ok-row.ensures fs (subst (ArePortLists fs c.args.components.now) (sym c.as_slice-2.ensures)
    (c.in_ok-lists.ensures fs (subst (AreGifts fs) (sym c.as_slice.ensures.value) c.in_ok-gifts.ensures) c.requires.components whole.named_once)) whole.each)) c.short.ensures.same
