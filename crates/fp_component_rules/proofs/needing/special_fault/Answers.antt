use Rattle.fp_base.specs.declared.rule.Rule.TheVariants.{SpecialPortMissing}
use Rattle.fp_base.specs.Least.{broken_at}
use Rattle.fp_base.proofs.Calculus.{least_told}
use Rattle.fp_component_rules.specs.Gifts.{LeadsAmong}
use Rattle.fp_component_rules.specs.Broken.{IsMissing}
use Rattle.fp_component_rules.proofs.Folding.{but_told, flag_told, told_along}
use Rattle.fp_component_rules.proofs.Lacking.{missing_told}
use Rattle.fp_component_rules.proofs.needing.special_fault.Goals as goal

pub returns : goal.returns
returns c fs h =
    let ms = c.args.members.now in
    let gift = c.args.gift.now in
    let missing = c.have_common-missing.result in
    least_told (IsMissing fs ms × (LeadsAmong fs ms → ⊥)) _ (broken_at SpecialPortMissing c.args.at) c.refusal_if.result
    (but_told missing gift.leads_to_cycle
    (told_along c.have_common-missing.ensures (missing_told fs ms gift h c.needed_in.result c.left_out.result c.needed_in.ensures c.left_out.ensures))
    (flag_told gift.leads_to_cycle h.leads))
    c.refusal_if.ensures
