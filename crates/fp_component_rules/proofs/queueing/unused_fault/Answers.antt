use Rattle.std.proofs.Common.{◌||◌, Bool, ap}
use Rattle.fp_base.specs.declared.rule.Rule.TheVariants.{QueueWithoutUse}
use Rattle.fp_base.specs.Least.{broken_at}
use Rattle.fp_base.proofs.Calculus.{least_told}
use Rattle.fp_component_rules.specs.Gifts.{LeadsAmong}
use Rattle.fp_component_rules.specs.Broken.{WaitsAmong}
use Rattle.fp_component_rules.proofs.Folding.{flag_told, neither_told, told_along}
use Rattle.fp_component_rules.proofs.Waiting.{among_told}
use Rattle.fp_component_rules.proofs.queueing.unused_fault.Goals as goal

pub returns : goal.returns
returns c fs h =
    let ms = c.args.members.now in
    let gift = c.args.gift.now in
    least_told ((WaitsAmong fs ms → ⊥) × (LeadsAmong fs ms → ⊥)) _ (broken_at QueueWithoutUse c.args.at) c.refusal_if.result
    (neither_told _ gift.leads_to_cycle (told_along (ap (λ (b : Bool). b || gift.asynchronous) c.some_wait.ensures) (among_told fs ms gift h)) (flag_told gift.leads_to_cycle h.leads))
    c.refusal_if.ensures
