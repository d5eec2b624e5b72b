use Rattle.std.proofs.Common.{◌∙◌}
use Rattle.fp_base.specs.declared.rule.Rule.TheVariants.{UndefinedInMachine}
use Rattle.fp_machine_rules.specs.declared.item.Use.{Use}
use Rattle.fp_machine_rules.specs.Broken.{IsUndefined}
use Rattle.fp_machine_rules.proofs.Joined.{flags_placed, undefined_flags}
use Rattle.fp_machine_rules.proofs.faults.undefined_fault.Goals as goal

pub returns : goal.returns
returns c =
    let uses = c.args.uses.now in
    flags_placed UndefinedInMachine (λ (u : Use). u.place) uses (IsUndefined uses) c.args.places.now _ c.least_flagged.result c.requires
    (undefined_flags uses _ (c.deref.ensures.value ∙ c.in_ok-flags.ensures)) c.least_flagged.ensures
