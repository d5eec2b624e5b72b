use Rattle.std.proofs.Common.{List, Bool, length, refl, subst, sym}
use Rattle.fp_base.specs.declared.rule.Rule.TheVariants.{TypedValue}
use Rattle.fp_machine_rules.specs.declared.item.Use.{Use}
use Rattle.fp_machine_rules.specs.Broken.{LacksValue}
use Rattle.fp_machine_rules.specs.Leaving.{AreFlags}
use Rattle.fp_machine_rules.proofs.Joined.{flags_placed, value_flags}
use Rattle.fp_machine_rules.proofs.faults.typed_fault.Goals as goal

pub returns : goal.returns
returns c =
    let items = c.args.items.now in
    let types = c.args.types.now in
    let uses = c.args.uses.now in
    flags_placed TypedValue (λ (u : Use). u.place) uses (LacksValue items types uses) c.args.places.now _ c.least_flagged.result c.requires
    (subst (λ (fs : List Bool). AreFlags (LacksValue items types uses) (length uses) fs) (sym c.deref.ensures.value)
    (value_flags items types uses (length uses) _ refl c.in_ok-flags.ensures))
    c.least_flagged.ensures
