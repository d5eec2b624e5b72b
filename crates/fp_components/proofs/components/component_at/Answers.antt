use Rattle.std.proofs.Common.{◌≡◌, ◌∙◌, Some, ap, sym, subst}
use Rattle.std.specs.Option.{option_copied}
use Rattle.fp_base.proofs.Options.{same_some, no_some}
use Rattle.fp_written_parts.specs.Giving.{GiveAll}
use Rattle.fp_components.proofs.components.component_at.Goals as goal

pub returns-in-Some : goal.returns-in-Some
returns-in-Some c fs all at given whole =
    let same : Some c.in-Some.ports.now ≡ Some all = ap option_copied (sym c.in-Some.is) ∙ c.list_at.ensures ∙ at in
    c.component_from.ensures fs (subst (GiveAll fs c.args.component.now.members) (sym (same_some same) ∙ sym c.ports.ensures) given) whole

pub returns-in-None : goal.returns-in-None
returns-in-None c fs all at given whole = no_some (ap option_copied (sym c.in-None.is) ∙ c.list_at.ensures ∙ at)
