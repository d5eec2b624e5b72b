use Rattle.std.proofs.Common.{◌≡◌, subst}
use Rattle.std.specs.Prelude.{MatchResult, Result}
use Rattle.fp_base.proofs.Options.{if_ok_then}
use Rattle.fp_base.specs.declared.format.Format.{Format}
use Rattle.fp_formats.specs.declared.fault.FormatFault.{FormatFault}
use Rattle.fp_formats.specs.declared.fault.FormatFault.TheVariants.{NoMemory}
use Rattle.fp_components.proofs.events.fields_of.Goals as goal

pub returns-in-Err : goal.returns-in-Err
returns-in-Err c parts is =
    if_ok_then c.no_format.result _ _ (λ f none. absurd none)
    (c.no_format.ensures
    (subst (λ (r : Result Format FormatFault). MatchResult r (λ f. f.parts ≡ parts) (λ g. g ≡ NoMemory)) c.in-Err.is (c.read_format.ensures.only_format parts is)))
