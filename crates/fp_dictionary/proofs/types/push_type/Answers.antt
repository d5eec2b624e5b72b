use Rattle.std.proofs.Common.{◌∙◌, ap, sym}
use Rattle.std.specs.Option.{option_copied}
use Rattle.fp_dictionary.proofs.Definitions.{none_next, some_next}
use Rattle.fp_dictionary.proofs.types.push_type.Goals as goal

pub returns-in_ok-push_definition-in-Some : goal.returns-in_ok-push_definition-in-Some
returns-in_ok-push_definition-in-Some c more =
    some_next c.args.types.now c.args.at more c.args.later _ _ _ (sym c.type_at.ensures ∙ ap option_copied c.in-Some.is) c.in_ok-push_definition-in-Some.ensures

pub returns-in-None : goal.returns-in-None
returns-in-None c more = none_next c.args.types.now c.args.at more c.args.later _ (sym c.type_at.ensures ∙ ap option_copied c.in-None.is)
