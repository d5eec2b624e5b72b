use Rattle.std.proofs.Common.{[], None, refl}
use Rattle.fp_parse_parts.specs.declared.parsing.Inside.TheVariants as inside
use Rattle.fp_parse_parts.proofs.MembersFit.{component_parts_fit}
use Rattle.fp_parse_parts.proofs.Reaching.{stop_passed}
use Rattle.fp_parse_parts.proofs.parsing.of_component.Goals as goal

pub whole-requires-clause-fits : goal.whole-requires-clause-fits
whole-requires-clause-fits c = component_parts_fit

pub whole-requires-clause-empty : goal.whole-requires-clause-empty
whole-requires-clause-empty c = ([], ([], refl, (None, refl, refl)))

pub returns-in_err-parts : goal.returns-in_err-parts
returns-in_err-parts c = stop_passed c.args.tokens.now inside.Component _ _ c.from_residual.ensures.1 c.in_err-parts.ensures
