use Rattle.std.proofs.Common.{[], None, refl}
use Rattle.fp_parse_parts.specs.declared.parsing.Inside.TheVariants as inside
use Rattle.fp_parse_parts.proofs.MembersFit.{unit_fits}
use Rattle.fp_parse_parts.proofs.Reaching.{stop_passed}
use Rattle.fp_parse_parts.proofs.parsing.of_unit.Goals as goal

pub whole-requires-clause-fits : goal.whole-requires-clause-fits
whole-requires-clause-fits c = unit_fits

pub whole-requires-clause-empty : goal.whole-requires-clause-empty
whole-requires-clause-empty c = ([], (None, refl, refl))

pub returns-in_err-members : goal.returns-in_err-members
returns-in_err-members c = stop_passed c.args.tokens.now inside.Unit _ _ c.from_residual.ensures.1 c.in_err-members.ensures
