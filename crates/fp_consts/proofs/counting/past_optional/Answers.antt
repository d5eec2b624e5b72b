use Rattle.std.proofs.Common.{sym, subst}
use Rattle.std.specs.Option.{option_copied}
use Rattle.fp_meaning.specs.Names.{in_expression, in_optional}
use Rattle.fp_consts.specs.Laid.{IsPast}
use Rattle.fp_consts.proofs.counting.past_optional.Goals as goal

pub returns-in-Some : goal.returns-in-Some
returns-in-Some c scope =
    subst (λ o. IsPast (in_optional (in_expression scope) (option_copied o)) c.args.limit c.args.next c.past_expression.result) (sym c.in-Some.is) (c.past_expression.ensures scope)
