use Rattle.std.proofs.Common.{◌∙◌, length, ap, Bool, true, Option}
use Rattle.std.specs.Option.{unwrap_or}
use Rattle.fp_cell.proofs.Given.{within_read, past, not_less}
use Rattle.fp_cell.proofs.walking.answer_to.Goals as goal

pub returns-in-Some : goal.returns-in-Some
returns-in-Some c = within_read c.args.given.now c.args.asking c.in-Some.answer.now c.in-Some.ensures.lookup.0 c.in-Some.ensures.lookup.1

pub returns-in-None : goal.returns-in-None
returns-in-None c =
    c.unwrap_or.ensures ∙ ap (λ (o : Option Bool). unwrap_or o true) (c.copied.ensures ∙ c.last.ensures.value)
    ∙ past c.args.given.now c.args.asking (not_less c.args.asking (length c.args.given.now) c.in-None.ensures.lookup.0)
