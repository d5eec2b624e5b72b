use Rattle.std.proofs.lemmas.Option.{slice_get-get_or}
use Rattle.fp_base.proofs.Bools.{told_true, told_false}
use Rattle.fp_machine_rules.proofs.Laid.{laid_not, laid_more, laid_ends}
use Rattle.fp_machine_rules.proofs.laying.is_laid.Goals as goal

pub returns-then-not-is_laid_at : goal.returns-then-not-is_laid_at
returns-then-not-is_laid_at c =
    laid_not c.args.items.now c.loop-at.at _ (slice_get-get_or c.args.items.now c.loop-at.at _ c.loop-at-test.true) (told_false _ _ c.is_laid_at.ensures c.if-not-is_laid_at.true)

pub loop-at-preserved : goal.loop-at-preserved
loop-at-preserved c =
    laid_more c.args.items.now c.loop-at.at _ c.loop-at.invariant (slice_get-get_or c.args.items.now c.loop-at.at _ c.loop-at-test.true)
    (told_true _ _ c.is_laid_at.ensures c.if-not-is_laid_at.false)

pub returns : goal.returns
returns c = laid_ends c.args.items.now c.loop-at.at c.loop-at-test.false c.loop-at.invariant
