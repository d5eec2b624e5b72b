use Rattle.std.proofs.Common.{inr, refl}
use Rattle.fp_base.proofs.Options.{if_ok_then}
use Rattle.fp_main.proofs.Dues.{due_refused}
use Rattle.fp_main.proofs.answer.answer_source.Goals as goal

pub returns-in-Ok : goal.returns-in-Ok
returns-in-Ok g c told words names spelled =
    if_ok_then c.answer_model.result _ _ (λ due d. inr (c.in-Ok.ensures.unbroken, (c.in-Ok.model, c.in-Ok.ensures.defined, d))) (c.answer_model.ensures told words names spelled)

pub returns-in-Err-Broken : goal.returns-in-Err-Broken
returns-in-Err-Broken g c told words names spelled =
    if_ok_then c.refused.result _ _
    (λ due is. due_refused words names told _ c.args.source.now c.in-Err-Broken.refusal due (refl, refl) is (rw c.in-Err-Broken.field-0-is at c.in-Err-Broken.ensures.stop)) c.refused.ensures
