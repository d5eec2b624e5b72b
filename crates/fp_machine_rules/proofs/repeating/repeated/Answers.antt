use Rattle.std.proofs.Common.{◌∙◌, ◌∷◌, [], ◌++◌, None, ap, List, Bool, length, length-append, arith}
use Rattle.std.proofs.lemmas.Option.{slice_get-get_or}
use Rattle.fp_machine_rules.proofs.Repeats.{flagging_goes_on}
use Rattle.fp_machine_rules.proofs.repeating.repeated.Goals as goal

pub loop-key-preserved : goal.loop-key-preserved
loop-key-preserved c =
    flagging_goes_on c.args.keys.now c.loop-key.key-index _ _ _ _ _ c.loop-key.invariant
    (slice_get-get_or c.args.keys.now c.loop-key.key-index None c.loop-key-test.true) c.in_ok-again.ensures.notes
    (c.in_ok-push.ensures.items ∙ ap (λ (b : Bool). c.loop-key.flags.items ++ b ∷ []) c.in_ok-again.ensures.again)
    (omega (arith, ap (λ (bs : List Bool). length bs) c.in_ok-push.ensures.items, length-append c.loop-key.flags.items (c.in_ok-again.again ∷ []), c.loop-key.invariant.each))
