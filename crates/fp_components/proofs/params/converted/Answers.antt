use Rattle.fp_base.proofs.Options.{if_ok_then}
use Rattle.fp_components.proofs.Valued.{made, no_memory}
use Rattle.fp_components.proofs.params.converted.Goals as goal

pub returns-in-Ok : goal.returns-in-Ok
returns-in-Ok c w becomes = made c.args.types.now.written.now c.args.kind c.args.written.now c.convert-made.result _ c.in-Ok.is c.convert-made.ensures

pub returns-in-Err : goal.returns-in-Err
returns-in-Err c w becomes =
    if_ok_then c.no_value.result _ _ (λ v none. absurd none)
    (c.no_value.ensures (no_memory c.args.types.now.written.now c.args.kind c.args.written.now w c.convert-made.result c.in-Err.unfit c.in-Err.is c.convert-made.ensures becomes))
