use Rattle.fp_base.proofs.Options.{on_ok_then}
use Rattle.fp_components.specs.Resolved.{IsRunning}
use Rattle.fp_components.proofs.Each.{each_push}
use Rattle.fp_components.proofs.parts.note_running.Goals as goal

pub returns : goal.returns
returns c before whole h =
    on_ok_then c.push.result _ _ (λ pushed. each_push (λ k. IsRunning) before c.args.row.now _ c.args.running.now c.in_ok-resolved.resolved pushed (c.in_ok-resolved.ensures whole) h) c.push.ensures.ok
