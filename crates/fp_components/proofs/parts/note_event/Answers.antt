use Rattle.std.proofs.Common.{◌∙◌, length}
use Rattle.fp_base.proofs.Options.{on_ok_then}
use Rattle.fp_components.specs.Resolved.{IsEvent}
use Rattle.fp_components.proofs.Each.{each_push}
use Rattle.fp_components.proofs.Known.{id_known}
use Rattle.fp_components.proofs.parts.note_event.Goals as goal

pub returns : goal.returns
returns c listed before known whole h =
    on_ok_then c.push.result _ _
    (λ pushed. each_push (IsEvent listed) before c.args.row.now _ c.args.event.now c.in_ok-resolved.resolved pushed
    (c.in_ok-resolved.ensures listed (length before) (id_known listed c.args.ids.now (length before) c.len.result _ (c.len.ensures ∙ h.each) known c.id_at-id.ensures) whole) h) c.push.ensures.ok
