use Rattle.std.proofs.Common.{◌∙◌, length}
use Rattle.fp_base.proofs.Options.{on_ok_then}
use Rattle.fp_components.specs.Resolved.{IsCommand, saves}
use Rattle.fp_components.proofs.Each.{each_push}
use Rattle.fp_components.proofs.Known.{id_known}
use Rattle.fp_components.proofs.parts.note_save.Goals as goal

pub returns : goal.returns
returns c listed before known h =
    on_ok_then c.push.result _ _
    (λ pushed. each_push (IsCommand listed) before c.args.row.now _ (saves c.args.at c.args.param.now) c.in_ok-resolved.resolved pushed
    (c.in_ok-resolved.ensures listed (length before) (id_known listed c.args.ids.now (length before) c.len.result _ (c.len.ensures ∙ h.each) known c.id_at-opcode.ensures)) h) c.push.ensures.ok
