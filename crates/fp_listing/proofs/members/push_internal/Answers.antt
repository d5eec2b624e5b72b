use Rattle.std.proofs.Common.{ap, ◌∙◌}
use Rattle.std.specs.Prelude.{codes}
use Rattle.fp_listing.specs.Kinds.{formals_text, queue_text}
use Rattle.fp_logtext.proofs.Pushed.{first, next, same, last}
use Rattle.fp_listing.proofs.members.push_internal.Goals as goal

pub returns : goal.returns
returns c =
    let types = c.args.model.now.types in
    let port = c.args.port.now in
    let internal = first c.args.out.now (codes "internal ") c.in_ok-push_text.ensures in
    let word = next internal (codes "port ") c.in_ok-push_text-2.ensures in
    let name = same word port.name c.as_str.ensures c.in_ok-push_text-3.ensures in
    let given = ap (λ ts. formals_text ts c.as_slice-2.result.now) c.as_slice.ensures ∙ ap (formals_text types) c.as_slice-2.ensures in
    let formals = same name (formals_text types port.formals) given c.in_ok-push_formals.ensures in
    last formals (queue_text c.args.way) c.push_queueing.new.out c.push_queueing.result c.push_queueing.ensures
