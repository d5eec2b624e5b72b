use Rattle.std.proofs.Common.{Option, ◌∙◌, ap, Some}
use Rattle.fp_base.specs.declared.refusal.Refusal.{Refusal}
use Rattle.fp_base.specs.Least.{lesser_of}
use Rattle.fp_gather.proofs.KnownFiles.{known_refused}
use Rattle.fp_gather.proofs.gathering.progress.refuse.Goals as goal

pub returns : goal.returns
returns c = λ before k. known_refused c.args.progress.now _ before _ k
    (ap (λ (o : Option Refusal). record c.args.progress.now { includes = o })
    (c.lesser-progress.ensures ∙ ap (λ (f : Refusal). lesser_of c.args.progress.now.includes (Some f)) c.refusal_at.ensures))
