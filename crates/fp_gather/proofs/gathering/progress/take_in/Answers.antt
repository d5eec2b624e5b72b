use Rattle.std.proofs.Common.{◌∙◌}
use Rattle.fp_gather.proofs.KnownFiles.{taken}
use Rattle.fp_gather.proofs.gathering.progress.take_in.Goals as goal

pub returns : goal.returns
returns c = λ before k.
    taken c.args.progress.now before c.args.round.now c.args.inside c.args.name.now c.in_ok-copy.field-0 c.args.text.now c.in_ok-number.number c.in_ok-inclusions.inclusions c.passes-passes.result c.in_ok-found.found
    c.push.new.self c.room_behind-progress.result c.lesser-progress.result c.lesser-progress-2.result k
    (c.in_ok-number.ensures ∙ c.len.ensures) c.in_ok-inclusions.ensures c.passes-passes.ensures c.in_ok-found.ensures c.in_ok-copy.ensures c.in_ok-push.ensures.ok
    c.room_behind-progress.ensures c.lesser-progress.ensures c.lesser-progress-2.ensures
