use Rattle.std.proofs.Common.{[], ◌∷◌}
use Rattle.std.proofs.lemmas.List.{map-append}
use Rattle.fp_tables.specs.Instances.{range_of}
use Rattle.fp_sound_model.specs.IdRanges.{ends_of}
use Rattle.fp_sound_model.proofs.RangesApart.{one_more, none_more}
use Rattle.fp_sound_model.proofs.ranges.ranges_of.Goals as goal
use Rattle.fp_sound_model.proofs.ranges.ranges_of.Goals.{in-Some+in_ok-push, in_default}

pub loop-instance-preserved : goal.loop-instance-preserved
loop-instance-preserved c =
    let x = c.instance-item.result in
    let h = range_of c.args.model.now in
    elim c.match-range_of.branch [
      | in-Some+in_ok-push w ↦
          let more = one_more h c.args.instances.now c.loop-instance.instance-index x c.loop-instance-test.true c.instance-item.is _ w.in-Some.ensures in
          let pushed = w.in_ok-push.ensures.items in
          let ends = map-append ends_of c.loop-instance.ranges.items (w.in-Some.range ∷ []) in
          cc (more, pushed, ends)
      | in_default w ↦ let same = none_more h c.args.instances.now c.loop-instance.instance-index x c.loop-instance-test.true c.instance-item.is w.in_default.ensures in cc
    ]
