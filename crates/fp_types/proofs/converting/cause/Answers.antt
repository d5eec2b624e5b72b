use Rattle.fp_types.specs.Converting.{opened}
use Rattle.fp_types.specs.Faults.{MeetsMember, MeetsRange, lacks_member, is_outside}
use Rattle.fp_types.specs.Making.{Enough}
use Rattle.fp_types.specs.declared.faults.Sought.TheVariants as sought
use Rattle.fp_types.proofs.Through.{not_met}
use Rattle.fp_types.proofs.Meetings.{tells_true, tells_false, passes_kinds}
use Rattle.fp_types.proofs.converting.cause.Goals as goal

pub returns-then-member : goal.returns-then-member
returns-then-member c =
    let types = c.args.types.now in
    tells_true (Enough types 64 c.args.to) (MeetsMember types c.args.value.now c.args.to) c.meets-member.result c.if-member.true c.meets-member.ensures

pub returns-then-range : goal.returns-then-range
returns-then-range c =
    let types = c.args.types.now in
    let v = c.args.value.now in
    let to = c.args.to in
    let r = Enough types 64 to in (
      not_met types lacks_member to (opened v) (passes_kinds sought.Member) (tells_false r (MeetsMember types v to) c.meets-member.result c.if-member.false c.meets-member.ensures),
      tells_true r (MeetsRange types v to) c.meets-range.result c.if-range.true c.meets-range.ensures,
    )

pub returns : goal.returns
returns c =
    let types = c.args.types.now in
    let v = c.args.value.now in
    let to = c.args.to in
    let r = Enough types 64 to in (
      not_met types lacks_member to (opened v) (passes_kinds sought.Member) (tells_false r (MeetsMember types v to) c.meets-member.result c.if-member.false c.meets-member.ensures),
      not_met types is_outside to (opened v) (passes_kinds sought.Range) (tells_false r (MeetsRange types v to) c.meets-range.result c.if-range.false c.meets-range.ensures),
    )
