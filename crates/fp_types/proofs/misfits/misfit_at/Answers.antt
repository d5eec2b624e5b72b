use Rattle.std.proofs.Common.{Some, sym, ap}
use Rattle.fp_base.proofs.Calculus.{least_along}
use Rattle.fp_types.specs.Converting.{opened}
use Rattle.fp_types.specs.Faults.{Meets, lacks_member, is_outside, differs}
use Rattle.fp_types.specs.Making.{EnoughIn}
use Rattle.fp_types.specs.Read.{meant}
use Rattle.fp_types.specs.declared.faults.Sought.TheVariants as sought
use Rattle.fp_types.proofs.Meetings.{tells_true, tells_false, passes_kinds}
use Rattle.fp_types.proofs.Causes.{least_member, least_range, least_shape, least_misfit_none}
use Rattle.fp_types.proofs.misfits.misfit_at.Goals as goal

pub returns-then-member : goal.returns-then-member
returns-then-member c = λ reached.
    let types = c.args.types.now in
    let v = opened c.args.value.now in
    let t = meant c.args.target.now in
    least_along (ap (λ (f : _). Some f) (sym c.refusal_at.ensures))
    (least_member types c.args.place v t (tells_true (EnoughIn types 64 t) (Meets types lacks_member v t) c.meets_at-member.result c.if-member.true c.meets_at-member.ensures))

pub returns-then-range : goal.returns-then-range
returns-then-range c = λ reached.
    let types = c.args.types.now in
    let v = opened c.args.value.now in
    let t = meant c.args.target.now in
    let r = EnoughIn types 64 t in
    let no_member = tells_false r (Meets types lacks_member v t) c.meets_at-member.result c.if-member.false c.meets_at-member.ensures in
    least_along (ap (λ (f : _). Some f) (sym c.refusal_at-then-range.ensures))
    (least_range types c.args.place v t (λ m. no_member (reached lacks_member (passes_kinds sought.Member) m) m)
    (tells_true r (Meets types is_outside v t) c.meets_at-range.result c.if-range.true c.meets_at-range.ensures))

pub returns-then-shape : goal.returns-then-shape
returns-then-shape c = λ reached.
    let types = c.args.types.now in
    let v = opened c.args.value.now in
    let t = meant c.args.target.now in
    let r = EnoughIn types 64 t in
    let no_member = tells_false r (Meets types lacks_member v t) c.meets_at-member.result c.if-member.false c.meets_at-member.ensures in
    let no_range = tells_false r (Meets types is_outside v t) c.meets_at-range.result c.if-range.false c.meets_at-range.ensures in
    least_along (ap (λ (f : _). Some f) (sym c.refusal_at-then-shape.ensures))
    (least_shape types c.args.place v t (λ m. no_member (reached lacks_member (passes_kinds sought.Member) m) m) (λ m. no_range (reached is_outside (passes_kinds sought.Range) m) m)
    (tells_true r (Meets types differs v t) c.meets_at-shape.result c.if-shape.true c.meets_at-shape.ensures))

pub returns : goal.returns
returns c = λ reached.
    let types = c.args.types.now in
    let v = opened c.args.value.now in
    let t = meant c.args.target.now in
    let r = EnoughIn types 64 t in
    let no_member = tells_false r (Meets types lacks_member v t) c.meets_at-member.result c.if-member.false c.meets_at-member.ensures in
    let no_range = tells_false r (Meets types is_outside v t) c.meets_at-range.result c.if-range.false c.meets_at-range.ensures in
    let no_shape = tells_false r (Meets types differs v t) c.meets_at-shape.result c.if-shape.false c.meets_at-shape.ensures in
    least_misfit_none types c.args.place v t (λ m. no_member (reached lacks_member (passes_kinds sought.Member) m) m) (λ m. no_range (reached is_outside (passes_kinds sought.Range) m) m)
    (λ m. no_shape (reached differs (passes_kinds sought.Shape) m) m)
