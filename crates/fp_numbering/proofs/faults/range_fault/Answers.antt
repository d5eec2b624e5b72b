use Rattle.std.proofs.Common.{rules}
use Rattle.std.proofs.lemmas.Int.{to_z-of_z}
use mir.Syntax.{w128}
use mir.Val.{SFits}
use Rattle.fp_numbering.proofs.Faulting.{untested, out_least}
use Rattle.fp_numbering.proofs.faults.range_fault.Goals as goal

pub returns-in-Some : goal.returns-in-Some
returns-in-Some c k =
    let fits : SFits w128 c.in-Some.written.number = search rules in
    out_least k c.args.tip c.in-Some.written _ _ _ _ c.in-Some.is (to_z-of_z w128 c.in-Some.written.number fits) c.number_below-number.ensures
    (untested c.number_below-number.result c.is_none.result c.is_none.ensures) c.refusal_if.ensures
