use Rattle.std.proofs.Common.{sym}
use Rattle.fp_base.proofs.Calculus.{least_along, least_either, none_broken}
use Rattle.fp_gather.proofs.FirstInFiles.{include_first}
use Rattle.fp_gather.proofs.gathering.judging.includes_first.Goals as goal

pub returns-in-None : goal.returns-in-None
returns-in-None c = λ walked k. none_broken (least_along c.in-None.is k.includes)

pub returns-in_ok-names-in-Some : goal.returns-in_ok-names-in-Some
returns-in_ok-names-in-Some c = λ walked k.
    let l = least_along c.in-Some.is k.includes in
    include_first walked c.args.concluded.now.source c.in-Some.include c.lesser.result l
    (least_along (sym c.lesser.ensures) (least_either _ _ l c.in_ok-names-in-Some.ensures))
