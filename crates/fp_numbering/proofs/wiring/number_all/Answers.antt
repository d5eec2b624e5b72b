use Rattle.fp_base.proofs.Calculus.{least_along, none_broken}
use Rattle.fp_numbering.proofs.Rows.{all_wired}
use Rattle.fp_numbering.proofs.wiring.number_all.Goals as goal

pub returns-in_ok-with_wires-in-None-clause-wired : goal.returns-in_ok-with_wires-in-None-clause-wired
returns-in_ok-with_wires-in-None-clause-wired c =
    let found = c.in_ok-found.ensures in
    all_wired c.args.model c.in_ok-found.found.wires c.in_ok-with_wires-in-None.field-0 (found.each c.in-None.is) (found.numbered c.in-None.is) c.in_ok-with_wires-in-None.ensures

pub returns-in_ok-with_wires-in-None-clause-unbroken : goal.returns-in_ok-with_wires-in-None-clause-unbroken
returns-in_ok-with_wires-in-None-clause-unbroken c = none_broken (least_along c.in-None.is c.in_ok-found.ensures.least)
