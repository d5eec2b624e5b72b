use Rattle.std.proofs.Common.{None, subst}
use Rattle.fp_base.proofs.Options.{if_ok_then}
use Rattle.fp_source_parts.proofs.Giving.{given_by}
use Rattle.fp_source_parts.proofs.building.machine_among.Goals as goal

pub returns-in-Declared-clause-made : goal.returns-in-Declared-clause-made
returns-in-Declared-clause-made c =
    if_ok_then c.declared_machine.result _ _ (λ one g. given_by c.args.marks.now c.args.resolutions.now c.args.start c.args.item.now _ one c.in-Declared.is g) c.declared_machine.ensures.made

pub returns-in-Defined-clause-made : goal.returns-in-Defined-clause-made
returns-in-Defined-clause-made c = given_by c.args.marks.now c.args.resolutions.now c.args.start c.args.item.now _ None c.in-Defined.is (λ source h. tt)

pub returns-in-Enumerated-clause-made : goal.returns-in-Enumerated-clause-made
returns-in-Enumerated-clause-made c = given_by c.args.marks.now c.args.resolutions.now c.args.start c.args.item.now _ None c.in-Enumerated.is (λ source h. tt)

pub returns-in-Used-clause-made : goal.returns-in-Used-clause-made
returns-in-Used-clause-made c = given_by c.args.marks.now c.args.resolutions.now c.args.start c.args.item.now _ None c.in-Used.is (λ source h. tt)

pub returns-in-Written-clause-made : goal.returns-in-Written-clause-made
returns-in-Written-clause-made c = given_by c.args.marks.now c.args.resolutions.now c.args.start c.args.item.now _ None c.in-Written.is (λ source h. tt)
