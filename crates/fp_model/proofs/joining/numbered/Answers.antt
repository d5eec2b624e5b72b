use Rattle.fp_base.proofs.Calculus.{none_broken}
use Rattle.fp_model.proofs.Deploying.{deployed_one}
use Rattle.fp_model.proofs.Stopping.{numbers_least_stop, numbers_none}
use Rattle.fp_model.proofs.joining.numbered.Goals as goal

pub returns-clause-unbroken : goal.returns-clause-unbroken
returns-clause-unbroken c =
    let one = deployed_one c.one_deployment.ensures c.written_deployments_lie.ensures c.unbroken_imports_are_closed.ensures c.args.source.now c.args.joined c.requires.joined c.requires.before in
    numbers_none c.args.source.now c.args.joined c.number_all.result
    (λ o. c.numbers_are_least.ensures c.args.source.now (record { ports = c.args.joined.ports; components = c.args.joined.components }) one.written c.args.joined.instances c.args.joined.topologies o
    one.deployment one.instances one.closures one.topologies) c.number_all.ensures.unbroken

pub returns-clause-stop : goal.returns-clause-stop
returns-clause-stop c =
    let one = deployed_one c.one_deployment.ensures c.written_deployments_lie.ensures c.unbroken_imports_are_closed.ensures c.args.source.now c.args.joined c.requires.joined c.requires.before in
    numbers_least_stop c.args.source.now c.args.joined c.number_all.result
    (λ o. c.numbers_are_least.ensures c.args.source.now (record { ports = c.args.joined.ports; components = c.args.joined.components }) one.written c.args.joined.instances c.args.joined.topologies o
    one.deployment one.instances one.closures one.topologies) c.number_all.ensures.stop
