use Rattle.std.proofs.Common.{ap, ◌∙◌}
use Rattle.fp_tables.specs.declared.model.Model.{Model}
use Rattle.fp_model.proofs.Made.{made_joined, made_short}
use Rattle.fp_model.proofs.assembling.model_of.Goals as goal

pub returns-clause-joined : goal.returns-clause-joined
returns-clause-joined c source ws laid stand types written parts machines deployed =
    made_joined c.args.items.now c.in_ok-constants.constants c.args.types c.args.parts.ports c.args.parts.components c.args.machines c.args.deployed.instances c.args.deployed.topologies c.in_ok-order.order
    c.in_ok-model.model c.in_ok-model.ensures.model c.args.values.now c.in_ok-constants.ensures c.in_ok-order.ensures source ws laid stand types written parts machines deployed

pub returns-clause-topologies : goal.returns-clause-topologies
returns-clause-topologies c = ap (λ (m : Model). m.topologies) c.in_ok-model.ensures.model

pub returns-clause-short : goal.returns-clause-short
returns-clause-short c =
    made_short c.args.items.now c.in_ok-constants.constants c.args.types c.args.parts.ports c.args.parts.components c.args.machines c.args.deployed.instances c.args.deployed.topologies c.in_ok-order.order
    c.in_ok-model.model c.in_ok-model.ensures.model c.in_ok-model.ensures.short c.in_ok-model.ensures.short_deployed c.requires.components c.requires.machines
