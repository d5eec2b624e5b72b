use Rattle.fp_base.proofs.Passing.{all_items}
use Rattle.fp_model.proofs.Deploying.{deployed_one}
use Rattle.fp_model.proofs.Judged.{constants_unbroken, definitions_once, types_unbroken, valued_with}
use Rattle.fp_model.proofs.Lengths.{types_long}
use Rattle.fp_model.proofs.Lying.{types_lie}
use Rattle.fp_model.proofs.Matching.{matched}
use Rattle.fp_model.proofs.Sounds.{components_short}
use Rattle.fp_model.proofs.Stopping.{machines_hold, running_hold}
use Rattle.fp_model.proofs.Stripping.{at_written}
use Rattle.fp_model.proofs.Whole.{whole_lies}
use Rattle.fp_tables.specs.Positions.{topology_lies}
use Rattle.fp_model.proofs.laws.joined_lies.Goals as goal

pub returns-clause-positions : goal.returns-clause-positions
returns-clause-positions c source values resolutions model resolved valued named fields own ordered hold joined bare short =
    let one = deployed_one c.one_deployment.ensures c.written_deployments_lie.ensures c.unbroken_imports_are_closed.ensures source model joined hold in
    let once = definitions_once source hold.before.names in
    let right = hold.before.values in
    let parts = joined.parts in
    let right_values = valued_with source right values resolutions parts.0 model.types resolved valued parts.1 joined.types in
    whole_lies source model joined one (record {
      lie = types_lie source model.types joined.types c.default_has_form.ensures.size;
      long = types_long source model.types joined.types;
      own = c.names_in_types_are_names.ensures source model.types named fields joined.types;
      named = c.type_names_are_qualified.ensures source model.types named joined.types;
      differ = c.type_names_differ.ensures source model.types once named joined.types;
      sound = c.unbroken_types_are_sound.ensures source model.types once (types_unbroken source right) joined.types;
      chains = c.unbroken_chains_are_short.ensures source model.types (constants_unbroken source right) (types_unbroken source right) joined.types;
    }) (c.parts_are_sound.ensures source values resolutions parts.0 model.types model.machines (record { ports = model.ports; components = model.components }) right_values once named own
    hold.before.parts (running_hold source hold.before) joined.machines parts.2 (components_short model short))
    (c.machines_are_sound.ensures source values resolutions parts.0 model.types model.machines right_values named own ordered (machines_hold source hold.before) joined.machines)
    (c.instances_lie.ensures model one.written.instances one.instances one.lies.instances)
    (all_items (topology_lies model) model.topologies
    (c.topologies_lie.ensures model model.ports one.written.topologies model.topologies one.closures (λ t o at. at_written model one.written one.instances one.lies t o at) one.topologies bare))

pub returns-clause-sizes : goal.returns-clause-sizes
returns-clause-sizes c source model hold joined = matched c.unbroken_are_consistent.ensures source model hold.before joined
