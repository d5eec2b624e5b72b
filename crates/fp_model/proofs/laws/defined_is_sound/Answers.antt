use Rattle.fp_model.proofs.Deploying.{deployed_one, joined_of}
use Rattle.fp_model.proofs.Judged.{constants_unbroken, definitions_once, types_unbroken, valued_with}
use Rattle.fp_model.proofs.Lengths.{types_long}
use Rattle.fp_model.proofs.Lying.{types_lie}
use Rattle.fp_model.proofs.Ported.{definitions_differ}
use Rattle.fp_model.proofs.Renaming.{instances_apart, instances_named, topologies_named}
use Rattle.fp_model.proofs.Sounds.{components_short}
use Rattle.fp_model.proofs.Stopping.{all_hold, machines_hold, running_hold}
use Rattle.fp_model.proofs.Stripping.{none_left, stripped, stripped_are, stripped_numbered}
use Rattle.fp_model.proofs.Whole.{whole_sound}
use Rattle.fp_model.proofs.laws.defined_is_sound.Goals as goal

pub returns-clause-sound : goal.returns-clause-sound
returns-clause-sound c source values resolutions model resolved valued named fields own ordered unbroken defined short =
    let hold = all_hold source unbroken in
    let joined = joined_of source model defined in
    let one = deployed_one c.one_deployment.ensures c.written_deployments_lie.ensures c.unbroken_imports_are_closed.ensures source model joined hold in
    let once = definitions_once source hold.before.names in
    let right = hold.before.values in
    let parts = joined.parts in
    let right_values = valued_with source right values resolutions parts.0 model.types resolved valued parts.1 joined.types in
    whole_sound source model joined one (record {
      lie = types_lie source model.types joined.types c.default_has_form.ensures.size;
      long = types_long source model.types joined.types;
      own = c.names_in_types_are_names.ensures source model.types named fields joined.types;
      named = c.type_names_are_qualified.ensures source model.types named joined.types;
      differ = c.type_names_differ.ensures source model.types once named joined.types;
      sound = c.unbroken_types_are_sound.ensures source model.types once (types_unbroken source right) joined.types;
      chains = c.unbroken_chains_are_short.ensures source model.types (constants_unbroken source right) (types_unbroken source right) joined.types;
    }) (c.parts_are_sound.ensures source values resolutions parts.0 model.types model.machines (record { ports = model.ports; components = model.components }) right_values once named own
    hold.before.parts (running_hold source hold.before) joined.machines parts.2 (components_short model short))
    (c.machines_are_sound.ensures source values resolutions parts.0 model.types model.machines right_values named own ordered (machines_hold source hold.before) joined.machines)
    (c.instances_lie.ensures model one.written.instances one.instances one.lies.instances)
    (c.numbered_topologies_lie.ensures model one.written (stripped model.topologies) one.instances one.lies one.closures
    (stripped_are model.ports model.components model.instances one.written.topologies model.topologies one.topologies) (none_left model.topologies) (stripped_numbered model defined.wires))
    named short (c.values_are_of_size.ensures source)
    (instances_named one.written.instances model.instances one.instances (c.deployment_names_are_qualified.ensures.instances source one.written named one.are))
    (topologies_named model.ports model.components model.instances one.written.topologies model.topologies one.closures one.topologies
    (c.deployment_names_are_qualified.ensures.topologies source one.written named one.are))
    (instances_apart one.written.instances model.instances one.instances (c.deployment_names_differ.ensures.instances source one.written once named one.are))
    (c.instances_are_sound.ensures model one.written.instances one.instances one.placed one.lies.instances)

pub returns-clause-sound_with : goal.returns-clause-sound_with
returns-clause-sound_with c source model named unbroken defined sound t o at =
    let hold = all_hold source unbroken in
    let joined = joined_of source model defined in
    let one = deployed_one c.one_deployment.ensures c.written_deployments_lie.ensures c.unbroken_imports_are_closed.ensures source model joined hold in
    c.topologies_are_sound.ensures model one.written.topologies (record {
      definitions_differ = definitions_differ source model joined.parts (definitions_once source hold.before.names) named;
      suit_their_roles = sound.ports.ports_suit_their_roles;
      are_of_size = sound.ports.ports_are_of_size;
    }) one.topologies one.whole t o at (defined.wires t o at)
