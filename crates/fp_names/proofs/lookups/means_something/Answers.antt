use Rattle.fp_meaning.specs.declared.group.Group.{Group}
use Rattle.fp_meaning.specs.Meaning.{HasMeaning}
use Rattle.fp_names.proofs.Faults.{any_told}
use Rattle.fp_names.proofs.lookups.means_something.Goals as goal

pub returns : goal.returns
returns c =
    any_told (λ (g : Group). HasMeaning c.args.names.now c.args.mention.now g) c.means-kind.result c.means-value.result c.means-port.result c.means-component.result c.means-instance.result
    c.means-topology.result c.means-machine.result c.means-interface.result c.means-kind.ensures c.means-value.ensures c.means-port.ensures c.means-component.ensures c.means-instance.ensures c.means-topology.ensures
    c.means-machine.ensures c.means-interface.ensures
