use Rattle.std.proofs.Common.{ℕ, List, refl, sym, subst}
use Rattle.fp_meaning.specs.declared.group.Group.TheVariants as group
use Rattle.fp_meaning.specs.Layout.{use_items}
use Rattle.fp_meaning.specs.Names.{definitions}
use Rattle.fp_type_forms.proofs.Taking.{taken_as}
use Rattle.fp_component_forms.specs.Positions.{RanksAre}
use Rattle.fp_topology_forms.proofs.Rows.{import_behind}
use Rattle.fp_topology_forms.proofs.members.with_import.Goals as goal

pub returns : goal.returns
returns c source scope marks ready =
    let i = c.args.import.now in
    taken_as source marks c.args.resolutions.now (use_items group.Topology scope i.of) c.args.next.now c.position_taken-topology.new.next
    (λ h. import_behind source scope c.args.before i _ c.in_ok-imports.imports c.in_ok-imports.ensures (record { at = refl; topology = h }))
    (c.position_taken-topology.ensures source marks group.Topology scope i.of refl (subst (λ (ns : List ℕ). RanksAre group.Topology (definitions source) ns) (sym c.as_slice.ensures) ready.topologies))
