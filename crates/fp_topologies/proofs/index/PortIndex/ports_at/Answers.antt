use Rattle.std.proofs.Common.{◌≡◌, ◌<◌, ◌^◌, ◌∙◌, List, [], length, option_map, slice_get, subst, sym, ap, Option, Some}
use Rattle.std.specs.Prelude.{option_and_then, unwrap_or}
use Rattle.fp_tables.specs.declared.component.Component.{Component}
use Rattle.fp_tables.specs.declared.component.Port.{Port}
use Rattle.fp_topologies.specs.Indexed.{Indexed}
use Rattle.fp_tables.specs.Positions.{component_among}
use Rattle.fp_topologies.proofs.Finding.{short_at}
use Rattle.fp_topologies.proofs.index.PortIndex.ports_at.Goals as goal

pub returns-in-Some-clause-short : goal.returns-in-Some-clause-short
returns-in-Some-clause-short c =
    let component = c.in-Some.component.now in
    let here : Some component ≡ component_among c.self.inside.components.now c.self.inside.instances.now c.args.instance =
    subst (λ (v : Indexed). Some component ≡ component_among v.components v.instances c.args.instance) (sym c.self.view_is) c.in-Some.ensures in
    subst (λ (ps : List Port). length ps < 2 ^ 32) (sym c.as_slice.ensures)
    (short_at c.self.inside.components.now c.self.inside.firsts.items (slice_get c.self.inside.instances.now c.args.instance) component c.self.invariant here)

pub returns-in-None-clause-value : goal.returns-in-None-clause-value
returns-in-None-clause-value c = ap (λ (o : Option Component). unwrap_or (option_map (λ (x : Component). x.ports) o) []) c.in-None.ensures
