-- The model that is made of lists is the one that the source defines.
use Rattle.std.proofs.Common.{◌≡◌, ◌&&◌, true, List, [], flat_map, map, Option, Some, sym, ap, subst, ◌∙◌}
use Rattle.std.specs.List.{list_all}
use Rattle.fp_base.specs.declared.value.Value.{Value}
use Rattle.fp_tree.specs.declared.source.Source.{Source}
use Rattle.fp_tables.specs.Positions.{component_is_short, is_short, lists_are_short, machine_is_short}
use Rattle.fp_tables.specs.declared.component.Component.{Component}
use Rattle.fp_tables.specs.declared.kind.Constant.{Constant}
use Rattle.fp_tables.specs.declared.kind.PortDef.{PortDef}
use Rattle.fp_tables.specs.declared.kind.TypeDef.{TypeDef}
use Rattle.fp_tables.specs.declared.machine.Machine.{Machine}
use Rattle.fp_tables.specs.declared.model.Item.{Item as Ordered}
use Rattle.fp_tables.specs.declared.model.Model.{Model}
use Rattle.fp_tables.specs.declared.topology.Instance.{Instance}
use Rattle.fp_tables.specs.declared.topology.Topology.{Topology}
use Rattle.fp_meaning.specs.declared.item.Item.{Item}
use Rattle.fp_meaning.specs.Layout.{items}
use Rattle.fp_meaning.specs.Origins.{expressions, expressions_of}
use Rattle.fp_type_sizes.specs.declared.written.WrittenType.{WrittenType}
use Rattle.fp_type_forms.specs.Written.{AreWritten}
use Rattle.fp_source_types.specs.Typed.{AreTypesOf}
use Rattle.fp_source_parts.specs.Built.{ArePartsOf}
use Rattle.fp_source_parts.specs.MachineBuilt.{AreMachinesOf}
use Rattle.fp_model.specs.Defined.{AreConstants, model_with}
use Rattle.fp_model.specs.Definitions.{constants_of, order_behind}
use Rattle.fp_model.specs.Given.{StandFrom}
use Rattle.fp_model.specs.Joined.{IsDeployed, Joined}
use Rattle.fp_model.proofs.Sounds.{short_with}

module _ (is : List Item) (cs : List Constant) (ts : List TypeDef) (ps : List PortDef) (xs : List Component) (ms : List Machine) (ns : List Instance) (ls : List Topology) (os : List Ordered) (m : Model)
    (made : m ≡ model_with cs ts ps xs ms ns ls os) where
  pub made_joined : (values : List (Option Value)) → ((source : Source) → StandFrom source values (flat_map expressions_of is) 0 → AreConstants source (flat_map constants_of is) cs)
      → os ≡ order_behind [] is → (source : Source) (ws : List WrittenType) → is ≡ items source → StandFrom source values (expressions source) 0
      → AreTypesOf source (map (λ (d : TypeDef). Some d) ts) → AreWritten source ws → ArePartsOf source ws (record { ports = ps; components = xs }) → AreMachinesOf source ms
      → IsDeployed source (record { ports = ps; components = xs }) (record { instances = ns; topologies = ls }) → Joined source m
  made_joined values constants order source ws laid stand types written parts machines deployed =
      subst (Joined source) (sym made) (record {
        constants =
            subst (λ (is : List Item). AreConstants source (flat_map constants_of is) cs) laid
            (constants source (subst (λ (is : List Item). StandFrom source values (flat_map expressions_of is) 0) (sym laid) stand));
        types = types;
        parts = (ws, written, parts);
        machines = machines;
        instances = deployed.instances;
        topologies = deployed.topologies;
        order = order ∙ ap (order_behind []) laid;
      })

  pub made_short : (is_short cs && is_short ts && is_short ps && is_short xs && is_short ms) ≡ true
      → (is_short ns && is_short ls && list_all (λ (t : Topology). is_short t.instances) ls) ≡ true → list_all component_is_short xs ≡ true → list_all machine_is_short ms ≡ true → lists_are_short m ≡ true
  made_short h n k l =
      ap lists_are_short made
      ∙ short_with (is_short cs) (is_short ts) (is_short ps) (is_short xs) (is_short ms) (is_short ns) (is_short ls) (list_all component_is_short xs) (list_all machine_is_short ms)
      (list_all (λ (t : Topology). is_short t.instances) ls) h n k l
