-- The places in what is written of the ports, interfaces and components of a source are places of its items.
use Rattle.std.proofs.Common.{List, flat_map, sym, subst}
use Rattle.std.specs.List.{AllByRecursion as Each}
use Rattle.fp_base.specs.declared.place.Place.{Place}
use Rattle.fp_base.proofs.Lists.{each_before, each_flat, each_weaker}
use Rattle.fp_tree.specs.declared.source.Source.{Source}
use Rattle.fp_tree.specs.declared.definition.Def.{Def}
use Rattle.fp_tree.specs.declared.definition.Def.TheVariants as def
use Rattle.fp_tree.specs.declared.definition.Port.{Port}
use Rattle.fp_tree.specs.declared.component.Component.{Component}
use Rattle.fp_tree.specs.declared.component.Interface.{Interface}
use Rattle.fp_tree.specs.declared.component.InterfacePart.{InterfacePart}
use Rattle.fp_tree.specs.declared.component.InterfacePart.TheVariants as interface_part
use Rattle.fp_tree.specs.declared.component.Part.{Part}
use Rattle.fp_tree.specs.declared.component.Part.TheVariants as part
use Rattle.fp_meaning.specs.declared.item.Item.{Item}
use Rattle.fp_meaning.specs.declared.item.Item.TheVariants as item
use Rattle.fp_meaning.specs.Layout.{component_scope, items}
use Rattle.fp_meaning.specs.Sites.{ModelDef, component, declaration, in_optional, instance, interface, machine, topology}
use Rattle.fp_written_parts.specs.declared.port.WrittenPortDef.{WrittenPortDef}
use Rattle.fp_written_parts.specs.declared.member.WrittenComponent.{WrittenComponent}
use Rattle.fp_written_parts.specs.declared.member.WrittenInterface.{WrittenInterface}
use Rattle.fp_component_forms.specs.declared.writing.WrittenSource.{WrittenSource}
use Rattle.fp_component_forms.specs.Written.{ComponentIs, InterfaceIs, IsWrittenSource, MemberIs, PortDefIs, Scoped, component_in, component_declared, components, interface_in, interface_declared, interfaces, member_part, part_of, port_definitions, port_in, port_declared}
use Rattle.fp_places.specs.Places.{places_in_definition, places_in_formals, places_in_interface_part, places_in_part, places_in_type, places_of_model}
use Rattle.fp_places.proofs.Definitions.{StandOf}
use Rattle.fp_source_laws.proofs.Parted.{PartStands, split}
use Rattle.fp_source_laws.proofs.Written.{FormalStands, MemberStands, each_read, formals_stand, member_stands}

module _ (G : Place → Type 0) where
  abbrev pub DefStands : WrittenPortDef → Type 0
  DefStands w = Each (FormalStands G) w.formals

  abbrev pub InterfaceStands : WrittenInterface → Type 0
  InterfaceStands w = Each (MemberStands G) w.members

  pub record ComponentStands (w : WrittenComponent) : Type 0 where
    pub here : G w.at
    pub of_members : Each (MemberStands G) w.members

  -- ---- in the tree

  abbrev PortPlaced : Scoped Port → Type 0
  PortPlaced p = Each G (places_in_formals p.node.formals)

  abbrev InterfacePlaced : Scoped Interface → Type 0
  InterfacePlaced i = Each G (places_of_model (interface i.node))

  abbrev ComponentPlaced : Scoped Component → Type 0
  ComponentPlaced c = StandOf G (item.Declared (declaration c.scope (component c.node)))

  port_placed : (i : Item) → StandOf G i → Each PortPlaced (port_declared i)
  port_placed (item.Defined s) h = of_definition s.definition h
    where
      of_definition : (d : Def) → Each G (places_in_definition d) → Each PortPlaced (port_in s.scope d)
      of_definition (def.Port d) k = (each_before G (places_in_formals d.formals) (in_optional places_in_type d.result) k.1, tt)
      of_definition d k = tt
  port_placed i h = tt

  interface_placed : (i : Item) → StandOf G i → Each InterfacePlaced (interface_declared i)
  interface_placed (item.Declared d) h = of_model d.definition h.1
    where
      of_model : (m : ModelDef) → Each G (places_of_model m) → Each InterfacePlaced (interface_in d.scope m)
      of_model (interface x) k = (k, tt)
      of_model (component x) k = tt
      of_model (machine x) k = tt
      of_model (instance x) k = tt
      of_model (topology x) k = tt
  interface_placed i h = tt

  component_placed : (i : Item) → StandOf G i → Each ComponentPlaced (component_declared i)
  component_placed (item.Declared d) h = of_model d.definition h
    where
      of_model : (m : ModelDef) → StandOf G (item.Declared (declaration d.scope m)) → Each ComponentPlaced (component_in d.scope m)
      of_model (component x) k = (k, tt)
      of_model (interface x) k = tt
      of_model (machine x) k = tt
      of_model (instance x) k = tt
      of_model (topology x) k = tt
  component_placed i h = tt

  -- ---- members

  member_placed : (p : Part) → PartStands G p → Each (PartStands G) (member_part p)
  member_placed (part.Def d) h = tt
  member_placed (part.Machine m) h = tt
  member_placed (part.Include i) h = tt
  member_placed p h = (h, tt)

  members_placed : (ps : List Part) → Each G (flat_map places_in_part ps) → Each (PartStands G) (flat_map member_part ps)
  members_placed ps h =
      each_flat (PartStands G) member_part ps (each_weaker (PartStands G) (λ (p : Part). Each (PartStands G) (member_part p)) member_placed ps (split G places_in_part ps h))

  inner_placed : (p : InterfacePart) → Each G (places_in_interface_part p) → PartStands G (part_of p)
  inner_placed (interface_part.General p) h = h
  inner_placed (interface_part.Special p) h = h
  inner_placed (interface_part.Import i) h = h

  -- ---- the whole source

  module _ (source : Source) (all : Each (StandOf G) (items source)) (w : WrittenSource) (are : IsWrittenSource source w) where
    port_stands : (p : Scoped Port) (d : WrittenPortDef) → PortPlaced p → PortDefIs source p d → DefStands d
    port_stands p d h is = formals_stand G source p.scope p.node.formals d.formals h is.formals

    interface_stands : (i : Scoped Interface) (d : WrittenInterface) → InterfacePlaced i → InterfaceIs source i d → InterfaceStands d
    interface_stands i d h is =
        each_read (λ (p : InterfacePart). MemberIs source i.scope (part_of p)) (λ (p : InterfacePart). Each G (places_in_interface_part p)) (MemberStands G)
        (λ p m k it. member_stands G source i.scope (part_of p) m (inner_placed p k) it) 0 i.node.parts d.members (split G places_in_interface_part i.node.parts h) is

    component_stands : (c : Scoped Component) (d : WrittenComponent) → ComponentPlaced c → ComponentIs source c d → ComponentStands d
    component_stands c d h is = record {
      here = subst G (sym is.at) h.0;
      of_members = each_read (MemberIs source (component_scope c.scope c.node)) (PartStands G) (MemberStands G) (member_stands G source (component_scope c.scope c.node)) 0
          (flat_map member_part c.node.parts) d.members (members_placed c.node.parts h.1) is.members;
    }

    pub definitions_stand : Each DefStands w.definitions
    definitions_stand =
        each_read (PortDefIs source) PortPlaced DefStands port_stands 0 (port_definitions source) w.definitions
        (each_flat PortPlaced port_declared (items source) (each_weaker (StandOf G) (λ (i : Item). Each PortPlaced (port_declared i)) port_placed (items source) all)) are.definitions

    pub interfaces_stand : Each InterfaceStands w.interfaces
    interfaces_stand =
        each_read (InterfaceIs source) InterfacePlaced InterfaceStands interface_stands 0 (interfaces source) w.interfaces
        (each_flat InterfacePlaced interface_declared (items source) (each_weaker (StandOf G) (λ (i : Item). Each InterfacePlaced (interface_declared i)) interface_placed (items source) all)) are.interfaces

    pub components_stand : Each ComponentStands w.components
    components_stand =
        each_read (ComponentIs source) ComponentPlaced ComponentStands component_stands 0 (components source) w.components
        (each_flat ComponentPlaced component_declared (items source) (each_weaker (StandOf G) (λ (i : Item). Each ComponentPlaced (component_declared i)) component_placed (items source) all)) are.components
