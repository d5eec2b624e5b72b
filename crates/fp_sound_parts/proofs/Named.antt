-- Names in what is written of ports and components are names, and qualified ones are names joined by dots.
use Rattle.std.proofs.Common.{◌≡◌, ℕ, suc, true, ◌&&◌, List, [], ◌∷◌, ◌++◌, refl, ap, ◌∙◌}
use Rattle.std.specs.List.{AllByRecursion, list_all}
use Rattle.fp_base.proofs.Bools.{both, join}
use Rattle.fp_base.proofs.Lists.{each_flat, each_weaker, each_item, each_part}
use Rattle.fp_base.specs.Names.{is_name}
use Rattle.fp_tree.specs.declared.source.Source.{Source}
use Rattle.fp_tree.specs.declared.definition.Def.{Def}
use Rattle.fp_tree.specs.declared.definition.Def.TheVariants as def
use Rattle.fp_tree.specs.declared.definition.Port.{Port}
use Rattle.fp_tree.specs.declared.part.Formal.{Formal}
use Rattle.fp_tree.specs.declared.component.Component.{Component}
use Rattle.fp_tree.specs.declared.component.Interface.{Interface}
use Rattle.fp_tree.specs.declared.component.InterfacePart.{InterfacePart}
use Rattle.fp_tree.specs.declared.component.InterfacePart.TheVariants as interface_part
use Rattle.fp_tree.specs.declared.component.Part.{Part}
use Rattle.fp_meaning.specs.declared.item.Item.{Item}
use Rattle.fp_meaning.specs.declared.item.Item.TheVariants as item
use Rattle.fp_meaning.specs.Layout.{items}
use Rattle.fp_meaning.specs.Names.{Path, definitions, definitions_of, model_name, name_of, IsMadeOfNames}
use Rattle.fp_meaning.specs.Sites.{ModelDef, component, interface, instance, machine, topology}
use Rattle.fp_meaning.specs.Values.{dotted}
use Rattle.fp_names.specs.Named.{PartsAreNamed, PartsOfItemAreNamed, HasNamedFormals, HasNamedParts, formals_are_named, interface_part_is_named, part_is_named}
use Rattle.fp_tables.specs.Names.{is_qualified}
use Rattle.fp_type_forms.specs.Written.{AllAt}
use Rattle.fp_source_types.specs.Named.{DefinitionsAreNamed}
use Rattle.fp_source_types.proofs.Dotted.{dotted_qualified}
use Rattle.fp_written_parts.specs.declared.port.WrittenFormal.{WrittenFormal}
use Rattle.fp_written_parts.specs.declared.port.WrittenPortDef.{WrittenPortDef}
use Rattle.fp_written_parts.specs.declared.member.WrittenComponent.{WrittenComponent}
use Rattle.fp_written_parts.specs.declared.member.WrittenMember.{WrittenMember}
use Rattle.fp_component_forms.specs.declared.writing.WrittenSource.{WrittenSource}
use Rattle.fp_component_forms.specs.Written.{ComponentIs, FormalIs, FormalsAre, IsWrittenSource, PortDefIs, Scoped, component_in, component_declared, components, interface_in, interface_declared, interfaces, part_of, port_definitions, port_in, port_declared, qualified}
use Rattle.fp_sound_parts.specs.Ready.{OfEachMember, formals_have_names, member_has_names}
use Rattle.fp_sound_parts.proofs.Each.{ByForm, each_of_all, of_each_member}

-- ---- what is known of each item

-- a name behind those of a scope
abbrev pub HasName : Path → List ℕ → Type 0
HasName scope n = list_all is_name (scope ++ n ∷ []) ≡ true

pub record NamesHold (i : Item) : Type 0 where
  pub own : AllByRecursion IsMadeOfNames (definitions_of i)
  pub parts : PartsOfItemAreNamed i

both_each : (is : List Item) → AllByRecursion (λ (i : Item). AllByRecursion IsMadeOfNames (definitions_of i)) is → AllByRecursion PartsOfItemAreNamed is → AllByRecursion NamesHold is
both_each [] h k = tt
both_each (i ∷ is) h k = (record { own = h.0; parts = k.0 }, both_each is h.1 k.1)

pub qualified_name : (scope : Path) (n : List ℕ) → HasName scope n → is_qualified (dotted (scope ++ n ∷ [])) ≡ true
qualified_name scope n h = dotted_qualified (scope ++ n ∷ []) h (some scope)
  where
    some : (s : Path) → s ++ n ∷ [] ≡ [] → ⊥
    some [] e = cc
    some (x ∷ xs) e = cc

-- ---- definitions of ports, components and interfaces in their scopes

record PortNamed (s : Scoped Port) : Type 0 where
  name : is_qualified (qualified s.scope s.node.name) ≡ true
  formals : formals_are_named s.node.formals ≡ true

abbrev PartNamed : Part → Type 0
PartNamed p = part_is_named p ≡ true

record ComponentNamed (s : Scoped Component) : Type 0 where
  name : is_qualified (qualified s.scope s.node.name) ≡ true
  parts : AllByRecursion PartNamed s.node.parts

abbrev InterfaceNamed : Scoped Interface → Type 0
InterfaceNamed s = AllByRecursion (λ (p : InterfacePart). PartNamed (part_of p)) s.node.parts

inner_named : (p : InterfacePart) → interface_part_is_named p ≡ true → PartNamed (part_of p)
inner_named (interface_part.General p) h = h
inner_named (interface_part.Special p) h = h
inner_named (interface_part.Import i) h = refl

port_named : (i : Item) → NamesHold i → AllByRecursion PortNamed (port_declared i)
port_named (item.Defined s) h = of_definition s.scope s.definition h.own.0 h.parts
  where
    of_definition : (scope : Path) (d : Def) → HasName scope (name_of d).text → HasNamedFormals d → AllByRecursion PortNamed (port_in scope d)
    of_definition scope (def.Port d) h k = (record { name = qualified_name scope d.name.text h; formals = k }, tt)
    of_definition scope (def.Constant d) h k = tt
    of_definition scope (def.Abstract d) h k = tt
    of_definition scope (def.Alias d) h k = tt
    of_definition scope (def.Array d) h k = tt
    of_definition scope (def.Struct d) h k = tt
    of_definition scope (def.Enum d) h k = tt
port_named (item.Enumerated e) h = tt
port_named (item.Declared d) h = tt
port_named (item.Used since n) h = tt
port_named (item.Written since p) h = tt

component_named : (i : Item) → NamesHold i → AllByRecursion ComponentNamed (component_declared i)
component_named (item.Declared d) h = of_model d.scope d.definition h.own.0 h.parts
  where
    of_model : (scope : Path) (m : ModelDef) → HasName scope (model_name m).text → HasNamedParts m → AllByRecursion ComponentNamed (component_in scope m)
    of_model scope (component c) h k = (record { name = qualified_name scope c.name.text h; parts = each_of_all part_is_named c.parts k }, tt)
    of_model scope (machine m) h k = tt
    of_model scope (interface m) h k = tt
    of_model scope (instance m) h k = tt
    of_model scope (topology m) h k = tt
component_named (item.Defined s) h = tt
component_named (item.Enumerated e) h = tt
component_named (item.Used since n) h = tt
component_named (item.Written since p) h = tt

interface_named : (i : Item) → NamesHold i → AllByRecursion InterfaceNamed (interface_declared i)
interface_named (item.Declared d) h = of_model d.scope d.definition h.parts
  where
    of_model : (scope : Path) (m : ModelDef) → HasNamedParts m → AllByRecursion InterfaceNamed (interface_in scope m)
    of_model scope (interface f) k =
        (each_weaker (λ (p : InterfacePart). interface_part_is_named p ≡ true) (λ (p : InterfacePart). PartNamed (part_of p)) inner_named f.parts (each_of_all interface_part_is_named f.parts k), tt)
    of_model scope (component m) k = tt
    of_model scope (machine m) k = tt
    of_model scope (instance m) k = tt
    of_model scope (topology m) k = tt
interface_named (item.Defined s) h = tt
interface_named (item.Enumerated e) h = tt
interface_named (item.Used since n) h = tt
interface_named (item.Written since p) h = tt

module _ (source : Source) (named : DefinitionsAreNamed source) (parts : PartsAreNamed source) where
  pub items_named : AllByRecursion NamesHold (items source)
  items_named =
      both_each (items source) (each_part IsMadeOfNames definitions_of (items source) (each_item IsMadeOfNames (definitions source) named))
      (each_item PartsOfItemAreNamed (items source) parts)

  ports_named : AllByRecursion PortNamed (port_definitions source)
  ports_named = each_flat PortNamed port_declared (items source) (each_weaker NamesHold (λ (i : Item). AllByRecursion PortNamed (port_declared i)) port_named (items source) items_named)

  components_named : AllByRecursion ComponentNamed (components source)
  components_named =
      each_flat ComponentNamed component_declared (items source) (each_weaker NamesHold (λ (i : Item). AllByRecursion ComponentNamed (component_declared i)) component_named (items source) items_named)

  interfaces_named : AllByRecursion InterfaceNamed (interfaces source)
  interfaces_named =
      each_flat InterfaceNamed interface_declared (items source) (each_weaker NamesHold (λ (i : Item). AllByRecursion InterfaceNamed (interface_declared i)) interface_named (items source) items_named)

-- ---- what is written of them

module _ (source : Source) where
  formals_written : (scope : Path) (k : ℕ) (fs : List Formal) (ws : List WrittenFormal) → formals_are_named fs ≡ true → AllAt (λ position. FormalIs source scope) k fs ws → formals_have_names ws ≡ true
  formals_written scope k [] [] h are = refl
  formals_written scope k [] (w ∷ ws) h are = absurd are
  formals_written scope k (f ∷ fs) [] h are = absurd are
  formals_written scope k (f ∷ fs) (w ∷ ws) h are =
      let hs = both (is_name f.name.text) (formals_are_named fs) h in
      join (is_name w.name) (formals_have_names ws) (ap is_name are.0.name ∙ hs.0) (formals_written scope (suc k) fs ws hs.1 are.1)

  named_and : (n m : List ℕ) (scope : Path) (fs : List Formal) (ws : List WrittenFormal) → (is_name n && formals_are_named fs) ≡ true → m ≡ n → FormalsAre source scope fs ws
      → (is_name m && formals_have_names ws) ≡ true
  named_and n m scope fs ws h e are =
      let hs = both (is_name n) (formals_are_named fs) h in
      join (is_name m) (formals_have_names ws) (ap is_name e ∙ hs.0) (formals_written scope 0 fs ws hs.1 are)

  named_alone : (n m : List ℕ) (ws : List WrittenFormal) → is_name n ≡ true → m ≡ n → ws ≡ [] → (is_name m && formals_have_names ws) ≡ true
  named_alone n m ws h e none = join (is_name m) (formals_have_names ws) (ap is_name e ∙ h) (ap formals_have_names none)

  member_named : ByForm source PartNamed (λ (m : WrittenMember). member_has_names m ≡ true)
  member_named = record {
    general = λ scope p w h is. named_alone p.name.text w.name w.formals h is.name is.formals;
    special = λ scope p w h is. named_alone p.name.text w.name w.formals h is.name is.formals;
    internal = λ scope p w h is. named_and p.name.text w.name scope p.formals w.formals h is.name is.formals;
    imported = λ scope p w h is. refl;
    command = λ scope p w h is. named_and p.name.text w.name scope p.formals w.formals h is.name is.formals;
    event = λ scope p w h is. named_and p.name.text w.name scope p.formals w.formals h is.name is.formals;
    channel = λ scope p w h is. ap is_name is.name ∙ h;
    param = λ scope p w h is. ap is_name is.name ∙ h;
    matched = λ scope p w h is. refl;
    running = λ scope p w h is. ap is_name is.name ∙ h;
  }

  definitions_written : (k : ℕ) (ss : List (Scoped Port)) (ds : List WrittenPortDef) → AllByRecursion PortNamed ss → AllAt (λ position. PortDefIs source) k ss ds
      → list_all (λ (d : WrittenPortDef). formals_have_names d.formals) ds ≡ true
  definitions_written k [] [] each are = refl
  definitions_written k [] (d ∷ ds) each are = absurd are
  definitions_written k (s ∷ ss) [] each are = absurd are
  definitions_written k (s ∷ ss) (d ∷ ds) each are =
      join (formals_have_names d.formals) (list_all (λ (d : WrittenPortDef). formals_have_names d.formals) ds)
      (formals_written s.scope 0 s.node.formals d.formals each.0.formals are.0.formals) (definitions_written (suc k) ss ds each.1 are.1)

  definitions_joined : (k : ℕ) (ss : List (Scoped Port)) (ds : List WrittenPortDef) → AllByRecursion PortNamed ss → AllAt (λ position. PortDefIs source) k ss ds
      → list_all (λ (d : WrittenPortDef). is_qualified d.name) ds ≡ true
  definitions_joined k [] [] each are = refl
  definitions_joined k [] (d ∷ ds) each are = absurd are
  definitions_joined k (s ∷ ss) [] each are = absurd are
  definitions_joined k (s ∷ ss) (d ∷ ds) each are =
      join (is_qualified d.name) (list_all (λ (d : WrittenPortDef). is_qualified d.name) ds) (ap is_qualified are.0.name ∙ each.0.name) (definitions_joined (suc k) ss ds each.1 are.1)

  components_joined : (k : ℕ) (ss : List (Scoped Component)) (cs : List WrittenComponent) → AllByRecursion ComponentNamed ss → AllAt (λ position. ComponentIs source) k ss cs
      → list_all (λ (c : WrittenComponent). is_qualified c.name) cs ≡ true
  components_joined k [] [] each are = refl
  components_joined k [] (c ∷ cs) each are = absurd are
  components_joined k (s ∷ ss) [] each are = absurd are
  components_joined k (s ∷ ss) (c ∷ cs) each are =
      join (is_qualified c.name) (list_all (λ (c : WrittenComponent). is_qualified c.name) cs) (ap is_qualified are.0.name ∙ each.0.name) (components_joined (suc k) ss cs each.1 are.1)

module _ (source : Source) (w : WrittenSource) (are : IsWrittenSource source w) (named : DefinitionsAreNamed source) (parts : PartsAreNamed source) where
  pub members_have_names : OfEachMember w.interfaces w.components (λ m. member_has_names m ≡ true)
  members_have_names =
      of_each_member source w are PartNamed (λ (m : WrittenMember). member_has_names m ≡ true) (member_named source)
      (each_weaker ComponentNamed (λ (s : Scoped Component). AllByRecursion PartNamed s.node.parts) (λ s h. h.parts) (components source) (components_named source named parts))
      (interfaces_named source named parts)

  pub definitions_have_names : list_all (λ (d : WrittenPortDef). formals_have_names d.formals) w.definitions ≡ true
  definitions_have_names = definitions_written source 0 (port_definitions source) w.definitions (ports_named source named parts) are.definitions

  pub definitions_are_qualified : list_all (λ (d : WrittenPortDef). is_qualified d.name) w.definitions ≡ true
  definitions_are_qualified = definitions_joined source 0 (port_definitions source) w.definitions (ports_named source named parts) are.definitions

  pub components_are_qualified : list_all (λ (c : WrittenComponent). is_qualified c.name) w.components ≡ true
  components_are_qualified = components_joined source 0 (components source) w.components (components_named source named parts) are.components
