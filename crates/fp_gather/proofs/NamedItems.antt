-- Where all names in members are names of the language, what their items define has such names.
use Rattle.std.proofs.Common.{◌≡◌, ℕ, suc, true, ◌&&◌, List, [], ◌∷◌, ◌++◌, flat_map, map, Option, Some, None, sym, subst, refl}
use Rattle.std.specs.List.{AllByRecursion as Each, list_all, Contains}
use Rattle.fp_base.specs.Names.{is_name}
use Rattle.fp_base.proofs.Bools.{both, join}
use Rattle.fp_base.proofs.Lists.{each_append, each_before, each_behind, each_contained, each_flat, of_contained, each_part}
use Rattle.fp_lexer.specs.Tokens.{Lexed}
use Rattle.fp_lexer.specs.declared.token.Token.{Token}
use Rattle.fp_outside.specs.declared.files.HeldFile.{HeldFile}
use Rattle.fp_parse_parts.specs.Files.{SpellsFile}
use Rattle.fp_parse_parts.specs.Units.{SpellsUnit, component_parts, topology_members}
use Rattle.fp_parse_parts.specs.declared.parsing.Inside.{Inside}
use Rattle.fp_parse_parts.specs.declared.parsing.Inside.TheVariants as inside
use Rattle.fp_parse_parts.specs.declared.parsing.Members.TheVariants as given
use Rattle.fp_tree.specs.declared.name.Name.{Name}
use Rattle.fp_tree.specs.declared.expression.Expr.{Expr}
use Rattle.fp_tree.specs.declared.type_name.TypeName.{TypeName}
use Rattle.fp_tree.specs.declared.part.EnumConst.{EnumConst}
use Rattle.fp_tree.specs.declared.part.Field.{Field}
use Rattle.fp_tree.specs.declared.part.Formal.{Formal}
use Rattle.fp_tree.specs.declared.definition.Def.{Def}
use Rattle.fp_tree.specs.declared.definition.Def.TheVariants as def
use Rattle.fp_tree.specs.declared.definition.Enum.{Enum}
use Rattle.fp_tree.specs.declared.machine.Behavior.{Behavior}
use Rattle.fp_tree.specs.declared.machine.BehaviorElement.{BehaviorElement}
use Rattle.fp_tree.specs.declared.machine.ElementForm.{ElementForm}
use Rattle.fp_tree.specs.declared.machine.ElementForm.TheVariants as element
use Rattle.fp_tree.specs.declared.machine.Machine.{Machine}
use Rattle.fp_tree.specs.declared.component.Component.{Component}
use Rattle.fp_tree.specs.declared.component.Part.{Part}
use Rattle.fp_tree.specs.declared.component.Part.TheVariants as part
use Rattle.fp_tree.specs.declared.component.Interface.{Interface}
use Rattle.fp_tree.specs.declared.component.InterfacePart.{InterfacePart}
use Rattle.fp_tree.specs.declared.component.InterfacePart.TheVariants as interface_part
use Rattle.fp_tree.specs.declared.instance.Instance.{Instance}
use Rattle.fp_tree.specs.declared.topology.TMember.{TMember}
use Rattle.fp_tree.specs.declared.topology.Topology.{Topology}
use Rattle.fp_tree.specs.declared.member.Unit.{Unit as File}
use Rattle.fp_tree.specs.declared.member.Member.{Member, Member-F}
use Rattle.fp_tree.specs.declared.member.Member.TheFolds.{fold-Member, fold-Module, fold-roll-Member, ind-Member, map-Member, map-Module}
use Rattle.fp_tree.specs.declared.member.Member.TheOpen as open_member
use Rattle.fp_tree.specs.declared.member.Member.TheViews.{roll-Member, roll-Module}
use Rattle.fp_tree.specs.declared.member.Module.{Module, Module-F}
use Rattle.fp_meaning.specs.declared.item.Item.{Item}
use Rattle.fp_meaning.specs.declared.item.Item.TheVariants as item
use Rattle.fp_meaning.specs.Sites.{Path, in_optional, ModelDef, machine, component, interface, instance, topology, declaration}
use Rattle.fp_meaning.specs.Names.{model_name}
use Rattle.fp_meaning.specs.Layout.{behavior_items, component_items, component_scope, constant_items, expression_items, field_items, formal_items, in_member, in_members, inner_items, instance_items, interface_items, interface_part_items, items, items_in, machine_items, model_own_items, own_items, topology_items, topology_member_items, type_items}
use Rattle.fp_meaning.proofs.Since.{AllSince, since_behavior, since_each, since_fields, since_form, since_formals, since_instance, since_interface, since_optional, since_own, since_topology, since_type}
use Rattle.fp_meaning.proofs.Throughout.{in_module, member_rolled, members_rolled}
use Rattle.fp_places.specs.Names.{names_in, names_of_member, names_of_module, names_within}
use Rattle.fp_places.specs.Parts.{names_in_constant, names_in_definition, names_in_expression, names_in_field, names_in_formal, names_in_type}
use Rattle.fp_places.specs.Machines.{names_in_behavior, names_in_element, names_in_element_form, names_in_machine}
use Rattle.fp_places.specs.Components.{names_in_component, names_in_interface, names_in_interface_part, names_in_part}
use Rattle.fp_places.specs.Topologies.{names_in_instance, names_in_topology, names_in_topology_member}
use Rattle.fp_places.specs.Written.{NamesAreWritten, PartNamesAreWritten, TopologyNamesAreWritten}
use Rattle.fp_gather.proofs.ItemsKept.{by_kind, file_given}
use Rattle.fp_gather.proofs.KeptByWalks.{units_kept}
use Rattle.fp_gather.proofs.PartsHold.{HaveNames, names_inside, names_opened, names_rolled, replaced_names}
use Rattle.fp_gather.specs.gathering.Gathered.{file_of, source_of}
use Rattle.fp_names.specs.Named.{HasNamedParts, elements_are_named, elements_in, form_is_named, formals_are_named, interface_part_is_named, part_is_named}
use Rattle.fp_gather.specs.gathering.Names.{IsNamed}
use Rattle.fp_gather.specs.gathering.Reading.{nothing_in}
use Rattle.fp_gather.specs.gathering.Walks.{Walked, Went, WalksFiles, nothing_read}

-- a name of the language
abbrev pub IsName : Name → Type 0
IsName n = is_name n.text ≡ true

-- a scope of such names
abbrev AreNames : Path → Type 0
AreNames scope = list_all is_name scope ≡ true

named_behind : (scope : Path) (text : List ℕ) → AreNames scope → is_name text ≡ true → AreNames (scope ++ text ∷ [])
named_behind [] text s n = join (is_name text) true n refl
named_behind (x ∷ scope) text s n =
    let each = both (is_name x) (list_all is_name scope) s in
    join (is_name x) (list_all is_name (scope ++ text ∷ [])) each.0 (named_behind scope text each.1 n)

-- ---- items that define nothing

quiet : (since : ℕ) (is : List Item) → AllSince since is → Each IsNamed is
quiet since [] h = tt
quiet since (item.Used m n ∷ is) h = (record { definitions = tt; members = tt }, quiet since is h.1)
quiet since (item.Written m p ∷ is) h = (record { definitions = tt; members = tt }, quiet since is h.1)
quiet since (item.Defined s ∷ is) h = absurd h
quiet since (item.Enumerated e ∷ is) h = absurd h
quiet since (item.Declared d ∷ is) h = absurd h

quiet_optional : (since : ℕ) (scope : Path) (o : Option Expr) → Each IsNamed (in_optional (expression_items since scope) o)
quiet_optional since scope o = quiet since (in_optional (expression_items since scope) o) (since_optional since scope o)

quiet_type : (scope : Path) (t : TypeName) → Each IsNamed (type_items 0 scope t)
quiet_type scope t = quiet 0 (type_items 0 scope t) (since_form 0 scope t.form)

optional_type : (scope : Path) (o : Option TypeName) → Each IsNamed (in_optional (type_items 0 scope) o)
optional_type scope o = quiet 0 (in_optional (type_items 0 scope) o) (since_type scope o)

-- ---- definitions

field_names : (fs : List Field) → Each IsName (flat_map names_in_field fs) → list_all (λ (f : Field). is_name f.name.text) fs ≡ true
field_names [] h = refl
field_names (f ∷ fs) h =
    join (is_name f.name.text) (list_all (λ (x : Field). is_name x.name.text) fs) h.0
    (field_names fs (each_behind IsName (names_in_field f) (flat_map names_in_field fs) h))

formal_names : (fs : List Formal) → Each IsName (flat_map names_in_formal fs) → formals_are_named fs ≡ true
formal_names [] h = refl
formal_names (f ∷ fs) h =
    join (is_name f.name.text) (formals_are_named fs) h.0 (formal_names fs (each_behind IsName (names_in_formal f) (flat_map names_in_formal fs) h))

constants_named : (scope : Path) (e : Enum) (position : ℕ) (cs : List EnumConst) → AreNames (scope ++ e.name.text ∷ []) → Each IsName (flat_map names_in_constant cs)
    → Each IsNamed (constant_items scope e position cs)
constants_named scope e position [] s h = tt
constants_named scope e position (c ∷ cs) s h = (
  record { definitions = (named_behind (scope ++ e.name.text ∷ []) c.name.text s h.0, tt); members = tt },
  constants_named scope e (suc position) cs s (each_behind IsName (names_in_constant c) (flat_map names_in_constant cs) h),
)

definition_named : (scope : Path) (d : Def) → AreNames scope → Each IsName (names_in_definition d) → Each IsNamed (items_in scope d)
definition_named scope (def.Constant d) s h = (record { definitions = (named_behind scope d.name.text s h.0, tt); members = tt }, tt)
definition_named scope (def.Abstract d) s h = (record { definitions = (named_behind scope d.name.text s h.0, tt); members = tt }, tt)
definition_named scope (def.Alias d) s h = (record { definitions = (named_behind scope d.name.text s h.0, tt); members = tt }, quiet_type scope d.target)
definition_named scope (def.Array d) s h = (
  record { definitions = (named_behind scope d.name.text s h.0, tt); members = tt },
  (record { definitions = tt; members = tt }, each_append IsNamed _ _ (quiet_type scope d.element) (quiet_optional 0 scope d.default)),
)
definition_named scope (def.Struct d) s h = (
  record {
    definitions = (named_behind scope d.name.text s h.0, tt);
    members = field_names d.fields (each_before IsName (flat_map names_in_field d.fields) (in_optional names_in_expression d.default) h.1);
  },
  each_append IsNamed _ _ (quiet 0 (flat_map (field_items scope) d.fields) (since_fields scope d.fields)) (quiet_optional 0 scope d.default),
)
definition_named scope (def.Enum d) s h =
    let inner = named_behind scope d.name.text s h.0 in
    let parts = each_before IsName (in_optional names_in_type d.repr ++ flat_map names_in_constant d.constants) (in_optional names_in_expression d.default) h.1 in (
      record { definitions = (inner, tt); members = tt },
      each_append IsNamed _ _ (each_append IsNamed _ _ (optional_type scope d.repr) (constants_named scope d 0 d.constants inner
          (each_behind IsName (in_optional names_in_type d.repr) (flat_map names_in_constant d.constants) parts))) (quiet_optional _ scope d.default),
    )
definition_named scope (def.Port d) s h = (
  record {
    definitions = (named_behind scope d.name.text s h.0, tt);
    members = formal_names d.formals (each_before IsName (flat_map names_in_formal d.formals) (in_optional names_in_type d.result) h.1);
  },
  each_append IsNamed _ _ (quiet 0 (flat_map (formal_items scope) d.formals) (since_formals scope d.formals)) (optional_type scope d.result),
)

-- ---- definitions beside constants, types and ports

declared_named : (scope : Path) (d : ModelDef) (is : List Item) → AreNames scope → IsName (model_name d) → HasNamedParts d → AllSince 0 is → Each IsNamed (item.Declared (declaration scope d) ∷ is)
declared_named scope d is s n k h = (record { definitions = (named_behind scope (model_name d).text s n, tt); members = k }, quiet 0 is h)

-- a name, and the names of parameters behind it
named_with_formals : (n : Name) (fs : List Formal) (more : List Name) → IsName n → Each IsName (flat_map names_in_formal fs ++ more) → (is_name n.text && formals_are_named fs) ≡ true
named_with_formals n fs more h k = join (is_name n.text) (formals_are_named fs) h (formal_names fs (each_before IsName (flat_map names_in_formal fs) more k))

part_named : (p : Part) → Each IsName (names_in_part p) → part_is_named p ≡ true
part_named (part.Def d) h = refl
part_named (part.Machine m) h = refl
part_named (part.General p) h = h.0
part_named (part.Special p) h = h.0
part_named (part.Internal p) h = named_with_formals p.name p.formals (in_optional names_in_expression p.priority) h.0 h.1
part_named (part.Command c) h =
    named_with_formals c.name c.formals (in_optional names_in_expression c.opcode) h.0
    (each_before IsName (flat_map names_in_formal c.formals ++ in_optional names_in_expression c.opcode) (in_optional names_in_expression c.priority) h.1)
part_named (part.Event e) h =
    named_with_formals e.name e.formals (in_optional names_in_expression e.id) h.0
    (each_before IsName (flat_map names_in_formal e.formals ++ in_optional names_in_expression e.id) (in_optional names_in_expression e.throttle) h.1)
part_named (part.Channel t) h = h.0
part_named (part.Param p) h = h.0
part_named (part.Match m) h = refl
part_named (part.Running r) h = h.0
part_named (part.Import i) h = refl
part_named (part.Include i) h = refl

parts_named : (ps : List Part) → Each IsName (flat_map names_in_part ps) → list_all part_is_named ps ≡ true
parts_named [] h = refl
parts_named (p ∷ ps) h =
    join (part_is_named p) (list_all part_is_named ps) (part_named p (each_before IsName (names_in_part p) (flat_map names_in_part ps) h))
    (parts_named ps (each_behind IsName (names_in_part p) (flat_map names_in_part ps) h))

interface_part_named : (p : InterfacePart) → Each IsName (names_in_interface_part p) → interface_part_is_named p ≡ true
interface_part_named (interface_part.General p) h = h.0
interface_part_named (interface_part.Special p) h = h.0
interface_part_named (interface_part.Import i) h = refl

interface_parts_named : (ps : List InterfacePart) → Each IsName (flat_map names_in_interface_part ps) → list_all interface_part_is_named ps ≡ true
interface_parts_named [] h = refl
interface_parts_named (p ∷ ps) h =
    join (interface_part_is_named p) (list_all interface_part_is_named ps)
    (interface_part_named p (each_before IsName (names_in_interface_part p) (flat_map names_in_interface_part ps) h))
    (interface_parts_named ps (each_behind IsName (names_in_interface_part p) (flat_map names_in_interface_part ps) h))

form_named : (f : ElementForm) → Each IsName (names_in_element_form f) → form_is_named f ≡ true
form_named (element.State n) h = h.0
form_named (element.Choice c) h = h.0
form_named (element.Signal t) h = h.0
form_named (element.Action t) h = h.0
form_named (element.Guard t) h = h.0
form_named (element.Initial g) h = refl
form_named (element.On o) h = refl
form_named (element.Entry d) h = refl
form_named (element.Exit d) h = refl

elements_named : (es : List BehaviorElement) → Each IsName (flat_map names_in_element es) → elements_are_named es ≡ true
elements_named [] h = refl
elements_named (e ∷ es) h =
    join (form_is_named e.form) (elements_are_named es)
    (form_named e.form (each_before IsName (names_in_element e) (flat_map names_in_element es) h))
    (elements_named es (each_behind IsName (names_in_element e) (flat_map names_in_element es) h))

behavior_named : (o : Option Behavior) → Each IsName (in_optional names_in_behavior o) → elements_are_named (elements_in o) ≡ true
behavior_named None h = refl
behavior_named (Some b) h = elements_named b.elements h

machine_named : (scope : Path) (m : Machine) → AreNames scope → Each IsName (names_in_machine m) → Each IsNamed (machine_items scope m)
machine_named scope m s h =
    declared_named scope (machine m) (in_optional (behavior_items scope) m.behavior) s h.0 (behavior_named m.behavior h.1) (since_behavior scope m.behavior)

inner_named : (scope : Path) (p : Part) → AreNames scope → Each IsName (names_in_part p) → Each IsNamed (inner_items scope p)
inner_named scope (part.Def d) s h = definition_named scope d s h
inner_named scope (part.Machine m) s h = machine_named scope m s h
inner_named scope (part.General p) s h = tt
inner_named scope (part.Special p) s h = tt
inner_named scope (part.Internal p) s h = tt
inner_named scope (part.Command c) s h = tt
inner_named scope (part.Event e) s h = tt
inner_named scope (part.Channel t) s h = tt
inner_named scope (part.Param p) s h = tt
inner_named scope (part.Match m) s h = tt
inner_named scope (part.Running r) s h = tt
inner_named scope (part.Import i) s h = tt
inner_named scope (part.Include i) s h = tt

all_inner : (scope : Path) (ps : List Part) → AreNames scope → Each IsName (flat_map names_in_part ps) → Each IsNamed (flat_map (inner_items scope) ps)
all_inner scope [] s h = tt
all_inner scope (p ∷ ps) s h =
    each_append IsNamed (inner_items scope p) (flat_map (inner_items scope) ps) (inner_named scope p s (each_before IsName (names_in_part p) (flat_map names_in_part ps) h))
    (all_inner scope ps s (each_behind IsName (names_in_part p) (flat_map names_in_part ps) h))

component_named : (scope : Path) (c : Component) → AreNames scope → Each IsName (names_in_component c) → Each IsNamed (component_items scope c)
component_named scope c s h =
    let inside : Path = component_scope scope c in
    let own : List Item = flat_map (own_items inside) c.parts in
    each_append IsNamed (item.Declared (declaration scope (component c)) ∷ own) (flat_map (inner_items inside) c.parts)
    (declared_named scope (component c) own s h.0 (parts_named c.parts h.1) (since_each (own_items inside) (since_own inside) c.parts))
    (all_inner inside c.parts (named_behind scope c.name.text s h.0) h.1)

interface_named : (scope : Path) (f : Interface) → AreNames scope → Each IsName (names_in_interface f) → Each IsNamed (interface_items scope f)
interface_named scope f s h =
    declared_named scope (interface f) (flat_map (interface_part_items scope) f.parts) s h.0 (interface_parts_named f.parts h.1) (since_each (interface_part_items scope) (since_interface scope) f.parts)

instance_named : (scope : Path) (n : Instance) → AreNames scope → Each IsName (names_in_instance n) → Each IsNamed (instance_items scope n)
instance_named scope n s h = declared_named scope (instance n) (model_own_items scope (instance n)) s h.0 tt (since_instance scope n)

topology_named : (scope : Path) (t : Topology) → AreNames scope → Each IsName (names_in_topology t) → Each IsNamed (topology_items scope t)
topology_named scope t s h =
    declared_named scope (topology t) (flat_map (topology_member_items scope) t.members) s h.0 tt (since_each (topology_member_items scope) (since_topology scope) t.members)

-- ---- members

abbrev Names : Member → Type 0
Names m = (scope : Path) → AreNames scope → Each IsName (names_within m) → Each IsNamed (in_member scope m)

abbrev NamesWithin : Module → Type 0
NamesWithin m = (scope : Path) → AreNames scope → Each IsName (names_inside scope m) → Each IsNamed (in_module scope m)

all_named : (ms : List ((m : Member) × Names m)) (scope : Path) → AreNames scope → Each IsName (names_in (map (λ e. e.0) ms)) → Each IsNamed (in_members scope (map (λ e. e.0) ms))
all_named [] scope s h = tt
all_named (e ∷ ms) scope s h =
    each_append IsNamed (in_member scope e.0) (in_members scope (map (λ x. x.0) ms))
    (e.1 scope s (each_before IsName (names_within e.0) (names_in (map (λ x. x.0) ms)) h))
    (all_named ms scope s (each_behind IsName (names_within e.0) (names_in (map (λ x. x.0) ms)) h))

by_module : (y : Module-F ((m : Member) × Names m) ((m : Module) × NamesWithin m)) → NamesWithin (roll-Module (map-Module _ _ _ _ (λ e. e.0) (λ e. e.0) y))
by_module y scope s h =
    let x : Module-F Member Module = map-Module _ _ _ _ (λ e. e.0) (λ e. e.0) y in
    let k : Each IsName (x.name ∷ names_in x.members) = subst (Each IsName) (names_opened scope x) h in
    subst (Each IsNamed) (sym (members_rolled x scope)) (all_named y.members (scope ++ x.name.text ∷ []) (named_behind scope x.name.text s k.0) k.1)

-- the names of a member that is no module are its own
own_names : (x : Member-F Member Module) → Each IsName (names_within (roll-Member x))
    → Each IsName (names_of_member (map-Member _ _ _ _ (fold-Member (List Name) (List Name) names_of_member names_of_module) (fold-Module (List Name) (List Name) names_of_member names_of_module) x))
own_names x h = subst (Each IsName) (fold-roll-Member (List Name) (List Name) names_of_member names_of_module x) h

by_member : (y : Member-F ((m : Member) × Names m) ((m : Module) × NamesWithin m)) → Names (roll-Member (map-Member _ _ _ _ (λ e. e.0) (λ e. e.0) y))
by_member (open_member.Module e) scope s h =
    subst (Each IsNamed) (sym (member_rolled (open_member.Module e.0) scope)) (e.1 scope s (subst (Each IsName) (names_rolled scope e.0) h))
by_member (open_member.Def d) scope s h =
    subst (Each IsNamed) (sym (member_rolled (open_member.Def d) scope))
    (definition_named scope d s (own_names (open_member.Def d) h))
by_member (open_member.Machine m) scope s h =
    subst (Each IsNamed) (sym (member_rolled (open_member.Machine m) scope)) (machine_named scope m s (own_names (open_member.Machine m) h))
by_member (open_member.Component c) scope s h =
    subst (Each IsNamed) (sym (member_rolled (open_member.Component c) scope)) (component_named scope c s (own_names (open_member.Component c) h))
by_member (open_member.Interface f) scope s h =
    subst (Each IsNamed) (sym (member_rolled (open_member.Interface f) scope)) (interface_named scope f s (own_names (open_member.Interface f) h))
by_member (open_member.Instance n) scope s h =
    subst (Each IsNamed) (sym (member_rolled (open_member.Instance n) scope)) (instance_named scope n s (own_names (open_member.Instance n) h))
by_member (open_member.Topology t) scope s h =
    subst (Each IsNamed) (sym (member_rolled (open_member.Topology t) scope)) (topology_named scope t s (own_names (open_member.Topology t) h))
by_member (open_member.Include i) scope s h = subst (Each IsNamed) (sym (member_rolled (open_member.Include i) scope)) tt
by_member (open_member.Locate l) scope s h = subst (Each IsNamed) (sym (member_rolled (open_member.Locate l) scope)) tt

member_layer : (x : Member-F Member Module) (y : Member-F ((m : Member) × Names m) ((m : Module) × NamesWithin m)) → map-Member _ _ _ _ (λ e. e.0) (λ e. e.0) y ≡ x → Names (roll-Member x)
member_layer x y is = subst (λ (z : Member-F Member Module). Names (roll-Member z)) is (by_member y)

module_layer : (x : Module-F Member Module) (y : Module-F ((m : Member) × Names m) ((m : Module) × NamesWithin m)) → map-Module _ _ _ _ (λ e. e.0) (λ e. e.0) y ≡ x → NamesWithin (roll-Module x)
module_layer x y is = subst (λ (z : Module-F Member Module). NamesWithin (roll-Module z)) is (by_module y)

member_named : (m : Member) → Names m
member_named = ind-Member Names NamesWithin member_layer module_layer

members_named : (ms : List Member) (scope : Path) → AreNames scope → Each IsName (names_in ms) → Each IsNamed (in_members scope ms)
members_named [] scope s h = tt
members_named (m ∷ ms) scope s h =
    each_append IsNamed (in_member scope m) (in_members scope ms) (member_named m scope s (each_before IsName (names_within m) (names_in ms) h))
    (members_named ms scope s (each_behind IsName (names_within m) (names_in ms) h))

-- ---- files

units_named : (units : List (List Member)) → Each (λ (ms : List Member). HaveNames IsName (given.Unit ms)) units → Each IsNamed (flat_map (λ (u : File). in_members [] u.members) (map file_of units))
units_named [] h = tt
units_named (ms ∷ units) h =
    each_append IsNamed (in_members [] ms) (flat_map (λ (u : File). in_members [] u.members) (map file_of units)) (members_named ms [] refl (each_flat IsName names_within ms (h.0 [])))
    (units_named units h.1)

nothing_named : (i : Inside) → HaveNames IsName (nothing_in i)
nothing_named inside.Unit = λ scope. tt
nothing_named inside.Component = λ scope. tt
nothing_named inside.Topology = λ scope. tt

pub named_items : ((file : ℕ) (text : List ℕ) (tokens : List Token) (ms : List Member) → Lexed file text tokens → SpellsUnit tokens ms → NamesAreWritten file text ms)
    → ((file : ℕ) (text : List ℕ) (tokens : List Token) (ps : List Part) → Lexed file text tokens → SpellsFile component_parts tokens ps → PartNamesAreWritten file text ps)
    → ((file : ℕ) (text : List ℕ) (tokens : List Token) (ts : List TMember) → Lexed file text tokens → SpellsFile topology_members tokens ts → TopologyNamesAreWritten file text ts)
    → (told : Option (List HeldFile)) (names : List (List ℕ)) (walked : Walked) (units : List (List Member)) (i : Item)
    → WalksFiles told names nothing_read (Went walked units) → Contains (items (source_of walked units)) i → IsNamed i
named_items written parts_written topology_written told names walked units i h there =
    of_contained IsNamed (items (source_of walked units)) i (units_named units
    (units_kept (HaveNames IsName) nothing_named (replaced_names IsName)
    (file_given (HaveNames IsName) nothing_named (λ file text tokens within x lexed spelled. by_kind (HaveNames IsName) tokens
    (λ ms s scope. each_part IsName names_within ms (each_contained IsName (names_in ms) (λ n there. (written file text tokens ms lexed s n there).spelled.0)))
    (λ ps s scope. each_part IsName names_in_part ps (each_contained IsName (flat_map names_in_part ps) (λ n there. (parts_written file text tokens ps lexed s n there).spelled.0)))
    (λ ts s scope. each_part IsName names_in_topology_member ts (each_contained IsName (flat_map names_in_topology_member ts) (λ n there. (topology_written file text tokens ts lexed s n there).spelled.0)))
    within x spelled))
    told names walked units h)) there
