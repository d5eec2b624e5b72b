-- The expressions in what belongs to a definition in whose place a number is wanted are items behind it, so that all their places are places of items.
use Rattle.std.proofs.Common.{ℕ, suc, List, [], ◌∷◌, ◌++◌, flat_map, length, Option, Some, None, refl}
use Rattle.std.specs.List.{AllByRecursion as Each}
use Rattle.fp_places.proofs.Expressions.{StandIn}
use Rattle.fp_places.proofs.Definitions.{StandOf}
use Rattle.fp_base.specs.declared.place.Place.{Place}
use Rattle.fp_base.proofs.Lists.{each_append, each_before, each_behind, each_flat, each_weaker}
use Rattle.fp_tree.specs.declared.source.Source.{Source}
use Rattle.fp_tree.specs.declared.definition.Def.{Def}
use Rattle.fp_tree.specs.declared.definition.Def.TheVariants as def
use Rattle.fp_tree.specs.declared.definition.Enum.{Enum}
use Rattle.fp_tree.specs.declared.part.EnumConst.{EnumConst}
use Rattle.fp_tree.specs.declared.expression.Expr.{Expr}
use Rattle.fp_tree.specs.declared.component.General.{General}
use Rattle.fp_tree.specs.declared.component.Part.{Part}
use Rattle.fp_tree.specs.declared.component.Part.TheVariants as part
use Rattle.fp_tree.specs.declared.component.InterfacePart.{InterfacePart}
use Rattle.fp_tree.specs.declared.component.InterfacePart.TheVariants as interface_part
use Rattle.fp_tree.specs.declared.instance.Instance.{Instance}
use Rattle.fp_tree.specs.declared.topology.Connection.{Connection}
use Rattle.fp_tree.specs.declared.topology.TMember.{TMember}
use Rattle.fp_tree.specs.declared.topology.TMember.TheVariants as topology_member
use Rattle.fp_meaning.specs.declared.group.Group.TheVariants.{Component as ComponentGroup, Port, Machine as MachineGroup}
use Rattle.fp_meaning.specs.declared.item.Item.{Item}
use Rattle.fp_meaning.specs.declared.item.Item.TheVariants as item
use Rattle.fp_meaning.specs.Layout.{array_items, component_scope, connection_items, constant_items, expression_items, field_items, formal_items, formals_items, general_items, interface_part_items, items, limits_items, model_own_items, own_items, part_items, port_items, port_use_items, struct_items, topology_member_items, type_items, use_items, value_items}
use Rattle.fp_meaning.specs.Sites.{ModelDef, Path, component, in_optional, instance, interface, machine, topology}
use Rattle.fp_meaning.proofs.Since.{AllSince, since_both, since_fields, since_form, since_formals, since_optional, since_type}
use Rattle.fp_meaning.proofs.Throughout.{all_exactly, since_model}
use Rattle.fp_part_values.specs.Names.{written}
use Rattle.fp_part_values.specs.Numbers.{connection_numbers, general_numbers, instance_numbers, interface_part_numbers, numbers_of, part_numbers, topology_member_numbers}

module _ (G : Place → Type 0) where
  abbrev All : List Item → Type 0
  All is = Each (StandOf G) is

  abbrev Values : List Expr → Type 0
  Values es = Each (StandIn G) es

  -- ---- lists of items that are joined

  before : (a b : List Item) → All (a ++ b) → All a
  before a b h = each_before (StandOf G) a b h

  behind : (a b : List Item) → All (a ++ b) → All b
  behind a b h = each_behind (StandOf G) a b h

  both : (es fs : List Expr) → Values es → Values fs → Values (es ++ fs)
  both es fs h k = each_append (StandIn G) es fs h k

  value : (scope : Path) (o : Option Expr) → All (value_items scope o) → Values (written o)
  value scope None h = tt
  value scope (Some e) h = (h.0, tt)

  -- of each part of a list
  split_items : {A : Type 0} (f : A → List Item) (xs : List A) → All (flat_map f xs) → Each (λ x. All (f x)) xs
  split_items f [] h = tt
  split_items f (x ∷ xs) h = (before (f x) (flat_map f xs) h, split_items f xs (behind (f x) (flat_map f xs) h))

  through : {A : Type 0} (f : A → List Item) (g : A → List Expr) → ((x : A) → All (f x) → Values (g x)) → (xs : List A) → All (flat_map f xs) → Values (flat_map g xs)
  through f g one xs h = each_flat (StandIn G) g xs (each_weaker (λ x. All (f x)) (λ x. Values (g x)) one xs (split_items f xs h))

  -- ---- parts of components and interfaces

  general_valued : (scope : Path) (p : General) → All (general_items scope p) → Values (general_numbers p)
  general_valued scope p h =
      let size = value_items scope p.size in
      let of = in_optional (use_items Port scope) p.of in
      let priority = value_items scope p.priority in
      both (written p.size) (written p.priority) (value scope p.size (before size of (before (size ++ of) priority h))) (value scope p.priority (behind (size ++ of) priority h))

  part_valued : (scope : Path) (p : Part) → All (own_items scope p) → Values (part_numbers p)
  part_valued scope (part.General p) h = general_valued scope p h
  part_valued scope (part.Internal p) h = value scope p.priority (behind (formals_items scope p.formals) (value_items scope p.priority) h)
  part_valued scope (part.Command c) h =
      let formals = formals_items scope c.formals in
      let opcode = value_items scope c.opcode in
      let priority = value_items scope c.priority in
      both (written c.opcode) (written c.priority) (value scope c.opcode (behind formals opcode (before (formals ++ opcode) priority h)))
      (value scope c.priority (behind (formals ++ opcode) priority h))
  part_valued scope (part.Event e) h =
      let formals = formals_items scope e.formals in
      let id_ = value_items scope e.id in
      let throttle = value_items scope e.throttle in
      both (written e.id) (written e.throttle) (value scope e.id (behind formals id_ (before (formals ++ id_) throttle h))) (value scope e.throttle (behind (formals ++ id_) throttle h))
  part_valued scope (part.Channel t) h =
      let kind = type_items 0 scope t.of in
      let id_ = value_items scope t.id in
      let low = in_optional (limits_items scope) t.low in
      let high = in_optional (limits_items scope) t.high in
      value scope t.id (behind kind id_ (before (kind ++ id_) low (before (kind ++ id_ ++ low) high h)))
  part_valued scope (part.Param p) h =
      let kind = type_items 0 scope p.of in
      let default = value_items scope p.default in
      let id_ = value_items scope p.id in
      let set = value_items scope p.set in
      let save = value_items scope p.save in
      let front = before (kind ++ default ++ id_ ++ set) save h in
      both (written p.id ++ written p.set) (written p.save)
      (both (written p.id) (written p.set) (value scope p.id (behind (kind ++ default) id_ (before (kind ++ default ++ id_) set front)))
      (value scope p.set (behind (kind ++ default ++ id_) set front))) (value scope p.save (behind (kind ++ default ++ id_ ++ set) save h))
  part_valued scope (part.Running r) h = value scope r.priority (behind (use_items MachineGroup scope r.of) (value_items scope r.priority) h)
  part_valued scope p h = tt

  inner_valued : (scope : Path) (p : InterfacePart) → All (interface_part_items scope p) → Values (interface_part_numbers p)
  inner_valued scope (interface_part.General p) h = general_valued scope p h
  inner_valued scope (interface_part.Special p) h = tt
  inner_valued scope (interface_part.Import i) h = tt

  -- ---- instances and topologies

  instance_valued : (scope : Path) (d : Instance) → All (model_own_items scope (instance d)) → Values (instance_numbers d)
  instance_valued scope d h =
      let of = use_items ComponentGroup scope d.of in
      let base = expression_items 0 scope d.base in
      let queue = value_items scope d.queue in
      let stack = value_items scope d.stack in
      let priority = value_items scope d.priority in
      let cpu = value_items scope d.cpu in
      let five = before (of ++ base ++ queue ++ stack ++ priority) cpu h in
      let four = before (of ++ base ++ queue ++ stack) priority five in
      let three = before (of ++ base ++ queue) stack four in (
        (behind of base (before (of ++ base) queue three)).0,
        both (written d.queue ++ written d.stack ++ written d.priority) (written d.cpu)
            (both (written d.queue ++ written d.stack) (written d.priority)
            (both (written d.queue) (written d.stack) (value scope d.queue (behind (of ++ base) queue three)) (value scope d.stack (behind (of ++ base ++ queue) stack four)))
            (value scope d.priority (behind (of ++ base ++ queue ++ stack) priority five))) (value scope d.cpu (behind (of ++ base ++ queue ++ stack ++ priority) cpu h)),
      )

  connection_valued : (scope : Path) (c : Connection) → All (connection_items scope c) → Values (connection_numbers c)
  connection_valued scope c h =
      let from = port_use_items scope c.from in
      let to = port_use_items scope c.to in
      both (written c.from.number) (written c.to.number) (value scope c.from.number (before from to h).1) (value scope c.to.number (behind from to h).1)

  member_valued : (scope : Path) (m : TMember) → All (topology_member_items scope m) → Values (topology_member_numbers m)
  member_valued scope (topology_member.Connections cs) h = through (connection_items scope) connection_numbers (connection_valued scope) cs.connections h
  member_valued scope (topology_member.Instance u) h = tt
  member_valued scope (topology_member.Import i) h = tt
  member_valued scope (topology_member.Include i) h = tt
  member_valued scope (topology_member.Pattern p) h = tt

  -- ---- definitions, and all items of a source

  model_valued : (scope : Path) (d : ModelDef) → All (model_own_items scope d) → Values (numbers_of d)
  model_valued scope (machine d) h = tt
  model_valued scope (component d) h = through (own_items (component_scope scope d)) part_numbers (part_valued (component_scope scope d)) d.parts h
  model_valued scope (interface d) h = through (interface_part_items scope) interface_part_numbers (inner_valued scope) d.parts h
  model_valued scope (instance d) h = instance_valued scope d h
  model_valued scope (topology d) h = through (topology_member_items scope) topology_member_numbers (member_valued scope) d.members h

  abbrev pub NumbersPlaced : Item → Type 0
  NumbersPlaced (item.Declared d) = Values (numbers_of d.definition)
  NumbersPlaced _ = Unit {0}

  none_declared : (since : ℕ) (is : List Item) → AllSince since is → Each NumbersPlaced is
  none_declared since [] s = tt
  none_declared since (item.Used m n ∷ is) s = (tt, none_declared since is s.1)
  none_declared since (item.Written m p ∷ is) s = (tt, none_declared since is s.1)
  none_declared since (item.Defined x ∷ is) s = absurd s
  none_declared since (item.Enumerated e ∷ is) s = absurd s
  none_declared since (item.Declared d ∷ is) s = absurd s

  constants_declare : (scope : Path) (e : Enum) (position : ℕ) (cs : List EnumConst) → Each NumbersPlaced (constant_items scope e position cs)
  constants_declare scope e position [] = tt
  constants_declare scope e position (c ∷ cs) = (tt, constants_declare scope e (suc position) cs)

  parts_declare : (scope : Path) (d : Def) → Each NumbersPlaced (part_items scope d)
  parts_declare scope (def.Constant d) = tt
  parts_declare scope (def.Abstract d) = tt
  parts_declare scope (def.Alias d) = none_declared 0 (type_items 0 scope d.target) (since_form 0 scope d.target.form)
  parts_declare scope (def.Array d) =
      let size = expression_items 0 scope d.size in
      let element = type_items 0 scope d.element in
      let default = in_optional (expression_items 0 scope) d.default in
      none_declared 0 (array_items scope d) (since_both 0 (size ++ element) default (since_both 0 size element (refl, tt) (since_form 0 scope d.element.form)) (since_optional 0 scope d.default))
  parts_declare scope (def.Struct d) =
      none_declared 0 (struct_items scope d) (since_both 0 (flat_map (field_items scope) d.fields) (in_optional (expression_items 0 scope) d.default) (since_fields scope d.fields) (since_optional 0 scope d.default))
  parts_declare scope (def.Enum d) =
      let repr = in_optional (type_items 0 scope) d.repr in
      let constants = constant_items scope d 0 d.constants in
      let default = in_optional (expression_items (length d.constants) scope) d.default in
      each_append NumbersPlaced (repr ++ constants) default
      (each_append NumbersPlaced repr constants (none_declared 0 repr (since_type scope d.repr)) (constants_declare scope d 0 d.constants))
      (none_declared (length d.constants) default (since_optional (length d.constants) scope d.default))
  parts_declare scope (def.Port d) =
      none_declared 0 (port_items scope d)
      (since_both 0 (flat_map (formal_items scope) d.formals) (in_optional (type_items 0 scope) d.result) (since_formals scope d.formals) (since_type scope d.result))

  abbrev Passes : List Item → Type 0
  Passes is = All is → Each NumbersPlaced is

  joined : (xs ys : List Item) → Passes xs → Passes ys → Passes (xs ++ ys)
  joined xs ys h k all = each_append NumbersPlaced xs ys (h (before xs ys all)) (k (behind xs ys all))

  pub all_numbers : (source : Source) → All (items source) → Each NumbersPlaced (items source)
  all_numbers source =
      all_exactly Passes (λ all. tt) joined (λ scope d all. (tt, parts_declare scope d))
      (λ scope d all. (model_valued scope d all.1, none_declared 0 (model_own_items scope d) (since_model scope d))) source
