-- Names and expressions that one definition has: all stand behind it, with so many definitions between.
use Rattle.std.proofs.Common.{◌≡◌, refl, ℕ, List, [], ◌∷◌, ◌++◌, flat_map, Option, Some, None}
use Rattle.fp_tree.specs.declared.expression.Expr.{Expr}
use Rattle.fp_tree.specs.declared.name.Qual.{Qual}
use Rattle.fp_tree.specs.declared.type_name.TypeForm.{TypeForm}
use Rattle.fp_tree.specs.declared.type_name.TypeForm.TheVariants as type
use Rattle.fp_tree.specs.declared.type_name.TypeName.{TypeName}
use Rattle.fp_tree.specs.declared.part.Field.{Field}
use Rattle.fp_tree.specs.declared.part.Formal.{Formal}
use Rattle.fp_tree.specs.declared.machine.Behavior.{Behavior}
use Rattle.fp_tree.specs.declared.machine.ElementForm.{ElementForm}
use Rattle.fp_tree.specs.declared.machine.ElementForm.TheVariants as element
use Rattle.fp_tree.specs.declared.component.General.{General}
use Rattle.fp_tree.specs.declared.component.Part.{Part}
use Rattle.fp_tree.specs.declared.component.Part.TheVariants as part
use Rattle.fp_tree.specs.declared.component.InterfacePart.{InterfacePart}
use Rattle.fp_tree.specs.declared.component.InterfacePart.TheVariants as interface_part
use Rattle.fp_tree.specs.declared.dictionary.Channel.{Channel}
use Rattle.fp_tree.specs.declared.dictionary.Command.{Command}
use Rattle.fp_tree.specs.declared.dictionary.Event.{Event}
use Rattle.fp_tree.specs.declared.dictionary.Limits.{Limits}
use Rattle.fp_tree.specs.declared.dictionary.ParamDef.{ParamDef}
use Rattle.fp_tree.specs.declared.instance.Instance.{Instance}
use Rattle.fp_tree.specs.declared.topology.Connection.{Connection}
use Rattle.fp_tree.specs.declared.topology.PortUse.{PortUse}
use Rattle.fp_tree.specs.declared.topology.TMember.{TMember}
use Rattle.fp_tree.specs.declared.topology.TMember.TheVariants as topology_member
use Rattle.fp_meaning.specs.declared.group.Group.{Group}
use Rattle.fp_meaning.specs.declared.group.Group.TheVariants as group
use Rattle.fp_meaning.specs.declared.item.Item.{Item}
use Rattle.fp_meaning.specs.declared.item.Item.TheVariants as item
use Rattle.fp_meaning.specs.Sites.{Path, in_optional}
use Rattle.fp_meaning.specs.Layout.{expression_items, type_form_items, type_items, field_items, formal_items, element_form_items, element_items, behavior_items, use_items, value_items, formals_items, general_items, own_items, limit_items, limits_items, interface_part_items, port_use_items, connection_items, target_items, targets_items, topology_member_items}

-- all are names or expressions, so many definitions behind the one that has them
abbrev pub AllSince : ℕ → List Item → Type 0
AllSince since [] = Unit {0}
AllSince since (item.Used m n ∷ is) = (m ≡ since) × AllSince since is
AllSince since (item.Written m p ∷ is) = (m ≡ since) × AllSince since is
AllSince since (item.Defined s ∷ is) = ⊥
AllSince since (item.Enumerated e ∷ is) = ⊥
AllSince since (item.Declared d ∷ is) = ⊥

pub since_both : (since : ℕ) (xs ys : List Item) → AllSince since xs → AllSince since ys → AllSince since (xs ++ ys)
since_both since [] ys h k = k
since_both since (item.Used m n ∷ xs) ys h k = (h.0, since_both since xs ys h.1 k)
since_both since (item.Written m p ∷ xs) ys h k = (h.0, since_both since xs ys h.1 k)
since_both since (item.Defined s ∷ xs) ys h k = absurd h
since_both since (item.Enumerated e ∷ xs) ys h k = absurd h
since_both since (item.Declared d ∷ xs) ys h k = absurd h

since_three : (xs ys zs : List Item) → AllSince 0 xs → AllSince 0 ys → AllSince 0 zs → AllSince 0 (xs ++ ys ++ zs)
since_three xs ys zs h k l = since_both 0 (xs ++ ys) zs (since_both 0 xs ys h k) l

-- of each part of a list, and of one that may be left out
pub since_each : {A : Type 0} (f : A → List Item) → ((x : A) → AllSince 0 (f x)) → (xs : List A) → AllSince 0 (flat_map f xs)
since_each f h [] = tt
since_each f h (x ∷ xs) = since_both 0 (f x) (flat_map f xs) (h x) (since_each f h xs)

pub since_maybe : {A : Type 0} (f : A → List Item) → ((x : A) → AllSince 0 (f x)) → (o : Option A) → AllSince 0 (in_optional f o)
since_maybe f h None = tt
since_maybe f h (Some x) = h x

pub since_optional : (since : ℕ) (scope : Path) (o : Option Expr) → AllSince since (in_optional (expression_items since scope) o)
since_optional since scope None = tt
since_optional since scope (Some e) = (refl, tt)

pub since_form : (since : ℕ) (scope : Path) (f : TypeForm) → AllSince since (type_form_items since scope f)
since_form since scope (type.Text size) = since_optional since scope size
since_form since scope (type.Use name) = (refl, tt)
since_form since scope type.U8 = tt
since_form since scope type.U16 = tt
since_form since scope type.U32 = tt
since_form since scope type.U64 = tt
since_form since scope type.I8 = tt
since_form since scope type.I16 = tt
since_form since scope type.I32 = tt
since_form since scope type.I64 = tt
since_form since scope type.F32 = tt
since_form since scope type.F64 = tt
since_form since scope type.Bool = tt

pub since_type : (scope : Path) (o : Option TypeName) → AllSince 0 (in_optional (type_items 0 scope) o)
since_type scope o = since_maybe (type_items 0 scope) (λ t. since_form 0 scope t.form) o

pub since_fields : (scope : Path) (fs : List Field) → AllSince 0 (flat_map (field_items scope) fs)
since_fields scope fs =
    since_each (field_items scope) (λ f. since_both 0 (in_optional (expression_items 0 scope) f.size) (type_items 0 scope f.of) (since_optional 0 scope f.size) (since_form 0 scope f.of.form)) fs

pub since_formals : (scope : Path) (fs : List Formal) → AllSince 0 (flat_map (formal_items scope) fs)
since_formals scope fs = since_each (formal_items scope) (λ f. since_form 0 scope f.of.form) fs

-- ---- what machines, components, interfaces, instances and topologies have of their own

since_value : (scope : Path) (o : Option Expr) → AllSince 0 (value_items scope o)
since_value scope o = since_optional 0 scope o

since_use : (g : Group) (scope : Path) (o : Option Qual) → AllSince 0 (in_optional (use_items g scope) o)
since_use g scope o = since_maybe (use_items g scope) (λ q. (refl, tt)) o

since_element : (scope : Path) (f : ElementForm) → AllSince 0 (element_form_items scope f)
since_element scope (element.Signal t) = since_type scope t.of
since_element scope (element.Action t) = since_type scope t.of
since_element scope (element.Guard t) = since_type scope t.of
since_element scope (element.State n) = tt
since_element scope (element.Choice c) = tt
since_element scope (element.Initial g) = tt
since_element scope (element.On o) = tt
since_element scope (element.Entry d) = tt
since_element scope (element.Exit d) = tt

pub since_behavior : (scope : Path) (o : Option Behavior) → AllSince 0 (in_optional (behavior_items scope) o)
since_behavior scope o = since_maybe (behavior_items scope) (λ b. since_each (element_items scope) (λ e. since_element scope e.form) b.elements) o

since_general : (scope : Path) (p : General) → AllSince 0 (general_items scope p)
since_general scope p =
    since_three (value_items scope p.size) (in_optional (use_items group.Port scope) p.of) (value_items scope p.priority)
    (since_value scope p.size) (since_use group.Port scope p.of) (since_value scope p.priority)

since_limits : (scope : Path) (o : Option Limits) → AllSince 0 (in_optional (limits_items scope) o)
since_limits scope o = since_maybe (limits_items scope) (λ ls. since_each (limit_items scope) (λ l. (refl, tt)) ls.limits) o

module _ (scope : Path) where
  since_command : (c : Command) → AllSince 0 (own_items scope (part.Command c))
  since_command c =
      since_three (formals_items scope c.formals) (value_items scope c.opcode) (value_items scope c.priority)
      (since_formals scope c.formals) (since_value scope c.opcode) (since_value scope c.priority)

  since_event : (e : Event) → AllSince 0 (own_items scope (part.Event e))
  since_event e =
      since_three (formals_items scope e.formals) (value_items scope e.id) (value_items scope e.throttle)
      (since_formals scope e.formals) (since_value scope e.id) (since_value scope e.throttle)

  since_channel : (t : Channel) → AllSince 0 (own_items scope (part.Channel t))
  since_channel t =
      let type_and_id : AllSince 0 (type_items 0 scope t.of ++ value_items scope t.id) =
      since_both 0 (type_items 0 scope t.of) (value_items scope t.id) (since_form 0 scope t.of.form) (since_value scope t.id) in
      since_three (type_items 0 scope t.of ++ value_items scope t.id) (in_optional (limits_items scope) t.low) (in_optional (limits_items scope) t.high)
      type_and_id (since_limits scope t.low) (since_limits scope t.high)

  since_param : (p : ParamDef) → AllSince 0 (own_items scope (part.Param p))
  since_param p =
      let type_to_id : AllSince 0 (type_items 0 scope p.of ++ value_items scope p.default ++ value_items scope p.id) =
      since_three (type_items 0 scope p.of) (value_items scope p.default) (value_items scope p.id) (since_form 0 scope p.of.form) (since_value scope p.default) (since_value scope p.id) in
      since_three (type_items 0 scope p.of ++ value_items scope p.default ++ value_items scope p.id) (value_items scope p.set) (value_items scope p.save)
      type_to_id (since_value scope p.set) (since_value scope p.save)

  pub since_own : (p : Part) → AllSince 0 (own_items scope p)
  since_own (part.Def d) = tt
  since_own (part.Machine d) = tt
  since_own (part.General p) = since_general scope p
  since_own (part.Special p) = tt
  since_own (part.Internal p) = since_both 0 (formals_items scope p.formals) (value_items scope p.priority) (since_formals scope p.formals) (since_value scope p.priority)
  since_own (part.Command c) = since_command c
  since_own (part.Event e) = since_event e
  since_own (part.Channel t) = since_channel t
  since_own (part.Param p) = since_param p
  since_own (part.Match m) = tt
  since_own (part.Running r) = (refl, since_value scope r.priority)
  since_own (part.Import i) = (refl, tt)
  since_own (part.Include i) = tt

  pub since_interface : (p : InterfacePart) → AllSince 0 (interface_part_items scope p)
  since_interface (interface_part.General p) = since_general scope p
  since_interface (interface_part.Special p) = tt
  since_interface (interface_part.Import i) = (refl, tt)

  pub since_instance : (d : Instance)
      → AllSince 0 (use_items group.Component scope d.of ++ expression_items 0 scope d.base ++ value_items scope d.queue ++ value_items scope d.stack ++ value_items scope d.priority ++ value_items scope d.cpu)
  since_instance d =
      let queue_and_stack : AllSince 0 (value_items scope d.queue ++ value_items scope d.stack) =
      since_both 0 (value_items scope d.queue) (value_items scope d.stack) (since_value scope d.queue) (since_value scope d.stack) in
      let all : AllSince 0 (value_items scope d.queue ++ value_items scope d.stack ++ value_items scope d.priority ++ value_items scope d.cpu) =
      since_three (value_items scope d.queue ++ value_items scope d.stack) (value_items scope d.priority) (value_items scope d.cpu)
      queue_and_stack (since_value scope d.priority) (since_value scope d.cpu) in
      (refl, (refl, all))

  since_port_use : (u : PortUse) → AllSince 0 (port_use_items scope u)
  since_port_use u = (refl, since_value scope u.number)

  since_connection : (c : Connection) → AllSince 0 (connection_items scope c)
  since_connection c = since_both 0 (port_use_items scope c.from) (port_use_items scope c.to) (since_port_use c.from) (since_port_use c.to)

  pub since_topology : (m : TMember) → AllSince 0 (topology_member_items scope m)
  since_topology (topology_member.Instance u) = (refl, tt)
  since_topology (topology_member.Import i) = (refl, tt)
  since_topology (topology_member.Include i) = tt
  since_topology (topology_member.Connections cs) = since_each (connection_items scope) since_connection cs.connections
  since_topology (topology_member.Pattern p) = (refl, since_maybe (targets_items scope) (λ ts. since_each (target_items scope) (λ t. (refl, tt)) ts) p.targets)
