-- Where expressions have values, and numbers where numbers are wanted, each number that is written is there.
use Rattle.std.proofs.Common.{◌≡◌, ℕ, suc, ℤ, List, [], ◌∷◌, ◌++◌, flat_map, slice_get, Option, Some, None, refl, subst}
use Rattle.std.specs.List.{AllByRecursion as Each}
use Rattle.fp_base.proofs.Lists.{each_append, each_before, each_behind, each_flat, of_item, each_part}
use Rattle.fp_base.proofs.Options.{same_some}
use Rattle.fp_base.specs.declared.value.Value.{Value}
use Rattle.fp_tree.specs.declared.source.Source.{Source}
use Rattle.fp_tree.specs.declared.expression.Expr.{Expr}
use Rattle.fp_tree.specs.declared.instance.Instance.{Instance}
use Rattle.fp_tree.specs.declared.topology.Connection.{Connection}
use Rattle.fp_tree.specs.declared.topology.PortUse.{PortUse}
use Rattle.fp_tree.specs.declared.topology.TMember.{TMember}
use Rattle.fp_tree.specs.declared.topology.TMember.TheVariants as member
use Rattle.fp_tree.specs.declared.topology.Topology.{Topology}
use Rattle.fp_meaning.specs.declared.group.Group.TheVariants.{Component as ComponentGroup}
use Rattle.fp_meaning.specs.declared.item.Item.{Item}
use Rattle.fp_meaning.specs.declared.item.Item.TheVariants as item
use Rattle.fp_meaning.specs.Layout.{connection_items, expression_items, items, model_own_items, port_use_items, topology_member_items, use_items, value_items}
use Rattle.fp_meaning.specs.Names.{Path}
use Rattle.fp_meaning.specs.Origins.{expressions, expressions_of, one}
use Rattle.fp_meaning.specs.Sites.{Declaration, ModelDef, component, declaration, in_optional, instance, interface, machine, topology, value_in}
use Rattle.fp_meaning.specs.Values.{Val, opened}
use Rattle.fp_type_forms.specs.Written.{NumberIs}
use Rattle.fp_part_values.specs.Names.{written}
use Rattle.fp_part_values.specs.Numbers.{connection_numbers, instance_numbers, topology_member_numbers}
use Rattle.fp_part_values.specs.FormStanding.{AreValued, NumbersStand}
use Rattle.fp_part_values.proofs.Standing.{HasValue as IsPlaced, each_given, owned}
use Rattle.fp_written_parts.specs.declared.port.Given.{Given}
use Rattle.fp_written_parts.specs.Numbered.{HasNumber}
use Rattle.fp_component_forms.specs.Written.{BothOrNeither, GivenIs, Scoped}
use Rattle.fp_written_parts.specs.Given.{DeploymentHasNumbers, HasNumberWhereGiven, InstanceHasNumbers}
use Rattle.fp_written_parts.specs.declared.instance.WrittenInstance.{WrittenInstance}
use Rattle.fp_written_parts.specs.declared.topology.WrittenDeployment.{WrittenDeployment}
use Rattle.fp_topology_forms.specs.Written.{ConnectionIs, InstanceIs, IsWrittenDeployment, TopologyIs, connections_in, instance_in, instance_of, instances, topologies, topology_in, topology_of}
use Rattle.fp_topology_forms.proofs.Places.{second_read}

none_there : {A C : Type 0} {x : A} → ◌≡◌ {A = Option A} None (Some x) → C
none_there e = absurd (cc)

module _ (source : Source) where
  -- an expression among the items has a value
  abbrev Valued : Item → Type 0
  Valued (item.Written since p) = IsPlaced source p
  Valued _ = Unit {0}

  all_valued : (is : List Item) → Each (IsPlaced source) (flat_map expressions_of is) → Each Valued is
  all_valued [] h = tt
  all_valued (item.Defined s ∷ is) h = (tt, all_valued is (each_behind (IsPlaced source) (in_optional (one s.scope) (value_in s.definition)) (flat_map expressions_of is) h))
  all_valued (item.Enumerated e ∷ is) h = (tt, all_valued is (each_behind (IsPlaced source) (in_optional (one e.scope) e.constant.value) (flat_map expressions_of is) h))
  all_valued (item.Declared d ∷ is) h = (tt, all_valued is h)
  all_valued (item.Used since n ∷ is) h = (tt, all_valued is h)
  all_valued (item.Written since p ∷ is) h = (h.0, all_valued is h.1)

  module _ (scope : Path) where
    abbrev HasValue : Expr → Type 0
    HasValue e = (v : Value) × Val source scope (opened e) v

    abbrev Numbered : Expr → Type 0
    Numbered e = (n : ℤ) × NumberIs source scope e n

    -- ---- values

    of_value : (o : Option Expr) → Each Valued (value_items scope o) → Each HasValue (written o)
    of_value None h = tt
    of_value (Some e) h = (h.0, tt)

    both_of : (xs ys : List Item) (n m : List Expr) → (Each Valued xs → Each HasValue n) → (Each Valued ys → Each HasValue m) → Each Valued (xs ++ ys) → Each HasValue (n ++ m)
    both_of xs ys n m f g h = each_append HasValue n m (f (each_before Valued xs ys h)) (g (each_behind Valued xs ys h))

    of_instance : (d : Instance) → Each Valued (model_own_items scope (instance d)) → Each HasValue (instance_numbers d)
    of_instance d h =
        let two = use_items ComponentGroup scope d.of ++ expression_items 0 scope d.base in
        let three = two ++ value_items scope d.queue in
        let four = three ++ value_items scope d.stack in
        let five = four ++ value_items scope d.priority in
        let front = each_before Valued five (value_items scope d.cpu) h in
        let sized = each_before Valued four (value_items scope d.priority) front in
        let queued = each_before Valued three (value_items scope d.stack) sized in
        let based = each_before Valued two (value_items scope d.queue) queued in
        let base = each_behind Valued (use_items ComponentGroup scope d.of) (expression_items 0 scope d.base) based in
        let queue = of_value d.queue (each_behind Valued two (value_items scope d.queue) queued) in
        let stack = of_value d.stack (each_behind Valued three (value_items scope d.stack) sized) in
        let priority = of_value d.priority (each_behind Valued four (value_items scope d.priority) front) in
        let cpu = of_value d.cpu (each_behind Valued five (value_items scope d.cpu) h) in (
          base.0,
          each_append HasValue (written d.queue ++ written d.stack ++ written d.priority) (written d.cpu)
              (each_append HasValue (written d.queue ++ written d.stack) (written d.priority) (each_append HasValue (written d.queue) (written d.stack) queue stack) priority) cpu,
        )

    of_port : (u : PortUse) → Each Valued (port_use_items scope u) → Each HasValue (written u.number)
    of_port u h = of_value u.number h.1

    of_connections : (cs : List Connection) → Each Valued (flat_map (connection_items scope) cs) → Each HasValue (flat_map connection_numbers cs)
    of_connections [] h = tt
    of_connections (c ∷ cs) h =
        both_of (connection_items scope c) (flat_map (connection_items scope) cs) (connection_numbers c) (flat_map connection_numbers cs)
        (both_of (port_use_items scope c.from) (port_use_items scope c.to) (written c.from.number) (written c.to.number) (of_port c.from) (of_port c.to)) (of_connections cs) h

    of_member : (m : TMember) → Each Valued (topology_member_items scope m) → Each HasValue (topology_member_numbers m)
    of_member (member.Connections g) h = of_connections g.connections h
    of_member (member.Instance u) h = tt
    of_member (member.Import i) h = tt
    of_member (member.Include i) h = tt
    of_member (member.Pattern p) h = tt

    of_members : (ms : List TMember) → Each Valued (flat_map (topology_member_items scope) ms) → Each HasValue (flat_map topology_member_numbers ms)
    of_members [] h = tt
    of_members (m ∷ ms) h =
        both_of (topology_member_items scope m) (flat_map (topology_member_items scope) ms) (topology_member_numbers m) (flat_map topology_member_numbers ms) (of_member m) (of_members ms) h

    -- ---- numbers

    -- those that have values are numbers, where each such is one
    numbered : (es : List Expr) → Each HasValue es → ((j : ℕ) (e : Expr) → slice_get es j ≡ Some e → (v : Value) → Val source scope (opened e) v → Numbered e) → Each Numbered es
    numbered [] h to = tt
    numbered (e ∷ es) h to = (to 0 e refl h.0.0 h.0.1, numbered es h.1 (λ j. to (suc j)))

    abbrev Joined : Connection → Type 0
    Joined c = Each Numbered (connection_numbers c)

    of_each : (ms : List TMember) → Each Numbered (flat_map topology_member_numbers ms) → Each Joined (flat_map connections_in ms)
    of_each [] h = tt
    of_each (m ∷ ms) h =
        each_append Joined (connections_in m) (flat_map connections_in ms) (one_of m (each_before Numbered (topology_member_numbers m) (flat_map topology_member_numbers ms) h))
        (of_each ms (each_behind Numbered (topology_member_numbers m) (flat_map topology_member_numbers ms) h))
      where
        one_of : (m : TMember) → Each Numbered (topology_member_numbers m) → Each Joined (connections_in m)
        one_of (member.Connections g) h = each_part Numbered connection_numbers g.connections h
        one_of (member.Instance u) h = tt
        one_of (member.Import i) h = tt
        one_of (member.Include i) h = tt
        one_of (member.Pattern p) h = tt

    given_number : (e : Expr) (g : Given) → GivenIs source scope e g → Numbered e → HasNumber g
    given_number e g h n = (n.0, h.number.only n.0 n.1)

    number_where : (o : Option Expr) (p : Option Given) → BothOrNeither (GivenIs source scope) o p → Each Numbered (written o) → HasNumberWhereGiven p
    number_where None None h n g is = none_there is
    number_where None (Some x) h n g is = absurd h
    number_where (Some e) None h n g is = absurd h
    number_where (Some e) (Some x) h n g is = subst (λ (y : Given). HasNumber y) (same_some is) (given_number e x h n.0)

  -- ---- definitions

  abbrev InstanceNumbered : Scoped Instance → Type 0
  InstanceNumbered i = Each (Numbered i.scope) (instance_numbers i.node)

  abbrev TopologyNumbered : Scoped Topology → Type 0
  TopologyNumbered t = Each (Joined t.scope) (flat_map connections_in t.node.members)

  instance_has : (i : Scoped Instance) (w : WrittenInstance) → InstanceIs source i w → InstanceNumbered i → InstanceHasNumbers w
  instance_has i w is n =
      let d = i.node in
      let scope = i.scope in
      let three = written d.queue ++ written d.stack ++ written d.priority in
      let two = written d.queue ++ written d.stack in
      let front = each_before (Numbered scope) three (written d.cpu) n.1 in
      let sized = each_before (Numbered scope) two (written d.priority) front in
      record {
        base = given_number scope d.base w.base is.base n.0;
        queue = number_where scope d.queue w.queue is.queue (each_before (Numbered scope) (written d.queue) (written d.stack) sized);
        stack = number_where scope d.stack w.stack is.stack (each_behind (Numbered scope) (written d.queue) (written d.stack) sized);
        priority = number_where scope d.priority w.priority is.priority (each_behind (Numbered scope) two (written d.priority) front);
        cpu = number_where scope d.cpu w.cpu is.cpu (each_behind (Numbered scope) three (written d.cpu) n.1);
      }

  module _ (valued : AreValued source) (numbers : (k : ℕ) (d : Declaration) → slice_get (items source) k ≡ Some (item.Declared d) → NumbersStand source d.scope d.definition) where
    values_inside : (k : ℕ) (d : Declaration) → slice_get (items source) k ≡ Some (item.Declared d) → Each Valued (model_own_items d.scope d.definition)
    values_inside k d at = owned source Valued k d at (all_valued (items source) (each_given (IsPlaced source) (expressions source) valued))

    instance_numbered : (k : ℕ) (i : Item) → slice_get (items source) k ≡ Some i → Each InstanceNumbered (instance_of i)
    instance_numbered k (item.Declared d) at = of_model d.scope d.definition at
      where
        of_model : (scope : Path) (m : ModelDef) → slice_get (items source) k ≡ Some (item.Declared (declaration scope m)) → Each InstanceNumbered (instance_in scope m)
        of_model scope (instance x) there =
            let own = values_inside k (declaration scope (instance x)) there in
            (numbered scope (instance_numbers x) (of_instance scope x own) (numbers k (declaration scope (instance x)) there), tt)
        of_model scope (machine x) there = tt
        of_model scope (component x) there = tt
        of_model scope (interface x) there = tt
        of_model scope (topology x) there = tt
    instance_numbered k (item.Defined s) at = tt
    instance_numbered k (item.Enumerated e) at = tt
    instance_numbered k (item.Used since n) at = tt
    instance_numbered k (item.Written since p) at = tt

    topology_numbered : (k : ℕ) (i : Item) → slice_get (items source) k ≡ Some i → Each TopologyNumbered (topology_of i)
    topology_numbered k (item.Declared d) at = of_model d.scope d.definition at
      where
        of_model : (scope : Path) (m : ModelDef) → slice_get (items source) k ≡ Some (item.Declared (declaration scope m)) → Each TopologyNumbered (topology_in scope m)
        of_model scope (topology x) there =
            let own = values_inside k (declaration scope (topology x)) there in
            (of_each scope x.members (numbered scope (flat_map topology_member_numbers x.members) (of_members scope x.members own) (numbers k (declaration scope (topology x)) there)), tt)
        of_model scope (machine x) there = tt
        of_model scope (component x) there = tt
        of_model scope (interface x) there = tt
        of_model scope (instance x) there = tt
    topology_numbered k (item.Defined s) at = tt
    topology_numbered k (item.Enumerated e) at = tt
    topology_numbered k (item.Used since n) at = tt
    topology_numbered k (item.Written since p) at = tt

    instances_numbered : Each InstanceNumbered (instances source)
    instances_numbered = each_flat InstanceNumbered instance_of (items source) (each_given (λ (i : Item). Each InstanceNumbered (instance_of i)) (items source) instance_numbered)

    topologies_numbered : Each TopologyNumbered (topologies source)
    topologies_numbered = each_flat TopologyNumbered topology_of (items source) (each_given (λ (i : Item). Each TopologyNumbered (topology_of i)) (items source) topology_numbered)

    pub deployment_numbered : (d : WrittenDeployment) → IsWrittenDeployment source d → DeploymentHasNumbers d
    deployment_numbered d are = record {
      instances = λ k i at.
          let x = second_read (InstanceIs source) 0 (instances source) d.instances k i are.instances at in
          instance_has x.one i x.related (of_item InstanceNumbered (instances source) k x.one instances_numbered x.here);
      connections = λ t o k c at there.
          let x = second_read (TopologyIs source) 0 (topologies source) d.topologies t o are.topologies at in
          let scope = x.one.scope in
          let of = flat_map connections_in x.one.node.members in
          let y = second_read (ConnectionIs source scope) 0 of o.connections k c x.related.connections there in
          let n = of_item (Joined scope) of k y.one (of_item TopologyNumbered (topologies source) t x.one topologies_numbered x.here) y.here in
          record {
            from = number_where scope y.one.from.number c.from.number y.related.from.number (each_before (Numbered scope) (written y.one.from.number) (written y.one.to.number) n);
            to = number_where scope y.one.to.number c.to.number y.related.to.number (each_behind (Numbered scope) (written y.one.from.number) (written y.one.to.number) n);
          };
    }
