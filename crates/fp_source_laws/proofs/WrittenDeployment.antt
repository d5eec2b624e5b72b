-- The places in what is written of the instances and topologies of a source are places of its items.
use Rattle.std.proofs.Common.{List, [], ◌∷◌, ◌++◌, flat_map, Option, Some, None, sym, subst}
use Rattle.std.specs.List.{AllByRecursion as Each}
use Rattle.fp_base.specs.declared.place.Place.{Place}
use Rattle.fp_base.proofs.Lists.{InOption, each_before, each_behind, each_flat, each_weaker}
use Rattle.fp_tree.specs.declared.source.Source.{Source}
use Rattle.fp_tree.specs.declared.component.Import.{Import}
use Rattle.fp_tree.specs.declared.expression.Expr.{Expr}
use Rattle.fp_tree.specs.declared.instance.Instance.{Instance}
use Rattle.fp_tree.specs.declared.topology.Connection.{Connection}
use Rattle.fp_tree.specs.declared.topology.InstanceUse.{InstanceUse}
use Rattle.fp_tree.specs.declared.topology.PatternConnections.{PatternConnections}
use Rattle.fp_tree.specs.declared.topology.PortUse.{PortUse}
use Rattle.fp_tree.specs.declared.topology.Target.{Target}
use Rattle.fp_tree.specs.declared.topology.TMember.{TMember}
use Rattle.fp_tree.specs.declared.topology.TMember.TheVariants as topology_member
use Rattle.fp_tree.specs.declared.topology.Topology.{Topology}
use Rattle.fp_meaning.specs.declared.item.Item.{Item}
use Rattle.fp_meaning.specs.declared.item.Item.TheVariants as item
use Rattle.fp_meaning.specs.Layout.{items}
use Rattle.fp_meaning.specs.Names.{Path}
use Rattle.fp_meaning.specs.Sites.{ModelDef, component, declaration, in_optional, instance, interface, machine, topology}
use Rattle.fp_part_values.specs.Names.{written}
use Rattle.fp_part_values.specs.Numbers.{connection_numbers, instance_numbers, numbers_of, topology_member_numbers}
use Rattle.fp_component_forms.specs.Written.{BothOrNeither, Scoped}
use Rattle.fp_written_parts.specs.declared.instance.WrittenInstance.{WrittenInstance}
use Rattle.fp_written_parts.specs.declared.topology.ImportedTopology.{ImportedTopology}
use Rattle.fp_written_parts.specs.declared.topology.MemberInstance.{MemberInstance}
use Rattle.fp_written_parts.specs.declared.topology.UsedInstance.{UsedInstance}
use Rattle.fp_written_parts.specs.declared.topology.WrittenConnection.{WrittenConnection}
use Rattle.fp_written_parts.specs.declared.topology.WrittenDeployment.{WrittenDeployment}
use Rattle.fp_written_parts.specs.declared.topology.WrittenPattern.{WrittenPattern}
use Rattle.fp_written_parts.specs.declared.topology.WrittenPortUse.{WrittenPortUse}
use Rattle.fp_written_parts.specs.declared.topology.WrittenTopology.{WrittenTopology}
use Rattle.fp_topology_forms.specs.Written.{ConnectionIs, ImportIs, InstanceIs, IsWrittenDeployment, MemberInstanceIs, PatternIs, PortUseIs, TargetIs, TargetsAre, TopologyIs, connections_in, imports_in, instance_in, instance_of, instances, patterns_in, topologies, topology_in, topology_of, uses_in}
use Rattle.fp_places.specs.Places.{places_in_connection, places_in_targets, places_in_topology_member, places_in_value}
use Rattle.fp_places.proofs.Expressions.{StandIn}
use Rattle.fp_places.proofs.Definitions.{StandOf}
use Rattle.fp_source_laws.proofs.Expressions.{first_of}
use Rattle.fp_source_laws.proofs.PartNumbers.{NumbersPlaced, all_numbers}
use Rattle.fp_source_laws.proofs.Written.{GivenStands, each_read, given_stands}

module _ (G : Place → Type 0) where
  -- ---- the places at which rules can be broken

  abbrev pub UsedStands : UsedInstance → Type 0
  UsedStands u = G u.at

  pub record InstanceStands (w : WrittenInstance) : Type 0 where
    pub here : G w.at
    pub of_base : GivenStands G w.base
    pub of_queue : InOption (GivenStands G) w.queue
    pub of_stack : InOption (GivenStands G) w.stack
    pub of_priority : InOption (GivenStands G) w.priority
    pub of_cpu : InOption (GivenStands G) w.cpu

  abbrev pub MemberUseStands : MemberInstance → Type 0
  MemberUseStands m = UsedStands m.used

  abbrev pub ImportStands : ImportedTopology → Type 0
  ImportStands i = G i.at

  pub record EndStands (u : WrittenPortUse) : Type 0 where
    pub of_used : UsedStands u.used
    pub of_number : InOption (GivenStands G) u.number

  pub record ConnectionStands (w : WrittenConnection) : Type 0 where
    pub here : G w.at
    pub of_from : EndStands w.from
    pub of_to : EndStands w.to

  pub record PatternStands (w : WrittenPattern) : Type 0 where
    pub here : G w.at
    pub of_one : UsedStands w.of
    pub of_targets : InOption (Each UsedStands) w.targets

  pub record TopologyStands (w : WrittenTopology) : Type 0 where
    pub of_instances : Each MemberUseStands w.instances
    pub of_imports : Each ImportStands w.imports
    pub of_connections : Each ConnectionStands w.connections
    pub of_patterns : Each PatternStands w.patterns

  -- ---- in the tree

  abbrev Values : List Expr → Type 0
  Values es = Each (StandIn G) es

  value_places : (o : Option Expr) → Values (written o) → Each G (places_in_value o)
  value_places None h = tt
  value_places (Some e) h = h.0

  -- places and numbers of each part of a list
  of_each : {A : Type 0} (f : A → List Place) (g : A → List Expr) (xs : List A) → Each G (flat_map f xs) → Values (flat_map g xs) → Each (λ x. Each G (f x) × Values (g x)) xs
  of_each f g [] h k = tt
  of_each f g (x ∷ xs) h k = (
    (each_before G (f x) (flat_map f xs) h, each_before (StandIn G) (g x) (flat_map g xs) k),
    of_each f g xs (each_behind G (f x) (flat_map f xs) h) (each_behind (StandIn G) (g x) (flat_map g xs) k),
  )

  abbrev UsePlaced : InstanceUse → Type 0
  UsePlaced u = G u.of.at.first

  abbrev ImportPlaced : Import → Type 0
  ImportPlaced i = G i.at.first

  abbrev ConnectionPlaced : Connection → Type 0
  ConnectionPlaced c = Each G (places_in_connection c) × Values (connection_numbers c)

  abbrev TargetPlaced : Target → Type 0
  TargetPlaced t = G t.of.at.first

  abbrev PatternPlaced : PatternConnections → Type 0
  PatternPlaced p = Each G (places_in_topology_member (topology_member.Pattern p))

  abbrev MemberPlaced : TMember → Type 0
  MemberPlaced m = Each G (places_in_topology_member m) × Values (topology_member_numbers m)

  abbrev InstancePlaced : Scoped Instance → Type 0
  InstancePlaced i = G i.node.name.at.first × Values (instance_numbers i.node)

  abbrev TopologyPlaced : Scoped Topology → Type 0
  TopologyPlaced t = Each MemberPlaced t.node.members

  use_placed : (m : TMember) → MemberPlaced m → Each UsePlaced (uses_in m)
  use_placed (topology_member.Instance u) h = (h.0.1.0, tt)
  use_placed m h = tt

  import_placed : (m : TMember) → MemberPlaced m → Each ImportPlaced (imports_in m)
  import_placed (topology_member.Import i) h = (h.0.0, tt)
  import_placed m h = tt

  connection_placed : (m : TMember) → MemberPlaced m → Each ConnectionPlaced (connections_in m)
  connection_placed (topology_member.Connections g) h = of_each places_in_connection connection_numbers g.connections h.0 h.1
  connection_placed m h = tt

  pattern_placed : (m : TMember) → MemberPlaced m → Each PatternPlaced (patterns_in m)
  pattern_placed (topology_member.Pattern p) h = (h.0, tt)
  pattern_placed m h = tt

  targets_placed : (ts : List Target) → Each G (places_in_targets ts) → Each TargetPlaced ts
  targets_placed [] h = tt
  targets_placed (t ∷ ts) h = (h.0, targets_placed ts h.1)

  among : {A : Type 0} (P : A → Type 0) (found : TMember → List A) → ((m : TMember) → MemberPlaced m → Each P (found m)) → (ms : List TMember) → Each MemberPlaced ms → Each P (flat_map found ms)
  among P found one ms h = each_flat P found ms (each_weaker MemberPlaced (λ (m : TMember). Each P (found m)) one ms h)

  instance_placed : (i : Item) → StandOf G i → NumbersPlaced G i → Each InstancePlaced (instance_of i)
  instance_placed (item.Declared d) h n = of_model d.definition h n
    where
      of_model : (m : ModelDef) → StandOf G (item.Declared (declaration d.scope m)) → Values (numbers_of m) → Each InstancePlaced (instance_in d.scope m)
      of_model (instance x) k v = ((k.0, v), tt)
      of_model (topology x) k v = tt
      of_model (component x) k v = tt
      of_model (interface x) k v = tt
      of_model (machine x) k v = tt
  instance_placed i h n = tt

  topology_placed : (i : Item) → StandOf G i → NumbersPlaced G i → Each TopologyPlaced (topology_of i)
  topology_placed (item.Declared d) h n = of_model d.definition h n
    where
      of_model : (m : ModelDef) → StandOf G (item.Declared (declaration d.scope m)) → Values (numbers_of m) → Each TopologyPlaced (topology_in d.scope m)
      of_model (topology x) k v = (of_each places_in_topology_member topology_member_numbers x.members k.1 v, tt)
      of_model (instance x) k v = tt
      of_model (component x) k v = tt
      of_model (interface x) k v = tt
      of_model (machine x) k v = tt
  topology_placed i h n = tt

  -- ---- what is read of it

  module _ (source : Source) (scope : Path) where
    end_stands : (u : PortUse) (w : WrittenPortUse) → G u.at.first → Values (written u.number) → PortUseIs source scope u w → EndStands w
    end_stands u w h v is = record { of_used = subst G (sym is.used.at) h; of_number = given_stands G source scope u.number w.number (value_places u.number v) is.number }

    connection_stands : (c : Connection) (w : WrittenConnection) → ConnectionPlaced c → ConnectionIs source scope c w → ConnectionStands w
    connection_stands c w h is = record {
      here = subst G (sym is.at) h.0.0;
      of_from = end_stands c.from w.from h.0.1.0 (each_before (StandIn G) (written c.from.number) (written c.to.number) h.1) is.from;
      of_to = end_stands c.to w.to h.0.1.1.0 (each_behind (StandIn G) (written c.from.number) (written c.to.number) h.1) is.to;
    }

    targets_stand : (o : Option (List Target)) (w : Option (List UsedInstance)) → Each G (in_optional places_in_targets o) → BothOrNeither (TargetsAre source scope) o w → InOption (Each UsedStands) w
    targets_stand None None h is = tt
    targets_stand None (Some us) h is = absurd is
    targets_stand (Some ts) None h is = absurd is
    targets_stand (Some ts) (Some us) h is =
        each_read (TargetIs source scope) TargetPlaced UsedStands (λ t u k it. subst G (sym it.at) k) 0 ts us (targets_placed ts h) is

    pattern_stands : (p : PatternConnections) (w : WrittenPattern) → PatternPlaced p → PatternIs source scope p w → PatternStands w
    pattern_stands p w h is = record {
      here = subst G (sym is.at) h.0;
      of_one = subst G (sym is.of.at) h.1.0;
      of_targets = targets_stand p.targets w.targets h.1.1 is.targets;
    }

  topology_stands : (source : Source) (t : Scoped Topology) (w : WrittenTopology) → TopologyPlaced t → TopologyIs source t w → TopologyStands w
  topology_stands source t w h is =
      let members = t.node.members in
      record {
        of_instances = each_read (MemberInstanceIs source t.scope) UsePlaced MemberUseStands (λ u m k it. subst G (sym it.used.at) k) 0 (flat_map uses_in members) w.instances
            (among UsePlaced uses_in use_placed members h) is.instances;
        of_imports = each_read (ImportIs source t.scope) ImportPlaced ImportStands (λ i m k it. subst G (sym it.at) k) 0 (flat_map imports_in members) w.imports
            (among ImportPlaced imports_in import_placed members h) is.imports;
        of_connections = each_read (ConnectionIs source t.scope) ConnectionPlaced ConnectionStands (connection_stands source t.scope) 0 (flat_map connections_in members) w.connections
            (among ConnectionPlaced connections_in connection_placed members h) is.connections;
        of_patterns = each_read (PatternIs source t.scope) PatternPlaced PatternStands (pattern_stands source t.scope) 0 (flat_map patterns_in members) w.patterns
            (among PatternPlaced patterns_in pattern_placed members h) is.patterns;
      }

  instance_stands : (source : Source) (i : Scoped Instance) (w : WrittenInstance) → InstancePlaced i → InstanceIs source i w → InstanceStands w
  instance_stands source i w h is =
      let queue = written i.node.queue in
      let stack = written i.node.stack in
      let priority = written i.node.priority in
      let cpu = written i.node.cpu in
      let three = each_before (StandIn G) (queue ++ stack ++ priority) cpu h.1.1 in
      let two = each_before (StandIn G) (queue ++ stack) priority three in
      record {
        here = subst G (sym is.at) h.0;
        of_base = subst G (sym is.base.at) (first_of G i.node.base h.1.0);
        of_queue = given_stands G source i.scope i.node.queue w.queue (value_places i.node.queue (each_before (StandIn G) queue stack two)) is.queue;
        of_stack = given_stands G source i.scope i.node.stack w.stack (value_places i.node.stack (each_behind (StandIn G) queue stack two)) is.stack;
        of_priority = given_stands G source i.scope i.node.priority w.priority (value_places i.node.priority (each_behind (StandIn G) (queue ++ stack) priority three)) is.priority;
        of_cpu = given_stands G source i.scope i.node.cpu w.cpu (value_places i.node.cpu (each_behind (StandIn G) (queue ++ stack ++ priority) cpu h.1.1)) is.cpu;
      }

  -- ---- the whole source

  found_among : {A : Type 0} (P : A → Type 0) (found : Item → List A) → ((i : Item) → StandOf G i → NumbersPlaced G i → Each P (found i)) → (is : List Item)
      → Each (StandOf G) is → Each (NumbersPlaced G) is → Each (λ (i : Item). Each P (found i)) is
  found_among P found one [] h n = tt
  found_among P found one (i ∷ is) h n = (one i h.0 n.0, found_among P found one is h.1 n.1)

  module _ (source : Source) (all : Each (StandOf G) (items source)) (w : WrittenDeployment) (are : IsWrittenDeployment source w) where
    pub instances_stand : Each InstanceStands w.instances
    instances_stand =
        each_read (InstanceIs source) InstancePlaced InstanceStands (instance_stands source) 0 (instances source) w.instances
        (each_flat InstancePlaced instance_of (items source) (found_among InstancePlaced instance_of instance_placed (items source) all (all_numbers G source all))) are.instances

    pub topologies_stand : Each TopologyStands w.topologies
    topologies_stand =
        each_read (TopologyIs source) TopologyPlaced TopologyStands (topology_stands source) 0 (topologies source) w.topologies
        (each_flat TopologyPlaced topology_of (items source) (found_among TopologyPlaced topology_of topology_placed (items source) all (all_numbers G source all))) are.topologies
