-- What is written of the instances and topologies of a source is one thing.
use Rattle.std.proofs.Common.{◌≡◌, ℕ, List, Option, Some, None, flat_map, refl, sym, ap, ◌∙◌}
use Rattle.std.specs.Prelude.{ℤ}
use Rattle.fp_tree.specs.declared.source.Source.{Source}
use Rattle.fp_tree.specs.declared.name.Qual.{Qual}
use Rattle.fp_tree.specs.declared.expression.Expr.{Expr}
use Rattle.fp_tree.specs.declared.component.Import.{Import}
use Rattle.fp_tree.specs.declared.instance.Instance.{Instance}
use Rattle.fp_tree.specs.declared.topology.Connection.{Connection}
use Rattle.fp_tree.specs.declared.topology.InstanceUse.{InstanceUse}
use Rattle.fp_tree.specs.declared.topology.PatternConnections.{PatternConnections}
use Rattle.fp_tree.specs.declared.topology.PortUse.{PortUse}
use Rattle.fp_tree.specs.declared.topology.Target.{Target}
use Rattle.fp_tree.specs.declared.topology.Topology.{Topology}
use Rattle.fp_meaning.specs.declared.group.Group.{Group}
use Rattle.fp_meaning.specs.Names.{Path, definitions}
use Rattle.fp_meaning.specs.Values.{names_of}
use Rattle.fp_meaning.proofs.Meanings.{one_meaning}
use Rattle.fp_type_forms.specs.Written.{NumberIs}
use Rattle.fp_type_forms.proofs.OneForm.{one_number, same_answer}
use Rattle.fp_type_forms.proofs.Only.{all_one}
use Rattle.fp_written_parts.specs.declared.port.Given.{Given}
use Rattle.fp_component_forms.specs.Written.{BothOrNeither, GivenIs, PositionIs, Scoped, before}
use Rattle.fp_written_parts.specs.declared.instance.WrittenInstance.{WrittenInstance}
use Rattle.fp_written_parts.specs.declared.topology.ImportedTopology.{ImportedTopology}
use Rattle.fp_written_parts.specs.declared.topology.MemberInstance.{MemberInstance}
use Rattle.fp_written_parts.specs.declared.topology.UsedInstance.{UsedInstance}
use Rattle.fp_written_parts.specs.declared.topology.WrittenConnection.{WrittenConnection}
use Rattle.fp_written_parts.specs.declared.topology.WrittenDeployment.{WrittenDeployment}
use Rattle.fp_written_parts.specs.declared.topology.WrittenPattern.{WrittenPattern}
use Rattle.fp_written_parts.specs.declared.topology.WrittenPortUse.{WrittenPortUse}
use Rattle.fp_written_parts.specs.declared.topology.WrittenTopology.{WrittenTopology}
use Rattle.fp_topology_forms.specs.Written.{ConnectionIs, ImportIs, InstanceIs, IsWrittenDeployment, MemberInstanceIs, PatternIs, PortUseIs, TargetIs, TargetsAre, TopologyIs, UsedIs, connections_in, imports_in, instance_part, instances, patterns_in, topologies, uses_in}

-- both there and one, or neither there
pub one_of_both : {A B : Type 0} (R : A → B → Type 0) → ((x : A) (y z : B) → R x y → R x z → y ≡ z) → (o : Option A) (p q : Option B) → BothOrNeither R o p → BothOrNeither R o q → p ≡ q
one_of_both R one None None None h g = refl
one_of_both R one None None (Some z) h g = absurd g
one_of_both R one None (Some y) q h g = absurd h
one_of_both R one (Some x) None q h g = absurd h
one_of_both R one (Some x) (Some y) None h g = absurd g
one_of_both R one (Some x) (Some y) (Some z) h g = ap (λ w. Some w) (one x y z h g)

pub same_given : {m n : Option ℤ} {a b : _} → m ≡ n → a ≡ b → ◌≡◌ {A = Given} (record { number = m; at = a }) (record { number = n; at = b })
same_given e f = cc

module _ (source : Source) (scope : Path) where
  pub one_given : (e : Expr) (g h : Given) → GivenIs source scope e g → GivenIs source scope e h → g ≡ h
  one_given e g h k l =
      same_given (same_answer (NumberIs source scope e) g.number h.number (one_number source scope e) k.number l.number) (k.at ∙ sym l.at)

  pub one_optional : (e : Option Expr) (g h : Option Given) → BothOrNeither (GivenIs source scope) e g → BothOrNeither (GivenIs source scope) e h → g ≡ h
  one_optional e g h k l = one_of_both (GivenIs source scope) one_given e g h k l

  pub one_place : (g : Group) (q : Qual) (j k : ℕ) → PositionIs source scope g q j → PositionIs source scope g q k → j ≡ k
  one_place g q j k h l =
      h.2 ∙ ap (λ (n : ℕ). before g (definitions source) n) (one_meaning (definitions source) scope (names_of q) g h.0 l.0 h.1 l.1) ∙ sym l.2

  one_used : (q : Qual) (v w : UsedInstance) → UsedIs source scope q v → UsedIs source scope q w → v ≡ w
  one_used q v w h g = same (h.at ∙ sym g.at) (one_place _ q v.instance w.instance h.instance g.instance)
    where
      same : v.at ≡ w.at → v.instance ≡ w.instance → v ≡ w
      same a b =
          let whole : v ≡ record { at = v.at; instance = v.instance } = refl in
          let other : w ≡ record { at = w.at; instance = w.instance } = refl in
          cc

  -- ---- members of a topology

  one_member : (u : InstanceUse) (v w : MemberInstance) → MemberInstanceIs source scope u v → MemberInstanceIs source scope u w → v ≡ w
  one_member u v w h g = same (h.private ∙ sym g.private) (one_used u.of v.used w.used h.used g.used)
    where
      same : v.private ≡ w.private → v.used ≡ w.used → v ≡ w
      same a b =
          let whole : v ≡ record { private = v.private; used = v.used } = refl in
          let other : w ≡ record { private = w.private; used = w.used } = refl in
          cc

  one_import : (i : Import) (v w : ImportedTopology) → ImportIs source scope i v → ImportIs source scope i w → v ≡ w
  one_import i v w h g = same (h.at ∙ sym g.at) (one_place _ i.of v.topology w.topology h.topology g.topology)
    where
      same : v.at ≡ w.at → v.topology ≡ w.topology → v ≡ w
      same a b =
          let whole : v ≡ record { at = v.at; topology = v.topology } = refl in
          let other : w ≡ record { at = w.at; topology = w.topology } = refl in
          cc

  one_port_use : (u : PortUse) (v w : WrittenPortUse) → PortUseIs source scope u v → PortUseIs source scope u w → v ≡ w
  one_port_use u v w h g = same (one_used (instance_part u) v.used w.used h.used g.used) (h.port ∙ sym g.port) (one_optional u.number v.number w.number h.number g.number)
    where
      same : v.used ≡ w.used → v.port ≡ w.port → v.number ≡ w.number → v ≡ w
      same a b c =
          let whole : v ≡ record { used = v.used; port = v.port; number = v.number } = refl in
          let other : w ≡ record { used = w.used; port = w.port; number = w.number } = refl in
          cc

  one_connection : (c : Connection) (v w : WrittenConnection) → ConnectionIs source scope c v → ConnectionIs source scope c w → v ≡ w
  one_connection c v w h g =
      same (h.at ∙ sym g.at) (h.unmatched ∙ sym g.unmatched) (one_port_use c.from v.from w.from h.from g.from) (one_port_use c.to v.to w.to h.to g.to)
    where
      same : v.at ≡ w.at → v.unmatched ≡ w.unmatched → v.from ≡ w.from → v.to ≡ w.to → v ≡ w
      same a b c d =
          let whole : v ≡ record { at = v.at; unmatched = v.unmatched; from = v.from; to = v.to } = refl in
          let other : w ≡ record { at = w.at; unmatched = w.unmatched; from = w.from; to = w.to } = refl in
          cc

  one_targets : (ts : List Target) (vs ws : List UsedInstance) → TargetsAre source scope ts vs → TargetsAre source scope ts ws → vs ≡ ws
  one_targets ts vs ws h g = all_one (λ position. TargetIs source scope) (λ position t. one_used t.of) 0 ts vs ws h g

  one_pattern : (p : PatternConnections) (v w : WrittenPattern) → PatternIs source scope p v → PatternIs source scope p w → v ≡ w
  one_pattern p v w h g =
      same (h.at ∙ sym g.at) (h.kind ∙ sym g.kind) (one_used p.of v.of w.of h.of g.of) (one_of_both (TargetsAre source scope) one_targets p.targets v.targets w.targets h.targets g.targets)
    where
      same : v.at ≡ w.at → v.kind ≡ w.kind → v.of ≡ w.of → v.targets ≡ w.targets → v ≡ w
      same a b c d =
          let whole : v ≡ record { at = v.at; kind = v.kind; of = v.of; targets = v.targets } = refl in
          let other : w ≡ record { at = w.at; kind = w.kind; of = w.of; targets = w.targets } = refl in
          cc

-- ---- definitions

module _ (source : Source) where
  one_instance : (i : Scoped Instance) (v w : WrittenInstance) → InstanceIs source i v → InstanceIs source i w → v ≡ w
  one_instance i v w h g =
      same (h.name ∙ sym g.name) (h.at ∙ sym g.at) (one_place source i.scope _ i.node.of v.component w.component h.component g.component) (one_given source i.scope i.node.base v.base w.base h.base g.base)
      (one_optional source i.scope i.node.queue v.queue w.queue h.queue g.queue) (one_optional source i.scope i.node.stack v.stack w.stack h.stack g.stack)
      (one_optional source i.scope i.node.priority v.priority w.priority h.priority g.priority) (one_optional source i.scope i.node.cpu v.cpu w.cpu h.cpu g.cpu)
    where
      same : v.name ≡ w.name → v.at ≡ w.at → v.component ≡ w.component → v.base ≡ w.base → v.queue ≡ w.queue → v.stack ≡ w.stack → v.priority ≡ w.priority → v.cpu ≡ w.cpu → v ≡ w
      same a b c d e f p q =
          let whole : v ≡ record { name = v.name; at = v.at; component = v.component; base = v.base; queue = v.queue; stack = v.stack; priority = v.priority; cpu = v.cpu } = refl in
          let other : w ≡ record { name = w.name; at = w.at; component = w.component; base = w.base; queue = w.queue; stack = w.stack; priority = w.priority; cpu = w.cpu } = refl in
          cc

  one_topology : (t : Scoped Topology) (v w : WrittenTopology) → TopologyIs source t v → TopologyIs source t w → v ≡ w
  one_topology t v w h g =
      same (h.name ∙ sym g.name)
      (all_one (λ position. MemberInstanceIs source t.scope) (λ position. one_member source t.scope) 0 (flat_map uses_in t.node.members) v.instances w.instances h.instances g.instances)
      (all_one (λ position. ImportIs source t.scope) (λ position. one_import source t.scope) 0 (flat_map imports_in t.node.members) v.imports w.imports h.imports g.imports)
      (all_one (λ position. ConnectionIs source t.scope) (λ position. one_connection source t.scope) 0 (flat_map connections_in t.node.members) v.connections w.connections h.connections g.connections)
      (all_one (λ position. PatternIs source t.scope) (λ position. one_pattern source t.scope) 0 (flat_map patterns_in t.node.members) v.patterns w.patterns h.patterns g.patterns)
    where
      same : v.name ≡ w.name → v.instances ≡ w.instances → v.imports ≡ w.imports → v.connections ≡ w.connections → v.patterns ≡ w.patterns → v ≡ w
      same a b c d e =
          let whole : v ≡ record { name = v.name; instances = v.instances; imports = v.imports; connections = v.connections; patterns = v.patterns } = refl in
          let other : w ≡ record { name = w.name; instances = w.instances; imports = w.imports; connections = w.connections; patterns = w.patterns } = refl in
          cc

  pub one_written : (v w : WrittenDeployment) → IsWrittenDeployment source v → IsWrittenDeployment source w → v ≡ w
  one_written v w h g =
      same (all_one (λ position. InstanceIs source) (λ position. one_instance) 0 (instances source) v.instances w.instances h.instances g.instances)
      (all_one (λ position. TopologyIs source) (λ position. one_topology) 0 (topologies source) v.topologies w.topologies h.topologies g.topologies)
    where
      same : v.instances ≡ w.instances → v.topologies ≡ w.topologies → v ≡ w
      same a b =
          let whole : v ≡ record { instances = v.instances; topologies = v.topologies } = refl in
          let other : w ≡ record { instances = w.instances; topologies = w.topologies } = refl in
          cc
