-- The rules that topologies break. FPP Language Specification, "Topology Definitions", "Instance Specifiers", "Topology Import Specifiers",
-- "Connection Graph Specifiers".
use Rattle.std.specs.Prelude.{◌≡◌, ℕ, false, List, [], ◌∷◌, ◌++◌, map, flat_map, slice_get, Option, Some, None, option_and_then, unwrap_or}
use Rattle.fp_base.specs.Least.{BrokenAt, Either, InSome}
use Rattle.fp_base.specs.declared.refusal.Refusal.{Refusal}
use Rattle.fp_base.specs.declared.rule.Rule.TheVariants.{PatternPort, PortMissing}
use Rattle.fp_tree.specs.declared.topology.Pattern.{Pattern}
use Rattle.fp_tables.specs.declared.component.Component.{Component}
use Rattle.fp_tables.specs.declared.kind.PortDef.{PortDef}
use Rattle.fp_tables.specs.declared.topology.Instance.{Instance}
use Rattle.fp_written_parts.specs.declared.topology.MemberInstance.{MemberInstance}
use Rattle.fp_written_parts.specs.declared.topology.UsedInstance.{UsedInstance}
use Rattle.fp_written_parts.specs.declared.topology.WrittenConnection.{WrittenConnection}
use Rattle.fp_written_parts.specs.declared.topology.WrittenPattern.{WrittenPattern}
use Rattle.fp_written_parts.specs.declared.topology.WrittenTopology.{WrittenTopology}
use Rattle.fp_topologies.specs.ConnectionBroken.{BrokenByConnections}
use Rattle.fp_topologies.specs.MemberBroken.{Lacking, Repeated}
use Rattle.fp_topologies.specs.Held.{instances_with}
use Rattle.fp_topologies.specs.Imports.{AreClosures, ImportsBroken}
use Rattle.fp_topologies.specs.Patterns.{serves, suits}
use Rattle.fp_topologies.specs.Ports.{connection_facts}

-- ---- the instances that a topology names

abbrev pub own_uses : WrittenTopology → List UsedInstance
own_uses o = map (λ (m : MemberInstance). m.used) o.instances

abbrev pub ends_of : WrittenConnection → List UsedInstance
ends_of c = c.from.used ∷ c.to.used ∷ []

abbrev pub uses_of : WrittenPattern → List UsedInstance
uses_of p = p.of ∷ unwrap_or p.targets []

-- in connections and patterns
abbrev pub uses_in : WrittenTopology → List UsedInstance
uses_in o = flat_map ends_of o.connections ++ flat_map uses_of o.patterns

-- ---- the instances that a topology lacks

-- of one that leads to a cycle of imports nothing is said of what it lacks
abbrev pub Lacks : List WrittenTopology → Option (List ℕ) → WrittenTopology → Refusal → Type 0
Lacks ts None o f = ⊥
Lacks ts (Some closure) o f = Lacking (instances_with ts closure o) (uses_in o) f

module _ (ds : List PortDef) (cs : List Component) (is : List Instance) where
  -- ---- patterns

  abbrev pub TargetBroken : Pattern → ℕ → UsedInstance → Refusal → Type 0
  TargetBroken kind k u = BrokenAt PortMissing u.at (suits ds cs is kind u.instance ≡ false)

  abbrev pub PatternBroken : ℕ → WrittenPattern → Refusal → Type 0
  PatternBroken k p =
      Either (BrokenAt PatternPort p.at (serves ds cs is p.kind p.of.instance ≡ false)) (InSome (TargetBroken p.kind) (unwrap_or p.targets []))

  -- ---- topologies

  abbrev pub TopologyBroken : List WrittenTopology → List (Option (List ℕ)) → ℕ → WrittenTopology → Refusal → Type 0
  TopologyBroken ts closures t o =
      Either (Either (Repeated (own_uses o)) (Lacks ts (option_and_then (λ (c : Option (List ℕ)). c) (slice_get closures t)) o))
      (Either (BrokenByConnections (map (connection_facts cs is) o.connections)) (InSome PatternBroken o.patterns))

  -- there is one list of what topologies import
  pub record TopologiesBroken (ts : List WrittenTopology) (f : Refusal) : Type 0 where
    pub closures : List (Option (List ℕ))
    pub closed : AreClosures ts closures
    pub broken : Either (ImportsBroken ts) (InSome (TopologyBroken ts closures) ts) f
