-- What topologies break is broken at the instances that they name, and at their imports, connections and patterns.
use Rattle.std.proofs.Common.{ℕ, Bool, List, [], map, flat_map, Option, Some, None, inl, inr}
use Rattle.std.specs.Prelude.{option_and_then, slice_get, unwrap_or}
use Rattle.std.specs.List.{AllByRecursion as Each}
use Rattle.fp_base.specs.declared.place.Place.{Place}
use Rattle.fp_base.specs.declared.refusal.Refusal.{Refusal}
use Rattle.fp_base.specs.Least.{Either, InSome}
use Rattle.fp_base.proofs.Lists.{InOption, each_append, each_flat, each_mapped, each_weaker, of_item}
use Rattle.fp_tables.specs.Lookup.{is_input, is_output}
use Rattle.fp_tables.specs.declared.component.Component.{Component}
use Rattle.fp_tables.specs.declared.component.Role.{Role}
use Rattle.fp_tables.specs.declared.kind.PortDef.{PortDef}
use Rattle.fp_tables.specs.declared.topology.Instance.{Instance}
use Rattle.fp_written_parts.specs.declared.topology.MemberInstance.{MemberInstance}
use Rattle.fp_written_parts.specs.declared.topology.UsedInstance.{UsedInstance}
use Rattle.fp_written_parts.specs.declared.topology.WrittenConnection.{WrittenConnection}
use Rattle.fp_written_parts.specs.declared.topology.WrittenPattern.{WrittenPattern}
use Rattle.fp_written_parts.specs.declared.topology.WrittenTopology.{WrittenTopology}
use Rattle.fp_topologies.specs.declared.facts.ConnectionFacts.{ConnectionFacts}
use Rattle.fp_topologies.specs.declared.facts.EndFacts.{EndFacts}
use Rattle.fp_topologies.specs.ConnectionBroken.{BrokenByConnections, BrokenConnection, BrokenEnd}
use Rattle.fp_topologies.specs.MemberBroken.{Lacking, Repeated}
use Rattle.fp_topologies.specs.Imports.{ImportsBroken}
use Rattle.fp_topologies.specs.Ports.{connection_facts}
use Rattle.fp_topologies.specs.Broken.{Lacks, PatternBroken, TopologiesBroken, TopologyBroken, ends_of, own_uses, uses_in, uses_of}
use Rattle.fp_source_laws.proofs.Parted.{same_place}
use Rattle.fp_source_laws.proofs.WrittenDeployment.{ConnectionStands, ImportStands, PatternStands, TopologyStands, UsedStands}

module _ (G : Place → Type 0) where
  -- ---- instances that a topology names

  own_stand : (o : WrittenTopology) → TopologyStands G o → Each (UsedStands G) (own_uses o)
  own_stand o h = each_mapped (UsedStands G) (λ (m : MemberInstance). m.used) o.instances h.of_instances

  listed_stand : (o : Option (List UsedInstance)) → InOption (Each (UsedStands G)) o → Each (UsedStands G) (unwrap_or o [])
  listed_stand None h = tt
  listed_stand (Some us) h = h

  uses_stand : (o : WrittenTopology) → TopologyStands G o → Each (UsedStands G) (uses_in o)
  uses_stand o h =
      each_append (UsedStands G) (flat_map ends_of o.connections) (flat_map uses_of o.patterns)
      (each_flat (UsedStands G) ends_of o.connections
      (each_weaker (ConnectionStands G) (λ (c : WrittenConnection). Each (UsedStands G) (ends_of c)) (λ c k. (k.of_from.of_used, (k.of_to.of_used, tt))) o.connections h.of_connections))
      (each_flat (UsedStands G) uses_of o.patterns
      (each_weaker (PatternStands G) (λ (p : WrittenPattern). Each (UsedStands G) (uses_of p)) (λ p k. (k.of_one, listed_stand p.targets k.of_targets)) o.patterns h.of_patterns))

  repeated_placed : (us : List UsedInstance) (f : Refusal) → Each (UsedStands G) us → Repeated us f → G f.place
  repeated_placed us f h (k, u, at, b) = same_place G f _ b.0 (of_item (UsedStands G) us k u h at)

  lacking_placed : (held : List ℕ) (us : List UsedInstance) (f : Refusal) → Each (UsedStands G) us → Lacking held us f → G f.place
  lacking_placed held us f h (k, u, at, b) = same_place G f _ b.0 (of_item (UsedStands G) us k u h at)

  lacks_placed : (ts : List WrittenTopology) (closure : Option (List ℕ)) (o : WrittenTopology) (f : Refusal) → TopologyStands G o → Lacks ts closure o f → G f.place
  lacks_placed ts None o f h b = absurd b
  lacks_placed ts (Some closure) o f h b = lacking_placed _ (uses_in o) f (uses_stand o h) b

  -- ---- imports

  imports_placed : (ts : List WrittenTopology) (f : Refusal) → Each (TopologyStands G) ts → ImportsBroken ts f → G f.place
  imports_placed ts f h b =
      let importer = of_item (TopologyStands G) ts b.importer b.written h b.here in
      same_place G f _ b.is (of_item (ImportStands G) b.written.imports b.k b.import_ importer.of_imports b.member)

  -- ---- connections

  record FactsStand (c : ConnectionFacts) : Type 0 where
    pub here : G c.at
    pub of_from : G c.from.at
    pub of_to : G c.to.at

  end_placed : (wanted : Role → Bool) (e : EndFacts) (f : Refusal) → G e.at → BrokenEnd wanted e f → G f.place
  end_placed wanted e f h (inl b) = same_place G f _ b.0 h
  end_placed wanted e f h (inr b) = same_place G f _ b.0 h

  connection_placed : (c : ConnectionFacts) (f : Refusal) → FactsStand c → BrokenConnection c f → G f.place
  connection_placed c f h (inl b) = same_place G f _ b.0 h.here
  connection_placed c f h (inr (inl b)) = end_placed is_output c.from f h.of_from b
  connection_placed c f h (inr (inr b)) = end_placed is_input c.to f h.of_to b

  module _ (ds : List PortDef) (cs : List Component) (is : List Instance) where
    facts_stand : (os : List WrittenConnection) → Each (ConnectionStands G) os → Each FactsStand (map (connection_facts cs is) os)
    facts_stand os h =
        each_mapped FactsStand (connection_facts cs is) os
        (each_weaker (ConnectionStands G) (λ (c : WrittenConnection). FactsStand (connection_facts cs is c))
        (λ c k. record { here = k.here; of_from = k.of_from.of_used; of_to = k.of_to.of_used }) os h)

    connections_placed : (os : List WrittenConnection) (f : Refusal) → Each (ConnectionStands G) os → BrokenByConnections (map (connection_facts cs is) os) f → G f.place
    connections_placed os f h (k, c, at, b) = connection_placed c f (of_item FactsStand (map (connection_facts cs is) os) k c (facts_stand os h) at) b

    -- ---- patterns

    pattern_placed : (k : ℕ) (p : WrittenPattern) (f : Refusal) → PatternStands G p → PatternBroken ds cs is k p f → G f.place
    pattern_placed k p f h (inl b) = same_place G f _ b.0 h.here
    pattern_placed k p f h (inr (n, u, at, b)) = same_place G f _ b.0 (of_item (UsedStands G) (unwrap_or p.targets []) n u (listed_stand p.targets h.of_targets) at)

    -- ---- topologies

    topology_placed : (ts : List WrittenTopology) (closures : List (Option (List ℕ))) (t : ℕ) (o : WrittenTopology) (f : Refusal) → TopologyStands G o
        → TopologyBroken ds cs is ts closures t o f → G f.place
    topology_placed ts closures t o f h (inl (inl b)) = repeated_placed (own_uses o) f (own_stand o h) b
    topology_placed ts closures t o f h (inl (inr b)) = lacks_placed ts (option_and_then (λ (c : Option (List ℕ)). c) (slice_get closures t)) o f h b
    topology_placed ts closures t o f h (inr (inl b)) = connections_placed o.connections f h.of_connections b
    topology_placed ts closures t o f h (inr (inr (k, p, at, b))) = pattern_placed k p f (of_item (PatternStands G) o.patterns k p h.of_patterns at) b

    pub topologies_placed : (ts : List WrittenTopology) (f : Refusal) → Each (TopologyStands G) ts → TopologiesBroken ds cs is ts f → G f.place
    topologies_placed ts f h b = go b.broken
      where
        go : Either (ImportsBroken ts) (InSome (TopologyBroken ds cs is ts b.closures) ts) f → G f.place
        go (inl i) = imports_placed ts f h i
        go (inr (t, o, at, x)) = topology_placed ts b.closures t o f (of_item (TopologyStands G) ts t o h at) x
