-- What a law says of the pieces of a file it says of the items and the names of instances of components and of topologies.
use Rattle.std.proofs.Common.{ℕ, List, [], flat_map, Option, Some, None, refl}
use Rattle.std.specs.List.{AllByRecursion as Each}
use Rattle.fp_base.specs.declared.place.Span.{Span}
use Rattle.fp_lexer.specs.Words.{mark}
use Rattle.fp_tree.specs.declared.name.Name.{Name}
use Rattle.fp_tree.specs.declared.name.Qual.{Qual}
use Rattle.fp_tree.specs.declared.name.Str.{Str}
use Rattle.fp_tree.specs.declared.expression.Expr.{Expr}
use Rattle.fp_tree.specs.declared.instance.Instance.{Instance}
use Rattle.fp_tree.specs.declared.instance.Phase.{Phase}
use Rattle.fp_tree.specs.declared.topology.PortUse.{PortUse}
use Rattle.fp_tree.specs.declared.topology.Connection.{Connection}
use Rattle.fp_tree.specs.declared.topology.Pattern.{Pattern}
use Rattle.fp_tree.specs.declared.topology.Target.{Target}
use Rattle.fp_tree.specs.declared.topology.TMember.{TMember}
use Rattle.fp_tree.specs.declared.topology.TMember.TheVariants as node
use Rattle.fp_tree.specs.declared.topology.Topology.{Topology}
use Rattle.fp_grammar.specs.Grammar.{after}
use Rattle.fp_grammar.specs.Grammar.Grammar.{optional}
use Rattle.fp_parse_pieces.specs.Kinds.{k_open_brace, k_open_bracket}
use Rattle.fp_parse_defs.specs.Language.{expression}
use Rattle.fp_parse_defs.specs.Definitions.{k_arrow, k_colon, k_size}
use Rattle.fp_parse_defs.specs.Specifiers.{made_import, imported}
use Rattle.fp_parse_topologies.specs.Instances.{k_base, k_cpu, k_id, k_instance, k_priority, k_queue, k_stack, made_phase, phase_with_note, phases, phases_part, phases_behind, Settings, settings, made_instance, component_instance}
use Rattle.fp_parse_topologies.specs.Connections.{k_connections, made_port_use, port_use, made_connection, connection, connection_with_note, made_connections, connections, made_target, target_with_note, targets, made_pattern, pattern_connections}
use Rattle.fp_parse_topologies.specs.Topologies.{made_instance_use, instance_use, member, member_with_note, members, made_topology, topology}
use Rattle.fp_meaning.specs.declared.group.Group.TheVariants.{Component as ComponentGroup, Instance as InstanceGroup, Topology as TopologyGroup}
use Rattle.fp_meaning.specs.Sites.{instance as instance_def, topology as topology_def}
use Rattle.fp_meaning.specs.Layout.{port_use_items, connection_items, target_items, targets_items, topology_member_items, topology_items, instance_items}
use Rattle.fp_base.proofs.Lists.{InOption, each_append}
use Rattle.fp_places.specs.Parts.{names_in_expression}
use Rattle.fp_places.specs.Sites.{in_topology}
use Rattle.fp_places.specs.Topologies.{names_in_phase, names_in_instance, names_in_port_use, names_in_connection, names_in_targets, names_in_topology_member, names_in_topology}
use Rattle.fp_places.proofs.Preserving.{gives_anything, gives_both, gives_less, gives_map, gives_seq, gives_alt, gives_optional, gives_after}
use Rattle.fp_places.proofs.Lists.{gives_any_noted, list_named}
use Rattle.fp_places.proofs.Held.{held_names, held_both, held_named, held_before, held_list}
use Rattle.fp_places.proofs.Known.{Known, Yields, Says, ValueSaid, MaybeSaid, declares, uses, maybe_given, value_given}

module _ {depth : ℕ} (law : Known depth) where
  import_used : (p : Span × Qual) → Unit {0} × law.Using p.1 → law.Using (made_import p).of
  import_used (word, of) h = h.1

  pub import_yields : Yields law imported (λ i. law.Using i.of)
  import_yields = gives_map (λ i. law.Using i.of) made_import import_used (gives_seq gives_anything law.using_given)

  -- ---- instances

  abbrev PhaseNamed : Phase → Type 0
  PhaseNamed p = Each law.OfName (names_in_phase p)

  phase_named : (p : Span × (Expr × Str)) → Unit {0} × (ValueSaid law p.1.0 × Unit {0}) → PhaseNamed (made_phase p)
  phase_named (word, (e, code)) h = h.1.0.names

  phases_yield : Yields law (phases depth) (Each PhaseNamed)
  phases_yield = gives_any_noted PhaseNamed (mark ";") phase_with_note (λ p note h. h)
      (gives_map PhaseNamed made_phase phase_named (gives_seq gives_anything (gives_seq law.expressions_given gives_anything)))

  phases_part_yields : Yields law (phases_part depth) (InOption (λ (p : List Phase × Span). Each PhaseNamed p.0 × Unit {0}))
  phases_part_yields = gives_optional (gives_after k_open_brace (gives_seq phases_yield gives_anything))

  phases_named : (end : Span) (o : Option (List Phase × Span)) → InOption (λ (p : List Phase × Span). Each PhaseNamed p.0 × Unit {0}) o → Each law.OfName (flat_map names_in_phase (phases_behind end o).0)
  phases_named end None h = tt
  phases_named end (Some (ps, closing)) h = list_named law.OfName names_in_phase ps h.0

  sized_yields : (k : ℕ) → Yields law (optional (after k (after k_size (expression depth)))) (MaybeSaid law)
  sized_yields k = maybe_given law (gives_after k (gives_after k_size law.expressions_given))

  -- of what may be absent
  abbrev SettingsSaid : Settings → Type 0
  SettingsSaid s = Unit {0} × ((MaybeSaid law s.1.0.0 × MaybeSaid law s.1.0.1) × ((MaybeSaid law s.1.1.0.0 × MaybeSaid law s.1.1.0.1) × InOption (λ (p : List Phase × Span). Each PhaseNamed p.0 × Unit {0}) s.1.1.1))

  settings_yield : Yields law (settings depth) SettingsSaid
  settings_yield = gives_seq gives_anything (gives_seq (gives_seq (sized_yields k_queue) (sized_yields k_stack)) (gives_seq (gives_seq (value_given law k_priority) (value_given law k_cpu)) phases_part_yields))

  -- in any annotation
  abbrev pub InstanceSaid : Instance → Type 0
  InstanceSaid i = (note : List ℕ) → Says law (λ scope. instance_items scope (record i { note = note })) (names_in_instance (record i { note = note }))

  -- where what belongs to it is known
  abbrev SaidWhereKnown : Instance → Type 0
  SaidWhereKnown i = (note : List ℕ) → law.OfInstance (record i { note = note }) → Says law (λ scope. instance_items scope (record i { note = note })) (names_in_instance (record i { note = note }))

  instance_said : (p : Span × (Name × (Qual × (Expr × Settings)))) → Unit {0} × (law.Naming p.1.0 × (law.Using p.1.1.0 × (ValueSaid law p.1.1.1.0 × SettingsSaid p.1.1.1.1))) → SaidWhereKnown (made_instance p)
  instance_said (word, (n, (of, (base, ((kind, file), ((queue, stack), ((priority, cpu), found))))))) h note known =
      let i : Instance = made_instance (word, (n, (of, (base, ((kind, file), ((queue, stack), ((priority, cpu), found))))))) in
      let s = h.1.1.1.1 in
      declares law (instance_def (record i { note = note })) h.1.0 known
      (held_before (flat_map names_in_phase i.phases) (held_both (held_both (held_both (held_both (held_both (uses law ComponentGroup of h.1.1.0) h.1.1.1.0) s.1.0.0) s.1.0.1) s.1.1.0.0) s.1.1.0.1) (phases_named _ found s.1.1.1))

  known_said : (i : Instance) → SaidWhereKnown i × ((note : List ℕ) → law.OfInstance (record i { note = note })) → InstanceSaid i
  known_said i h note = h.0 note (h.1 note)

  pub instance_yields : Yields law (component_instance depth) InstanceSaid
  instance_yields = gives_less InstanceSaid known_said (gives_both (gives_map SaidWhereKnown made_instance instance_said
      (gives_seq gives_anything (gives_seq law.naming_given (gives_after k_colon (gives_seq law.using_given
      (gives_after k_base (gives_after k_id (gives_seq law.expressions_given settings_yield))))))))
      law.instances_given)

  -- ---- connections

  abbrev UseSaid : PortUse → Type 0
  UseSaid u = Says law (λ scope. port_use_items scope u) (names_in_port_use u)

  use_said : (p : Qual × Option (Expr × Span)) → law.Using p.0 × InOption (λ (q : Expr × Span). ValueSaid law q.0 × Unit {0}) p.1 → UseSaid (made_port_use p)
  use_said (of, None) h = record { items = λ scope. (law.port_used scope (made_port_use (of, None)) refl h.0, tt); names = each_append law.OfName of.names [] (law.all_named of h.0) tt }
  use_said (of, Some (number, closing)) h = record {
    items = λ scope. (law.port_used scope (made_port_use (of, Some (number, closing))) refl h.0, h.1.0.items scope);
    names = each_append law.OfName of.names (names_in_expression number) (law.all_named of h.0) h.1.0.names;
  }

  use_yields : Yields law (port_use depth) UseSaid
  use_yields = gives_map UseSaid made_port_use use_said (gives_seq law.using_given (gives_optional (gives_after k_open_bracket (gives_seq law.expressions_given gives_anything))))

  abbrev ConnectionSaid : Connection → Type 0
  ConnectionSaid c = Says law (λ scope. connection_items scope c) (names_in_connection c)

  connection_said : (p : Option Span × (PortUse × PortUse)) → Unit {0} × (UseSaid p.1.0 × UseSaid p.1.1) → ConnectionSaid (made_connection p)
  connection_said (None, (from, to)) h = held_both h.1.0 h.1.1
  connection_said (Some unmatched, (from, to)) h = held_both h.1.0 h.1.1

  connection_yields : Yields law (connection depth) ConnectionSaid
  connection_yields = gives_map ConnectionSaid made_connection connection_said (gives_seq gives_anything (gives_seq use_yields (gives_after k_arrow use_yields)))

  -- ---- topologies

  abbrev MemberSaid : TMember → Type 0
  MemberSaid m = Says law (λ scope. topology_member_items scope m) (names_in_topology_member m)

  connections_said : (p : Span × (Name × (List Connection × Span))) → Unit {0} × (law.Naming p.1.0 × (Each ConnectionSaid p.1.1.0 × Unit {0})) → MemberSaid (node.Connections (made_connections p))
  connections_said (word, (n, (found, closing))) h = held_named (law.named n h.1.0) (held_list connection_items names_in_connection found h.1.1.0)

  connections_yield : Yields law (connections depth) (λ c. MemberSaid (node.Connections c))
  connections_yield = gives_map (λ c. MemberSaid (node.Connections c)) made_connections connections_said
      (gives_seq gives_anything (gives_seq law.naming_given (gives_after k_open_brace
      (gives_seq (gives_any_noted ConnectionSaid (mark ",") connection_with_note (λ c note h. h) connection_yields) gives_anything))))

  abbrev TargetSaid : Target → Type 0
  TargetSaid t = Says law (λ scope. target_items scope t) t.of.names

  targets_yield : Yields law targets (Each TargetSaid)
  targets_yield = gives_any_noted TargetSaid (mark ",") target_with_note (λ t note h. h) (gives_map TargetSaid made_target (λ q h. uses law InstanceGroup q h) law.using_given)

  targets_said : (ts : List Target) → Each TargetSaid ts → Says law (λ scope. targets_items scope ts) (names_in_targets ts)
  targets_said ts h = held_list target_items (λ (t : Target). t.of.names) ts h

  pattern_said : (p : (Pattern × Span) × (Qual × Option (List Target × Span))) → Unit {0} × (law.Using p.1.0 × InOption (λ (q : List Target × Span). Each TargetSaid q.0 × Unit {0}) p.1.1) → MemberSaid (node.Pattern (made_pattern p))
  pattern_said ((kind, first), (of, None)) h = held_both (uses law InstanceGroup of h.1.0) (held_names tt)
  pattern_said ((kind, first), (of, Some (found, closing))) h = held_both (uses law InstanceGroup of h.1.0) (targets_said found h.1.1.0)

  pattern_yields : Yields law pattern_connections (λ p. MemberSaid (node.Pattern p))
  pattern_yields = gives_map (λ p. MemberSaid (node.Pattern p)) made_pattern pattern_said
      (gives_seq gives_anything (gives_after k_connections (gives_after k_instance
      (gives_seq law.using_given (gives_optional (gives_after k_open_brace (gives_seq targets_yield gives_anything)))))))

  instance_use_said : (p : Option Span × (Span × Qual)) → Unit {0} × (Unit {0} × law.Using p.1.1) → MemberSaid (node.Instance (made_instance_use p))
  instance_use_said (None, (word, of)) h = uses law InstanceGroup of h.1.1
  instance_use_said (Some first, (word, of)) h = uses law InstanceGroup of h.1.1

  instance_use_yields : Yields law instance_use (λ i. MemberSaid (node.Instance i))
  instance_use_yields = gives_map (λ i. MemberSaid (node.Instance i)) made_instance_use instance_use_said (gives_seq gives_anything (gives_seq gives_anything law.using_given))

  member_yields : Yields law (member depth) MemberSaid
  member_yields =
      gives_alt (gives_map MemberSaid node.Instance (λ i h. h) instance_use_yields) (gives_alt
      (gives_map MemberSaid node.Import (λ i h. uses law TopologyGroup i.of h) import_yields)
      (gives_alt (gives_map MemberSaid node.Include (λ i h. held_names tt) gives_anything) (gives_alt
      (gives_map MemberSaid node.Connections (λ c h. h) connections_yield) (gives_map MemberSaid node.Pattern (λ p h. h) pattern_yields))))

  kept : (m : TMember) (note : List ℕ) → MemberSaid m → MemberSaid (member_with_note m note)
  kept (node.Instance m) note h = h
  kept (node.Import m) note h = h
  kept (node.Include m) note h = h
  kept (node.Connections m) note h = h
  kept (node.Pattern m) note h = h

  members_yield : Yields law (members depth) (Each MemberSaid)
  members_yield = gives_any_noted MemberSaid (mark ";") member_with_note kept member_yields

  -- what is said of members, in the scope of their topology
  abbrev pub MembersGiven : List TMember → Type 0
  MembersGiven ts = Says law (λ scope. in_topology scope ts) (flat_map names_in_topology_member ts)

  members_held : (ts : List TMember) → Each MemberSaid ts → MembersGiven ts
  members_held ts h = held_list topology_member_items names_in_topology_member ts h

  pub members_given : Yields law (members depth) MembersGiven
  members_given = gives_less MembersGiven members_held members_yield

  -- in any annotation
  abbrev pub TopologySaid : Topology → Type 0
  TopologySaid t = (note : List ℕ) → Says law (λ scope. topology_items scope (record t { note = note })) (names_in_topology (record t { note = note }))

  -- its name, and its members
  abbrev MembersSaid : Topology → Type 0
  MembersSaid t = law.Naming t.name × Each MemberSaid t.members

  members_of_topology : (p : Span × (Name × (List TMember × Span))) → Unit {0} × (law.Naming p.1.0 × (Each MemberSaid p.1.1.0 × Unit {0})) → MembersSaid (made_topology p)
  members_of_topology (word, (n, (found, closing))) h = (h.1.0, h.1.1.0)

  topology_said : (t : Topology) → MembersSaid t × ((note : List ℕ) → law.OfTopology (record t { note = note })) → TopologySaid t
  topology_said t h note = declares law (topology_def (record t { note = note })) h.0.0 (h.1 note) (members_held t.members h.0.1)

  pub topology_yields : Yields law (topology depth) TopologySaid
  topology_yields = gives_less TopologySaid topology_said (gives_both (gives_map MembersSaid made_topology members_of_topology
      (gives_seq gives_anything (gives_seq law.naming_given (gives_after k_open_brace (gives_seq members_yield gives_anything)))))
      law.topologies_given)
