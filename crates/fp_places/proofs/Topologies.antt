-- The places of what belongs to topologies are such where tokens begin.
use Rattle.std.proofs.Common.{ℕ, List, [], ◌∷◌, Option, Some, None}
use Rattle.std.specs.List.{AllByRecursion as Each}
use Rattle.fp_base.specs.declared.place.Place.{Place}
use Rattle.fp_base.specs.declared.place.Span.{Span}
use Rattle.fp_lexer.specs.Words.{mark}
use Rattle.fp_lexer.specs.declared.token.Token.{Token}
use Rattle.fp_tree.specs.declared.name.Name.{Name}
use Rattle.fp_tree.specs.declared.name.Qual.{Qual}
use Rattle.fp_tree.specs.declared.expression.Expr.{Expr}
use Rattle.fp_tree.specs.declared.topology.PortUse.{PortUse}
use Rattle.fp_tree.specs.declared.topology.Connection.{Connection}
use Rattle.fp_tree.specs.declared.topology.Pattern.{Pattern}
use Rattle.fp_tree.specs.declared.topology.Target.{Target}
use Rattle.fp_tree.specs.declared.topology.TMember.{TMember}
use Rattle.fp_tree.specs.declared.topology.TMember.TheVariants as node
use Rattle.fp_tree.specs.declared.topology.Topology.{Topology}
use Rattle.fp_meaning.specs.Sites.{topology as topology_def}
use Rattle.fp_parse_pieces.specs.Kinds.{k_open_brace}
use Rattle.fp_parse_defs.specs.Definitions.{k_arrow}
use Rattle.fp_parse_topologies.specs.Instances.{k_instance}
use Rattle.fp_parse_topologies.specs.Connections.{k_connections, k_text, k_unmatched, made_port_use, port_use, made_connection, connection, connection_with_note, made_connections, connections, reporting, serving, made_text_event, text_event, pattern_words, made_target, target_with_note, targets, made_pattern, pattern_connections}
use Rattle.fp_parse_topologies.specs.Topologies.{k_private, made_instance_use, instance_use, member, member_with_note, members, made_topology, topology}
use Rattle.fp_base.proofs.Lists.{InOption, each_flat, each_mapped}
use Rattle.fp_places.proofs.Preserving.{gives_anything, gives_map, gives_seq, gives_alt, gives_optional, gives_after}
use Rattle.fp_places.proofs.Lists.{gives_any_noted}
use Rattle.fp_places.specs.Places.{places_in_connection, places_in_topology_member, places_of_model}
use Rattle.fp_places.proofs.Tokens.{Yields, one_of_yields, at_yields, qual_yields}
use Rattle.fp_places.proofs.Components.{import_yields, include_yields}

module _ (G : Place → Type 0) (depth : ℕ) where
  -- a word that may be left out
  abbrev MaybeBegins : Option Span → Type 0
  MaybeBegins o = InOption (λ (s : Span). G s.first) o

  -- ---- connections

  abbrev UseStands : PortUse → Type 0
  UseStands u = G u.at.first

  use_stands : (p : Qual × Option (Expr × Span)) → G p.0.at.first × Unit {0} → UseStands (made_port_use p)
  use_stands (of, None) h = h.0
  use_stands (of, Some (number, closing)) h = h.0

  use_yields : Yields G (port_use depth) UseStands
  use_yields = gives_map UseStands made_port_use use_stands (gives_seq (qual_yields G) gives_anything)

  abbrev ConnectionStands : Connection → Type 0
  ConnectionStands c = Each G (places_in_connection c)

  connection_stands : (p : Option Span × (PortUse × PortUse)) → MaybeBegins p.0 × (UseStands p.1.0 × UseStands p.1.1) → ConnectionStands (made_connection p)
  connection_stands (None, (from, to)) h = (h.1.0, (h.1.0, (h.1.1, tt)))
  connection_stands (Some unmatched, (from, to)) h = (h.0, (h.1.0, (h.1.1, tt)))

  connection_yields : Yields G (connection depth) ConnectionStands
  connection_yields = gives_map ConnectionStands made_connection connection_stands
      (gives_seq (gives_optional (at_yields G k_unmatched)) (gives_seq use_yields (gives_after k_arrow use_yields)))

  -- ---- patterns

  words_yield : Yields G pattern_words (λ p. G p.1.first)
  words_yield =
      gives_alt reporting_yields (gives_alt serving_yields (gives_map (λ (p : Pattern × Span). G p.1.first) made_text_event text_stands (gives_seq (at_yields G k_text) gives_anything)))
    where
      reporting_yields : Yields G reporting (λ p. G p.1.first)
      reporting_yields = gives_map (λ (p : Pattern × Span). G p.1.first) _ (λ t h. h) (one_of_yields G _)

      serving_yields : Yields G serving (λ p. G p.1.first)
      serving_yields = gives_map (λ (p : Pattern × Span). G p.1.first) _ (λ t h. h) (one_of_yields G _)

      text_stands : (p : Span × Span) → G p.0.first × Unit {0} → G (made_text_event p).1.first
      text_stands (text, event) h = h.0

  abbrev TargetStands : Target → Type 0
  TargetStands t = G t.of.at.first

  targets_yield : Yields G targets (Each TargetStands)
  targets_yield = gives_any_noted TargetStands (mark ",") target_with_note (λ t note h. h) (gives_map TargetStands made_target (λ q h. h) (qual_yields G))

  -- ---- members

  -- of a member of a topology
  abbrev pub MemberStands : TMember → Type 0
  MemberStands m = Each G (places_in_topology_member m)

  pattern_stands : (p : (Pattern × Span) × (Qual × Option (List Target × Span))) → G p.0.1.first × (G p.1.0.at.first × InOption (λ (q : List Target × Span). Each TargetStands q.0 × Unit {0}) p.1.1) → MemberStands (node.Pattern (made_pattern p))
  pattern_stands ((kind, first), (of, None)) h = (h.0, (h.1.0, tt))
  pattern_stands ((kind, first), (of, Some (found, closing))) h = (h.0, (h.1.0, each_mapped G (λ (t : Target). t.of.at.first) found h.1.1.0))

  pattern_yields : Yields G pattern_connections (λ p. MemberStands (node.Pattern p))
  pattern_yields = gives_map (λ p. MemberStands (node.Pattern p)) made_pattern pattern_stands
      (gives_seq words_yield (gives_after k_connections (gives_after k_instance
      (gives_seq (qual_yields G) (gives_optional (gives_after k_open_brace (gives_seq targets_yield gives_anything)))))))

  connections_stand : (p : Span × (Name × (List Connection × Span))) → Unit {0} × (Unit {0} × (Each ConnectionStands p.1.1.0 × Unit {0})) → MemberStands (node.Connections (made_connections p))
  connections_stand (word, (n, (found, closing))) h = each_flat G places_in_connection found h.1.1.0

  connections_yield : Yields G (connections depth) (λ c. MemberStands (node.Connections c))
  connections_yield = gives_map (λ c. MemberStands (node.Connections c)) made_connections connections_stand
      (gives_seq gives_anything (gives_seq gives_anything (gives_after k_open_brace
      (gives_seq (gives_any_noted ConnectionStands (mark ",") connection_with_note (λ c note h. h) connection_yields) gives_anything))))

  instance_use_stands : (p : Option Span × (Span × Qual)) → MaybeBegins p.0 × (G p.1.0.first × G p.1.1.at.first) → MemberStands (node.Instance (made_instance_use p))
  instance_use_stands (None, (word, of)) h = (h.1.0, (h.1.1, tt))
  instance_use_stands (Some first, (word, of)) h = (h.0, (h.1.1, tt))

  instance_use_yields : Yields G instance_use (λ i. MemberStands (node.Instance i))
  instance_use_yields = gives_map (λ i. MemberStands (node.Instance i)) made_instance_use instance_use_stands
      (gives_seq (gives_optional (at_yields G k_private)) (gives_seq (at_yields G k_instance) (qual_yields G)))

  member_yields : Yields G (member depth) MemberStands
  member_yields =
      gives_alt (gives_map MemberStands node.Instance (λ i h. h) instance_use_yields) (gives_alt
      (gives_map MemberStands node.Import (λ i h. (h, tt)) (import_yields G depth)) (gives_alt
      (gives_map MemberStands node.Include (λ i h. (h, tt)) (include_yields G depth)) (gives_alt
      (gives_map MemberStands node.Connections (λ c h. h) connections_yield) (gives_map MemberStands node.Pattern (λ p h. h) pattern_yields))))

  kept : (m : TMember) (note : List ℕ) → MemberStands m → MemberStands (member_with_note m note)
  kept (node.Instance m) note h = h
  kept (node.Import m) note h = h
  kept (node.Include m) note h = h
  kept (node.Connections m) note h = h
  kept (node.Pattern m) note h = h

  pub members_yield : Yields G (members depth) (Each MemberStands)
  members_yield = gives_any_noted MemberStands (mark ";") member_with_note kept member_yields

  -- in any annotation
  abbrev pub TopologyStands : Topology → Type 0
  TopologyStands t = (note : List ℕ) → Each G (places_of_model (topology_def (record t { note = note })))

  topology_stands : (p : Span × (Name × (List TMember × Span))) → Unit {0} × (Unit {0} × (Each MemberStands p.1.1.0 × Unit {0})) → TopologyStands (made_topology p)
  topology_stands (word, (n, (found, closing))) h note = each_flat G places_in_topology_member found h.1.1.0

  pub topology_yields : Yields G (topology depth) TopologyStands
  topology_yields = gives_map TopologyStands made_topology topology_stands
      (gives_seq gives_anything (gives_seq gives_anything (gives_after k_open_brace (gives_seq members_yield gives_anything))))
