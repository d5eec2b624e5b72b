-- The grammar of topologies. FPP Language Specification, "Topology Definitions" and "Component Instance Specifiers".
use Rattle.std.specs.Prelude.{ℕ, true, false, Option, Some, None, List, []}
use Rattle.fp_base.specs.declared.place.Span.{Span}
use Rattle.fp_lexer.specs.Words.{reserved, mark}
use Rattle.fp_lexer.specs.declared.token.Token.{Token}
use Rattle.fp_tree.specs.declared.name.Name.{Name}
use Rattle.fp_tree.specs.declared.name.Qual.{Qual}
use Rattle.fp_tree.specs.declared.topology.InstanceUse.{InstanceUse}
use Rattle.fp_tree.specs.declared.topology.TMember.{TMember}
use Rattle.fp_tree.specs.declared.topology.TMember.TheVariants as node
use Rattle.fp_tree.specs.declared.topology.Topology.{Topology}
use Rattle.fp_grammar.specs.Grammar.{Grammar, after}
use Rattle.fp_grammar.specs.Grammar.Grammar.{seq, map, alt, optional}
use Rattle.fp_parse_pieces.specs.Kinds.{k_reserved, k_open_brace, k_close_brace}
use Rattle.fp_parse_pieces.specs.Words.{between, at, name, qual}
use Rattle.fp_parse_pieces.specs.Lists.{any_noted}
use Rattle.fp_parse_defs.specs.Specifiers.{imported, import_with_note, included, include_with_note}
use Rattle.fp_parse_topologies.specs.Instances.{k_instance}
use Rattle.fp_parse_topologies.specs.Connections.{connections, pattern_connections}

-- the reserved words of topologies
abbrev pub k_private : ℕ
k_private = k_reserved (reserved "private")

abbrev pub k_topology : ℕ
k_topology = k_reserved (reserved "topology")

abbrev pub made_instance_use : Option Span × (Span × Qual) → InstanceUse
made_instance_use (None, (word, of)) = record { private = false; of = of; at = between word of.at; note = [] }
made_instance_use (Some first, (word, of)) = record { private = true; of = of; at = between first of.at; note = [] }

-- 'private'? 'instance' Qual
abbrev pub instance_use : Grammar Token InstanceUse
instance_use = map made_instance_use (seq (optional (at k_private)) (seq (at k_instance) qual))

abbrev pub instance_member : Grammar Token TMember
instance_member = map node.Instance instance_use

abbrev pub import_member : Grammar Token TMember
import_member = map node.Import imported

abbrev pub include_member : Grammar Token TMember
include_member = map node.Include included

abbrev pub connections_member : ℕ → Grammar Token TMember
connections_member depth = map node.Connections (connections depth)

abbrev pub pattern_member : Grammar Token TMember
pattern_member = map node.Pattern pattern_connections

-- TMember = 'private'? 'instance' Qual | 'import' Qual | Include | 'connections' name '{' Connection*, '}'
--         | Pattern 'connections' 'instance' Qual ('{' Qual*, '}')?
abbrev pub member : ℕ → Grammar Token TMember
member depth = alt instance_member (alt import_member (alt include_member (alt (connections_member depth) pattern_member)))

-- a member with this annotation
abbrev pub member_with_note : TMember → List ℕ → TMember
member_with_note (node.Instance m) note = node.Instance (record { private = m.private; of = m.of; at = m.at; note = note })
member_with_note (node.Import m) note = node.Import (import_with_note m note)
member_with_note (node.Include m) note = node.Include (include_with_note m note)
member_with_note (node.Connections m) note = node.Connections (record { name = m.name; connections = m.connections; at = m.at; note = note })
member_with_note (node.Pattern m) note = node.Pattern (record { kind = m.kind; of = m.of; targets = m.targets; at = m.at; note = note })

-- TMember*;
abbrev pub members : ℕ → Grammar Token (List TMember)
members depth = any_noted (mark ";") member_with_note (member depth)

abbrev pub made_topology : Span × (Name × (List TMember × Span)) → Topology
made_topology (word, (n, (found, closing))) = record { name = n; members = found; at = between word closing; note = [] }

-- Topology = 'topology' name '{' TMember*; '}'
abbrev pub topology : ℕ → Grammar Token Topology
topology depth = map made_topology (seq (at k_topology) (seq name (after k_open_brace (seq (members depth) (at k_close_brace)))))
