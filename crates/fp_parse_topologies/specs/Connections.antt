-- The grammar of connections: each written out, or by patterns. FPP Language Specification, "Connection Graph Specifiers" and "Port Instance
-- Identifiers".
use Rattle.std.specs.Prelude.{ℕ, true, false, cond, ◌==◌, Option, Some, None, List, [], ◌∷◌}
use Rattle.fp_base.specs.declared.place.Span.{Span}
use Rattle.fp_lexer.specs.Words.{reserved, mark}
use Rattle.fp_lexer.specs.declared.token.Word.{Word}
use Rattle.fp_lexer.specs.declared.token.Word.TheVariants as word
use Rattle.fp_lexer.specs.declared.token.Token.{Token}
use Rattle.fp_tree.specs.declared.name.Name.{Name}
use Rattle.fp_tree.specs.declared.name.Qual.{Qual}
use Rattle.fp_tree.specs.declared.expression.Expr.{Expr}
use Rattle.fp_tree.specs.declared.topology.PortUse.{PortUse}
use Rattle.fp_tree.specs.declared.topology.Connection.{Connection}
use Rattle.fp_tree.specs.declared.topology.Connections.{Connections}
use Rattle.fp_tree.specs.declared.topology.Pattern.{Pattern}
use Rattle.fp_tree.specs.declared.topology.Pattern.TheVariants as pattern
use Rattle.fp_tree.specs.declared.topology.Target.{Target}
use Rattle.fp_tree.specs.declared.topology.PatternConnections.{PatternConnections}
use Rattle.fp_grammar.specs.Grammar.{Grammar, after}
use Rattle.fp_grammar.specs.Grammar.Grammar.{one_of, seq, map, alt, optional}
use Rattle.fp_parse_pieces.specs.Kinds.{k_reserved, k_open_brace, k_close_brace, k_open_bracket, k_close_bracket}
use Rattle.fp_parse_pieces.specs.Words.{between, at, name, qual}
use Rattle.fp_parse_pieces.specs.Lists.{any_noted}
use Rattle.fp_parse_defs.specs.Language.{expression}
use Rattle.fp_parse_defs.specs.Definitions.{k_arrow}
use Rattle.fp_parse_topologies.specs.Instances.{k_instance}

-- the reserved words of connections
abbrev pub k_connections : ℕ
k_connections = k_reserved (reserved "connections")

abbrev pub k_event : ℕ
k_event = k_reserved (reserved "event")

abbrev pub k_text : ℕ
k_text = k_reserved (reserved "text")

abbrev pub k_unmatched : ℕ
k_unmatched = k_reserved (reserved "unmatched")

abbrev pub made_port_use : Qual × Option (Expr × Span) → PortUse
made_port_use (of, None) = record { of = of; number = None; at = of.at }
made_port_use (of, Some (number, closing)) = record { of = of; number = Some number; at = between of.at closing }

-- ('[' Expr ']')?
abbrev pub number_part : ℕ → Grammar Token (Option (Expr × Span))
number_part depth = optional (after k_open_bracket (seq (expression depth) (at k_close_bracket)))

-- PortUse = Qual ('[' Expr ']')?
abbrev pub port_use : ℕ → Grammar Token PortUse
port_use depth = map made_port_use (seq qual (number_part depth))

abbrev pub made_connection : Option Span × (PortUse × PortUse) → Connection
made_connection (None, (from, to)) = record { unmatched = false; from = from; to = to; at = between from.at to.at; note = [] }
made_connection (Some unmatched, (from, to)) = record { unmatched = true; from = from; to = to; at = between unmatched to.at; note = [] }

-- Connection = 'unmatched'? PortUse '->' PortUse
abbrev pub connection : ℕ → Grammar Token Connection
connection depth = map made_connection (seq (optional (at k_unmatched)) (seq (port_use depth) (after k_arrow (port_use depth))))

-- an annotation of its own
abbrev pub connection_with_note : Connection → List ℕ → Connection
connection_with_note c note = record { unmatched = c.unmatched; from = c.from; to = c.to; at = c.at; note = note }

-- Connection*,
abbrev pub connection_list : ℕ → Grammar Token (List Connection)
connection_list depth = any_noted (mark ",") connection_with_note (connection depth)

abbrev pub made_connections : Span × (Name × (List Connection × Span)) → Connections
made_connections (first, (n, (found, closing))) = record { name = n; connections = found; at = between first closing; note = [] }

-- 'connections' name '{' Connection*, '}'
abbrev pub connections : ℕ → Grammar Token Connections
connections depth = map made_connections (seq (at k_connections) (seq name (after k_open_brace (seq (connection_list depth) (at k_close_brace)))))

-- 'command' | 'event' | 'health'
abbrev pub reporting_of : Word → Pattern
reporting_of (word.Reserved r) = cond (r == reserved "command") pattern.Command (cond (r == reserved "event") pattern.Event pattern.Health)
reporting_of _ = pattern.Health

abbrev pub reporting : Grammar Token (Pattern × Span)
reporting = map (λ t. (reporting_of t.what, t.at)) (one_of (k_reserved (reserved "command") ∷ k_event ∷ k_reserved (reserved "health") ∷ []))

-- 'param' | 'telemetry' | 'time'
abbrev pub serving_of : Word → Pattern
serving_of (word.Reserved r) = cond (r == reserved "param") pattern.Param (cond (r == reserved "telemetry") pattern.Telemetry pattern.Time)
serving_of _ = pattern.Time

abbrev pub serving : Grammar Token (Pattern × Span)
serving = map (λ t. (serving_of t.what, t.at)) (one_of (k_reserved (reserved "param") ∷ k_reserved (reserved "telemetry") ∷ k_reserved (reserved "time") ∷ []))

abbrev pub made_text_event : Span × Span → Pattern × Span
made_text_event (text, event) = (pattern.TextEvent, text)

-- 'text' 'event'
abbrev pub text_event : Grammar Token (Pattern × Span)
text_event = map made_text_event (seq (at k_text) (at k_event))

-- Pattern = 'command' | 'event' | 'health' | 'param' | 'telemetry' | 'text' 'event' | 'time'
abbrev pub pattern_words : Grammar Token (Pattern × Span)
pattern_words = alt reporting (alt serving text_event)

abbrev pub made_target : Qual → Target
made_target of = record { of = of; note = [] }

-- Qual
abbrev pub target : Grammar Token Target
target = map made_target qual

-- an annotation of its own
abbrev pub target_with_note : Target → List ℕ → Target
target_with_note t note = record { of = t.of; note = note }

-- Qual*,
abbrev pub targets : Grammar Token (List Target)
targets = any_noted (mark ",") target_with_note target

-- ('{' Qual*, '}')?
abbrev pub targets_part : Grammar Token (Option (List Target × Span))
targets_part = optional (after k_open_brace (seq targets (at k_close_brace)))

abbrev pub made_pattern : (Pattern × Span) × (Qual × Option (List Target × Span)) → PatternConnections
made_pattern ((kind, first), (of, None)) = record { kind = kind; of = of; targets = None; at = between first of.at; note = [] }
made_pattern ((kind, first), (of, Some (found, closing))) = record { kind = kind; of = of; targets = Some found; at = between first closing; note = [] }

-- Pattern 'connections' 'instance' Qual ('{' Qual*, '}')?
abbrev pub pattern_connections : Grammar Token PatternConnections
pattern_connections = map made_pattern (seq pattern_words (after k_connections (after k_instance (seq qual targets_part))))
