-- What a component has in the dictionary: commands, events, channels and parameters. FPP Language Specification, "Command Specifiers",
-- "Event Specifiers", "Telemetry Channel Specifiers" and "Parameter Specifiers".
use Rattle.std.specs.Prelude.{ℕ, Option, Some, None, List, []}
use Rattle.fp_base.specs.declared.place.Span.{Span}
use Rattle.fp_lexer.specs.Words.{mark}
use Rattle.fp_lexer.specs.declared.token.Token.{Token}
use Rattle.fp_tree.specs.declared.name.Name.{Name}
use Rattle.fp_tree.specs.declared.name.Str.{Str}
use Rattle.fp_tree.specs.declared.expression.Expr.{Expr}
use Rattle.fp_tree.specs.declared.type_name.TypeName.{TypeName}
use Rattle.fp_tree.specs.declared.dictionary.CommandKind.{CommandKind}
use Rattle.fp_tree.specs.declared.dictionary.Severity.{Severity}
use Rattle.fp_tree.specs.declared.dictionary.Update.{Update}
use Rattle.fp_tree.specs.declared.dictionary.Color.{Color}
use Rattle.fp_tree.specs.declared.dictionary.Limit.{Limit}
use Rattle.fp_tree.specs.declared.dictionary.Limits.{Limits}
use Rattle.fp_tree.specs.declared.component.Part.{Part}
use Rattle.fp_tree.specs.declared.component.Part.TheVariants as part
use Rattle.fp_parse_components.specs.declared.queue.QueueWords.{QueueWords}
use Rattle.fp_parse_components.specs.declared.queue.FormalList.{FormalList}
use Rattle.fp_grammar.specs.Grammar.{Grammar, after}
use Rattle.fp_grammar.specs.Grammar.Grammar.{seq, map, optional}
use Rattle.fp_parse_pieces.specs.Kinds.{k_open_brace, k_close_brace}
use Rattle.fp_parse_pieces.specs.Words.{between, at, name, literal_string}
use Rattle.fp_parse_pieces.specs.Lists.{any_noted}
use Rattle.fp_parse_defs.specs.Language.{expression}
use Rattle.fp_parse_defs.specs.Definitions.{k_colon, default_part, expr_or, format_part, str_or, type_name}
use Rattle.fp_parse_components.specs.Kinds.{k_word, color_word, command_kind, severity_words, update_words}
use Rattle.fp_parse_components.specs.Ports.{maybe_formals, queue_words, span_or}

-- (.. Expr)?, behind this word
abbrev pub number_part : ℕ → ℕ → Grammar Token (Option Expr)
number_part k depth = optional (after k (expression depth))

abbrev pub made_command : (Span × CommandKind) × (Name × (FormalList × (Option Expr × QueueWords))) → Part
made_command ((word, k), (n, (fs, (opcode, q)))) =
    part.Command (record { kind = k; name = n; formals = fs.row; opcode = opcode; priority = q.priority; full = q.full; queue_word = q.first; at = between word (span_or (expr_or (span_or n.at fs.closing) opcode) q.last); note = [] })

-- Command = ('async' | 'sync' | 'guarded') 'command' name Formals? ('opcode' Expr)? ('priority' Expr)? Full?
abbrev pub command : ℕ → Grammar Token Part
command depth = map made_command (seq command_kind (after (k_word "command") (seq name (seq (maybe_formals depth) (seq (number_part (k_word "opcode") depth) (queue_words depth))))))

abbrev pub made_event : Span × (Name × (FormalList × (Severity × (Option Expr × (Str × Option Expr))))) → Part
made_event (word, (n, (fs, (severity, (id, (format, throttle)))))) =
    part.Event (record { name = n; formals = fs.row; severity = severity; id = id; format = format; throttle = throttle; at = between word (expr_or format.at throttle); note = [] })

-- Event = 'event' name Formals? 'severity' Severity ('id' Expr)? 'format' Str ('throttle' Expr)?
abbrev pub event : ℕ → Grammar Token Part
event depth =
    map made_event (seq (at (k_word "event")) (seq name (seq (maybe_formals depth) (after (k_word "severity") (seq severity_words (seq (number_part (k_word "id") depth)
    (after (k_word "format") (seq literal_string (number_part (k_word "throttle") depth)))))))))

abbrev pub made_limit : (Span × Color) × Expr → Limit
made_limit ((word, c), e) = record { color = c; value = e; at = between word e.at; note = [] }

-- ('yellow' | 'orange' | 'red') Expr
abbrev pub limit : ℕ → Grammar Token Limit
limit depth = map made_limit (seq color_word (expression depth))

-- an annotation of its own
abbrev pub limit_with_note : Limit → List ℕ → Limit
limit_with_note l note = record { color = l.color; value = l.value; at = l.at; note = note }

abbrev pub made_limits : Span × (List Limit × Span) → Limits
made_limits (opening, (ls, closing)) = record { limits = ls; at = between opening closing }

-- Limits = '{' (('yellow' | 'orange' | 'red') Expr)*, '}'
abbrev pub limits : ℕ → Grammar Token Limits
limits depth = map made_limits (seq (at k_open_brace) (seq (any_noted (mark ",") limit_with_note (limit depth)) (at k_close_brace)))

-- where what may follow ends
abbrev pub limits_or : Span → Option Limits → Span
limits_or span None = span
limits_or span (Some ls) = ls.at

-- when it is sent, and the place of the last word that says so
abbrev pub update_of : Option (Span × Update) → Option Update
update_of None = None
update_of (Some (at, u)) = Some u

abbrev pub update_or : Span → Option (Span × Update) → Span
update_or span None = span
update_or span (Some (at, u)) = at

-- (Limits)?, behind this word
abbrev pub limits_part : ℕ → ℕ → Grammar Token (Option Limits)
limits_part k depth = optional (after k (limits depth))

abbrev pub made_channel : Span × (Name × (TypeName × (Option Expr × (Option (Span × Update) × (Option Str × (Option Limits × Option Limits)))))) → Part
made_channel (word, (n, (of, (id, (u, (format, (low, high))))))) =
    part.Channel (record { name = n; of = of; id = id; update = update_of u; format = format; low = low; high = high; at = between word (limits_or (limits_or (str_or (update_or (expr_or of.at id) u) format) low) high); note = [] })

-- Channel = 'telemetry' name ':' TypeName ('id' Expr)? ('update' ('always' | 'on' 'change'))? ('format' Str)? ('low' Limits)?
--           ('high' Limits)?
abbrev pub channel : ℕ → Grammar Token Part
channel depth =
    map made_channel (seq (at (k_word "telemetry")) (seq name (after k_colon (seq (type_name depth) (seq (number_part (k_word "id") depth)
    (seq (optional (after (k_word "update") update_words)) (seq format_part (seq (limits_part (k_word "low") depth) (limits_part (k_word "high") depth)))))))))

-- ('set' 'opcode' Expr)?, or the like
abbrev pub opcode_part : ℕ → ℕ → Grammar Token (Option Expr)
opcode_part k depth = optional (after k (after (k_word "opcode") (expression depth)))

abbrev pub made_param : Span × (Name × (TypeName × (Option Expr × (Option Expr × (Option Expr × Option Expr))))) → Part
made_param (word, (n, (of, (default, (id, (set, save)))))) =
    part.Param (record { name = n; of = of; default = default; id = id; set = set; save = save; at = between word (expr_or (expr_or (expr_or (expr_or of.at default) id) set) save); note = [] })

-- ParamDef = 'param' name ':' TypeName ('default' Expr)? ('id' Expr)? ('set' 'opcode' Expr)? ('save' 'opcode' Expr)?
abbrev pub param : ℕ → Grammar Token Part
param depth =
    map made_param (seq (at (k_word "param")) (seq name (after k_colon (seq (type_name depth) (seq (default_part depth) (seq (number_part (k_word "id") depth)
    (seq (opcode_part (k_word "set") depth) (opcode_part (k_word "save") depth))))))))
