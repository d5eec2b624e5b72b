-- The ports of components and interfaces, what is said of a queue, and machines' instances. FPP Language Specification, "Port Instance
-- Specifiers", "Internal Port Specifiers", "Port Matching Specifiers" and "State Machine Instance Specifiers". This profile: a general
-- port has a type.
use Rattle.std.specs.Prelude.{ℕ, Option, Some, None, List, []}
use Rattle.fp_base.specs.declared.place.Span.{Span}
use Rattle.fp_lexer.specs.declared.token.Token.{Token}
use Rattle.fp_tree.specs.declared.name.Name.{Name}
use Rattle.fp_tree.specs.declared.name.Qual.{Qual}
use Rattle.fp_tree.specs.declared.expression.Expr.{Expr}
use Rattle.fp_tree.specs.declared.part.Formal.{Formal}
use Rattle.fp_tree.specs.declared.component.Full.{Full}
use Rattle.fp_tree.specs.declared.component.GeneralKind.{GeneralKind}
use Rattle.fp_tree.specs.declared.component.SpecialKind.{SpecialKind}
use Rattle.fp_tree.specs.declared.component.General.{General}
use Rattle.fp_tree.specs.declared.component.Special.{Special}
use Rattle.fp_tree.specs.declared.component.Running.{Running}
use Rattle.fp_tree.specs.declared.component.Part.{Part}
use Rattle.fp_tree.specs.declared.component.Part.TheVariants as part
use Rattle.fp_parse_components.specs.declared.queue.QueueWords.{QueueWords}
use Rattle.fp_parse_components.specs.declared.queue.FormalList.{FormalList}
use Rattle.fp_grammar.specs.Grammar.{Grammar, after}
use Rattle.fp_grammar.specs.Grammar.Grammar.{seq, map, optional}
use Rattle.fp_parse_pieces.specs.Words.{between, at, name, qual}
use Rattle.fp_parse_defs.specs.Language.{expression}
use Rattle.fp_parse_defs.specs.Definitions.{k_colon, formals_part, size_part}
use Rattle.fp_parse_components.specs.Kinds.{k_word, full_word, general_kind, special_kind}

-- where what may follow ends
abbrev pub span_or : Span → Option Span → Span
span_or span None = span
span_or span (Some last) = last

abbrev pub made_queue_words : Option (Span × Expr) × Option (Span × Full) → QueueWords
made_queue_words (None, None) = record { priority = None; full = None; first = None; last = None }
made_queue_words (Some (word, e), None) = record { priority = Some e; full = None; first = Some word; last = Some e.at }
made_queue_words (None, Some (at, f)) = record { priority = None; full = Some f; first = Some at; last = Some at }
made_queue_words (Some (word, e), Some (at, f)) = record { priority = Some e; full = Some f; first = Some word; last = Some at }

-- ('priority' Expr)? Full?
abbrev pub queue_words : ℕ → Grammar Token QueueWords
queue_words depth = map made_queue_words (seq (optional (seq (at (k_word "priority")) (expression depth))) (optional full_word))

abbrev pub made_formals : Option (List Formal × Span) → FormalList
made_formals None = record { row = []; closing = None }
made_formals (Some (formals, closing)) = record { row = formals; closing = Some closing }

-- Formals?
abbrev pub maybe_formals : ℕ → Grammar Token FormalList
maybe_formals depth = map made_formals (formals_part depth)

abbrev pub made_general : (Span × GeneralKind) × (Name × (Option Expr × (Qual × QueueWords))) → General
made_general ((word, k), (n, (size, (of, q)))) =
    record { kind = k; name = n; size = size; of = Some of; priority = q.priority; full = q.full; queue_word = q.first; at = between word (span_or of.at q.last); note = [] }

-- General = ('async' 'input' | 'sync' 'input' | 'guarded' 'input' | 'output') 'port' name ':' ('[' Expr ']')? Qual
--           ('priority' Expr)? Full?
abbrev pub general : ℕ → Grammar Token General
general depth = map made_general (seq general_kind (after (k_word "port") (seq name (after k_colon (seq (size_part depth) (seq qual (queue_words depth)))))))

abbrev pub made_special : (Span × SpecialKind) × Name → Special
made_special ((word, k), n) = record { kind = k; name = n; at = between word n.at; note = [] }

-- Special = ('command' 'recv' | 'command' 'reg' | 'command' 'resp' | 'event' | 'text' 'event' | 'telemetry' | 'time' 'get'
--           | 'param' 'get' | 'param' 'set') 'port' name
abbrev pub special : Grammar Token Special
special = map made_special (seq special_kind (after (k_word "port") name))

abbrev pub made_internal : Span × (Name × (FormalList × QueueWords)) → Part
made_internal (word, (n, (fs, q))) =
    part.Internal (record { name = n; formals = fs.row; priority = q.priority; full = q.full; queue_word = q.first; at = between word (span_or (span_or n.at fs.closing) q.last); note = [] })

-- Internal = 'internal' 'port' name Formals? ('priority' Expr)? Full?
abbrev pub internal : ℕ → Grammar Token Part
internal depth = map made_internal (seq (at (k_word "internal")) (after (k_word "port") (seq name (seq (maybe_formals depth) (queue_words depth)))))

abbrev pub made_match : Span × (Name × Name) → Part
made_match (word, (n, m)) = part.Match (record { first = n; second = m; at = between word m.at; note = [] })

-- Match = 'match' name 'with' name
abbrev pub matching : Grammar Token Part
matching = map made_match (seq (at (k_word "match")) (seq name (after (k_word "with") name)))

abbrev pub made_running : Span × (Name × (Qual × QueueWords)) → Running
made_running (word, (n, (of, q))) = record { name = n; of = of; priority = q.priority; full = q.full; queue_word = q.first; at = between word (span_or of.at q.last); note = [] }

-- Running = 'state' 'machine' 'instance' name ':' Qual ('priority' Expr)? Full?
abbrev pub running : ℕ → Grammar Token Running
running depth = map made_running (seq (at (k_word "state")) (after (k_word "machine") (after (k_word "instance") (seq name (after k_colon (seq qual (queue_words depth)))))))
