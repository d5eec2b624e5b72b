-- The grammar of component instances. FPP Language Specification, "Component Instance Definitions" and "Init Specifiers". This profile: a
-- phase's code is any string.
use Rattle.std.specs.Prelude.{ℕ, Option, Some, None, List, []}
use Rattle.fp_base.specs.declared.place.Span.{Span}
use Rattle.fp_lexer.specs.Words.{reserved, mark}
use Rattle.fp_lexer.specs.declared.token.Token.{Token}
use Rattle.fp_tree.specs.declared.name.Name.{Name}
use Rattle.fp_tree.specs.declared.name.Qual.{Qual}
use Rattle.fp_tree.specs.declared.name.Str.{Str}
use Rattle.fp_tree.specs.declared.expression.Expr.{Expr}
use Rattle.fp_tree.specs.declared.instance.Phase.{Phase}
use Rattle.fp_tree.specs.declared.instance.Instance.{Instance}
use Rattle.fp_grammar.specs.Grammar.{Grammar, after}
use Rattle.fp_grammar.specs.Grammar.Grammar.{seq, map, optional}
use Rattle.fp_parse_pieces.specs.Kinds.{k_reserved, k_open_brace, k_close_brace}
use Rattle.fp_parse_pieces.specs.Words.{between, at, name, qual, literal_string}
use Rattle.fp_parse_pieces.specs.Lists.{any_noted}
use Rattle.fp_parse_defs.specs.Language.{expression}
use Rattle.fp_parse_defs.specs.Definitions.{k_colon, k_size, k_type, expr_or, str_or}

-- the reserved words of instances
abbrev pub k_at : ℕ
k_at = k_reserved (reserved "at")

abbrev pub k_base : ℕ
k_base = k_reserved (reserved "base")

abbrev pub k_cpu : ℕ
k_cpu = k_reserved (reserved "cpu")

abbrev pub k_id : ℕ
k_id = k_reserved (reserved "id")

abbrev pub k_instance : ℕ
k_instance = k_reserved (reserved "instance")

abbrev pub k_phase : ℕ
k_phase = k_reserved (reserved "phase")

abbrev pub k_priority : ℕ
k_priority = k_reserved (reserved "priority")

abbrev pub k_queue : ℕ
k_queue = k_reserved (reserved "queue")

abbrev pub k_stack : ℕ
k_stack = k_reserved (reserved "stack")

abbrev pub made_phase : Span × (Expr × Str) → Phase
made_phase (word, (phase, code)) = record { phase = phase; code = code; at = between word code.at; note = [] }

-- 'phase' Expr Str
abbrev pub phase : ℕ → Grammar Token Phase
phase depth = map made_phase (seq (at k_phase) (seq (expression depth) literal_string))

-- an annotation of its own
abbrev pub phase_with_note : Phase → List ℕ → Phase
phase_with_note p note = record { phase = p.phase; code = p.code; at = p.at; note = note }

-- ('phase' Expr Str)*;
abbrev pub phases : ℕ → Grammar Token (List Phase)
phases depth = any_noted (mark ";") phase_with_note (phase depth)

-- ('{' ('phase' Expr Str)*; '}')?
abbrev pub phases_part : ℕ → Grammar Token (Option (List Phase × Span))
phases_part depth = optional (after k_open_brace (seq (phases depth) (at k_close_brace)))

-- the phases, none where none are written, and where what is written ends
abbrev pub phases_behind : Span → Option (List Phase × Span) → List Phase × Span
phases_behind end None = ([], end)
phases_behind end (Some found) = found

-- ('type' Str)?
abbrev pub kind_part : Grammar Token (Option Str)
kind_part = optional (after k_type literal_string)

-- ('at' Str)?
abbrev pub file_part : Grammar Token (Option Str)
file_part = optional (after k_at literal_string)

-- ('queue' 'size' Expr)?
abbrev pub queue_part : ℕ → Grammar Token (Option Expr)
queue_part depth = optional (after k_queue (after k_size (expression depth)))

-- ('stack' 'size' Expr)?
abbrev pub stack_part : ℕ → Grammar Token (Option Expr)
stack_part depth = optional (after k_stack (after k_size (expression depth)))

-- ('priority' Expr)?
abbrev pub priority_part : ℕ → Grammar Token (Option Expr)
priority_part depth = optional (after k_priority (expression depth))

-- ('cpu' Expr)?
abbrev pub cpu_part : ℕ → Grammar Token (Option Expr)
cpu_part depth = optional (after k_cpu (expression depth))

-- ('type' Str)? ('at' Str)?
abbrev pub implementation : Grammar Token (Option Str × Option Str)
implementation = seq kind_part file_part

-- ('queue' 'size' Expr)? ('stack' 'size' Expr)?
abbrev pub sizes : ℕ → Grammar Token (Option Expr × Option Expr)
sizes depth = seq (queue_part depth) (stack_part depth)

-- ('priority' Expr)? ('cpu' Expr)?
abbrev pub scheduling : ℕ → Grammar Token (Option Expr × Option Expr)
scheduling depth = seq (priority_part depth) (cpu_part depth)

-- what may be absent
abbrev pub Settings : Type 0
Settings = (Option Str × Option Str) × ((Option Expr × Option Expr) × ((Option Expr × Option Expr) × Option (List Phase × Span)))

abbrev pub settings : ℕ → Grammar Token Settings
settings depth = seq implementation (seq (sizes depth) (seq (scheduling depth) (phases_part depth)))

-- where the last of them ends
abbrev pub settings_end : Span → Option Str → Option Str → Option Expr → Option Expr → Option Expr → Option Expr → Span
settings_end base kind file queue stack priority cpu = expr_or (expr_or (expr_or (expr_or (str_or (str_or base kind) file) queue) stack) priority) cpu

abbrev pub made_instance : Span × (Name × (Qual × (Expr × Settings))) → Instance
made_instance (word, (n, (of, (base, ((kind, file), ((queue, stack), ((priority, cpu), found))))))) =
    record {
      name = n;
      of = of;
      base = base;
      kind = kind;
      file = file;
      queue = queue;
      stack = stack;
      priority = priority;
      cpu = cpu;
      phases = (phases_behind (settings_end base.at kind file queue stack priority cpu) found).0;
      at = between word (phases_behind (settings_end base.at kind file queue stack priority cpu) found).1;
      note = [];
    }

-- Instance = 'instance' name ':' Qual 'base' 'id' Expr ('type' Str)? ('at' Str)? ('queue' 'size' Expr)? ('stack' 'size' Expr)?
--            ('priority' Expr)? ('cpu' Expr)? ('{' ('phase' Expr Str)*; '}')?
abbrev pub component_instance : ℕ → Grammar Token Instance
component_instance depth = map made_instance (seq (at k_instance) (seq name (after k_colon (seq qual (after k_base (after k_id (seq (expression depth) (settings depth))))))))
