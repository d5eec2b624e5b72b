-- Words that say of which kind something in a component is. FPP Language Specification, "Component Definitions", "Port Instance
-- Specifiers", "Command Specifiers", "Event Specifiers" and "Telemetry Channel Specifiers".
use Rattle.std.specs.Prelude.{ℕ, ◌==◌, cond, [], ◌∷◌}
use Prim.Native.String.{String}
use Rattle.fp_base.specs.declared.place.Span.{Span}
use Rattle.fp_lexer.specs.Words.{reserved}
use Rattle.fp_lexer.specs.declared.token.Word.{Word}
use Rattle.fp_lexer.specs.declared.token.Word.TheVariants as word
use Rattle.fp_lexer.specs.declared.token.Token.{Token}
use Rattle.fp_tree.specs.declared.component.ComponentKind.{ComponentKind}
use Rattle.fp_tree.specs.declared.component.ComponentKind.TheVariants as component
use Rattle.fp_tree.specs.declared.component.GeneralKind.{GeneralKind}
use Rattle.fp_tree.specs.declared.component.GeneralKind.TheVariants as general
use Rattle.fp_tree.specs.declared.component.SpecialKind.{SpecialKind}
use Rattle.fp_tree.specs.declared.component.SpecialKind.TheVariants as special
use Rattle.fp_tree.specs.declared.component.Full.{Full}
use Rattle.fp_tree.specs.declared.component.Full.TheVariants as full
use Rattle.fp_tree.specs.declared.dictionary.CommandKind.{CommandKind}
use Rattle.fp_tree.specs.declared.dictionary.CommandKind.TheVariants as command
use Rattle.fp_tree.specs.declared.dictionary.Severity.{Severity}
use Rattle.fp_tree.specs.declared.dictionary.Severity.TheVariants as severity
use Rattle.fp_tree.specs.declared.dictionary.Update.{Update}
use Rattle.fp_tree.specs.declared.dictionary.Update.TheVariants as update
use Rattle.fp_tree.specs.declared.dictionary.Color.{Color}
use Rattle.fp_tree.specs.declared.dictionary.Color.TheVariants as color
use Rattle.fp_grammar.specs.Grammar.{Grammar, after}
use Rattle.fp_grammar.specs.Grammar.Grammar.{one_of, seq, map, alt}
use Rattle.fp_parse_pieces.specs.Kinds.{k_reserved}
use Rattle.fp_parse_pieces.specs.Words.{at}

-- the reserved word of this text
abbrev pub k_word : String → ℕ
k_word text = k_reserved (reserved text)

abbrev pub kind_of_component : Word → ComponentKind
kind_of_component (word.Reserved r) = cond (r == reserved "active") component.Active (cond (r == reserved "passive") component.Passive component.Queued)
kind_of_component _ = component.Queued

-- 'active' | 'passive' | 'queued'
abbrev pub component_kind : Grammar Token (Span × ComponentKind)
component_kind = map (λ t. (t.at, kind_of_component t.what)) (one_of (k_word "active" ∷ k_word "passive" ∷ k_word "queued" ∷ []))

abbrev pub input_of : Word → GeneralKind
input_of (word.Reserved r) = cond (r == reserved "async") general.AsyncInput (cond (r == reserved "sync") general.SyncInput general.GuardedInput)
input_of _ = general.GuardedInput

-- 'async' | 'sync' | 'guarded', before 'input'
abbrev pub input_word : Grammar Token (Span × GeneralKind)
input_word = map (λ t. (t.at, input_of t.what)) (one_of (k_word "async" ∷ k_word "sync" ∷ k_word "guarded" ∷ []))

abbrev pub made_input : (Span × GeneralKind) × Span → Span × GeneralKind
made_input (found, input) = found

-- ('async' | 'sync' | 'guarded') 'input'
abbrev pub input_kind : Grammar Token (Span × GeneralKind)
input_kind = map made_input (seq input_word (at (k_word "input")))

-- 'output'
abbrev pub output_word : Grammar Token (Span × GeneralKind)
output_word = map (λ t. (t.at, general.Output)) (one_of (k_word "output" ∷ []))

-- 'async' 'input' | 'sync' 'input' | 'guarded' 'input' | 'output'
abbrev pub general_kind : Grammar Token (Span × GeneralKind)
general_kind = alt input_kind output_word

abbrev pub full_of : Word → Full
full_of (word.Reserved r) = cond (r == reserved "assert") full.Assert (cond (r == reserved "block") full.Block (cond (r == reserved "drop") full.Dropped full.Hook))
full_of _ = full.Hook

-- Full = 'assert' | 'block' | 'drop' | 'hook'
abbrev pub full_word : Grammar Token (Span × Full)
full_word = map (λ t. (t.at, full_of t.what)) (one_of (k_word "assert" ∷ k_word "block" ∷ k_word "drop" ∷ k_word "hook" ∷ []))

abbrev pub command_port_of : Word → SpecialKind
command_port_of (word.Reserved r) = cond (r == reserved "recv") special.CommandRecv (cond (r == reserved "reg") special.CommandReg special.CommandResp)
command_port_of _ = special.CommandResp

-- 'recv' | 'reg' | 'resp', behind 'command'
abbrev pub command_port_word : Grammar Token SpecialKind
command_port_word = map (λ t. command_port_of t.what) (one_of (k_word "recv" ∷ k_word "reg" ∷ k_word "resp" ∷ []))

abbrev pub param_port_of : Word → SpecialKind
param_port_of (word.Reserved r) = cond (r == reserved "get") special.ParamGet special.ParamSet
param_port_of _ = special.ParamSet

-- 'get' | 'set', behind 'param'
abbrev pub param_port_word : Grammar Token SpecialKind
param_port_word = map (λ t. param_port_of t.what) (one_of (k_word "get" ∷ k_word "set" ∷ []))

-- 'event', behind 'text'
abbrev pub text_port_word : Grammar Token SpecialKind
text_port_word = map (λ t. special.TextEvent) (one_of (k_word "event" ∷ []))

-- 'get', behind 'time'
abbrev pub time_port_word : Grammar Token SpecialKind
time_port_word = map (λ t. special.TimeGet) (one_of (k_word "get" ∷ []))

abbrev pub sending_of : Word → SpecialKind
sending_of (word.Reserved r) = cond (r == reserved "event") special.Event special.Telemetry
sending_of _ = special.Telemetry

-- 'event' | 'telemetry'
abbrev pub sending_word : Grammar Token (Span × SpecialKind)
sending_word = map (λ t. (t.at, sending_of t.what)) (one_of (k_word "event" ∷ k_word "telemetry" ∷ []))

-- 'command' 'recv' | 'command' 'reg' | 'command' 'resp' | 'param' 'get' | 'param' 'set' | 'text' 'event' | 'time' 'get' | 'event'
-- | 'telemetry'
abbrev pub special_kind : Grammar Token (Span × SpecialKind)
special_kind =
    alt (seq (at (k_word "command")) command_port_word) (alt (seq (at (k_word "param")) param_port_word)
    (alt (seq (at (k_word "text")) text_port_word) (alt (seq (at (k_word "time")) time_port_word) sending_word)))

abbrev pub command_of : Word → CommandKind
command_of (word.Reserved r) = cond (r == reserved "async") command.Async (cond (r == reserved "sync") command.Sync command.Guarded)
command_of _ = command.Guarded

-- 'async' | 'sync' | 'guarded'
abbrev pub command_kind : Grammar Token (Span × CommandKind)
command_kind = map (λ t. (t.at, command_of t.what)) (one_of (k_word "async" ∷ k_word "sync" ∷ k_word "guarded" ∷ []))

abbrev pub activity_of : Word → Severity
activity_of (word.Reserved r) = cond (r == reserved "high") severity.ActivityHigh severity.ActivityLow
activity_of _ = severity.ActivityLow

-- 'high' | 'low', behind 'activity'
abbrev pub activity_word : Grammar Token Severity
activity_word = map (λ t. activity_of t.what) (one_of (k_word "high" ∷ k_word "low" ∷ []))

abbrev pub warning_of : Word → Severity
warning_of (word.Reserved r) = cond (r == reserved "high") severity.WarningHigh severity.WarningLow
warning_of _ = severity.WarningLow

-- 'high' | 'low', behind 'warning'
abbrev pub warning_word : Grammar Token Severity
warning_word = map (λ t. warning_of t.what) (one_of (k_word "high" ∷ k_word "low" ∷ []))

abbrev pub severity_of : Word → Severity
severity_of (word.Reserved r) = cond (r == reserved "command") severity.Command (cond (r == reserved "diagnostic") severity.Diagnostic severity.Fatal)
severity_of _ = severity.Fatal

-- 'command' | 'diagnostic' | 'fatal'
abbrev pub severity_word : Grammar Token Severity
severity_word = map (λ t. severity_of t.what) (one_of (k_word "command" ∷ k_word "diagnostic" ∷ k_word "fatal" ∷ []))

-- Severity = 'activity' 'high' | 'activity' 'low' | 'warning' 'high' | 'warning' 'low' | 'command' | 'diagnostic' | 'fatal'
abbrev pub severity_words : Grammar Token Severity
severity_words = alt (after (k_word "activity") activity_word) (alt (after (k_word "warning") warning_word) severity_word)

-- 'always', and where it stands
abbrev pub always_word : Grammar Token (Span × Update)
always_word = map (λ t. (t.at, update.Always)) (one_of (k_word "always" ∷ []))

-- 'change', behind 'on'
abbrev pub change_word : Grammar Token (Span × Update)
change_word = map (λ t. (t.at, update.OnChange)) (one_of (k_word "change" ∷ []))

-- 'always' | 'on' 'change', and where the last word of it stands
abbrev pub update_words : Grammar Token (Span × Update)
update_words = alt always_word (after (k_word "on") change_word)

abbrev pub color_of : Word → Color
color_of (word.Reserved r) = cond (r == reserved "yellow") color.Yellow (cond (r == reserved "orange") color.Orange color.Red)
color_of _ = color.Red

-- 'yellow' | 'orange' | 'red'
abbrev pub color_word : Grammar Token (Span × Color)
color_word = map (λ t. (t.at, color_of t.what)) (one_of (k_word "yellow" ∷ k_word "orange" ∷ k_word "red" ∷ []))
