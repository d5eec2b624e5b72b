-- The members of components and of interfaces, in lists with their annotations. FPP Language Specification, "Component Definitions",
-- "Interface Definitions", "Interface Import Specifiers", "Include Specifiers" and "Comments and Annotations".
use Rattle.std.specs.Prelude.{ℕ, Option, List, [], ◌∷◌, ◌++◌}
use Rattle.fp_base.specs.declared.place.Span.{Span}
use Rattle.fp_lexer.specs.Words.{mark}
use Rattle.fp_lexer.specs.declared.token.Token.{Token}
use Rattle.fp_tree.specs.declared.name.Name.{Name}
use Rattle.fp_tree.specs.declared.name.Qual.{Qual}
use Rattle.fp_tree.specs.declared.definition.Def.{Def}
use Rattle.fp_tree.specs.declared.machine.Behavior.{Behavior}
use Rattle.fp_tree.specs.declared.member.Include.{Include}
use Rattle.fp_tree.specs.declared.component.General.{General}
use Rattle.fp_tree.specs.declared.component.Special.{Special}
use Rattle.fp_tree.specs.declared.component.Import.{Import}
use Rattle.fp_tree.specs.declared.component.Part.{Part}
use Rattle.fp_tree.specs.declared.component.Part.TheVariants as part
use Rattle.fp_tree.specs.declared.component.InterfacePart.{InterfacePart}
use Rattle.fp_tree.specs.declared.component.InterfacePart.TheVariants as inner
use Rattle.fp_parse_components.specs.declared.queue.QueueWords.{QueueWords}
use Rattle.fp_parse_components.specs.declared.stated.Stated.{Stated}
use Rattle.fp_parse_components.specs.declared.stated.Stated.TheVariants as stated
use Rattle.fp_parse_components.specs.declared.noting.NotedPart.{NotedPart}
use Rattle.fp_parse_components.specs.declared.noting.NotedInterfacePart.{NotedInterfacePart}
use Rattle.fp_grammar.specs.Grammar.{Grammar, after}
use Rattle.fp_grammar.specs.Grammar.Grammar.{seq, map, alt, optional}
use Rattle.fp_grammar.specs.Seal.{seal}
use Rattle.fp_parse_pieces.specs.Kinds.{kind, k_open, k_open_brace, k_equals}
use Rattle.fp_parse_pieces.specs.Words.{at, name, qual}
use Rattle.fp_parse_pieces.specs.Lists.{any_noted}
use Rattle.fp_parse_defs.specs.Definitions.{abstract_or_alias, array, constant, enumeration, expr_goes_on, k_array, k_colon, k_constant, k_default, k_enum, k_format, k_size, k_struct, k_type, structure}
use Rattle.fp_parse_defs.specs.Specifiers.{imported, included}
use Rattle.fp_parse_states.specs.Nested.{body, elements_go_on, machine, made_machine}
use Rattle.fp_parse_components.specs.Kinds.{k_word}
use Rattle.fp_parse_components.specs.Ports.{general, internal, made_running, matching, queue_words, running, special}
use Rattle.fp_parse_components.specs.Dictionary.{channel, command, event, param}
use Rattle.fp_parse_components.specs.Noted.{bare_interface_part, bare_part, interface_part_with_note, noted_interface_parts, noted_parts, part_with_note}

-- Def but Port
abbrev pub definition_body : ℕ → Grammar Token Def
definition_body depth = alt (constant depth) (alt (abstract_or_alias depth) (alt (array depth) (alt (structure depth) (enumeration depth))))

abbrev pub definition_begins : List ℕ
definition_begins = k_constant ∷ k_type ∷ k_array ∷ k_struct ∷ k_enum ∷ []

abbrev pub definition_goes_on : List ℕ
definition_goes_on = k_equals ∷ k_size ∷ k_default ∷ k_format ∷ expr_goes_on

abbrev pub definition_sealed : ℕ → Grammar Token Def
definition_sealed depth = seal kind (definition_body depth) definition_begins definition_goes_on

abbrev pub made_definition : Def → Part
made_definition d = part.Def d

abbrev pub definition_part : ℕ → Grammar Token Part
definition_part depth = map made_definition (definition_sealed depth)

-- Machine | Running
abbrev pub machine_or_running : ℕ → Grammar Token Part
machine_or_running depth = alt (map (λ m. part.Machine m) (machine depth)) (map (λ r. part.Running r) (running depth))

-- what speaks of a queue
abbrev pub queue_begins : List ℕ
queue_begins = k_word "priority" ∷ k_word "assert" ∷ k_word "block" ∷ k_word "drop" ∷ k_word "hook" ∷ []

abbrev pub stated_goes_on : List ℕ
stated_goes_on = k_open_brace ∷ elements_go_on ++ queue_begins

abbrev pub stated_part : ℕ → Grammar Token Part
stated_part depth = seal kind (machine_or_running depth) (k_word "state" ∷ []) stated_goes_on

abbrev pub made_machine_behind : Name × Option Behavior → Stated
made_machine_behind (n, behavior) = stated.Machine n behavior

-- name ('{' MMember*; '}')?, behind 'state' 'machine'
abbrev pub machine_behind : ℕ → Grammar Token Stated
machine_behind depth = map made_machine_behind (seq name (optional (body depth)))

abbrev pub made_running_behind : Name × (Qual × QueueWords) → Stated
made_running_behind (n, (of, q)) = stated.Running n of q

-- 'instance' name ':' Qual ('priority' Expr)? Full?, behind them
abbrev pub running_behind : ℕ → Grammar Token Stated
running_behind depth = map made_running_behind (after (k_word "instance") (seq name (after k_colon (seq qual (queue_words depth)))))

abbrev pub made_stated : Span × Stated → Part
made_stated (word, stated.Machine n behavior) = part.Machine (made_machine (word, (n, behavior)))
made_stated (word, stated.Running n of q) = part.Running (made_running (word, (n, (of, q))))

-- the same, with the two words taken out that both begin with
abbrev pub words_first : ℕ → Grammar Token Part
words_first depth = map made_stated (seq (at (k_word "state")) (after (k_word "machine") (alt (machine_behind depth) (running_behind depth))))

abbrev pub made_general_part : General → Part
made_general_part p = part.General p

abbrev pub made_special_part : Special → Part
made_special_part p = part.Special p

abbrev pub made_import_part : Import → Part
made_import_part i = part.Import i

abbrev pub made_include_part : Include → Part
made_include_part i = part.Include i

-- General | Special | Internal
abbrev pub port_part : ℕ → Grammar Token Part
port_part depth = alt (map made_general_part (general depth)) (alt (map made_special_part special) (internal depth))

-- Command | Event | Channel | ParamDef
abbrev pub dictionary_part : ℕ → Grammar Token Part
dictionary_part depth = alt (command depth) (alt (event depth) (alt (channel depth) (param depth)))

-- Match | Import | Include
abbrev pub other_part : Grammar Token Part
other_part = alt matching (alt (map made_import_part imported) (map made_include_part included))

-- Part = Def but Port | Machine | Running | General | Special | Internal | Command | Event | Channel | ParamDef | Match | Import
--        | Include
abbrev pub part_body : ℕ → Grammar Token Part
part_body depth = alt (definition_part depth) (alt (stated_part depth) (alt (port_part depth) (alt (dictionary_part depth) other_part)))

-- what parts begin with
abbrev pub part_begins : List ℕ
part_begins =
    definition_begins ++
    k_word "state" ∷ k_word "async" ∷ k_word "sync" ∷ k_word "guarded" ∷ k_word "output" ∷ k_word "command" ∷ k_word "param" ∷ k_word "text" ∷ k_word "time" ∷ k_word "event" ∷
    k_word "telemetry" ∷ k_word "internal" ∷ k_word "match" ∷ k_word "import" ∷ k_word "include" ∷ []

-- what parts go on with
abbrev pub part_goes_on : List ℕ
part_goes_on =
    definition_goes_on ++ (stated_goes_on ++
    k_open ∷ k_word "opcode" ∷ k_word "throttle" ∷ k_word "id" ∷ k_word "update" ∷ k_word "low" ∷ k_word "high" ∷ k_word "set" ∷ k_word "save" ∷ [])

abbrev pub part_of : ℕ → Grammar Token Part
part_of depth = seal kind (part_body depth) part_begins part_goes_on

-- Part, for a list that has its annotation
abbrev pub listed_part : ℕ → Grammar Token NotedPart
listed_part depth = map bare_part (part_of depth)

-- Part*;
abbrev pub parts : ℕ → Grammar Token (List Part)
parts depth = map noted_parts (any_noted (mark ";") part_with_note (listed_part depth))

abbrev pub made_inner_general : General → InterfacePart
made_inner_general p = inner.General p

abbrev pub made_inner_special : Special → InterfacePart
made_inner_special p = inner.Special p

abbrev pub made_inner_import : Import → InterfacePart
made_inner_import i = inner.Import i

-- IPart = General | Special | Import
abbrev pub interface_part : ℕ → Grammar Token InterfacePart
interface_part depth = alt (map made_inner_general (general depth)) (alt (map made_inner_special special) (map made_inner_import imported))

-- IPart, for a list that has its annotation
abbrev pub listed_interface_part : ℕ → Grammar Token NotedInterfacePart
listed_interface_part depth = map bare_interface_part (interface_part depth)

-- IPart*;
abbrev pub interface_parts : ℕ → Grammar Token (List InterfacePart)
interface_parts depth = map noted_interface_parts (any_noted (mark ";") interface_part_with_note (listed_interface_part depth))
