-- Components and interfaces. FPP Language Specification, "Component Definitions" and "Interface Definitions".
use Rattle.std.specs.Prelude.{ℕ, List, []}
use Rattle.fp_base.specs.declared.place.Span.{Span}
use Rattle.fp_lexer.specs.declared.token.Token.{Token}
use Rattle.fp_tree.specs.declared.name.Name.{Name}
use Rattle.fp_tree.specs.declared.component.ComponentKind.{ComponentKind}
use Rattle.fp_tree.specs.declared.component.Component.{Component}
use Rattle.fp_tree.specs.declared.component.Interface.{Interface}
use Rattle.fp_tree.specs.declared.component.Part.{Part}
use Rattle.fp_tree.specs.declared.component.InterfacePart.{InterfacePart}
use Rattle.fp_grammar.specs.Grammar.{Grammar, after}
use Rattle.fp_grammar.specs.Grammar.Grammar.{seq, map}
use Rattle.fp_parse_pieces.specs.Kinds.{k_open_brace, k_close_brace}
use Rattle.fp_parse_pieces.specs.Words.{between, at, name}
use Rattle.fp_parse_components.specs.Kinds.{k_word, component_kind}
use Rattle.fp_parse_components.specs.Parts.{interface_parts, parts}

abbrev pub made_component : (Span × ComponentKind) × (Name × (List Part × Span)) → Component
made_component ((word, k), (n, (ps, closing))) = record { kind = k; name = n; parts = ps; at = between word closing; note = [] }

-- Component = ('active' | 'passive' | 'queued') 'component' name '{' Part*; '}'
abbrev pub component : ℕ → Grammar Token Component
component depth = map made_component (seq component_kind (after (k_word "component") (seq name (after k_open_brace (seq (parts depth) (at k_close_brace))))))

abbrev pub made_interface : Span × (Name × (List InterfacePart × Span)) → Interface
made_interface (word, (n, (ps, closing))) = record { name = n; parts = ps; at = between word closing; note = [] }

-- Interface = 'interface' name '{' IPart*; '}'
abbrev pub interface : ℕ → Grammar Token Interface
interface depth = map made_interface (seq (at (k_word "interface")) (seq name (after k_open_brace (seq (interface_parts depth) (at k_close_brace)))))
