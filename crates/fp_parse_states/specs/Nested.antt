-- State machines by productions that nest, and the rows in which what they spell is laid out. States nest in one another by recursion on
-- the elements that are spelled, so nothing counts how deep. FPP Language Specification, "State Machine Definitions" and "Comments and
-- Annotations".
use Rattle.std.specs.Prelude.{◌≡◌, ℕ, ◌+◌, List, [], ◌∷◌, ◌++◌, Bool, true, false, Option, Some, None, ◌⊎◌}
use Rattle.fp_base.specs.declared.place.Span.{Span}
use Rattle.fp_lexer.specs.Words.{reserved, mark}
use Rattle.fp_lexer.specs.declared.token.Token.{Token}
use Rattle.fp_tree.specs.declared.name.Name.{Name}
use Rattle.fp_tree.specs.declared.machine.BehaviorElement.{BehaviorElement}
use Rattle.fp_tree.specs.declared.machine.NoteLine.{NoteLine}
use Rattle.fp_tree.specs.declared.machine.Behavior.{Behavior}
use Rattle.fp_tree.specs.declared.machine.Machine.{Machine}
use Rattle.fp_parse_states.specs.declared.head.Head.{Head}
use Rattle.fp_grammar.specs.Grammar.{Grammar, Spells, Among, after}
use Rattle.fp_grammar.specs.Grammar.Grammar.{seq, map, optional, ref}
use Rattle.fp_parse_pieces.specs.Kinds.{kind, k_reserved, k_before, k_open_brace, k_close_brace, k_dot, k_times, k_over, k_plus, k_minus}
use Rattle.fp_parse_pieces.specs.Words.{at, between, name}
use Rattle.fp_parse_pieces.specs.Lists.{before_lines, after_lines, separators}
use Rattle.fp_parse_defs.specs.Definitions.{k_colon, k_size}
use Rattle.fp_parse_states.specs.Transitions.{k_enter}
use Rattle.fp_parse_states.specs.Elements.{k_action, k_choice, k_guard, k_initial, k_signal, k_state, element, state_head}

abbrev pub Lines : Type 0
Lines = List (List ℕ)

-- elements in a row, each with the lines of the annotations before it and behind it
pub data NestedElements : Type 0 where
  none : NestedElements
  -- one without a body
  without_body : Lines → Head → Lines → NestedElements → NestedElements
  -- a state with a body
  with_body : Lines → Head → NestedElements → Lines → NestedElements → NestedElements

abbrev pub semicolons : List ℕ
semicolons = separators (mark ";")

-- lines behind an element, and then nothing; or a separator, more lines behind it, and more elements
abbrev pub SpellsBehind : (List Token → Type 0) → NestedElements → Lines → List Token → Type 0
SpellsBehind spells_more more lines w =
    (u v : List Token) × (a b : Lines) × (w ≡ u ++ v) × (lines ≡ a ++ b) × Spells kind after_lines u a ×
    (((v ≡ []) × (b ≡ []) × (more ≡ none)) ⊎
    ((t : Token) × (r s : List Token) × (v ≡ t ∷ (r ++ s)) × Among (kind t) semicolons × Spells kind after_lines r b × spells_more s))

-- MMember*; or, inside a state, SMember*; where State = 'state' name ('{' SMember*; '}')?
abbrev pub SpellsElements : ℕ → Bool → NestedElements → List Token → Type 0
SpellsElements depth inside none w = w ≡ []
SpellsElements depth inside (without_body before e behind more) w =
    (u v z : List Token) × (w ≡ u ++ (v ++ z)) × Spells kind before_lines u before × Spells kind (element depth inside) v e × SpellsBehind (SpellsElements depth inside more) more behind z
SpellsElements depth inside (with_body before e inner behind more) w =
    (u v y z : List Token) × (l r : Token) × (w ≡ u ++ (v ++ l ∷ (y ++ r ∷ z))) × Spells kind before_lines u before ×
    Spells kind state_head v e × (kind l ≡ k_open_brace) × SpellsElements depth true inner y × (kind r ≡ k_close_brace) ×
    SpellsBehind (SpellsElements depth inside more) more behind z

-- lines of the annotation of the element at a position
abbrev pub note_lines : ℕ → Lines → List NoteLine
note_lines n [] = []
note_lines n (line ∷ lines) = record { of = n; line = line } ∷ note_lines n lines

-- how many elements they are, with those in them
abbrev pub size : NestedElements → ℕ
size none = 0
size (without_body before e behind more) = size more + 1
size (with_body before e inner behind more) = size more + (size inner + 1)

abbrev pub standing : Option ℕ → Head → BehaviorElement
standing parent e = record { form = e.form; parent = parent; at = e.at }

-- them in a row, of which the first is at this position: each before those in its body
abbrev pub elements_of : Option ℕ → NestedElements → ℕ → List BehaviorElement
elements_of parent none n = []
elements_of parent (without_body before e behind more) n = standing parent e ∷ elements_of parent more (n + 1)
elements_of parent (with_body before e inner behind more) n = standing parent e ∷ (elements_of (Some n) inner (n + 1) ++ elements_of parent more ((n + 1) + size inner))

-- the lines of their annotations, in source order
abbrev pub notes_of : NestedElements → ℕ → List NoteLine
notes_of none n = []
notes_of (without_body before e behind more) n = note_lines n before ++ (note_lines n behind ++ notes_of more (n + 1))
notes_of (with_body before e inner behind more) n = note_lines n before ++ (notes_of inner (n + 1) ++ (note_lines n behind ++ notes_of more ((n + 1) + size inner)))

-- MMember*; '}'
abbrev pub SpellsRest : ℕ → List Token → Behavior → Type 0
SpellsRest depth w b =
    (u : List Token) × (r : Token) × (es : NestedElements) × (w ≡ u ++ r ∷ []) × SpellsElements depth false es u × (kind r ≡ k_close_brace) ×
    (b ≡ record { elements = elements_of None es 0; lines = notes_of es 0; closing = r.at })

-- what elements go on with
abbrev pub elements_go_on : List ℕ
elements_go_on = k_dot ∷ k_enter ∷ k_colon ∷ k_size ∷ k_times ∷ k_over ∷ k_plus ∷ k_minus ∷ []

abbrev pub rest : ℕ → Grammar Token Behavior
rest depth = ref (record { spells = SpellsRest depth; productive = true; first = k_before ∷ k_close_brace ∷ k_state ∷ k_choice ∷ k_initial ∷ k_signal ∷ k_action ∷ k_guard ∷ []; extends = elements_go_on })

-- '{' MMember*; '}'
abbrev pub body : ℕ → Grammar Token Behavior
body depth = after k_open_brace (rest depth)

abbrev pub k_machine : ℕ
k_machine = k_reserved (reserved "machine")

-- where what may follow ends
abbrev pub closing_or : Span → Option Behavior → Span
closing_or span None = span
closing_or span (Some b) = b.closing

abbrev pub made_machine : Span × (Name × Option Behavior) → Machine
made_machine (word, (n, behavior)) = record { name = n; behavior = behavior; at = between word (closing_or n.at behavior); note = [] }

-- Machine = 'state' 'machine' name ('{' MMember*; '}')?
abbrev pub machine : ℕ → Grammar Token Machine
machine depth = map made_machine (seq (at k_state) (after k_machine (seq name (optional (body depth)))))
