-- The steps in which the body of a machine is read. What they spell is what the productions that nest spell.
use Rattle.std.specs.Prelude.{ℕ, List, [], ◌∷◌, ◌++◌, length, Option, Some, None, cond, ◌==◌, Bool, true, false}
use Rattle.fp_base.specs.declared.place.Span.{Span}
use Rattle.fp_lexer.specs.Words.{mark}
use Rattle.fp_lexer.specs.declared.token.Word.{Word}
use Rattle.fp_lexer.specs.declared.token.Word.TheVariants as word
use Rattle.fp_lexer.specs.declared.token.Token.{Token}
use Rattle.fp_tree.specs.declared.machine.ElementForm.{ElementForm}
use Rattle.fp_tree.specs.declared.machine.ElementForm.TheVariants as form
use Rattle.fp_tree.specs.declared.machine.BehaviorElement.{BehaviorElement}
use Rattle.fp_tree.specs.declared.machine.NoteLine.{NoteLine}
use Rattle.fp_tree.specs.declared.machine.Behavior.{Behavior}
use Rattle.fp_parse_states.specs.declared.head.BodyPiece.{BodyPiece}
use Rattle.fp_parse_states.specs.declared.head.BodyPiece.TheVariants as piece
use Rattle.fp_parse_states.specs.declared.head.LastRead.{LastRead}
use Rattle.fp_parse_states.specs.declared.head.LastRead.TheVariants as read
use Rattle.fp_grammar.specs.Grammar.{Grammar}
use Rattle.fp_grammar.specs.Grammar.Grammar.{one_of, map, alt}
use Rattle.fp_grammar.specs.Steps.{Steps, Next, from_state}
use Rattle.fp_grammar.specs.Steps.Next.{on, ends}
use Rattle.fp_parse_pieces.specs.Kinds.{kind, k_mark, k_newline, k_before, k_after, k_open_brace, k_close_brace}
use Rattle.fp_parse_states.specs.Elements.{element}
use Rattle.fp_parse_states.specs.Nested.{elements_go_on}

abbrev pub k_semicolon : ℕ
k_semicolon = k_mark (mark ";")

abbrev pub element_piece : ℕ → Bool → Grammar Token BodyPiece
element_piece depth inside = map piece.Element (element depth inside)

-- what a single token is
abbrev pub single_piece : Token → BodyPiece
single_piece t = piece_of t.at t.what
  where
    piece_of : Span → Word → BodyPiece
    piece_of at (word.Mark m) = cond (m == mark "{") piece.Open (cond (m == mark "}") (piece.Close at) piece.Separator)
    piece_of at (word.Before line) = piece.Before line
    piece_of at (word.After line) = piece.After line
    piece_of at _ = piece.Separator

-- the single tokens that may come next
abbrev pub singles : LastRead → List ℕ
singles read.Opening = k_before ∷ k_close_brace ∷ []
singles read.Separator = k_after ∷ k_before ∷ k_close_brace ∷ []
singles read.NoteBefore = k_before ∷ []
singles read.StateName = k_open_brace ∷ k_after ∷ k_semicolon ∷ k_newline ∷ k_close_brace ∷ []
singles read.Whole = k_after ∷ k_semicolon ∷ k_newline ∷ k_close_brace ∷ []

abbrev pub single : List ℕ → Grammar Token BodyPiece
single ks = map single_piece (one_of ks)

-- an element, or one of these
abbrev pub element_or : List ℕ → ℕ → Bool → Grammar Token BodyPiece
element_or ks depth inside = alt (single ks) (element_piece depth inside)

-- what may come next
abbrev pub next_piece : ℕ → LastRead → Bool → Grammar Token BodyPiece
next_piece depth read.Opening inside = element_or (singles read.Opening) depth inside
next_piece depth read.Separator inside = element_or (singles read.Separator) depth inside
next_piece depth read.NoteBefore inside = element_or (singles read.NoteBefore) depth inside
next_piece depth read.StateName inside = single (singles read.StateName)
next_piece depth read.Whole inside = single (singles read.Whole)

-- what was read of a body: the positions of the states that are open, innermost first, that of the element that was read last, and the
-- rows
pub record BodySoFar : Type 0 where
  pub last : LastRead
  pub opened : List ℕ
  pub latest : ℕ
  pub elements : List BehaviorElement
  pub lines : List NoteLine

-- before the first piece
abbrev pub nothing_read : BodySoFar
nothing_read = record { last = read.Opening; opened = []; latest = 0; elements = []; lines = [] }

-- the state in which the next element stands
abbrev pub innermost : List ℕ → Option ℕ
innermost [] = None
innermost (position ∷ more) = Some position

-- whether a state is open
abbrev pub is_inside : List ℕ → Bool
is_inside [] = false
is_inside (position ∷ more) = true

-- behind the name of a state a body may follow
abbrev pub read_of : ElementForm → LastRead
read_of (form.State n) = read.StateName
read_of _ = read.Whole

-- an annotation makes a state whole that has no body
abbrev pub behind_note : LastRead → LastRead
behind_note read.StateName = read.Whole
behind_note other = other

-- the innermost open state ends, or the body does
abbrev pub after_closing : BodySoFar → Span → List ℕ → Next BodySoFar Behavior
after_closing s at [] = ends (record { elements = s.elements; lines = s.lines; closing = at })
after_closing s at (position ∷ more) = on (record { last = read.Whole; opened = more; latest = position; elements = s.elements; lines = s.lines })

abbrev pub leads : BodySoFar → BodyPiece → Next BodySoFar Behavior
leads s piece.Open = on (record { last = read.Opening; opened = s.latest ∷ s.opened; latest = s.latest; elements = s.elements; lines = s.lines })
leads s (piece.Close at) = after_closing s at s.opened
leads s piece.Separator = on (record { last = read.Separator; opened = s.opened; latest = s.latest; elements = s.elements; lines = s.lines })
leads s (piece.Before line) =
    on (record { last = read.NoteBefore; opened = s.opened; latest = s.latest; elements = s.elements; lines = s.lines ++ record { of = length s.elements; line = line } ∷ [] })
leads s (piece.After line) =
    on (record { last = behind_note s.last; opened = s.opened; latest = s.latest; elements = s.elements; lines = s.lines ++ record { of = s.latest; line = line } ∷ [] })
leads s (piece.Element e) =
    on (record {
      last = read_of e.form;
      opened = s.opened;
      latest = length s.elements;
      elements = s.elements ++ record { form = e.form; parent = innermost s.opened; at = e.at } ∷ [];
      lines = s.lines;
    })

abbrev pub body_steps : ℕ → Steps Token BodySoFar BodyPiece Behavior
body_steps depth = record { piece = λ s. next_piece depth s.last (is_inside s.opened); leads = leads }

-- the rest of a body, from what was read so far on
abbrev pub rest_of_body : ℕ → BodySoFar → Grammar Token Behavior
rest_of_body depth s = from_state kind (body_steps depth) elements_go_on s
