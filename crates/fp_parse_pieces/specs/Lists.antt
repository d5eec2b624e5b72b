-- Lists of elements that may be annotated: before them, behind them, and behind the separators that follow them.
-- FPP Language Specification, "Comments and Annotations".
use Rattle.std.specs.Prelude.{ℕ, Option, Some, None, List, [], ◌∷◌, ◌++◌, flat_map}
use Rattle.fp_lexer.specs.declared.token.Word.{Word}
use Rattle.fp_lexer.specs.declared.token.Word.TheVariants as word
use Rattle.fp_lexer.specs.declared.token.Token.{Token}
use Rattle.fp_grammar.specs.Grammar.{Grammar}
use Rattle.fp_grammar.specs.Grammar.Grammar.{token, one_of, seq, map, optional, many, alternating}
use Rattle.fp_parse_pieces.specs.Kinds.{k_mark, k_newline, k_before, k_after, k_comma}

-- the text of an annotation
abbrev pub note_text : Word → List ℕ
note_text (word.Before text) = text
note_text (word.After text) = text
note_text _ = []

-- lines, with a newline between each two
abbrev pub joined : List (List ℕ) → List ℕ
joined [] = []
joined (line ∷ lines) = line ++ flat_map (λ more. 10 ∷ more) lines

-- any number of annotations of what follows
abbrev pub before_line : Grammar Token (List ℕ)
before_line = map (λ t. note_text t.what) (token k_before)

abbrev pub before_lines : Grammar Token (List (List ℕ))
before_lines = many before_line

-- any number of annotations of what stands before
abbrev pub after_line : Grammar Token (List ℕ)
after_line = map (λ t. note_text t.what) (token k_after)

abbrev pub after_lines : Grammar Token (List (List ℕ))
after_lines = many after_line

-- an element with the lines of its annotation, or the lines behind a separator
pub data ListPiece (X : Type 0) : Type 0 where
  element : X → List (List ℕ) → ListPiece X
  separator : List (List ℕ) → ListPiece X

-- one beside the lines of the annotations before it and behind it
abbrev pub noted : {X : Type 0} → Grammar Token X → Grammar Token (X × List (List ℕ))
noted a = map (λ p. (p.1.0, p.0 ++ p.1.1)) (seq before_lines (seq a after_lines))

abbrev pub annotated : {X : Type 0} → Grammar Token X → Grammar Token (ListPiece X)
annotated a = map (λ p. element p.0 p.1) (noted a)

abbrev pub separated_by : {X : Type 0} → List ℕ → Grammar Token (ListPiece X)
separated_by ks = map (λ p. separator p.1) (seq (one_of ks) after_lines)

-- what comes of the pieces, where add takes an element and all the lines of its annotation to what there is
abbrev pub gathered : {X Z : Type 0} → (Z → X → List (List ℕ) → Z) → Z → List (ListPiece X) → Z
gathered add z [] = z
gathered add z (separator lines ∷ pieces) = gathered add z pieces
gathered add z (element x lines ∷ []) = add z x lines
gathered add z (element x lines ∷ separator more ∷ pieces) = gathered add (add z x (lines ++ more)) pieces
gathered add z (element x lines ∷ element y more ∷ pieces) = gathered add (add z x lines) (element y more ∷ pieces)

-- at least one element, between separators of these kinds, a last one being allowed
abbrev pub some_of : {X Z : Type 0} → List ℕ → (Z → X → List (List ℕ) → Z) → Z → Grammar Token X → Grammar Token Z
some_of ks add none a = map (λ p. gathered add none (p.0 ∷ p.1)) (seq (annotated a) (alternating (separated_by ks) (annotated a)))

-- what separates the elements of a list in brackets
abbrev pub commas : List ℕ
commas = k_comma ∷ k_newline ∷ []

-- newlines, and this mark
abbrev pub separators : ℕ → List ℕ
separators m = k_mark m ∷ k_newline ∷ []

-- one more, with its annotation
abbrev pub with_noted : {X : Type 0} → (X → List ℕ → X) → List X → X → List (List ℕ) → List X
with_noted with_note xs x lines = xs ++ with_note x (joined lines) ∷ []

abbrev pub or_none : {X : Type 0} → Option (List X) → List X
or_none None = []
or_none (Some xs) = xs

-- at least one, between newlines or marks of this number, each with its annotation
abbrev pub some_noted : {X : Type 0} → ℕ → (X → List ℕ → X) → Grammar Token X → Grammar Token (List X)
some_noted m with_note a = some_of (separators m) (with_noted with_note) [] a

-- any number
abbrev pub any_noted : {X : Type 0} → ℕ → (X → List ℕ → X) → Grammar Token X → Grammar Token (List X)
any_noted m with_note a = map or_none (optional (some_noted m with_note a))
