-- What the parts of the lexer answer of a piece, of a flaw and of a newline.
use Rattle.std.specs.Prelude.{◌≡◌, ◌≢◌, slice_index, ℕ, ◌-◌, ◌^◌, ◌<◌, ◌≤◌, List, ◌∷◌, cond, take, drop, false, Option, Some, None, Result, Ok, Err, pos}
use Rattle.std.specs.Str.{IsUtf8, IsCharBoundary}
use Rattle.fp_base.specs.declared.place.Span.{Span}
use Rattle.fp_base.specs.Rules.{row}
use Rattle.fp_base.specs.declared.rule.Rule.{Rule}
use Rattle.fp_base.specs.declared.rule.Rule.TheVariants.{BadCharacter, OpenString, BadEscape, NumberTooLarge}
use Rattle.fp_lexer.specs.Bytes.{body_text, long_text, indent_at, trimmed}
use Rattle.fp_lexer.specs.Tokens.{IsLexeme}
use Rattle.fp_lexer.specs.Newlines.{kept, ignored_by_rest, Ground, counts, ignored, separated}
use Rattle.fp_lexer.specs.Broken.{NoneBegins, LargeBegins, BadEscapeAt, BrokenAt}
use Rattle.fp_lexer.specs.declared.token.Token.{Token}
use Rattle.fp_lexer.specs.declared.token.Word.{Word}
use Rattle.fp_lexer.specs.declared.token.Word.TheVariants.{Name, Reserved, Number, Float, Str, Mark, Newline, Before, After}
use Rattle.fp_lexer.specs.declared.newlines.Standing.{Standing}
use Rattle.fp_lexer.specs.declared.newlines.Standing.TheVariants.{Counts, Ignored, Separated, Pending}
use Rattle.fp_lexer.specs.declared.shape.Extent.{Extent}
use Rattle.fp_lexer.specs.declared.shape.Shape.{Shape}
use Rattle.fp_lexer.specs.declared.shape.Shape.TheVariants as shape
use Rattle.fp_lexer.specs.declared.pieces.Flaw.{Flaw}

-- the bytes of a part of a text
abbrev pub part_of : List ℕ → Extent → List ℕ
part_of text part = take (part.past - part.from) (drop part.from text)

-- what a shape in a text is, before which so many bytes stand in its line
abbrev pub what_of : ℕ → List ℕ → Shape → Option Word
what_of indent text shape.Blank = None
what_of indent text (shape.Name part) = Some (Name (part_of text part))
what_of indent text (shape.Reserved k) = Some (Reserved k)
what_of indent text (shape.Number n) = Some (Number n)
what_of indent text shape.Float = Some Float
what_of indent text (shape.Str part) = Some (Str (body_text false (part_of text part)))
what_of indent text (shape.Long part) = Some (Str (long_text indent (part_of text part)))
what_of indent text (shape.Mark k) = Some (Mark k)
what_of indent text shape.Newline = Some Newline
what_of indent text (shape.Before part) = Some (Before (trimmed (part_of text part)))
what_of indent text (shape.After part) = Some (After (trimmed (part_of text part)))

-- it begins and ends between two characters
abbrev pub IsPart : List ℕ → Extent → Type 0
IsPart text part = (part.from ≤ part.past) × IsCharBoundary text part.from × IsCharBoundary text part.past

-- a shape's part begins and ends between two characters
abbrev pub HasPart : List ℕ → Shape → Type 0
HasPart text (shape.Name part) = IsPart text part
HasPart text (shape.Str part) = IsPart text part
HasPart text (shape.Long part) = IsPart text part
HasPart text (shape.Before part) = IsPart text part
HasPart text (shape.After part) = IsPart text part
HasPart text shape = Unit {0}

-- a number is below 2 ^ 127
abbrev pub IsSmall : Option Word → Type 0
IsSmall what = (n : ℕ) → what ≡ Some (Number (pos n)) → n < 2 ^ 127

-- no escape is bad in a string that begins at an offset
abbrev pub HasNoBadEscape : List ℕ → ℕ → Type 0
HasNoBadEscape text at = (there : ℕ) → BadEscapeAt text at there → ⊥

-- what is wrong with the piece that begins at an offset: a rule is broken there, or within it
abbrev pub IsFlawed : List ℕ → ℕ → Rule → ℕ → Type 0
IsFlawed text at BadCharacter there = (there ≡ at) × (slice_index text at ≢ 34) × NoneBegins text at
IsFlawed text at OpenString there = (there ≡ at) × (slice_index text at ≡ 34) × NoneBegins text at
IsFlawed text at BadEscape there = BadEscapeAt text at there × ((other : ℕ) → BadEscapeAt text at other → there ≤ other)
IsFlawed text at NumberTooLarge there = (there ≡ at) × LargeBegins text at
IsFlawed text at _ there = ⊥

-- the longest piece at an offset: what it is, and where it ends
abbrev pub GivesLexeme : List ℕ → ℕ → Result (Shape × ℕ) Flaw → Type 0
GivesLexeme text at (Ok p) =
    let what = what_of (indent_at text at) text p.0 in
    IsLexeme text (record { what = what; from = at; past = p.1 }) × IsSmall what × (IsUtf8 text → HasPart text p.0) × HasNoBadEscape text at
GivesLexeme text at (Err flaw) = IsFlawed text at flaw.rule flaw.at

-- a rule is broken at an offset of a text, and all that is broken lies behind it, or there and not before it in the table
pub record IsFirstFlaw (text : List ℕ) (flaw : Flaw) : Type 0 where
  pub broken : BrokenAt text flaw.rule flaw.at
  pub before : (other : Rule) (there : ℕ) → BrokenAt text other there → flaw.at ≤ there
  pub here : (other : Rule) → BrokenAt text other flaw.at → row flaw.rule ≤ row other

-- ---- newlines

-- what comes of the tokens that follow, from what stands before them: a newline there counts, is ignored, or was read and
-- counts unless what follows lets it be ignored
abbrev pub resume : Standing → List Token → List Token
resume Counts rest = kept counts rest
resume Ignored rest = kept ignored rest
resume Separated rest = kept separated rest
resume (Pending span) rest = cond (ignored_by_rest rest) (kept ignored rest) ((record { what = Newline; at = span }) ∷ kept ignored rest)

-- where a newline was read
abbrev pub newline_read : Standing → Span → Standing
newline_read Counts span = Pending span
newline_read Ignored span = Ignored
newline_read Separated span = Separated
newline_read (Pending first) span = Pending first

-- what it means for a newline, whether or not one was read
abbrev pub ground_of : Standing → Ground
ground_of Counts = counts
ground_of Ignored = ignored
ground_of Separated = separated
ground_of (Pending span) = ignored

abbrev pub standing : Ground → Standing
standing counts = Counts
standing ignored = Ignored
standing separated = Separated
