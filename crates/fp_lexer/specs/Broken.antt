-- The rules that a text can break, where each is broken, and which comes first.
use Rattle.std.specs.Prelude.{◌≡◌, ◌≢◌, ℕ, ◌^◌, ◌<◌, ◌≤◌, ◌⊎◌, ◌+◌, List, ◌∷◌, ◌++◌, length, drop, slice_index, Option, Some, None, pos, false}
use Rattle.std.specs.Str.Lossy.{utf8_valid_len}
use Rattle.fp_base.specs.Places.{place_at}
use Rattle.fp_base.specs.Rules.{row}
use Rattle.fp_base.specs.declared.place.Place.{Place}
use Rattle.fp_base.specs.declared.rule.Rule.{Rule}
use Rattle.fp_base.specs.declared.rule.Rule.TheVariants.{BadCharacter, OpenString, BadEscape, NumberTooLarge, TextTooLong}
use Rattle.fp_base.specs.declared.refusal.Stop.{Stop}
use Rattle.fp_base.specs.declared.refusal.Stop.TheVariants.{Broken, NoMemory}
use Rattle.fp_lexer.specs.Bytes.{escapes, newline_len, indent_at}
use Rattle.fp_lexer.specs.Tokens.{Spells, IsLongBody, Lexeme, IsLexeme, Cuts}
use Rattle.fp_lexer.specs.declared.token.Word.{Word}
use Rattle.fp_lexer.specs.declared.token.Word.TheVariants.{Number}

-- no piece begins there
abbrev pub NoneBegins : List ℕ → ℕ → Type 0
NoneBegins text at = (w more : List ℕ) (what : Option Word) → drop at text ≡ w ++ more → Spells (indent_at text at) (drop at text) w what → ⊥

-- the pieces go as far as the offset
abbrev pub Reached : List ℕ → ℕ → Type 0
Reached text at = (ps : List Lexeme) × Cuts text 0 ps at

-- a number too large to be a token is the longest piece there
abbrev pub LargeBegins : List ℕ → ℕ → Type 0
LargeBegins text at = (n past : ℕ) × IsLexeme text (record { what = Some (Number (pos n)); from = at; past = past }) × (2 ^ 127 ≤ n)

-- behind so many bytes of a body stands a backslash, itself not behind one, directly before a newline; this profile: no such escape has
-- a meaning
abbrev pub HasBadEscape : List ℕ → ℕ → Type 0
HasBadEscape raw n = (before after : List ℕ) × (raw ≡ before ++ 92 ∷ after) × (n ≡ length before) × (escapes false before ≡ false) × (0 < newline_len after)

-- it stands at the second offset, in a string between `"""` that begins at the first
abbrev pub BadEscapeAt : List ℕ → ℕ → ℕ → Type 0
BadEscapeAt text from at = (raw : List ℕ) × (n : ℕ) × IsLongBody (drop from text) raw × HasBadEscape raw n × (at ≡ from + 3 + n)

-- the most bytes of a file, 4 MiB
abbrev pub longest_text : ℕ
longest_text = 4194304

-- a rule is broken at an offset: of bytes that aren't UTF-8 at the first that belong to no character; a `"` at which no string
-- begins is an open string and no bad character; a string on one line in which a backslash stands before a newline is an open string,
-- so an escape is bad only in a string between `"""`
abbrev pub BrokenAt : List ℕ → Rule → ℕ → Type 0
BrokenAt text BadCharacter at = (at < length text) × ((at ≡ utf8_valid_len text) ⊎ (Reached text at × (slice_index text at ≢ 34) × NoneBegins text at))
BrokenAt text OpenString at = Reached text at × (slice_index text at ≡ 34) × NoneBegins text at
BrokenAt text BadEscape at = (from : ℕ) × Reached text from × BadEscapeAt text from at
BrokenAt text NumberTooLarge at = Reached text at × LargeBegins text at
BrokenAt text TextTooLong at = (at ≡ 0) × (longest_text < length text)
BrokenAt text _ at = ⊥

-- a rule is broken at a place
abbrev pub BreaksTokens : ℕ → List ℕ → Rule → Place → Type 0
BreaksTokens file text rule place = (at : ℕ) × (place ≡ place_at file text at) × BrokenAt text rule at

-- of two places of a file the one comes before the other: by line, then by column
abbrev pub ComesBefore : Place → Place → Type 0
ComesBefore p q = (p.line < q.line) ⊎ ((p.line ≡ q.line) × (p.column < q.column))

-- a rule at a place is least by line, column and row of the table
abbrev pub NotBehind : Rule → Place → Rule → Place → Type 0
NotBehind rule place other there = ComesBefore place there ⊎ ((place.line ≡ there.line) × (place.column ≡ there.column) × (row rule ≤ row other))

pub record IsFirstBroken (file : ℕ) (text : List ℕ) (rule : Rule) (place : Place) : Type 0 where
  pub broken : BreaksTokens file text rule place
  pub least : (other : Rule) (there : Place) → BreaksTokens file text other there → NotBehind rule place other there

abbrev pub IsUnbroken : ℕ → List ℕ → Type 0
IsUnbroken file text = (rule : Rule) (place : Place) → BreaksTokens file text rule place → ⊥

-- a stop names the first broken rule and its place, and no other place
abbrev pub IsStop : ℕ → List ℕ → Stop → Type 0
IsStop file text (Broken refusal) = IsFirstBroken file text refusal.rule refusal.place × (refusal.other ≡ None)
IsStop file text NoMemory = Unit {0}
