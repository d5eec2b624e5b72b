-- A file that is read: the rules that its text breaks, and what it gives.
use Rattle.std.specs.Prelude.{ℕ, ◌≡◌, ◌+◌, ◌<◌, ◌≤◌, ◌⊎◌, List, [], length, None}
use Rattle.fp_base.specs.Places.{place_at}
use Rattle.fp_base.specs.declared.refusal.Refusal.{Refusal}
use Rattle.fp_base.specs.declared.rule.Rule.TheVariants.{TextTooLong}
use Rattle.fp_lexer.specs.Broken.{BreaksTokens}
use Rattle.fp_lexer.specs.Tokens.{Lexed}
use Rattle.fp_lexer.specs.declared.token.Token.{Token}
use Rattle.fp_base.specs.Least.{broken_at, Either, IsUnbroken}
use Rattle.fp_parse_parts.specs.Units.{SpellsInside, BreaksInside}
use Rattle.fp_parse_parts.specs.declared.parsing.Inside.{Inside}
use Rattle.fp_parse_parts.specs.declared.parsing.Inside.TheVariants as inside
use Rattle.fp_parse_parts.specs.declared.parsing.Members.{Members}
use Rattle.fp_parse_parts.specs.declared.parsing.Members.TheVariants as given

pub record Reading : Type 0 where
  pub name : List ℕ
  pub text : List ℕ
  -- what the include stands in that it is read for, and so what it is a file of; a file that the words name is one of members
  pub inside : Inside
  -- how many files were read before it, which is its number in places
  pub number : ℕ
  -- how many bytes these have
  pub bytes_before : ℕ
  -- the names of the files that include it, the nearest first; none for a file that the words name
  pub round : List (List ℕ)

-- the most bytes of all files, 16 MiB
abbrev pub most_bytes : ℕ
most_bytes = 16777216

-- with this file they are passed
abbrev pub Passes : Reading → Type 0
Passes r = (r.bytes_before ≤ most_bytes) × (most_bytes < r.bytes_before + length r.text)

-- a rule of tokens is broken in the file
abbrev pub BreaksText : Reading → Refusal → Type 0
BreaksText r f = (f.other ≡ None) × BreaksTokens r.number r.text f.rule f.place

abbrev pub BreaksTokenRule : Reading → Refusal → Type 0
BreaksTokenRule r = Either (BreaksText r) (λ f. (f ≡ broken_at TextTooLong (place_at r.number r.text 0)) × Passes r)

-- no rule of tokens is broken in the file, and these are its tokens
pub record HasTokens (r : Reading) (tokens : List Token) : Type 0 where
  pub lexed : Lexed r.number r.text tokens
  pub unbroken : IsUnbroken (BreaksTokenRule r)

-- its tokens break the grammar
abbrev pub BreaksGrammar : Reading → Refusal → Type 0
BreaksGrammar r f = (tokens : List Token) × HasTokens r tokens × (f.other ≡ None) × BreaksInside tokens r.inside f.rule f.place

-- of what it is a file of there is nothing
abbrev pub nothing_in : Inside → Members
nothing_in inside.Unit = given.Unit []
nothing_in inside.Component = given.Component []
nothing_in inside.Topology = given.Topology []

-- what a file gives: what its tokens spell, and nothing where it breaks a rule of tokens or of the grammar
abbrev pub Gives : Reading → Members → Type 0
Gives r x =
    ((tokens : List Token) × HasTokens r tokens × SpellsInside tokens r.inside x)
    ⊎ (((f : Refusal) × Either (BreaksTokenRule r) (BreaksGrammar r) f) × (x ≡ nothing_in r.inside))
