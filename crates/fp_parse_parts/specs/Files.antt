-- What all the tokens of a file spell, by a grammar that is given at each depth of nesting, and where and how they break it. A kind of
-- file is such a grammar, with a probe that tells where members may begin which are left out. A word counts as left out only where it
-- can't stand.
use Rattle.std.specs.Prelude.{◌≡◌, ℕ, ◌+◌, true, List, [], ◌∷◌, ◌++◌, length, Option, Some, None, Result, Ok, Err, ◌⊎◌}
use Rattle.fp_base.specs.declared.place.Place.{Place}
use Rattle.fp_base.specs.declared.place.Span.{Span}
use Rattle.fp_base.specs.declared.refusal.Stop.{Stop}
use Rattle.fp_base.specs.declared.refusal.Stop.TheVariants.{Broken, NoMemory}
use Rattle.fp_base.specs.declared.rule.Rule.{Rule}
use Rattle.fp_base.specs.declared.rule.Rule.TheVariants.{UnexpectedToken, NestingTooDeep, FormLeftOut}
use Rattle.fp_lexer.specs.declared.token.Word.{Word}
use Rattle.fp_lexer.specs.declared.token.Word.TheVariants as word
use Rattle.fp_lexer.specs.declared.token.Token.{Token}
use Rattle.fp_grammar.specs.Grammar.{Grammar, Spells}
use Rattle.fp_grammar.specs.Longest.{IsViable, IsLongestViable}
use Rattle.fp_grammar.specs.Broken.{IsBroken}
use Rattle.fp_parse_pieces.specs.Kinds.{kind}
use Rattle.fp_parse_defs.specs.Reading.{BeginsAt, left_out, limit}

-- of a word that begins members which are left out the number of the reserved word that is tried in its place, which may stand wherever
-- such a member may begin
abbrev pub Probe : Type 0
Probe = Word → Option ℕ

-- the word that is tried, where something else stands
abbrev pub tried_at : ℕ → Span → Token
tried_at tried place = record { what = word.Reserved tried; at = place }

-- all the tokens spell this
abbrev pub SpellsFile : {X : Type 0} → (ℕ → Grammar Token X) → List Token → X → Type 0
SpellsFile g tokens x = Spells kind (g limit) tokens x

-- what stands there behind these tokens stands at the start of a member: the word that is tried could
abbrev pub StartsMember : {X : Type 0} → (ℕ → Grammar Token X) → ℕ → List Token → Span → Type 0
StartsMember g tried before place = IsViable kind (g limit) (before ++ tried_at tried place ∷ [])

-- t begins a member that is left out, where such a member may begin
abbrev pub OpensMember : {X : Type 0} → (ℕ → Grammar Token X) → Probe → List Token → Token → Type 0
OpensMember g probe before t = (tried : ℕ) × (probe t.what ≡ Some tried) × StartsMember g tried before t.at

-- t begins a form that is left out: one of those that may stand anywhere, or a member at the start of a member
abbrev pub BeginsLeftOut : {X : Type 0} → (ℕ → Grammar Token X) → Probe → List Token → Token → Type 0
BeginsLeftOut g probe before t = (left_out t.what ≡ true) ⊎ OpensMember g probe before t

-- with t the tokens begin a file that nests one level deeper than is allowed
abbrev pub GoesTooDeep : {X : Type 0} → (ℕ → Grammar Token X) → List Token → Token → Type 0
GoesTooDeep g before t = IsViable kind (g (limit + 1)) (before ++ t ∷ [])

-- the rule that is broken by what stands behind these tokens
abbrev pub BrokenRule : {X : Type 0} → (ℕ → Grammar Token X) → Probe → List Token → List Token → Rule → Type 0
BrokenRule g probe before [] rule = rule ≡ UnexpectedToken
BrokenRule g probe before (t ∷ rest) rule =
    (GoesTooDeep g before t × (rule ≡ NestingTooDeep)) ⊎
    ((GoesTooDeep g before t → ⊥) × ((BeginsLeftOut g probe before t × (rule ≡ FormLeftOut)) ⊎ ((BeginsLeftOut g probe before t → ⊥) × (rule ≡ UnexpectedToken))))

-- the tokens before this place begin some file, and with the one at this place, or where they end, they don't: this rule is broken there
abbrev pub BreaksFile : {X : Type 0} → (ℕ → Grammar Token X) → Probe → List Token → Rule → Place → Type 0
BreaksFile g probe tokens rule place = (before rest : List Token) × IsBroken kind (g limit) tokens before rest × BeginsAt before rest place × BrokenRule g probe before rest rule

-- why a parse of all the tokens stops: the rule that they break, and where; of want of memory nothing is said
abbrev pub StopsFile : {X : Type 0} → (ℕ → Grammar Token X) → Probe → List Token → Stop → Type 0
StopsFile g probe tokens (Broken refusal) = (refusal.other ≡ None) × BreaksFile g probe tokens refusal.rule refusal.place
StopsFile g probe tokens NoMemory = Unit {0}

-- what a parse of all the tokens answers: what they spell, or why it stops
abbrev pub AnswersFile : {X : Type 0} → (ℕ → Grammar Token X) → Probe → List Token → Result X Stop → Type 0
AnswersFile g probe tokens (Ok x) = SpellsFile g tokens x
AnswersFile g probe tokens (Err stop) = StopsFile g probe tokens stop

-- the longest list of first tokens that begins a spelling ends before the token at to
abbrev pub ReachesTo : {X : Type 0} → Grammar Token X → List Token → ℕ → Type 0
ReachesTo g tokens to = (w : List Token) × IsLongestViable kind g tokens w × (to ≡ length w)
