-- What a parse from a position on answers: the longest list of tokens that begins some spelling, and what it spells; else the rule
-- that the token after it breaks.
use Rattle.std.specs.Prelude.{◌≡◌, ℕ, ◌+◌, ◌==◌, ◌||◌, List, [], ◌∷◌, ◌++◌, length, take, drop, Bool, false, cond, Option, Some, None, Result, Ok, Err, ◌⊎◌}
use Rattle.fp_base.specs.declared.place.Place.{Place}
use Rattle.fp_base.specs.declared.refusal.Stop.{Stop}
use Rattle.fp_base.specs.declared.refusal.Stop.TheVariants.{Broken, NoMemory}
use Rattle.fp_base.specs.declared.rule.Rule.{Rule}
use Rattle.fp_base.specs.declared.rule.Rule.TheVariants.{UnexpectedToken, NestingTooDeep, FormLeftOut}
use Rattle.fp_lexer.specs.Words.{reserved}
use Rattle.fp_lexer.specs.declared.token.Word.{Word}
use Rattle.fp_lexer.specs.declared.token.Word.TheVariants as word
use Rattle.fp_lexer.specs.declared.token.Token.{Token}
use Rattle.fp_grammar.specs.Grammar.{Grammar, Spells}
use Rattle.fp_grammar.specs.Longest.{IsLongestViable, IsViable}
use Rattle.fp_parse_pieces.specs.Kinds.{kind}

-- how deep expressions nest at most
abbrev pub limit : ℕ
limit = 64

-- where the rest begins: at its first token; where no token is left, directly after the last one
abbrev pub BeginsAt : List Token → List Token → Place → Type 0
BeginsAt before (t ∷ rest) place = place ≡ t.at.first
BeginsAt before [] place = (front : List Token) × (t : Token) × (before ≡ front ++ t ∷ []) × (place ≡ t.at.past)

-- a word that begins a form of the language which is left out, wherever it stands
abbrev pub left_out : Word → Bool
left_out (word.Reserved r) = r == reserved "container" || (r == reserved "dictionary" || (r == reserved "every" || (r == reserved "external" || (r == reserved "packets" || (r == reserved "product" || (r == reserved "record" || r == reserved "serial"))))))
left_out _ = false

-- the rule that a token breaks which can't stand where it stands: it begins a form of the language that is left out, or not
abbrev pub unexpected : List Token → Rule
unexpected [] = UnexpectedToken
unexpected (t ∷ rest) = cond (left_out t.what) FormLeftOut UnexpectedToken

-- with the token after w the tokens begin what nests one level deeper than is allowed
abbrev pub Deeper : {X : Type 0} → (ℕ → Grammar Token X) → List Token → List Token → Type 0
Deeper g rest w = (t : Token) × (s : List Token) × (rest ≡ w ++ t ∷ s) × IsViable kind (g (limit + 1)) (w ++ t ∷ [])

-- the rule that the token after w breaks
abbrev pub BreaksRule : {X : Type 0} → (ℕ → Grammar Token X) → List Token → List Token → List Token → Rule → Type 0
BreaksRule {X = X} g rest w later rule = (Deeper g rest w × (rule ≡ NestingTooDeep)) ⊎ ((Deeper g rest w → ⊥) × ((x : X) → Spells kind (g limit) w x → ⊥) × (rule ≡ unexpected later))

-- what a parse of tokens from a position on answers, by the grammar at each depth of nesting
abbrev pub AnswersNode : {X : Type 0} → (ℕ → Grammar Token X) → List Token → ℕ → Result (X × ℕ) Stop → Type 0
AnswersNode g tokens from (Ok p) = (w : List Token) × IsLongestViable kind (g limit) (drop from tokens) w × Spells kind (g limit) w p.0 × (p.1 ≡ from + length w) × (Deeper g (drop from tokens) w → ⊥)
AnswersNode g tokens from (Err (Broken r)) = (w : List Token) × IsLongestViable kind (g limit) (drop from tokens) w × BeginsAt (take (from + length w) tokens) (drop (from + length w) tokens) r.place × (r.other ≡ None) × BreaksRule g (drop from tokens) w (drop (from + length w) tokens) r.rule
AnswersNode g tokens from (Err NoMemory) = Unit {0}

-- the node that the list spells, or that it spells none
abbrev pub NodeOf : {X : Type 0} → Grammar Token X → List Token → Option X → Type 0
NodeOf g w (Some x) = Spells kind g w x
NodeOf {X = X} g w None = (x : X) → Spells kind g w x → ⊥

-- the longest list that begins some spelling ends before the token at to
abbrev pub Reads : {X : Type 0} → Grammar Token X → List Token → ℕ → Option X → ℕ → Type 0
Reads g tokens from node to = (w : List Token) × IsLongestViable kind g (drop from tokens) w × (to ≡ from + length w) × NodeOf g w node
