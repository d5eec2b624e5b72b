-- The sets of a grammar, computed by recursion on it, and the test that the next token, in a choice the next two, are enough.
use Rattle.std.specs.Prelude.{ℕ, Bool, true, false, not, List, [], ◌∷◌, ◌++◌, nat_eq, ◌&&◌, ◌||◌}
use Rattle.fp_grammar.specs.Grammar.{Grammar}
use Rattle.fp_grammar.specs.Grammar.Grammar.{token, one_of, seq, map, with_tokens, alt, optional, many, alternating, chain, separated, separated_tail, ref}

-- the list if the test is true
abbrev pub when : Bool → List ℕ → List ℕ
when true ks = ks
when false ks = []

-- whether a number is in a list
abbrev pub member : ℕ → List ℕ → Bool
member k [] = false
member k (j ∷ js) = nat_eq k j || member k js

-- whether no number is in both
abbrev pub disjoint : List ℕ → List ℕ → Bool
disjoint [] ks = true
disjoint (j ∷ js) ks = not (member j ks) && disjoint js ks

-- whether each of the first is among the second
abbrev pub subset : List ℕ → List ℕ → Bool
subset [] ks = true
subset (j ∷ js) ks = member j ks && subset js ks

-- whether there are any
abbrev pub some_in : List ℕ → Bool
some_in [] = false
some_in (k ∷ ks) = true

-- the empty list is a spelling
abbrev pub nullable : {T X : Type 0} → Grammar T X → Bool
nullable (token k) = false
nullable (one_of ks) = false
nullable (seq a b) = nullable a && nullable b
nullable (map f a) = nullable a
nullable (with_tokens a) = nullable a
nullable (alt a b) = false
nullable (optional a) = true
nullable (many a) = true
nullable (alternating a b) = true
nullable (chain a b allows build) = nullable a && true
nullable (separated a seps) = true
nullable (separated_tail a seps) = true
nullable (ref n) = false

-- there is a spelling
abbrev pub productive : {T X : Type 0} → Grammar T X → Bool
productive (token k) = true
productive (one_of ks) = some_in ks
productive (seq a b) = productive a && productive b
productive (map f a) = productive a
productive (with_tokens a) = productive a
productive (alt a b) = productive a || productive b
productive (optional a) = true
productive (many a) = true
productive (alternating a b) = true
productive (chain a b allows build) = productive a && true
productive (separated a seps) = true
productive (separated_tail a seps) = true
productive (ref n) = n.productive

-- the kinds of the tokens that spellings begin with
abbrev pub first : {T X : Type 0} → Grammar T X → List ℕ
first (token k) = k ∷ []
first (one_of ks) = ks
first (seq a b) = first a ++ when (nullable a) (first b)
first (map f a) = first a
first (with_tokens a) = first a
first (alt a b) = first a ++ first b
first (optional a) = first a
first (many a) = first a
first (alternating a b) = first a
first (chain a b allows build) = first a ++ when (nullable a) (first b)
first (separated a seps) = first a
first (separated_tail a seps) = seps
first (ref n) = n.first

-- the kinds of the tokens that continue a complete spelling to a longer one
abbrev pub extends : {T X : Type 0} → Grammar T X → List ℕ
extends (token k) = []
extends (one_of ks) = []
extends (seq a b) = extends b ++ when (nullable b) (extends a)
extends (map f a) = extends a
extends (with_tokens a) = extends a
extends (alt a b) = extends a ++ extends b
extends (optional a) = extends a ++ first a
extends (many a) = extends a ++ first a
extends (alternating a b) = (extends a ++ first b) ++ (extends b ++ first a)
extends (chain a b allows build) = (extends b ++ first b) ++ extends a
extends (separated a seps) = extends a ++ (first a ++ seps)
extends (separated_tail a seps) = extends a ++ (first a ++ seps)
extends (ref n) = n.extends

-- the numbers of the first that are in the second too
abbrev pub shared : List ℕ → List ℕ → List ℕ
shared [] ks = []
shared (j ∷ js) ks = when (member j ks) (j ∷ []) ++ shared js ks

-- whether the first two tokens of its spellings can be told from the grammar: no list and no nonterminal stands there
abbrev pub is_plain : {T X : Type 0} → Grammar T X → Bool
is_plain (token k) = true
is_plain (one_of ks) = true
is_plain (seq a b) = is_plain a && (not (nullable a) || is_plain b)
is_plain (map f a) = is_plain a
is_plain (with_tokens a) = is_plain a
is_plain (alt a b) = is_plain a && is_plain b
is_plain (optional a) = is_plain a
is_plain (many a) = false
is_plain (alternating a b) = false
is_plain (chain a b allows build) = false
is_plain (separated a seps) = false
is_plain (separated_tail a seps) = false
is_plain (ref n) = false

-- whether one token of one of these kinds is a spelling
abbrev pub alone : {T X : Type 0} → List ℕ → Grammar T X → Bool
alone ks (token k) = member k ks
alone ks (one_of js) = not (disjoint js ks)
alone ks (seq a b) = (alone ks a && nullable b) || (nullable a && alone ks b)
alone ks (map f a) = alone ks a
alone ks (with_tokens a) = alone ks a
alone ks (alt a b) = alone ks a || alone ks b
alone ks (optional a) = alone ks a
alone ks (many a) = true
alone ks (alternating a b) = true
alone ks (chain a b allows build) = true
alone ks (separated a seps) = true
alone ks (separated_tail a seps) = true
alone ks (ref n) = true

-- the kinds of the second tokens of spellings that begin with a token of one of these kinds
abbrev pub seconds : {T X : Type 0} → List ℕ → Grammar T X → List ℕ
seconds ks (token k) = []
seconds ks (one_of js) = []
seconds ks (seq a b) = (seconds ks a ++ when (alone ks a) (first b)) ++ when (nullable a) (seconds ks b)
seconds ks (map f a) = seconds ks a
seconds ks (with_tokens a) = seconds ks a
seconds ks (alt a b) = seconds ks a ++ seconds ks b
seconds ks (optional a) = seconds ks a
seconds ks (many a) = []
seconds ks (alternating a b) = []
seconds ks (chain a b allows build) = []
seconds ks (separated a seps) = []
seconds ks (separated_tail a seps) = []
seconds ks (ref n) = []

-- whether the second token tells the two apart, behind a first one of each of these kinds
abbrev pub apart_behind : {T X Y : Type 0} → List ℕ → Grammar T X → Grammar T Y → Bool
apart_behind [] a b = true
apart_behind (k ∷ ks) a b = not (alone (k ∷ []) a) && (not (alone (k ∷ []) b) && (disjoint (seconds (k ∷ []) a) (seconds (k ∷ []) b) && apart_behind ks a b))

-- whether the first two tokens tell the two apart
abbrev pub apart : {T X Y : Type 0} → Grammar T X → Grammar T Y → Bool
apart a b = disjoint (first a) (first b) || (is_plain a && (is_plain b && apart_behind (shared (first a) (first b)) a b))

-- two tokens of lookahead are enough where a choice stands, and one elsewhere
abbrev pub is_predictive : {T X : Type 0} → Grammar T X → Bool
is_predictive (token k) = true
is_predictive (one_of ks) = true
is_predictive (seq a b) = is_predictive a && (is_predictive b && disjoint (extends a) (first b))
is_predictive (map f a) = is_predictive a
is_predictive (with_tokens a) = is_predictive a
is_predictive (alt a b) = is_predictive a && (is_predictive b && (not (nullable a) && (not (nullable b) && apart a b)))
is_predictive (optional a) = is_predictive a && not (nullable a)
is_predictive (many a) = is_predictive a && (not (nullable a) && disjoint (extends a) (first a))
is_predictive (alternating a b) = is_predictive a && (is_predictive b && (not (nullable a) && (not (nullable b) && (disjoint (extends a) (first b) && disjoint (extends b) (first a)))))
is_predictive (chain a b allows build) = is_predictive a && ((is_predictive b && (not (nullable b) && disjoint (extends b) (first b))) && disjoint (extends a) (first b))
is_predictive (separated a seps) = is_predictive a && (not (nullable a) && disjoint (extends a) seps)
is_predictive (separated_tail a seps) = is_predictive a && (not (nullable a) && disjoint (extends a) seps)
is_predictive (ref n) = true
