-- What the sets of a grammar promise of its language.
use Rattle.std.specs.Prelude.{◌≡◌, ℕ, Bool, true, false, List, [], ◌∷◌, ◌++◌}
use Rattle.fp_grammar.specs.Grammar.{Language, Grammar, Among}
use Rattle.fp_grammar.specs.Grammar.Grammar.{token, one_of, seq, map, with_tokens, alt, optional, many, alternating, chain, separated, separated_tail, ref}
use Rattle.fp_grammar.specs.Sets.{is_predictive, productive}

-- the sets hold what they are to hold, and a token list spells at most one node
pub record IsGood {T X : Type 0} (kind : T → ℕ) (language : Language T X) (null some : Bool) (begins goes_on : List ℕ) : Type 0 where
  pub spelling : some ≡ true → (w : List T) × (x : X) × language w x
  pub empty : (x : X) → language [] x → null ≡ true
  pub begin : (t : T) (w : List T) (x : X) → language (t ∷ w) x → Among (kind t) begins
  pub extend : (u : List T) (t : T) (w : List T) (x y : X) → language u x → language (u ++ t ∷ w) y → Among (kind t) goes_on
  pub unique : (w : List T) (x y : X) → language w x → language w y → x ≡ y

-- there are tokens of each kind
pub record HasEachKind {T : Type 0} (kind : T → ℕ) : Type 0 where
  pub example : (k : ℕ) → (t : T) × (kind t ≡ k)

-- there are tokens of each kind, and each nonterminal keeps what its sets promise
abbrev pub RefsGood : {T X : Type 0} → (T → ℕ) → Grammar T X → Type 0
RefsGood kind (token k) = HasEachKind kind
RefsGood kind (one_of ks) = HasEachKind kind
RefsGood kind (seq a b) = RefsGood kind a × RefsGood kind b
RefsGood kind (map f a) = RefsGood kind a
RefsGood kind (with_tokens a) = RefsGood kind a
RefsGood kind (alt a b) = RefsGood kind a × RefsGood kind b
RefsGood kind (optional a) = RefsGood kind a
RefsGood kind (many a) = RefsGood kind a
RefsGood kind (alternating a b) = RefsGood kind a × RefsGood kind b
RefsGood kind (chain a b allows build) = RefsGood kind a × RefsGood kind b
RefsGood kind (separated a seps) = RefsGood kind a
RefsGood kind (separated_tail a seps) = RefsGood kind a
RefsGood kind (ref n) = IsGood kind n.spells false n.productive n.first n.extends

-- what a parser rests on that looks at the next token, and in a choice at the next two
pub record Fits {T X : Type 0} (kind : T → ℕ) (g : Grammar T X) : Type 0 where
  pub predictive : is_predictive g ≡ true
  pub some : productive g ≡ true
  pub refs : RefsGood kind g
