-- Languages that are read in steps, with what was read so far in hand: a state says which piece may come next, and a piece leads to the
-- next state, or to the node and the end. What nests without a limit is such a language, where the state holds what is open.
use Rattle.std.specs.Prelude.{◌≡◌, ℕ, true, not, List, ◌++◌}
use Rattle.fp_grammar.specs.Grammar.{Grammar, Spells}
use Rattle.fp_grammar.specs.Grammar.Grammar.{ref}
use Rattle.fp_grammar.specs.Sets.{nullable, first, extends, disjoint, subset}
use Rattle.fp_grammar.specs.Promises.{Fits}

-- what a piece leads to
pub data Next (S X : Type 0) : Type 0 where
  on : S → Next S X
  ends : X → Next S X

-- S is the type of the states, Y that of the pieces' nodes, X that of the whole's
pub record Steps (T S Y X : Type 0) : Type 1 where
  pub piece : S → Grammar T Y
  pub leads : S → Y → Next S X

-- from this state on: a last piece, or a piece and then more from the state that it leads to
pub data SpellsFrom {T S Y X : Type 0} (kind : T → ℕ) (steps : Steps T S Y X) : S → List T → X → Type 0 where
  last : (s : S) (w : List T) (y : Y) (x : X) → Spells kind (steps.piece s) w y → steps.leads s y ≡ ends x → SpellsFrom kind steps s w x
  more : (s s' : S) (w u v : List T) (y : Y) (x : X) → w ≡ u ++ v → Spells kind (steps.piece s) u y → steps.leads s y ≡ on s' → SpellsFrom kind steps s' v x → SpellsFrom kind steps s w x

-- the same as a nonterminal, where nothing but tokens of the kinds in over extends a piece
abbrev pub from_state : {T S Y X : Type 0} → (T → ℕ) → Steps T S Y X → List ℕ → S → Grammar T X
from_state kind steps over s = ref (record { spells = SpellsFrom kind steps s; productive = true; first = first (steps.piece s); extends = over })

-- what a parser in steps rests on: each piece fits, one token of lookahead is enough between pieces, and from each state there is a way to
-- an end
pub record Driven {T S Y X : Type 0} (kind : T → ℕ) (steps : Steps T S Y X) (over : List ℕ) : Type 0 where
  pub fits : (s : S) → Fits kind (steps.piece s)
  pub filled : (s : S) → not (nullable (steps.piece s)) ≡ true
  pub extended : (s : S) → subset (extends (steps.piece s)) over ≡ true
  pub apart : (s : S) → disjoint over (first (steps.piece s)) ≡ true
  pub spelling : (s : S) → (w : List T) × (x : X) × SpellsFrom kind steps s w x
