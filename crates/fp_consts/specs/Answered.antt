-- What `evaluate` answers.
use Rattle.std.specs.Prelude.{◌≡◌, ℕ, ◌⊎◌, List, length, slice_get, Option, Some, unwrap_or}
use Rattle.fp_base.specs.declared.value.Value.{Value, Opaque}
use Rattle.fp_tree.specs.declared.source.Source.{Source}
use Rattle.fp_meaning.specs.Origins.{Placed}
use Rattle.fp_meaning.specs.Values.{opened, Val}

-- the expression's value; where it has none, `Opaque`, which no production makes: a later phase reads it as missing
abbrev pub StandsFor : Source → Placed → Value → Type 0
StandsFor source p v =
    Val source p.scope (opened p.expression) v ⊎ ((v ≡ Opaque) × ((w : Value) → Val source p.scope (opened p.expression) w → ⊥))

-- one value for each expression
pub record StandFor (source : Source) (ps : List Placed) (vs : List Value) : Type 0 where
  pub each : length vs ≡ length ps
  pub exact : (k : ℕ) (p : Placed) (v : Value) → slice_get ps k ≡ Some p → slice_get vs k ≡ Some v → StandsFor source p v

abbrev pub or_opaque : Option Value → Value
or_opaque o = unwrap_or o Opaque
