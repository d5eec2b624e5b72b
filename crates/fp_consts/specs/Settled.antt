-- What a definition gives as its value, from what is found of the expression that is written there.
use Rattle.std.specs.Prelude.{◌≡◌, ◌⊎◌, ℤ, pos, cond, List, [], ◌∷◌, ℕ, Option, Some, None}
use Rattle.fp_base.specs.declared.value.Value.{Value}
use Rattle.fp_tree.specs.declared.source.Source.{Source}
use Rattle.fp_tree.specs.declared.expression.Expr.{Expr}
use Rattle.fp_meaning.specs.Names.{Path, in_constant, in_expression, in_optional, uses_of}
use Rattle.fp_meaning.specs.Origins.{Origin, origin_with, origins_of}
use Rattle.fp_meaning.specs.Values.{number_in, opened, IsImplied, Val}
use Rattle.fp_meaning.specs.declared.item.Item.{Item}
use Rattle.fp_meaning.specs.Sites.{Entry, is_implied}
use Rattle.fp_consts.specs.declared.measured.Measured.{Measured}
use Rattle.fp_consts.specs.Examined.{AreGiven, AreMeasured, GivesValue, plain}

abbrev pub number_within : Option Value → Option ℤ
number_within None = None
number_within (Some v) = number_in v

-- a position counts only where its whole enumeration has no value written
abbrev pub implied_number : Entry → Option ℤ
implied_number e = cond (is_implied e.enumeration) (Some (pos e.position)) None

-- the number of an enumerated constant
abbrev pub NumberIs : Source → Entry → ℤ → Type 0
NumberIs source e n =
    ((x : Expr) × (u : Value) × (e.constant.value ≡ Some x) × Val source e.scope (opened x) u × (number_in u ≡ Some n))
    ⊎ ((e.constant.value ≡ None) × IsImplied e.enumeration × (n ≡ pos e.position))

pub record IsNumber (source : Source) (e : Entry) (o : Option ℤ) : Type 0 where
  pub holds : (n : ℤ) → o ≡ Some n → NumberIs source e n
  pub only : (n : ℤ) → NumberIs source e n → o ≡ Some n

-- it is the value, if there is one
pub record IsSettled (source : Source) (origin : Origin) (o : Option Measured) : Type 0 where
  pub measured : AreMeasured o
  pub holds : (v : Value) → plain o ≡ Some v → GivesValue source origin v
  pub only : (v : Value) → GivesValue source origin v → plain o ≡ Some v

-- where the meanings and values of its uses are given, what is settled is right
abbrev pub Numbers : List (Option Measured) → List ℕ → Entry → ℕ → Option ℤ → Type 0
Numbers table numbers e from o = (source : Source) → AreGiven source table numbers (in_constant e.scope e.constant) from → IsNumber source e o

abbrev pub SettlesWith : List (Option Measured) → List ℕ → Option Expr → ℕ → Option Measured → Type 0
SettlesWith table numbers value from o =
    (source : Source) (scope : Path) → AreGiven source table numbers (in_optional (in_expression scope) value) from → IsSettled source (origin_with scope value) o

abbrev pub Settles : List (Option Measured) → List ℕ → Item → ℕ → Option Measured → Type 0
Settles table numbers item from o =
    (source : Source) (origin : Origin) → origins_of item ≡ origin ∷ [] → AreGiven source table numbers (uses_of item) from → IsSettled source origin o
