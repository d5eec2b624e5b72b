-- The expressions of a source, in source order, and what gives each definition its value: what its items have written. FPP Language
-- Specification, "Constant Definitions", "Enum Definitions", "Expressions".
use Rattle.std.specs.Prelude.{ℕ, List, [], ◌∷◌, flat_map, Option, Some, None}
use Rattle.fp_tree.specs.declared.source.Source.{Source}
use Rattle.fp_tree.specs.declared.definition.Enum.{Enum}
use Rattle.fp_tree.specs.declared.expression.Expr.{Expr}
use Rattle.fp_tree.specs.declared.part.EnumConst.{EnumConst}
use Rattle.fp_meaning.specs.declared.item.Item.{Item}
use Rattle.fp_meaning.specs.declared.item.Item.TheVariants as item
use Rattle.fp_meaning.specs.Sites.{Path, in_optional, value_in}
use Rattle.fp_meaning.specs.Layout.{items}
pub use Rattle.fp_meaning.specs.Sites.{Placed, placed}

abbrev pub one : Path → Expr → List Placed
one scope e = placed scope e ∷ []

-- the whole expressions, those inside another left out
abbrev pub expressions_of : Item → List Placed
expressions_of (item.Defined s) = in_optional (one s.scope) (value_in s.definition)
expressions_of (item.Enumerated e) = in_optional (one e.scope) e.constant.value
expressions_of (item.Declared d) = []
expressions_of (item.Used since n) = []
expressions_of (item.Written since p) = placed p.scope p.expression ∷ []

-- in the order of the uses
abbrev pub expressions : Source → List Placed
expressions source = flat_map expressions_of (items source)

-- what gives a definition its value: the expression of a constant; of an enumerated constant its enumeration, its position in it, counted
-- from 0, and what is written there, all in the scope of the enumeration; other definitions have none
pub data Origin : Type 0 where
  Constant : Path → Expr → Origin
  Enumerated : Path → Enum → ℕ → EnumConst → Origin
  NoValue : Origin

abbrev pub origin_with : Path → Option Expr → Origin
origin_with scope None = NoValue
origin_with scope (Some e) = Constant scope e

abbrev pub origins_of : Item → List Origin
origins_of (item.Defined s) = origin_with s.scope (value_in s.definition) ∷ []
origins_of (item.Enumerated e) = Enumerated e.scope e.enumeration e.position e.constant ∷ []
origins_of (item.Declared d) = NoValue ∷ []
origins_of (item.Used since n) = []
origins_of (item.Written since p) = []

-- one for each definition, in the order of the definitions
abbrev pub origins : Source → List Origin
origins source = flat_map origins_of (items source)

abbrev pub placed_optional : Path → Option Expr → Option Placed
placed_optional scope None = None
placed_optional scope (Some e) = Some (placed scope e)

-- the expression that is written there
abbrev pub written_in : Origin → Option Placed
written_in (Constant scope e) = Some (placed scope e)
written_in (Enumerated scope e position c) = placed_optional scope c.value
written_in NoValue = None
