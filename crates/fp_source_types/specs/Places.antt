-- Where the names of types and what stands behind `default` in them begin.
use Rattle.std.specs.Prelude.{List, [], map, Option, Some, None}
use Rattle.fp_base.specs.declared.place.Place.{Place}
use Rattle.fp_tree.specs.declared.definition.Def.{Def}
use Rattle.fp_tree.specs.declared.expression.Expr.{Expr}
use Rattle.fp_meaning.specs.declared.item.Item.{Item}
use Rattle.fp_meaning.specs.declared.item.Item.TheVariants as item
use Rattle.fp_type_forms.specs.Written.{TypeHere, types_in}

abbrev pub name_place : TypeHere → Place
name_place t = t.name.at.first

-- at the expression, and at the name where there is none
abbrev pub behind_default : Place → Option Expr → Place
behind_default name None = name
behind_default name (Some e) = e.at.first

abbrev pub default_place : TypeHere → Place
default_place t = behind_default t.name.at.first t.default

-- of the type that a definition gives, in whatever scope
abbrev pub place_in : (TypeHere → Place) → Def → List Place
place_in place d = map place (types_in [] d)

abbrev pub places_of : (TypeHere → Place) → Item → List Place
places_of place (item.Defined s) = place_in place s.definition
places_of place (item.Enumerated e) = []
places_of place (item.Declared d) = []
places_of place (item.Used since n) = []
places_of place (item.Written since p) = []
