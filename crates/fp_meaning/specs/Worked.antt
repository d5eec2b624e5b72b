-- A source that was laid out by hand, `module M { constant a = X, enum E : T { A = Y, B } default Z }` for any expressions X, Y and Z, and
-- what it defines, uses and has written. Its places are all one.
use Rattle.std.specs.Prelude.{List, [], ◌∷◌, ◌++◌, codes, Some, None}
use Prim.Native.String.{String}
use Rattle.fp_base.specs.declared.place.Span.{Span}
use Rattle.fp_tree.specs.declared.source.Source.{Source}
use Rattle.fp_tree.specs.declared.name.Name.{Name}
use Rattle.fp_tree.specs.declared.expression.Expr.{Expr}
use Rattle.fp_tree.specs.declared.type_name.TypeForm.TheVariants as type
use Rattle.fp_tree.specs.declared.part.EnumConst.{EnumConst}
use Rattle.fp_tree.specs.declared.definition.Enum.{Enum}
use Rattle.fp_tree.specs.declared.definition.Def.{Def}
use Rattle.fp_tree.specs.declared.definition.Def.TheVariants as def
use Rattle.fp_tree.specs.declared.member.Member.TheVariants as member
use Rattle.fp_meaning.specs.declared.group.Group.TheVariants.{Kind, Value}
use Rattle.fp_meaning.specs.declared.names.Definition.{Definition}
use Rattle.fp_meaning.specs.declared.names.Mention.{Mention}
use Rattle.fp_meaning.specs.Names.{Path, in_expression}
use Rattle.fp_meaning.specs.Origins.{Placed, Origin, Constant, Enumerated, NoValue}

abbrev pub inside : Path
inside = codes "M" ∷ []

module _ (at : Span) (x y z : Expr) where
  abbrev pub called : String → Name
  called text = record { text = codes text; at = at }

  abbrev pub first : EnumConst
  first = record { name = called "A"; value = Some y; at = at; note = [] }

  abbrev pub second : EnumConst
  second = record { name = called "B"; value = None; at = at; note = [] }

  abbrev pub enumeration : Enum
  enumeration = record {
    name = called "E";
    repr = Some (record { form = type.Use (record { names = called "T" ∷ []; at = at }); at = at });
    constants = first ∷ second ∷ [];
    default = Some z;
    at = at;
    note = [];
  }

  abbrev pub constant : Def
  constant = def.Constant (record { name = called "a"; value = x; at = at; note = [] })

  abbrev pub source : Source
  source = record {
    names = [];
    units = record { members = member.Module (record { name = called "M"; members = member.Def constant ∷ member.Def (def.Enum enumeration) ∷ []; at = at; note = [] }) ∷ [] } ∷ [];
  }

  abbrev pub its_definitions : List Definition
  its_definitions =
      record { group = Value; name = codes "M" ∷ codes "a" ∷ []; place = at.first }
      ∷ record { group = Kind; name = codes "M" ∷ codes "E" ∷ []; place = at.first }
      ∷ record { group = Value; name = codes "M" ∷ codes "E" ∷ codes "A" ∷ []; place = at.first }
      ∷ record { group = Value; name = codes "M" ∷ codes "E" ∷ codes "B" ∷ []; place = at.first }
      ∷ []

  abbrev pub its_mentions : List Mention
  its_mentions =
      in_expression inside x
      ++ (record { group = Kind; scope = inside; name = codes "T" ∷ []; place = at.first } ∷ (in_expression inside y ++ (in_expression inside z ++ [])))

  abbrev pub its_expressions : List Placed
  its_expressions = record { scope = inside; expression = x } ∷ record { scope = inside; expression = y } ∷ record { scope = inside; expression = z } ∷ []

  abbrev pub its_origins : List Origin
  its_origins = Constant inside x ∷ NoValue ∷ Enumerated inside enumeration 0 first ∷ Enumerated inside enumeration 1 second ∷ []
