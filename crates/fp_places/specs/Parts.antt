-- The names that stand in expressions, types and definitions, in source order: those of definitions and of their parts, and those in uses.
-- FPP Language Specification, "Definitions", "Expressions" and "Type Names".
use Rattle.std.specs.Prelude.{List, [], ◌∷◌, ◌++◌, flat_map}
use Rattle.fp_tree.specs.declared.name.Name.{Name}
use Rattle.fp_tree.specs.declared.expression.Expr.{Expr, Expr-F, fold-Expr}
use Rattle.fp_tree.specs.declared.expression.Form.{Form, Form-F, fold-Form}
use Rattle.fp_tree.specs.declared.expression.Form.TheOpen as form
use Rattle.fp_tree.specs.declared.expression.Assignment.{Assignment, Assignment-F, fold-Assignment}
use Rattle.fp_tree.specs.declared.type_name.TypeName.{TypeName}
use Rattle.fp_tree.specs.declared.type_name.TypeForm.{TypeForm}
use Rattle.fp_tree.specs.declared.type_name.TypeForm.TheVariants as type
use Rattle.fp_tree.specs.declared.part.EnumConst.{EnumConst}
use Rattle.fp_tree.specs.declared.part.Field.{Field}
use Rattle.fp_tree.specs.declared.part.Formal.{Formal}
use Rattle.fp_tree.specs.declared.definition.Def.{Def}
use Rattle.fp_tree.specs.declared.definition.Def.TheVariants as def
use Rattle.fp_meaning.specs.Names.{in_optional}

abbrev pub names_of_form : Form-F (List Name) (List Name) (List Name) → List Name
names_of_form (form.Use name) = name.names
names_of_form (form.Minus operand) = operand
names_of_form (form.Parentheses inner) = inner
names_of_form (form.Binary operator left right) = left ++ right
names_of_form (form.Array items) = flat_map (λ names. names) items
names_of_form (form.Struct members) = flat_map (λ names. names) members
names_of_form _ = []

abbrev pub names_of_assignment : Assignment-F (List Name) (List Name) (List Name) → List Name
names_of_assignment a = a.name ∷ a.value

abbrev pub names_of_expression : Expr-F (List Name) (List Name) (List Name) → List Name
names_of_expression e = e.form

abbrev pub names_in_expression : Expr → List Name
names_in_expression e = fold-Expr (List Name) (List Name) (List Name) names_of_form names_of_assignment names_of_expression e

abbrev pub names_in_form : Form → List Name
names_in_form f = fold-Form (List Name) (List Name) (List Name) names_of_form names_of_assignment names_of_expression f

abbrev pub names_in_assignment : Assignment → List Name
names_in_assignment a = fold-Assignment (List Name) (List Name) (List Name) names_of_form names_of_assignment names_of_expression a

abbrev pub names_in_type_form : TypeForm → List Name
names_in_type_form (type.Text size) = in_optional names_in_expression size
names_in_type_form (type.Use name) = name.names
names_in_type_form _ = []

abbrev pub names_in_type : TypeName → List Name
names_in_type t = names_in_type_form t.form

abbrev pub names_in_field : Field → List Name
names_in_field f = f.name ∷ (in_optional names_in_expression f.size ++ names_in_type f.of)

abbrev pub names_in_constant : EnumConst → List Name
names_in_constant c = c.name ∷ in_optional names_in_expression c.value

abbrev pub names_in_formal : Formal → List Name
names_in_formal f = f.name ∷ names_in_type f.of

abbrev pub names_in_definition : Def → List Name
names_in_definition (def.Constant d) = d.name ∷ names_in_expression d.value
names_in_definition (def.Abstract d) = d.name ∷ []
names_in_definition (def.Alias d) = d.name ∷ names_in_type d.target
names_in_definition (def.Array d) = d.name ∷ (names_in_expression d.size ++ names_in_type d.element ++ in_optional names_in_expression d.default)
names_in_definition (def.Struct d) = d.name ∷ (flat_map names_in_field d.fields ++ in_optional names_in_expression d.default)
names_in_definition (def.Enum d) = d.name ∷ (in_optional names_in_type d.repr ++ flat_map names_in_constant d.constants ++ in_optional names_in_expression d.default)
names_in_definition (def.Port d) = d.name ∷ (flat_map names_in_formal d.formals ++ in_optional names_in_type d.result)
