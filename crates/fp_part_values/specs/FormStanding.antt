-- What stands of what belongs to a definition, where its names and numbers break no rule. FPP Language Specification, "Type Names",
-- "Expressions".
use Rattle.std.specs.Prelude.{◌≡◌, ℕ, ℤ, Some, slice_get}
use Rattle.fp_base.specs.declared.value.Value.{Value}
use Rattle.fp_tables.specs.declared.kind.Kind.{Kind}
use Rattle.fp_tree.specs.declared.expression.Expr.{Expr}
use Rattle.fp_tree.specs.declared.source.Source.{Source}
use Rattle.fp_tree.specs.declared.type_name.TypeName.{TypeName}
use Rattle.fp_meaning.specs.Origins.{Placed, expressions}
use Rattle.fp_meaning.specs.Sites.{Path, ModelDef}
use Rattle.fp_meaning.specs.Values.{Val, opened}
use Rattle.fp_type_forms.specs.Written.{KindIs, NumberIs}
use Rattle.fp_part_values.specs.FormBroken.{scope_inside}
use Rattle.fp_part_values.specs.Names.{type_names_of}
use Rattle.fp_part_values.specs.Numbers.{numbers_of}

-- each expression has a value
abbrev pub AreValued : Source → Type 0
AreValued source = (k : ℕ) (p : Placed) → slice_get (expressions source) k ≡ Some p → (v : Value) × Val source p.scope (opened p.expression) v

module _ (source : Source) (scope : Path) (d : ModelDef) where
  -- each type name names a type
  abbrev pub NamesStand : Type 0
  NamesStand = (k : ℕ) (t : TypeName) → slice_get (type_names_of d) k ≡ Some t → (kind : Kind) × KindIs source (scope_inside scope d) t.form kind

  -- each expression in whose place a number is wanted, and which has a value, has a number
  abbrev pub NumbersStand : Type 0
  NumbersStand =
      (k : ℕ) (e : Expr) → slice_get (numbers_of d) k ≡ Some e → (v : Value) → Val source (scope_inside scope d) (opened e) v
      → (n : ℤ) × NumberIs source (scope_inside scope d) e n
