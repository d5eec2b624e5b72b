-- The rules that what belongs to components, interfaces, machines, instances and topologies breaks, each part by itself: its type names and
-- its numbers. A rule that needs a value isn't broken where there is none. FPP Language Specification, "Type Names", "Expressions".
use Rattle.std.specs.Prelude.{List}
use Rattle.fp_base.specs.declared.refusal.Refusal.{Refusal}
use Rattle.fp_base.specs.Least.{Either, InSome}
use Rattle.fp_tree.specs.declared.expression.Expr.{Expr}
use Rattle.fp_tree.specs.declared.source.Source.{Source}
use Rattle.fp_tree.specs.declared.type_name.TypeName.{TypeName}
use Rattle.fp_meaning.specs.declared.item.Item.{Item}
use Rattle.fp_meaning.specs.declared.item.Item.TheVariants as item
use Rattle.fp_meaning.specs.Layout.{component_scope, items}
use Rattle.fp_meaning.specs.Sites.{Path, ModelDef, machine, component, interface, instance, topology}
use Rattle.fp_type_forms.specs.Broken.{BrokenByName, IsNoNumber}
use Rattle.fp_part_values.specs.Names.{type_names_of}
use Rattle.fp_part_values.specs.Numbers.{numbers_of}

-- the scope in which the names are looked up that belong to a definition
abbrev pub scope_inside : Path → ModelDef → Path
scope_inside scope (component d) = component_scope scope d
scope_inside scope (machine d) = scope
scope_inside scope (interface d) = scope
scope_inside scope (instance d) = scope
scope_inside scope (topology d) = scope

module _ (source : Source) (scope : Path) where
  -- one of these names is that of a float type, or names a string of a bad size, or one of these expressions has a value that is no number
  abbrev pub BrokenAmong : List TypeName → List Expr → Refusal → Type 0
  BrokenAmong names numbers = Either (InSome (λ k. BrokenByName source scope) names) (InSome (λ k. IsNoNumber source scope) numbers)

abbrev pub BrokenByDeclared : Source → Path → ModelDef → Refusal → Type 0
BrokenByDeclared source scope d = BrokenAmong source (scope_inside scope d) (type_names_of d) (numbers_of d)

abbrev pub BrokenByDeclaration : Source → Item → Refusal → Type 0
BrokenByDeclaration source (item.Declared d) = BrokenByDeclared source d.scope d.definition
BrokenByDeclaration source _ = λ f. ⊥

-- in all definitions of a source beside those of constants, types and ports
abbrev pub PartFormsBroken : Source → Refusal → Type 0
PartFormsBroken source = InSome (λ k. BrokenByDeclaration source) (items source)
