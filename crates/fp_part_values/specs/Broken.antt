-- The rules that the values in parts of components break which convert to types, and where each is broken: the defaults of parameters, and
-- the limits of channels. A limit is a number, and where the channel has an integer type it is one that the type has; a limit of any other
-- type is another rule's. A rule that needs a value or a type isn't broken where there is none.
-- FPP Language Specification, "Parameter Specifiers", "Telemetry Channel Specifiers", "Type Conversion".
use Rattle.std.specs.Prelude.{ℤ, List}
use Rattle.fp_base.specs.declared.refusal.Refusal.{Refusal}
use Rattle.fp_base.specs.declared.value.Value.{Value}
use Rattle.fp_base.specs.Least.{ByOptional, Either, InSome}
use Rattle.fp_tree.specs.declared.source.Source.{Source}
use Rattle.fp_tree.specs.declared.expression.Expr.{Expr}
use Rattle.fp_tree.specs.declared.type_name.TypeForm.{TypeForm}
use Rattle.fp_tree.specs.declared.component.Part.{Part}
use Rattle.fp_tree.specs.declared.component.Part.TheVariants as part
use Rattle.fp_tree.specs.declared.dictionary.Channel.{Channel}
use Rattle.fp_tree.specs.declared.dictionary.Limit.{Limit}
use Rattle.fp_tree.specs.declared.dictionary.Limits.{Limits}
use Rattle.fp_tree.specs.declared.dictionary.ParamDef.{ParamDef}
use Rattle.fp_tables.specs.declared.kind.Kind.{Kind}
use Rattle.fp_meaning.specs.declared.item.Item.{Item}
use Rattle.fp_meaning.specs.declared.item.Item.TheVariants as item
use Rattle.fp_meaning.specs.Layout.{component_scope, items}
use Rattle.fp_meaning.specs.Names.{Path}
use Rattle.fp_meaning.specs.Sites.{ModelDef, component}
use Rattle.fp_meaning.specs.Values.{Val, opened}
use Rattle.fp_type_sizes.specs.declared.written.WrittenType.{WrittenType}
use Rattle.fp_type_sizes.specs.Sizes.{IsInteger}
use Rattle.fp_type_forms.specs.Broken.{IsNoNumber}
use Rattle.fp_type_forms.specs.Written.{KindIs}
use Rattle.fp_types.specs.Converting.{of_kind}
use Rattle.fp_types.specs.Converting as converting
use Rattle.fp_types.specs.Faults.{Misfits}

-- an integer type, or an alias of one
abbrev pub IsIntegerType : List WrittenType → Kind → Type 0
IsIntegerType ws k = (low high : ℤ) × IsInteger ws k low high

module _ (source : Source) (ws : List WrittenType) (scope : Path) where
  -- at an expression whose value doesn't convert to the type that is wanted
  abbrev pub IsUnfit : (Kind → Type 0) → Expr → Refusal → Type 0
  IsUnfit IsWanted e f = (v : Value) × (k : Kind) × Val source scope (opened e) v × IsWanted k × Misfits ws e.at.first (converting.opened v) (of_kind k) f

  -- the type name names an integer type
  abbrev pub IntegerIs : TypeForm → Kind → Type 0
  IntegerIs t k = KindIs source scope t k × IsIntegerType ws k

  abbrev pub BrokenByParam : ParamDef → Refusal → Type 0
  BrokenByParam p = ByOptional (IsUnfit (KindIs source scope p.of.form)) p.default

  -- of a channel whose type has the name
  abbrev pub BrokenByLimit : TypeForm → Limit → Refusal → Type 0
  BrokenByLimit t l = Either (IsNoNumber source scope l.value) (IsUnfit (IntegerIs t) l.value)

  abbrev pub BrokenByLimits : TypeForm → Limits → Refusal → Type 0
  BrokenByLimits t ls = InSome (λ k. BrokenByLimit t) ls.limits

  abbrev pub BrokenByChannel : Channel → Refusal → Type 0
  BrokenByChannel c = Either (ByOptional (BrokenByLimits c.of.form) c.low) (ByOptional (BrokenByLimits c.of.form) c.high)

  abbrev pub BrokenByPart : Part → Refusal → Type 0
  BrokenByPart (part.Channel c) = BrokenByChannel c
  BrokenByPart (part.Param p) = BrokenByParam p
  BrokenByPart _ = λ f. ⊥

module _ (source : Source) (ws : List WrittenType) where
  -- in the scope of the component
  abbrev pub BrokenByDeclared : Path → ModelDef → Refusal → Type 0
  BrokenByDeclared scope (component c) = InSome (λ k. BrokenByPart source ws (component_scope scope c)) c.parts
  BrokenByDeclared scope _ = λ f. ⊥

abbrev pub BrokenByItem : List WrittenType → Source → Item → Refusal → Type 0
BrokenByItem ws source (item.Declared d) = BrokenByDeclared source ws d.scope d.definition
BrokenByItem ws source _ = λ f. ⊥

-- over the types of the source
abbrev pub PartValuesBroken : Source → List WrittenType → Refusal → Type 0
PartValuesBroken source ws = InSome (λ k. BrokenByItem ws source) (items source)
