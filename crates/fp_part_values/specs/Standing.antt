-- Where a part of a component and a limit of a channel stand.
use Rattle.std.specs.Prelude.{◌≡◌, ◌⊎◌, ℕ, Some, slice_get}
use Rattle.fp_tree.specs.declared.source.Source.{Source}
use Rattle.fp_tree.specs.declared.component.Component.{Component}
use Rattle.fp_tree.specs.declared.component.Part.{Part}
use Rattle.fp_tree.specs.declared.dictionary.Channel.{Channel}
use Rattle.fp_tree.specs.declared.dictionary.Limit.{Limit}
use Rattle.fp_tree.specs.declared.dictionary.Limits.{Limits}
use Rattle.fp_meaning.specs.declared.item.Item.TheVariants as item
use Rattle.fp_meaning.specs.Layout.{component_scope, items}
use Rattle.fp_meaning.specs.Names.{Path}
use Rattle.fp_meaning.specs.Sites.{component, declaration}

-- a part of a component of the source, in the scope of the component
pub record IsPart (source : Source) (scope : Path) (x : Part) : Type 0 where
  pub at : ℕ
  pub outside : Path
  pub whole : Component
  pub here : slice_get (items source) at ≡ Some (item.Declared (declaration outside (component whole)))
  pub place : ℕ
  pub there : slice_get whole.parts place ≡ Some x
  pub inside : scope ≡ component_scope outside whole

-- a limit on either side
abbrev pub HasLimit : Channel → Limit → Type 0
HasLimit c l = (ls : Limits) × (n : ℕ) × ((c.low ≡ Some ls) ⊎ (c.high ≡ Some ls)) × (slice_get ls.limits n ≡ Some l)
