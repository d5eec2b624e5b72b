-- What the grammar asks of state machines: that their elements stand in their order, and declarations in the machine itself. FPP Language
-- Specification, "State Machine Definitions" and "State Machine Behavior Elements".
use Rattle.std.specs.Prelude.{◌≡◌, ℕ, Some, slice_get}
use Rattle.fp_tree.specs.declared.source.Source.{Source}
use Rattle.fp_meaning.specs.declared.item.Item.{Item}
use Rattle.fp_meaning.specs.declared.item.Item.TheVariants as item
use Rattle.fp_meaning.specs.Layout.{items}
use Rattle.fp_meaning.specs.Sites.{ModelDef, machine}
use Rattle.fp_names.specs.Named.{elements_in}
use Rattle.fp_machines.specs.Ordered.{AreWellPlaced}

abbrev pub IsOrderedModel : ModelDef → Type 0
IsOrderedModel (machine m) = AreWellPlaced (elements_in m.behavior)
IsOrderedModel _ = Unit {0}

-- of a machine that an item declares
abbrev pub IsOrdered : Item → Type 0
IsOrdered (item.Declared d) = IsOrderedModel d.definition
IsOrdered _ = Unit {0}

abbrev pub MachinesAreOrdered : Source → Type 0
MachinesAreOrdered source = (k : ℕ) (i : Item) → slice_get (items source) k ≡ Some i → IsOrdered i
