-- What is read of items for nothing but where the next ones stand. FPP Language Specification, "Definitions".
use Rattle.std.specs.Prelude.{ℕ, List, Option}
use Rattle.fp_base.specs.declared.value.Value.{Value}
use Rattle.fp_tree.specs.declared.source.Source.{Source}
use Rattle.fp_meaning.specs.declared.item.Item.{Item}
use Rattle.fp_type_forms.specs.declared.resolving.Resolution.{Resolution}
use Rattle.fp_type_forms.specs.Resolved.{Takes}

abbrev pub Passes : Source → List (Option Value) → List Resolution → List Item → ℕ → ℕ → Type 0
Passes source marks rs is before after = Takes source marks rs is before after (Unit {0})
