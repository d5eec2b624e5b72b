-- Definitions of types as the items of a list.
use Rattle.std.proofs.Common.{◌≡◌, ℕ, Bool, true, List, ◌∷◌, ◌++◌, Option, Some, None, option_map, sym, ap, ◌∙◌}
use Rattle.std.specs.Prelude.{option_to_list}
use Rattle.std.specs.List.{slice_get}
use Rattle.fp_tables.specs.declared.kind.TypeDef.{TypeDef}
use Rattle.serde_json.specs.Written.{comma_if, compact_text}
use Rattle.fp_dictionary.specs.Types.{type_data}
use Rattle.fp_dictionary.specs.Dictionary.{types_data}
use Rattle.fp_dictionary.specs.Printed.{items_printed}
use Rattle.fp_dictionary.proofs.Items.{next_item}

module _ (types : List TypeDef) (k : ℕ) (more : List ℕ) (later : Bool) where
  pub some_next : (before after : List ℕ) (d : TypeDef) → slice_get types k ≡ Some d → after ≡ before ++ (comma_if later ++ compact_text (type_data types d))
      → after ++ items_printed true (types_data types more) ≡ before ++ items_printed later (types_data types (k ∷ more))
  some_next before after d is h =
      next_item before after later (type_data types d) (types_data types more) h
      ∙ ap (λ (o : Option TypeDef). before ++ items_printed later (option_to_list (option_map (type_data types) o) ++ types_data types more)) (sym is)

  pub none_next : (before : List ℕ) → slice_get types k ≡ None → before ++ items_printed later (types_data types more) ≡ before ++ items_printed later (types_data types (k ∷ more))
  none_next before is = ap (λ (o : Option TypeDef). before ++ items_printed later (option_to_list (option_map (type_data types) o) ++ types_data types more)) (sym is)
