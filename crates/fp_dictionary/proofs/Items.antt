-- Items of a list as they are printed.
use Rattle.std.proofs.Common.{◌≡◌, ℕ, Bool, true, List, [], ◌∷◌, ◌++◌, refl, sym, ap, ◌∙◌}
use Rattle.std.proofs.lemmas.List.{append_assoc}
use Rattle.serde_json.specs.Data.{Data}
use Rattle.serde_json.specs.View.{items_of}
use Rattle.serde_json.specs.Written.{comma_if, compact_text, items_text}
use Rattle.fp_dictionary.specs.Printed.{items_printed}

-- an item is added, and others stand behind it
pub next_item : (before after : List ℕ) (later : Bool) (d : Data) (ds : List Data) → after ≡ before ++ (comma_if later ++ compact_text d)
    → after ++ items_printed true ds ≡ before ++ items_printed later (d ∷ ds)
next_item before after later d ds h = ap (λ (o : List ℕ). o ++ items_printed true ds) h ∙ append_assoc before (comma_if later ++ compact_text d) (items_printed true ds)

-- with the closing bracket
pub printed_items : (later : Bool) (ds : List Data) → items_text later (items_of ds) ≡ items_printed later ds ++ 93 ∷ []
printed_items later [] = refl
printed_items later (d ∷ ds) =
    ap (λ (o : List ℕ). comma_if later ++ (compact_text d ++ o)) (printed_items true ds)
    ∙ sym (append_assoc (comma_if later) (compact_text d) (items_printed true ds ++ 93 ∷ []))
    ∙ sym (append_assoc (comma_if later ++ compact_text d) (items_printed true ds) (93 ∷ []))
