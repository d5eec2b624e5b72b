-- Which items give another value than one of a type, and where they lead.
use Rattle.std.specs.Prelude.{ℕ, Bool, true, false, not, cond, ◌==◌, ◌&&◌, ◌||◌, List, [], ◌∷◌, flat_map, slice_get, Option, Some, None, option_and_then}
use Rattle.fp_machine_rules.specs.declared.item.Target.{Target}
use Rattle.fp_machine_rules.specs.declared.item.Form.{Form}
use Rattle.fp_machine_rules.specs.declared.item.Form.TheVariants.{Initial, On, Entry, Exit}
use Rattle.fp_machine_rules.specs.declared.item.Item.{Item}
use Rattle.fp_machine_rules.specs.Forms.{is_choice}
use Rattle.fp_machine_rules.specs.Undefined.{is_marked}

-- a signal that isn't declared is of no type that is known
abbrev pub signal_other : Option (Option ℕ) → ℕ → Bool
signal_other None wanted = false
signal_other (Some None) wanted = true
signal_other (Some (Some k)) wanted = not (k == wanted)

abbrev pub means_other : List (Option ℕ) → Option ℕ → ℕ → Bool
means_other signals None wanted = false
means_other signals (Some at) wanted = signal_other (slice_get signals at) wanted

abbrev pub gives_other : List (Option ℕ) → ℕ → Form → Bool
gives_other signals wanted (Initial target) = true
gives_other signals wanted (On signal means target) = means_other signals means wanted
gives_other signals wanted Entry = true
gives_other signals wanted Exit = true
gives_other signals wanted _ = false

-- the form of an item that isn't a choice
abbrev pub plain_form : List Item → ℕ → Option Form
plain_form items v = option_and_then (λ (x : Item). cond (is_choice x.form) None (Some x.form)) (slice_get items v)

abbrev pub target_in : Form → List Target
target_in (Initial target) = target ∷ []
target_in (On signal means target) = target ∷ []
target_in _ = []

-- the targets of items that give another value
abbrev pub start_in : List (Option ℕ) → ℕ → Form → List Target
start_in signals wanted f = cond (gives_other signals wanted f) (target_in f) []

abbrev pub other_starts : List (Option ℕ) → ℕ → List Item → List Target
other_starts signals wanted items = flat_map (λ (x : Item). start_in signals wanted x.form) items

abbrev pub other_flag : List (Option ℕ) → ℕ → List Bool → ℕ → Item → Bool
other_flag signals wanted seen v x = gives_other signals wanted x.form || (is_choice x.form && is_marked seen v)
