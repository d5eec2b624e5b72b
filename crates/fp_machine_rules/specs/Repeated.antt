-- What stands a second time in its state, or in its machine. FPP Language Specification, "State Machine Definitions".
use Rattle.std.specs.Prelude.{◌≡◌, ℕ, ◌<◌, Bool, false, List, map, slice_get, Option, Some, None}
use Rattle.std.specs.Option.{option_cmp}
use Rattle.std.specs.Ordering.{nat_cmp, ordering_then, is_eq}
use Rattle.std.specs.declared.cmp.Ordering.{Ordering}
use Rattle.fp_machine_rules.specs.declared.item.Form.{Form}
use Rattle.fp_machine_rules.specs.declared.item.Form.TheVariants.{State, Choice, On, Entry, Exit, Declares}
use Rattle.fp_machine_rules.specs.declared.item.Item.{Item}
use Rattle.fp_machine_rules.specs.declared.item.Declaration.TheVariants.{Signal, Action, Guard}

-- a state, or the machine, and a name that should stand there once
abbrev pub Key : Type 0
Key = Option ℕ × ℕ

-- an earlier one has the same key
pub record IsRepeated (keys : List (Option Key)) (k : ℕ) : Type 0 where
  pub earlier : ℕ
  pub before : earlier < k
  pub same : Key
  pub there : slice_get keys earlier ≡ Some (Some same)
  pub here : slice_get keys k ≡ Some (Some same)

-- the name of a state or of a choice
abbrev pub name_of : Form → Option ℕ
name_of (State name) = Some name
name_of (Choice name met unmet) = Some name
name_of _ = None

-- the signal of a transition
abbrev pub signal_of : Form → Option ℕ
signal_of (On signal means target) = Some signal
signal_of _ = None

-- all entries are one in a state, and all exits are
abbrev pub entry_of : Form → Option ℕ
entry_of Entry = Some 0
entry_of _ = None

abbrev pub exit_of : Form → Option ℕ
exit_of Exit = Some 0
exit_of _ = None

abbrev pub declared_signal : Form → Option ℕ
declared_signal (Declares (Signal name)) = Some name
declared_signal _ = None

abbrev pub declared_action : Form → Option ℕ
declared_action (Declares (Action name)) = Some name
declared_action _ = None

abbrev pub declared_guard : Form → Option ℕ
declared_guard (Declares (Guard name)) = Some name
declared_guard _ = None

abbrev pub in_parent : Option ℕ → Option ℕ → Option Key
in_parent parent None = None
in_parent parent (Some name) = Some (parent, name)

abbrev pub key_by : (Form → Option ℕ) → Item → Option Key
key_by part x = in_parent x.parent (part x.form)

-- what the k-th item has by this part, an earlier item of the same state has too
abbrev pub Repeats : (Form → Option ℕ) → List Item → ℕ → Type 0
Repeats part items = IsRepeated (map (key_by part) items)

-- ---- as tests

abbrev pub key_cmp : Key → Key → Ordering
key_cmp a b = ordering_then (option_cmp nat_cmp a.0 b.0) (nat_cmp a.1 b.1)

abbrev pub is_key : Key → Option Key → Bool
is_key q None = false
is_key q (Some k) = is_eq (key_cmp k q)

abbrev pub is_noted : (Key → Bool) → Option Key → Bool
is_noted had None = false
is_noted had (Some k) = had k
