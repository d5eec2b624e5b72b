-- What finds spellings, and what stands first in each state.
use Rattle.std.specs.Prelude.{◌≡◌, ℕ, Bool, cond, is_some, List, map, position, Option, Some, None, String}
use Rattle.std.specs.BTreeMap.{BTreeMap, get_by, get_by_text}
use Rattle.std.specs.declared.alloc.Global.{Global}
use Rattle.fp_tree.specs.declared.machine.BehaviorElement.{BehaviorElement}
use Rattle.fp_machine_rules.specs.declared.item.Item.{Item}
use Rattle.fp_machine_rules.specs.Repeated.{Key, key_cmp, is_key, key_by, name_of, declared_signal, declared_action, declared_guard}
use Rattle.fp_machines.specs.Outline.{number}
use Rattle.fp_machines.specs.declared.scopes.Scopes.{Scopes}

-- a key that is looked up is compared with those that are kept
abbrev pub FindsKeys : List (Option Key) → BTreeMap Key ℕ → Type 0
FindsKeys keys found = (q : Key) → get_by (key_cmp q) found ≡ position (is_key q) keys

abbrev pub FindsSpellings : List BehaviorElement → BTreeMap (String Global) ℕ → Type 0
FindsSpellings es found = (t : List ℕ) → get_by_text found t ≡ number es t

-- a place that isn't free is left, and one that is gets this position where the test holds
abbrev pub or_first : Option ℕ → Bool → ℕ → Option ℕ
or_first had holds at = cond (is_some had) had (cond holds (Some at) None)

abbrev pub NotesKey : BTreeMap Key ℕ → BTreeMap Key ℕ → (Key → Bool) → ℕ → Type 0
NotesKey before after test at = (q : Key) → get_by (key_cmp q) after ≡ or_first (get_by (key_cmp q) before) (test q) at

abbrev pub NotesText : BTreeMap (String Global) ℕ → BTreeMap (String Global) ℕ → (List ℕ → Bool) → ℕ → Type 0
NotesText before after test at = (t : List ℕ) → get_by_text after t ≡ or_first (get_by_text before t) (test t) at

-- the tables of a machine
pub record AreScopes (es : List BehaviorElement) (items : List Item) (tables : Scopes) : Type 0 where
  pub spellings : FindsSpellings es tables.spellings
  pub vertices : FindsKeys (map (key_by name_of) items) tables.vertices
  pub signals : FindsKeys (map (key_by declared_signal) items) tables.signals
  pub actions : FindsKeys (map (key_by declared_action) items) tables.actions
  pub guards : FindsKeys (map (key_by declared_guard) items) tables.guards
