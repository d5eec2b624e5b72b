-- What finds handlers by instance and place.
use Rattle.std.specs.Prelude.{◌≡◌, ℕ, Bool, ◌&&◌, ◌==◌, List, [], find, position, option_map, unwrap_or}
use Rattle.std.specs.BTreeMap.{BTreeMap, get_by}
use Rattle.fp_tables.specs.declared.program.Act.{Act}
use Rattle.fp_tables.specs.declared.program.Handler.{Handler}
use Rattle.fp_tables.specs.declared.program.Spot.{Spot}
use Rattle.fp_tables.specs.declared.program.Spot.TheVariants as spot
use Rattle.fp_tables.specs.SoundPrograms.{same_spot}
use Rattle.fp_tables.specs.Found.{key_cmp, pair_cmp}

abbrev pub is_at : ℕ → Spot → Handler → Bool
is_at i place h = (h.instance == i) && same_spot h.place place

-- the actions of the handler at a place, none where there is none
abbrev pub handler_in : List Handler → ℕ → Spot → List Act
handler_in handlers i place = unwrap_or (option_map (λ (h : Handler). h.acts) (find (is_at i place) handlers)) []

abbrev pub FindsPorts : List Handler → BTreeMap (ℕ × ℕ) ℕ → Type 0
FindsPorts handlers ports = (key : ℕ × ℕ) → get_by (pair_cmp key) ports ≡ position (is_at key.0 (spot.Port key.1)) handlers

abbrev pub FindsCommands : List Handler → BTreeMap (ℕ × ℕ) ℕ → Type 0
FindsCommands handlers commands = (key : ℕ × ℕ) → get_by (pair_cmp key) commands ≡ position (is_at key.0 (spot.Command key.1)) handlers

abbrev pub FindsActions : List Handler → BTreeMap (ℕ × ℕ × ℕ) ℕ → Type 0
FindsActions handlers actions = (key : ℕ × ℕ × ℕ) → get_by (key_cmp key) actions ≡ position (is_at key.0 (spot.Action key.1 key.2)) handlers

abbrev pub FindsHookPorts : List Handler → BTreeMap (ℕ × ℕ) ℕ → Type 0
FindsHookPorts handlers ports = (key : ℕ × ℕ) → get_by (pair_cmp key) ports ≡ position (is_at key.0 (spot.HookPort key.1)) handlers

abbrev pub FindsHookCommands : List Handler → BTreeMap (ℕ × ℕ) ℕ → Type 0
FindsHookCommands handlers commands = (key : ℕ × ℕ) → get_by (pair_cmp key) commands ≡ position (is_at key.0 (spot.HookCommand key.1)) handlers

abbrev pub FindsHookSignals : List Handler → BTreeMap (ℕ × ℕ) ℕ → Type 0
FindsHookSignals handlers signals = (key : ℕ × ℕ) → get_by (pair_cmp key) signals ≡ position (is_at key.0 (spot.HookSignal key.1)) handlers
