-- The members of each state, gathered by their states.
use Rattle.std.specs.Prelude.{◌≡◌, ℕ, ◌<◌, List, [], ◌++◌, length, slice_get, Bool, false, not, ◌&&◌, ◌==◌, unwrap_or, option_map, Option, Some, None}
use Rattle.fp_machine_rules.specs.declared.item.Item.{Item}
use Rattle.fp_machine_rules.specs.declared.gathering.Parts.{Parts}
use Rattle.fp_machine_rules.specs.Members.{names, initials, moves, name_in, initial_in, move_in, wanted_beside}
use Rattle.fp_machine_rules.specs.Forms.{is_state}

-- what stands directly in a state, or in the machine itself
abbrev pub parts : List Item → Option ℕ → Parts
parts items p = record { names = names items p; initials = initials items p; moves = moves items p }

-- with one member more
abbrev pub with_member : Parts → Item → Parts
with_member ps x = record { names = ps.names ++ name_in x.form; initials = ps.initials ++ initial_in x.form; moves = ps.moves ++ move_in x.form }

abbrev pub no_parts : Parts
no_parts = record { names = []; initials = []; moves = [] }

-- for each item what stands in it, and for the machine
pub record AreGathered (items : List Item) (n : ℕ) (table : List Parts) (top : Parts) : Type 0 where
  pub each : length table ≡ n
  pub exact : (v : ℕ) → v < n → slice_get table v ≡ Some (parts items (Some v))
  pub own : top ≡ parts items None

-- the state that it stands in, if it stands in one, is among so many
abbrev pub HasPlace : ℕ → Item → Type 0
HasPlace n x = (q : ℕ) → x.parent ≡ Some q → q < n

-- the same as a test on what was gathered
abbrev pub parts_count_wrong : Parts → Bool
parts_count_wrong ps = not (length ps.initials == wanted_beside ps.names)

abbrev pub state_counts_wrong : List Parts → ℕ → Item → Bool
state_counts_wrong table v x = is_state x.form && unwrap_or (option_map parts_count_wrong (slice_get table v)) false
