-- Which items are flagged as unreached, by what was marked.
use Rattle.std.specs.Prelude.{ℕ, Bool, true, false, not, ◌&&◌, ◌||◌, ◌+◌, List, [], ◌∷◌, slice_get, unwrap_or}
use Rattle.fp_machine_rules.specs.declared.item.Target.{Target}
use Rattle.fp_machine_rules.specs.declared.item.Target.TheVariants as target
use Rattle.fp_machine_rules.specs.declared.item.Item.{Item}
use Rattle.fp_machine_rules.specs.Forms.{is_vertex}

abbrev pub is_undefined : Target → Bool
is_undefined target.Undefined = true
is_undefined target.Stays = false
is_undefined (target.To v) = false

abbrev pub is_marked : List Bool → ℕ → Bool
is_marked seen v = unwrap_or (slice_get seen v) false

abbrev pub flag : List Bool → Bool → ℕ → Item → Bool
flag seen wanting v item = is_vertex item.form && not (wanting || is_marked seen v)

-- a flag for each item, by its place
abbrev pub flags_from : (ℕ → Item → Bool) → ℕ → List Item → List Bool
flags_from f n [] = []
flags_from f n (x ∷ xs) = f n x ∷ flags_from f (n + 1) xs
