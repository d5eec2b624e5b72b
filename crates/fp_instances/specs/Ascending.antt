-- Ranges one behind another.
use Rattle.std.specs.Prelude.{Bool, true, ◌&&◌, List, [], ◌∷◌, Option, Some, None}
use Rattle.fp_instances.specs.declared.ranges.IdRange.{IdRange}
use Rattle.fp_instances.specs.Ranges.{ends_before}

abbrev pub begins_behind : Option IdRange → IdRange → Bool
begins_behind None r = true
begins_behind (Some q) r = ends_before q r

abbrev pub rise_behind : Option IdRange → List IdRange → Bool
rise_behind before [] = true
rise_behind before (r ∷ rs) = begins_behind before r && rise_behind (Some r) rs

-- each ends before the next one begins
abbrev pub rise : List IdRange → Bool
rise rs = rise_behind None rs
