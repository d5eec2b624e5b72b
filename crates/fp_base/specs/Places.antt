-- Places in a text.
use Rattle.std.specs.Prelude.{ℕ, ◌+◌, List, take, not, ◌==◌, count_by}
use Rattle.std.specs.List.{suffix_len}
use Rattle.fp_base.specs.declared.place.Place.{Place}

-- the place of an offset: lines count from 1 and end with their newlines, and columns count bytes from 1
abbrev pub place_at : ℕ → List ℕ → ℕ → Place
place_at file text offset =
    let before = take offset text in
    record { file = file; line = 1 + count_by (λ b. b == 10) before; column = 1 + suffix_len (λ b. not (b == 10)) before }
