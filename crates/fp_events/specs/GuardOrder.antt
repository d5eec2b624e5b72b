-- What the entries say of the guard of an instance.
use Rattle.std.specs.Prelude.{◌≡◌, ℕ, Bool, true, false, ◌&&◌, ◌==◌, List}
use Rattle.std.specs.List.{list_any}
use Rattle.fp_events.specs.declared.event.What.{What}
use Rattle.fp_events.specs.declared.event.What.TheVariants as what
use Rattle.fp_events.specs.declared.event.Entry.{Entry}
use Rattle.fp_events.specs.Frames.{open_frames}

abbrev pub is_guard : What → Bool
is_guard (what.Guard r) = true
is_guard _ = false

-- a guarded arrival at this instance
abbrev pub guards_at : ℕ → Entry → Bool
guards_at i e = is_guard e.what && (e.instance == i)

-- no actor has a frame open that a guarded arrival at this instance opened
abbrev pub IsUnguarded : ℕ → List Entry → Type 0
IsUnguarded i es = (a : ℕ) → list_any (guards_at i) (open_frames a es) ≡ false

-- what an entry says of those before it: a guarded arrival comes only where the guard of its instance is free
abbrev pub IsLetIn : List Entry → Entry → Type 0
IsLetIn before e = is_guard e.what ≡ true → IsUnguarded e.instance before
