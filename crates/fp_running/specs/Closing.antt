-- What the end of a run is read off.
use Rattle.std.specs.Prelude.{ℕ, Bool, true, ◌&&◌, ◌||◌, not, List, [], ◌∷◌}
use Rattle.fp_tables.specs.Lookup.{Described}
use Rattle.fp_tables.specs.Specials.{component}
use Rattle.fp_events.specs.Ends.{none_pending}
use Rattle.fp_events.specs.Lookup.{is_active}
use Rattle.fp_cell.specs.Cells.{Standing}

-- nothing is pending at the active ones of these instances, of which these are the cells
abbrev pub are_idle : Described → List ℕ → List Standing → Bool
are_idle t (i ∷ is) (c ∷ cs) = (not (is_active (component t i).queueing) || none_pending c.state.inside.pending) && are_idle t is cs
are_idle t _ _ = true
