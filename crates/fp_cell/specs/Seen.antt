-- What the fields of a cell stand for.
use Rattle.std.specs.Prelude.{Option, option_map}
use Rattle.fp_cell.specs.declared.guard.Holding.{Holding}
use Rattle.fp_cell.specs.declared.places.Manner.{Manner}
use Rattle.fp_cell.specs.declared.places.Manner.TheVariants.{By, Sets, Saves}
use Rattle.fp_events.specs.Instance.{Holding as Held}
use Rattle.fp_events.specs.Manners.{Manner as Treated, by, sets, saves}

abbrev pub held : Holding → Held
held h = record { actor = h.actor; frames = h.frames }

abbrev pub holder : Option Holding → Option Held
holder h = option_map held h

abbrev pub treated : Manner → Treated
treated (By way) = by way
treated (Sets param) = sets param
treated (Saves param) = saves param
