-- What a run does to the hands of a plant.
use Rattle.std.specs.Prelude.{◌≡◌, List}
use mathlib.Core.List.{IsPrefix}
use Rattle.fp_plant.specs.Planted.{Handed, Planted, Gives, AreAll}
use Rattle.fp_rounds.specs.Changed.{EachChanged}

-- the hand stays one of the plant's, of the same actor, and its trace goes on
pub record GoesOn (w : Planted) (old new : Handed) : Type 0 where
  pub gives : Gives w new
  pub number : new.actor.number ≡ old.actor.number
  pub trace : IsPrefix old.actor.trace new.actor.trace

-- all hands are there, in order, and each went on
pub record AllGoOn (w : Planted) (old new : List Handed) : Type 0 where
  pub all : AreAll w new
  pub each : EachChanged (GoesOn w) old new
