use Rattle.std.proofs.Common.{map}
use Rattle.fp_plant.specs.Hands.{passing}
use Rattle.fp_plant.proofs.Stepping.{room_hand}
use Rattle.fp_plant.proofs.hand.Hand.reserve.Goals as goal

pub invariant_of-self : goal.invariant_of-self
invariant_of-self c =
    (room_hand (record { actor = c.self.inside.actor; passes = map (λ p. passing p) c.self.inside.passes.items }) c.reserve.new.self c.reserve.ensures.same c.self.invariant.0, c.self.invariant.1)
