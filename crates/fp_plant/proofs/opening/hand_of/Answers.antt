use Rattle.std.proofs.Common.{map, sym, ap, subst}
use Rattle.std.specs.Prelude.{All}
use Rattle.fp_gate.specs.Locks.{IsIdle}
use Rattle.fp_plant.specs.Hands.{passing, IsHand}
use Rattle.fp_plant.proofs.Beginning.{new_hand, all_idle}
use Rattle.fp_plant.proofs.Dealing.{get_all}
use Rattle.fp_plant.proofs.opening.hand_of.Goals as goal

pub invariant_of-result : goal.invariant_of-result
invariant_of-result c =
    subst (λ ps. IsHand (record { actor = c.in_ok-actor.actor; passes = map (λ p. passing p) ps }) × All (λ p. IsIdle p) ps) (sym c.into_vec.ensures) (
      new_hand c.args.tables.now c.args.program.now c.args.number c.args.passes c.in_ok-actor.actor c.requires.passes c.in_ok-actor.ensures,
      get_all (λ p. IsIdle p) c.args.passes (all_idle c.args.tables.now c.args.program.now c.args.number c.args.passes c.requires.passes),
    )

pub returns : goal.returns
returns c = record { actor = c.in_ok-actor.ensures; passes = ap (λ ps. map (λ p. passing p) ps) c.into_vec.ensures }
