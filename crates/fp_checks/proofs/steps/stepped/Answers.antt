use Rattle.std.proofs.Common.{List, ◌∙◌, sym, subst}
use Rattle.fp_plant.specs.Planted.{Handed, AreAll}
use Rattle.fp_checks.proofs.Giving.{all_given}
use Rattle.fp_checks.proofs.steps.stepped.Goals as goal

pub two_steps-requires : goal.two_steps-requires
two_steps-requires g c =
    all_given c.in_ok-plant.plant c.as_mut_slice.result.now
    (subst (λ (hs : List Handed). AreAll c.in_ok-plant.plant hs) (sym (c.as_mut_slice.ensures.value ∙ c.into_vec-hands.ensures)) c.in_ok-plant.ensures.hands)
