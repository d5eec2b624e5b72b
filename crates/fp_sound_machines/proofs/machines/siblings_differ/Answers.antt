use Rattle.std.proofs.Common.{◌∙◌}
use Rattle.std.proofs.lemmas.Result.{IfOk-weaker}
use Rattle.fp_sound_machines.proofs.Families.{families_apart}
use Rattle.fp_sound_machines.proofs.machines.siblings_differ.Goals as goal

pub returns : goal.returns
returns c = IfOk-weaker c.all_differ.result _ _ (λ b p. p ∙ families_apart c.in_ok-keys.keys.items c.args.vertices.now c.in_ok-keys.ensures) c.all_differ.ensures
