use Rattle.std.proofs.Common.{◌∙◌, ap}
use Rattle.std.proofs.lemmas.Result.{IfOk-weaker}
use Rattle.std.specs.Ordering.{eq_by_cmp}
use Rattle.fp_tables.specs.Lists.{apart}
use Rattle.fp_tables.specs.Found.{key_cmp, key_of}
use Rattle.fp_tables.specs.declared.topology.Wire.{Wire}
use Rattle.std.proofs.Common.{map}
use Rattle.fp_sound_model.proofs.Joining.{beginnings_apart}
use Rattle.fp_sound_model.proofs.topologies.beginnings_differ.Goals as goal

pub returns : goal.returns
returns c =
    IfOk-weaker c.all_differ.result _ _ (λ b p. p ∙ ap (apart (eq_by_cmp key_cmp)) (c.in_ok-keys.ensures ∙ ap (map (λ (w : Wire). key_of w.from)) c.as_slice.ensures) ∙ beginnings_apart c.args.topology.now.wires)
    c.all_differ.ensures
