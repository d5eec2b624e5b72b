use Rattle.std.proofs.Common.{◌∙◌, ap}
use Rattle.std.specs.List.{filter_map}
use Rattle.std.proofs.lemmas.Result.{IfOk-weaker}
use Rattle.fp_tables.specs.Components.{saved_parameter}
use Rattle.fp_sound_model.proofs.Numbered.{one_each}
use Rattle.fp_sound_model.proofs.parameters.each_has_one_save_command.Goals as goal

pub returns : goal.returns
returns c =
    let component = c.args.component.now in
    let numbers = c.in_ok-numbers.ensures ∙ ap (filter_map saved_parameter) c.as_slice.ensures in
    IfOk-weaker c.are_one_each.result _ _ (λ one p. p ∙ one_each saved_parameter component.commands component.params _ _ numbers (c.as_slice-2).ensures) c.are_one_each.ensures
