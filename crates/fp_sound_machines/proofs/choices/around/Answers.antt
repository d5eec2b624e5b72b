use Rattle.std.proofs.Common.{ap, ◌∙◌}
use Rattle.fp_tables.specs.Machines.{actions_are_given}
use Rattle.fp_sound_machines.proofs.Wants.{meets_joined}
use Rattle.std.proofs.Common.{refl}
use Rattle.fp_sound_machines.proofs.choices.around.Goals as goal

pub returns-clause-wanted : goal.returns-clause-wanted
returns-clause-wanted c = λ given.
    let types = c.args.types.now in
    let m = c.args.machine.now in
    let yes = c.wanted_by_actions-yes.ensures given ∙ ap (actions_are_given types m given) c.as_slice.ensures in
    let no = c.wanted_by_actions-no.ensures given ∙ ap (actions_are_given types m given) (c.as_slice-2).ensures in
    let guard = meets_joined types given _ _ _ _ _ c.both_wanted.ensures (c.wanted_by_guard-guard.ensures given) yes in
    let met = meets_joined types given _ _ _ _ _ c.both_wanted-met_wanted.ensures guard refl in
    meets_joined types given _ _ _ _ _ (c.both_wanted-3).ensures (meets_joined types given _ _ _ _ _ (c.both_wanted-2).ensures met no) refl
