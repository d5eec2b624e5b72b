use Rattle.std.proofs.Common.{List, ap, ◌∙◌}
use Rattle.std.specs.List.{slice_get}
use Rattle.std.specs.Option.{is_some}
use Rattle.fp_base.specs.declared.value.Value.{Value}
use Rattle.fp_cell.specs.Stepping.{inside}
use Rattle.fp_cell.proofs.Goes.{saved_there}
use Rattle.fp_cell.proofs.Machines.{machines_go_well}
use Rattle.fp_cell.proofs.Parts.{good_parts}
use Rattle.fp_cell.proofs.asking.tell_save.Goals as goal

pub param_at-requires : goal.param_at-requires
param_at-requires c =
    ap (λ (vs : List Value). is_some (slice_get vs c.args.param)) c.as_slice.ensures.value
    ∙ saved_there c.args.setting.now.tables.now c.args.setting.now.program.now c.args.setting.now.instance 0 (inside c.args.state.now)
    (good_parts c.args.setting.now.tables.now c.args.setting.now.instance c.requires.ready.sound.0)
    (machines_go_well c.args.setting.now.tables.now c.args.setting.now.program.now c.args.setting.now.instance c.requires.ready.sound.0)
    c.requires.ready.kinded c.args.arrival.now.point c.args.param c.requires.how

pub returns-clause-ok : goal.returns-clause-ok
returns-clause-ok c = c.save.ensures.ok c.args.setting.now.tables.now c.args.setting.now.program.now c.args.setting.now.instance c.requires.how
