use Rattle.std.proofs.Common.{◌∙◌, ap}
use Rattle.std.specs.Option.{is_some}
use Rattle.std.specs.List.{slice_get}
use Rattle.fp_base.specs.declared.value.Value.{Value}
use Rattle.std.proofs.Common.{List}
use Rattle.fp_cell.specs.Stepping.{inside}
use Rattle.fp_cell.proofs.Asked.{has_param}
use Rattle.fp_cell.proofs.asking.tell_read.Goals as goal

pub param_at-requires : goal.param_at-requires
param_at-requires c =
    ap (λ (vs : List Value). is_some (slice_get vs c.args.param)) c.as_slice.ensures.value
    ∙ has_param c.args.setting.now.tables.now c.args.setting.now.program.now c.args.setting.now.instance (inside c.args.state.now) c.args.param c.requires.ready.kinded
    c.requires.askable
