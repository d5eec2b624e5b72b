use Rattle.std.proofs.Common.{refl}
use Rattle.std.proofs.lemmas.Result.{IfOk-weaker}
use Rattle.fp_tables.specs.declared.program.Program.{Program}
use Rattle.fp_scenario_check.proofs.Idle.{size_told}
use Rattle.fp_scenario_check.proofs.limits.is_small_enough.Goals as goal

pub returns : goal.returns
returns c =
    let p : Program = record { steps = 1; callers = c.new.result; handlers = c.new-2.result; answers = c.new-3.result } in
    IfOk-weaker c.is_sound.result _ _ (λ b h. size_told c.args.tables.now p b refl c.new.ensures c.new-2.ensures c.new-3.ensures h) c.is_sound.ensures
