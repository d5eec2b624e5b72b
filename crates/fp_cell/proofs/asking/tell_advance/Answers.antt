use Rattle.std.proofs.Common.{List, Option, None, get_or, sym, ap, ◌∙◌}
use Rattle.fp_events.specs.Machine.{Configuration}
use Rattle.fp_cell.proofs.asking.tell_advance.Goals as goal

pub returns-in_ok-walked-in-None-clause-ok : goal.returns-in_ok-walked-in-None-clause-ok
returns-in_ok-walked-in-None-clause-ok c =
    λ actor value.
    c.settle_start.ensures.ok c.args.setting.now.tables.now c.args.setting.now.program.now c.args.setting.now.instance actor c.args.signal value c.flat_at-flat.result.now.machine c.flat_at-flat.ensures
    (ap (λ (ms : List (Option Configuration)). get_or ms c.args.running None) (sym c.as_slice.ensures.value) ∙ sym c.in-None.ensures) c.in_ok-walked-in-None.ensures

pub returns-in_ok-walked-in-Some-clause-ok : goal.returns-in_ok-walked-in-Some-clause-ok
returns-in_ok-walked-in-Some-clause-ok c =
    λ actor value.
    c.settle_move.ensures.ok c.args.setting.now.tables.now c.args.setting.now.program.now c.args.setting.now.instance actor value c.flat_at-flat.result.now.machine c.in-Some.from.now c.flat_at-flat.ensures
    (ap (λ (ms : List (Option Configuration)). get_or ms c.args.running None) (sym c.as_slice.ensures.value) ∙ sym c.in-Some.ensures) c.in_ok-walked-in-Some.ensures
