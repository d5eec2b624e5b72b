use Rattle.std.proofs.Common.{◌≡◌, List, [], refl, sym, subst}
use Rattle.fp_events.specs.declared.event.Entry.{Entry}
use Rattle.fp_events.specs.Run.{opening}
use Rattle.fp_running.specs.Standing.{IsSet}
use Rattle.fp_running.proofs.running.Running.open.Goals as goal

pub invariant_of-result : goal.invariant_of-result
invariant_of-result c =
    subst (λ (es : List Entry). IsSet c.args.tables.now c.args.program.now es c.in_ok-cells.cells.items c.in_ok-actors.actors.items) (sym c.nothing.ensures)
    (record {
      sound = c.requires.sound;
      good = c.requires.good;
      world = opening c.args.tables.now c.args.program.now;
      run = refl;
      cells = c.in_ok-cells.ensures;
      actors = c.in_ok-actors.ensures;
    })
