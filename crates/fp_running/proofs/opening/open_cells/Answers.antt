use Rattle.std.proofs.Common.{arith}
use Rattle.fp_running.proofs.Opened.{is_there, one_cell, all_cells}
use Rattle.fp_running.proofs.opening.open_cells.Goals as goal

pub open-requires-clause-placed : goal.open-requires-clause-placed
open-requires-clause-placed c =
    is_there c.args.tables.now c.args.program.now c.args.instances.now c.requires.instances c.loop-instance.instance-index c.loop-instance-test.true

pub loop-instance-preserved : goal.loop-instance-preserved
loop-instance-preserved c = record {
  first =
      one_cell c.args.tables.now c.args.program.now c.args.instances.now c.requires.instances c.loop-instance.instance-index c.loop-instance-test.true
      c.loop-instance.cells.items c.push.new.self.items c.in_ok-open.field-0 c.loop-instance.invariant.first c.in_ok-open.ensures c.in_ok-push.ensures.items;
  within = omega (arith, c.loop-instance-test.true);
}

pub returns : goal.returns
returns c =
    all_cells c.args.tables.now c.args.program.now c.args.instances.now c.requires.instances c.loop-instance.cells.items c.loop-instance.instance-index
    c.loop-instance.invariant.first c.loop-instance.invariant.within (omega (arith, c.loop-instance-test.false))
