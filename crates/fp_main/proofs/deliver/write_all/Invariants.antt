use Rattle.std.proofs.Common.{length, take, ◌-◌, ◌≤◌}
use Rattle.fp_main.specs.Delivery.{Adds, NoFault, sink_run}
use Rattle.fp_main.proofs.deliver.write_all.Given as goal

-- what was taken so far stands in the sink
abbrev pub invariant-pieces : goal.invariant-pieces
invariant-pieces g l = record {
  within : l.at ≤ length l.bytes;
  written : Adds (take l.at l.bytes) (sink_run g.S.Sink.told g.S.Sink.faults l.fn.sink l.sink);
  sound : NoFault (sink_run g.S.Sink.told g.S.Sink.faults l.fn.sink l.sink);
}

abbrev pub decreases-pieces : goal.decreases-pieces
decreases-pieces g l = length l.bytes - l.at
