use Rattle.std.proofs.Common.{length, refl, arith}
use Rattle.std.proofs.lemmas.Option.{slice_get_read}
use Rattle.fp_running.proofs.Replaying.{next_run, one_further}
use Rattle.fp_running.proofs.running.Running.replay.Goals as goal

pub replay_entry-requires : goal.replay_entry-requires
replay_entry-requires c =
    let found = slice_get_read c.args.entries.now (length c.args.entries.now) c.loop-entry.entry-index c.entry-item.result refl c.loop-entry-test.true c.entry-item.is in
    next_run c.args.self.now c.loop-entry.self c.args.entries.now c.loop-entry.entry-index c.entry-item.result c.loop-entry.invariant found c.prefixes.ensures c.requires

pub loop-entry-preserved : goal.loop-entry-preserved
loop-entry-preserved c =
    let found = slice_get_read c.args.entries.now (length c.args.entries.now) c.loop-entry.entry-index c.entry-item.result refl c.loop-entry-test.true c.entry-item.is in
    one_further c.args.self.now c.loop-entry.self c.args.entries.now c.loop-entry.entry-index c.entry-item.result c.loop-entry.invariant found c.replay_entry.new.self _ (omega arith)
    c.in_ok-replay_entry.ensures.replayed
