use Rattle.std.proofs.Common.{rules, [], slice_get}
use Rattle.fp_actor.proofs.Keeping.{kept_opening}
use Rattle.fp_actor.proofs.actor.Actor.open.Goals as goal

pub invariant_of-result : goal.invariant_of-result
invariant_of-result c =
    let tables = c.args.tables.now in
    let program = c.args.program.now in
    record {
      handlers = search rules;
      home = search rules;
      short = search rules;
      stack = rw (c.new-2.ensures.items, c.new.ensures.items, c.in_ok-levels.ensures) (kept_opening tables program c.args.number [] (slice_get program.callers c.args.number));
      told = search rules;
    }
