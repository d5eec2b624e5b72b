use Rattle.std.proofs.Common.{◌≡◌, ◌-◌, length, drop}
use Rattle.fp_actor.specs.Levels.{reached}
use Rattle.fp_actor.specs.Stacked.{lists_in}
use Rattle.fp_actor.proofs.view.View.reach.Given as goal

abbrev pub invariant-loop-list : goal.invariant-loop-list
invariant-loop-list l =
    let lists = lists_in l.self.tables.now l.self.program.now l.self.number l.self.trace.now l.fn.next.source in
    reached (drop l.list lists) l.list l.action ≡ reached (drop l.fn.next.list lists) l.fn.next.list l.fn.next.action

abbrev pub decreases-loop-list : goal.decreases-loop-list
decreases-loop-list l = length (lists_in l.self.tables.now l.self.program.now l.self.number l.self.trace.now l.fn.next.source) - l.list
