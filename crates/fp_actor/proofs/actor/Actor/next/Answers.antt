use Rattle.fp_actor.specs.Kept.{acting}
use Rattle.fp_actor.proofs.NextOf.{next_going}
use Rattle.fp_actor.proofs.actor.Actor.next.Goals as goal

pub returns-in-Some : goal.returns-in-Some
returns-in-Some c =
    let a = c.self.inside in
    let s = acting a in
    let due = rw (c.as_slice.ensures.value, c.as_slice-2.ensures.value, c.as_slice-3.ensures.value) at c.in_ok-due.ensures in
    let next = next_going s.tables s.program s.number s.state.thread c.in_ok-due.due c.if-self.false due in
    rw (← c.self.view_is) (rw c.in-Some.is at next)

pub returns-in-None : goal.returns-in-None
returns-in-None c =
    let a = c.self.inside in
    let s = acting a in
    let due = rw (c.as_slice.ensures.value, c.as_slice-2.ensures.value, c.as_slice-3.ensures.value) at c.in_ok-due.ensures in
    let next = next_going s.tables s.program s.number s.state.thread c.in_ok-due.due c.if-self.false due in
    rw (← c.self.view_is) (rw c.in-None.is at next)
