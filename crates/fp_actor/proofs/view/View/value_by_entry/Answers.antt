use Rattle.fp_actor.proofs.view.View.value_by_entry.Goals as goal

pub returns-in-Enter : goal.returns-in-Enter
returns-in-Enter c = rw c.in-Enter.is (rw c.as_slice.ensures at c.handled_value.ensures)

pub returns-in-Guard : goal.returns-in-Guard
returns-in-Guard c = rw c.in-Guard.is (rw c.as_slice-in-Guard.ensures at c.handled_value-in-Guard.ensures)

pub returns-in-Take : goal.returns-in-Take
returns-in-Take c = rw c.in-Take.is (rw c.as_slice-in-Take.ensures at c.handled_value-in-Take.ensures)

pub returns-in-Start : goal.returns-in-Start
returns-in-Start c = rw c.in-Start.is c.performed_value.ensures

pub returns-in-Move : goal.returns-in-Move
returns-in-Move c = rw c.in-Move.is c.performed_value-in-Move.ensures

pub returns-in-Hooked : goal.returns-in-Hooked
returns-in-Hooked c = rw c.in-Hooked.is (rw c.as_slice-in-Hooked.ensures at c.hooked_value.ensures)
