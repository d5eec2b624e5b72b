use Rattle.fp_actor.proofs.lists.ActionList.get.Goals as goal

pub returns-in-Acts-clause-value : goal.returns-in-Acts-clause-value
returns-in-Acts-clause-value c = λ t p n tr. rw c.in-Acts.is (c.get_act.ensures.value t p n tr)

pub returns-in-Sends-clause-value : goal.returns-in-Sends-clause-value
returns-in-Sends-clause-value c = λ t p n tr. rw c.in-Sends.is (c.get_send.ensures.value t p n tr)
