use Rattle.fp_actor.proofs.actor.Actor.is_through.Goals as goal

pub returns : goal.returns
returns c =
    rw (← c.self.view_is)
    (rw (c.as_slice.ensures.value, c.as_slice-2.ensures.value) at (c.is_through.ensures c.self.inside.bindings.items))
