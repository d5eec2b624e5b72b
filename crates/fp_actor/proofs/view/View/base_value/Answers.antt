use Rattle.std.proofs.Common.{refl}
use Rattle.fp_actor.proofs.view.View.base_value.Goals as goal

pub returns-in-Some : goal.returns-in-Some
returns-in-Some c = rw (c.in-Entry.is, ← c.in-Some.ensures) c.value_by_entry.ensures

pub returns-in-None : goal.returns-in-None
returns-in-None c = rw (c.in-Entry.is, ← c.in-None.ensures) refl
