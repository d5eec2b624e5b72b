use Rattle.std.proofs.Common.{Some, ap, ◌∙◌}
use Rattle.fp_tables.specs.declared.component.Full.{Full as Policy}
use Rattle.fp_tables.specs.declared.component.Way.TheVariants as way
use Rattle.fp_events.specs.Manners.{by}
use Rattle.fp_cell.proofs.arriving.overflow.Goals as goal

pub returns-in-Hook-clause-ok : goal.returns-in-Hook-clause-ok
returns-in-Hook-clause-ok c = λ t program i priority size how. c.enter_hook.ensures.ok t program i priority size (how ∙ ap (λ (full : Policy). Some (by (way.Later priority full))) c.in-Hook.is)
