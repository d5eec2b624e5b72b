use Rattle.std.proofs.Common.{sym, ap, ◌∙◌}
use Rattle.std.specs.List.{list_any}
use Rattle.fp_events.specs.declared.event.Entry.{Entry}
use Rattle.fp_events.specs.Ends.{is_asserted}
use Rattle.fp_running.proofs.done.Done.nothing.Goals as goal

pub invariant_of-result : goal.invariant_of-result
invariant_of-result c = sym (ap (list_any (λ (e : Entry). is_asserted e.what)) (ap (λ l. l.items) c.of.ensures ∙ c.new.ensures))

pub returns : goal.returns
returns c = ap (λ l. l.items) c.of.ensures ∙ c.new.ensures
