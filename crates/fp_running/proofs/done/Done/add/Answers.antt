use Rattle.std.proofs.Common.{[], ◌∷◌, ◌++◌, List, ap, ◌∙◌}
use Rattle.fp_events.specs.declared.event.Entry.{Entry}
use Rattle.fp_events.specs.Ends.{is_asserted}
use Rattle.fp_running.proofs.Noting.{any_more}
use Rattle.fp_running.proofs.done.Done.add.Goals as goal

pub invariant_of-self : goal.invariant_of-self
invariant_of-self c =
    let i = c.self.inside in
    any_more (λ (e : Entry). is_asserted e.what) i.list.value.items c.of.result.value.items c.args.entry.now i.asserted c.is_assert-asserts.result c.self.invariant c.is_assert-asserts.ensures
    (ap (λ l. l.items) c.of.ensures ∙ c.and.ensures)

pub returns : goal.returns
returns c = (ap (λ l. l.items) c.of.ensures ∙ c.and.ensures) ∙ ap (λ (l : List Entry). l ++ c.args.entry.now ∷ []) c.self.view_is
