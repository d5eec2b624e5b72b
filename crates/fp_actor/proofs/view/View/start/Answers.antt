use Rattle.std.proofs.Common.{◌<◌, length, sym, ap, ◌∙◌}
use Rattle.std.proofs.lemmas.Option.{slice_get_within}
use Rattle.fp_events.specs.Due.{first_action}
use Rattle.fp_events.specs.Follows.{doing}
use Rattle.fp_actor.specs.Stacked.{bindings_of}
use Rattle.fp_actor.specs.Levels.{entry_of}
use Rattle.fp_actor.specs.Awaited.{is_advance}
use Rattle.fp_actor.proofs.Following.{starting_follows}
use Rattle.fp_actor.proofs.Advancing.{deed_value}
use Rattle.fp_actor.proofs.Keeping.{stands_first, entry_before, kept_started}
use Rattle.fp_actor.proofs.view.View.start.Goals as goal

pub returns : goal.returns
returns c = λ bindings entry there o advance kept.
    let v = c.args.self.now in
    let ls = c.args.levels.now.items in
    let f = c.args.first in
    let i = c.requires.first bindings in
    let lt : c.args.at < length v.trace.now = slice_get_within _ _ entry there in
    let from = f.level.next.source in
    let bound = bindings_of v.tables.now v.program.now v.number v.trace.now bindings f.level in
    let value = deed_value v.tables.now v.program.now v.number v.trace.now f.level.next f.deed bound i.action (sym (ap is_advance i.first) ∙ advance) in
    rw (c.put.ensures, c.value_of.ensures)
    (record {
      follow =
          λ x h. starting_follows v.tables.now v.program.now v.number v.trace.now bindings c.args.at (entry_of from) c.past_of-past.result entry there ls x f.deed bound o value
          (ap (λ fs. first_action (doing fs)) h ∙ i.first) (sym h);
      kept =
          kept_started v.tables.now v.program.now v.number v.trace.now bindings ls kept f i c.args.at (entry_of from) c.past_of-past.result (λ lower top e. c.past_of-past.ensures lower top (c.as_slice.ensures.value ∙ e)) lt
          (entry_before v.tables.now v.program.now v.number v.trace.now c.args.at from lt (stands_first v.tables.now v.program.now v.number v.trace.now bindings ls kept f i).placed);
    })
