use Rattle.std.proofs.Common.{◌<◌, length, refl, sym, ap, ◌∙◌}
use Rattle.std.proofs.lemmas.Option.{slice_get_within}
use Rattle.fp_events.specs.Follows.{removed}
use Rattle.fp_actor.specs.Stacked.{frames}
use Rattle.fp_actor.proofs.Following.{taking_follows}
use Rattle.fp_actor.proofs.Keeping.{kept_first_taken}
use Rattle.fp_actor.proofs.view.View.take_frame.Goals as goal

pub returns : goal.returns
returns c = λ bindings entry there o empty kept.
    let v = c.args.self.now in
    let lt : c.args.at < length v.trace.now = slice_get_within _ _ entry there in
    let none = ap (frames v.tables.now v.program.now v.number v.trace.now bindings) empty in
    rw c.put.ensures
    (record {
      follow = λ x h. taking_follows v.tables.now v.program.now v.number v.trace.now bindings c.args.at c.args.at 0 entry there c.args.levels.now.items x refl o (none ∙ ap removed (sym (h ∙ none)));
      kept = kept_first_taken v.tables.now v.program.now v.number v.trace.now bindings c.args.levels.now.items c.args.at empty lt kept;
    })
