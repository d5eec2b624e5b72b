use Rattle.std.proofs.Common.{◌<◌, ◌∷◌, ◌++◌, [], take, length, refl, sym, ap, ◌∙◌}
use Rattle.std.proofs.lemmas.Option.{slice_get_within}
use Rattle.fp_events.specs.Follows.{removed}
use Rattle.fp_actor.specs.declared.level.Base.TheVariants as base
use Rattle.fp_actor.specs.Levels.{advanced}
use Rattle.fp_actor.proofs.Following.{taking_follows}
use Rattle.fp_actor.proofs.Keeping.{kept_replaced}
use Rattle.fp_actor.proofs.view.View.take_from_frame.Goals as goal

pub returns : goal.returns
returns c = λ bindings entry there o kept.
    let v = c.args.self.now in
    let ls = c.args.levels.now.items in
    let f = c.args.first in
    let i = c.requires.first bindings in
    let lt : c.args.at < length v.trace.now = slice_get_within _ _ entry there in
    rw c.replace_first.ensures
    (record {
      follow = λ x h. taking_follows v.tables.now v.program.now v.number v.trace.now bindings c.args.at c.args.at f.level.past entry there (take f.below ls ++ advanced f.level ∷ []) x refl o (i.rest ∙ ap removed (sym h));
      kept = kept_replaced v.tables.now v.program.now v.number v.trace.now bindings ls kept f i base.Taken c.args.at c.args.at tt lt lt;
    })
