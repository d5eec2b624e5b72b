use Rattle.std.proofs.Common.{◌<◌, ◌∷◌, ◌++◌, [], take, length, sym, ap, ◌∙◌}
use Rattle.std.proofs.lemmas.Option.{slice_get_within}
use Rattle.fp_events.specs.Due.{first_action}
use Rattle.fp_events.specs.Follows.{doing, removed}
use Rattle.fp_actor.specs.declared.level.Base.TheVariants as base
use Rattle.fp_actor.specs.Levels.{advanced}
use Rattle.fp_actor.proofs.Following.{sending_follows}
use Rattle.fp_actor.proofs.Keeping.{kept_replaced}
use Rattle.fp_actor.proofs.view.View.send_first.Goals as goal

pub returns : goal.returns
returns c = λ bindings entry there o kept.
    let v = c.args.self.now in
    let ls = c.args.levels.now.items in
    let f = c.args.first in
    let i = c.requires.first bindings in
    let lt : c.args.at < length v.trace.now = slice_get_within _ _ entry there in
    rw c.replace_first.ensures
    (record {
      follow =
          λ x h. sending_follows v.tables.now v.program.now v.number v.trace.now bindings c.args.at c.args.at f.level.past entry there (take f.below ls ++ advanced f.level ∷ []) x _ o
          (ap (λ fs. first_action (doing fs)) h ∙ i.first) (i.rest ∙ ap removed (sym h));
      kept = kept_replaced v.tables.now v.program.now v.number v.trace.now bindings ls kept f i base.Inside c.args.at c.args.at tt lt lt;
    })
