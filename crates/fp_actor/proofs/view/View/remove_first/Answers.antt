use Rattle.std.proofs.Common.{◌<◌, length, arith, []}
use Rattle.std.proofs.lemmas.Option.{slice_get_within}
use Rattle.fp_actor.proofs.Following.{removed_follows}
use Rattle.fp_actor.proofs.Keeping.{kept_removed}
use Rattle.fp_actor.proofs.view.View.remove_first.Goals as goal

pub remove-requires-clause-below : goal.remove-requires-clause-below
remove-requires-clause-below c =
    let i = c.requires [] in
    let lt : c.args.first.below < length c.args.levels.now.items = slice_get_within _ _ i.level i.there in
    omega (arith, lt, c.args.levels.now.ok.0)

pub remove-requires-clause-few : goal.remove-requires-clause-few
remove-requires-clause-few c = (c.requires []).few

pub returns : goal.returns
returns c = λ bindings entry o kept.
    let v = c.args.self.now in
    let ls = c.args.levels.now.items in
    rw c.remove.ensures.items
    (record {
      follow = λ x h. removed_follows v.tables.now v.program.now v.number v.trace.now bindings ls c.args.first (c.requires bindings) entry.instance x entry.what o h;
      kept = kept_removed v.tables.now v.program.now v.number v.trace.now bindings ls kept c.args.first (c.requires bindings);
    })
