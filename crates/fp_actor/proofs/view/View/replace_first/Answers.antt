use Rattle.std.proofs.Common.{◌<◌, length, arith, [], refl}
use Rattle.std.proofs.lemmas.Option.{slice_get_within}
use Rattle.fp_actor.proofs.view.View.replace_first.Goals as goal

pub remove-requires-clause-below : goal.remove-requires-clause-below
remove-requires-clause-below c =
    let i = c.requires.first [] in
    let lt : c.args.first.below < length c.args.levels.now.items = slice_get_within _ _ i.level i.there in
    omega (arith, lt, c.args.levels.now.ok.0)

pub remove-requires-clause-few : goal.remove-requires-clause-few
remove-requires-clause-few c = (c.requires.first []).few

pub put-requires : goal.put-requires
put-requires c =
    let i = c.requires.first [] in
    let lt : c.args.first.below < length c.args.levels.now.items = slice_get_within _ _ i.level i.there in
    omega (arith, lt, c.args.levels.now.ok.0, c.remove.ensures.len, c.remove.ensures.capacity, c.requires.room)

pub returns : goal.returns
returns c = rw (c.put.ensures, c.remove.ensures.items) refl
