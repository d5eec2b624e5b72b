use Rattle.std.proofs.Common.{◌<◌, Some, length}
use Rattle.std.proofs.lemmas.Option.{slice_get_within}
use Rattle.fp_actor.specs.declared.level.Base.TheVariants as base
use Rattle.fp_actor.proofs.Following.{opening_follows}
use Rattle.fp_actor.proofs.Keeping.{stands_first, kept_replaced}
use Rattle.fp_actor.proofs.view.View.open_frame.Goals as goal

pub returns : goal.returns
returns c = λ bindings entry there o kept.
    let v = c.args.self.now in
    let ls = c.args.levels.now.items in
    let f = c.args.first in
    let i = c.requires.first bindings in
    let lt : c.args.at < length v.trace.now = slice_get_within _ _ entry there in
    rw c.replace_first.ensures
    (record {
      follow = λ x h. opening_follows v.tables.now v.program.now v.number v.trace.now bindings ls f i c.args.at f.level.past entry there x o h;
      kept = kept_replaced v.tables.now v.program.now v.number v.trace.now bindings ls kept f i (base.Arrived (Some f.level.next)) c.args.at c.args.at (stands_first v.tables.now v.program.now v.number v.trace.now bindings ls kept f i).placed lt lt;
    })
