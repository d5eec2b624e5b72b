use Rattle.std.proofs.Common.{◌≤◌, ◌<◌, take, length, arith}
use Rattle.std.proofs.lemmas.Option.{slice_get_within}
use Rattle.fp_actor.specs.Levels.{advanced}
use Rattle.fp_actor.proofs.Bound.{reading_follows}
use Rattle.fp_actor.proofs.Keeping.{stands_first, kept_removed, kept_bound}
use Rattle.fp_actor.proofs.view.View.read.Goals as goal

pub after-requires : goal.after-requires
after-requires c = c.requires.first.few

pub bind-requires-clause-below : goal.bind-requires-clause-below
bind-requires-clause-below c =
    let i = c.requires.first in
    let lt : c.args.first.below < length c.args.levels.now.items = slice_get_within _ _ i.level i.there in
    omega (arith, lt, c.args.levels.now.ok.0)

pub bind-requires-clause-past : goal.bind-requires-clause-past
bind-requires-clause-past c =
    let v = c.args.self.now in
    let s = stands_first v.tables.now v.program.now v.number v.trace.now c.args.bindings.now.items c.args.levels.now.items c.requires.kept c.args.first c.requires.first in
    let le : c.args.first.level.past ≤ length c.args.bindings.now.items = s.within.1 in
    omega (arith, le, c.args.bindings.now.ok.0)

pub returns : goal.returns
returns c = λ entry there o.
    let v = c.args.self.now in
    let ls = c.args.levels.now.items in
    let bs = c.args.bindings.now.items in
    let f = c.args.first in
    let i = c.requires.first in
    let lt : c.args.at < length v.trace.now = slice_get_within _ _ entry there in
    let s = stands_first v.tables.now v.program.now v.number v.trace.now bs ls c.requires.kept f i in
    rw (c.bind.ensures.levels, c.bind.ensures.bindings, c.after.ensures)
    (record {
      follow = λ x h. reading_follows v.tables.now v.program.now v.number v.trace.now ls bs f i c.args.at entry there x o s.within.0 s.within.1 s.lowest h;
      kept =
          kept_bound v.tables.now v.program.now v.number v.trace.now bs (take f.below ls) (advanced f.level) (record { name = f.level.next; value = c.args.at }) (kept_removed v.tables.now v.program.now v.number v.trace.now bs ls c.requires.kept f i) s.placed
          lt;
    })
