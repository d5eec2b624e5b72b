use Rattle.std.proofs.Common.{◌∙◌, ◌++◌, List, Option, ap}
use Rattle.std.proofs.lemmas.Result.{on_ok_weaker}
use Rattle.fp_tables.specs.declared.program.Act.{Act}
use Rattle.fp_reach.specs.declared.node.Node.TheVariants.{At}
use Rattle.fp_reach.specs.declared.node.Lock.{Lock as Held}
use Rattle.fp_reach.specs.Vertices.{opening, acts_from}
use Rattle.fp_reach.proofs.Amid.{two_pushed}
use Rattle.fp_reach.proofs.edges.push_handler.Goals as goal

pub returns : goal.returns
returns c =
    let t = c.args.tables.now in
    let b = c.args.with_guards in
    let h = c.args.handler.now in
    let old = c.args.edges.now in
    let mid = c.push_opening.new.edges in
    on_ok_weaker c.push_acts.result
    (λ e.
    two_pushed old mid _ _ _ (c.in_ok-push_opening.ensures ∙ ap (λ (o : Option Held). old ++ opening b (At h.instance h.place) o) c.opens-lock.ensures)
    (e ∙ ap (λ (xs : List Act). mid ++ acts_from t b c.args.number h 0 xs) c.as_slice.ensures))
    c.push_acts.ensures
