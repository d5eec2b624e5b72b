use Rattle.std.proofs.lemmas.Result.{on_ok_weaker}
use Rattle.fp_reach.proofs.Numbering.{edge_added}
use Rattle.fp_reach.proofs.rings.add.Goals as goal

pub returns : goal.returns
returns g c =
    on_ok_weaker c.link.result
    (λ linked tells before numbered.
    edge_added g.K.Ord.cmp c.args.edge.0 c.args.edge.1 _ _ _ _ _ _ _ _ _ c.in_ok-from.ensures c.in_ok-to.ensures linked tells before numbered)
    c.link.ensures
