use Rattle.std.proofs.Common.{Bool, List, subst}
use Rattle.fp_base.specs.Least.{InSome, IsLeast}
use Rattle.fp_uses.specs.Flagged.{Flagged}
use Rattle.fp_uses.proofs.LeastFlagged.{broken_by_flags}
use Rattle.fp_uses.proofs.faults.chain_faults.Goals as goal

pub returns : goal.returns
returns c parts are on_cycle too_deep =
    let ds = c.args.definitions.now in
    let cyclic = c.args.chained.now.cyclic.items in
    let deep = c.args.chained.now.deep.items in
    let users = c.args.users in
    let o = c.least_of.result in
    broken_by_flags parts ds are cyclic deep on_cycle too_deep users o
    (subst (λ (bs : List Bool). IsLeast (InSome (Flagged cyclic bs users) ds) o) c.deref-2.ensures.value
    (subst (λ (bs : List Bool). IsLeast (InSome (Flagged bs c.deref-2.result.now users) ds) o) c.deref.ensures.value c.least_of.ensures))
