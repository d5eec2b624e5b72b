use Rattle.std.proofs.Common.{◌+◌, List, ℕ, flat_map, take, sym, subst}
use Rattle.std.proofs.lemmas.List.{take_all}
use Rattle.std.proofs.lemmas.Option.{slice_get-get_or}
use Rattle.fp_base.proofs.Mapped.{flat_next}
use Rattle.fp_topologies.specs.ImportFirsts.{AreFirsts}
use Rattle.fp_topologies.specs.Held.{public_at}
use Rattle.fp_topologies.proofs.ImportNoting.{along}
use Rattle.fp_topologies.proofs.holding.imported_instances.Goals as goal

pub loop-topology-init : goal.loop-topology-init
loop-topology-init c = c.no_firsts-firsts.ensures

pub loop-topology-preserved : goal.loop-topology-preserved
loop-topology-preserved c =
    let xs = c.args.closure.now in
    let n = c.loop-topology.topology-index in
    let f = public_at c.args.written.now in
    along _ (flat_map f (take (n + 1) xs)) c.in_ok-firsts.firsts (sym (flat_next f xs n _ (slice_get-get_or xs n _ c.loop-topology-test.true)))
    (c.in_ok-firsts.ensures (flat_map f (take n xs)) c.loop-topology.invariant)

pub returns : goal.returns
returns c =
    subst (λ (ns : List ℕ). AreFirsts (flat_map (public_at c.args.written.now) ns) c.loop-topology.firsts) (take_all c.loop-topology.topology-index c.args.closure.now c.loop-topology-test.false)
    c.loop-topology.invariant
