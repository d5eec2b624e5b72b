use Rattle.std.proofs.Common.{◌∙◌, ap, is_some}
use Rattle.std.proofs.lemmas.Option.{slice_get-get_or}
use Rattle.fp_topologies.specs.Patterns.{other, only_port}
use Rattle.fp_topologies.specs.declared.sorts.Join.{Join}
use Rattle.fp_topologies.specs.declared.sorts.Sort.{Sort}
use Rattle.fp_topologies.proofs.Growing.{all_next}
use Rattle.fp_topologies.proofs.index.PortIndex.has_each_other.Goals as goal

pub loop-join-preserved : goal.loop-join-preserved
loop-join-preserved c =
    let all = c.args.joins.now in
    let n = c.loop-join.join-index in
    all_next (λ (j : Join). is_some (only_port c.args.self.now.ports c.args.self.now.components c.args.self.now.instances (other j) c.args.instance)) all n _ c.loop-join.each c.both-each.result c.has_only.result
    (slice_get-get_or all n _ c.loop-join-test.true) c.both-each.ensures
    (c.has_only.ensures ∙ ap (λ (s : Sort). is_some (only_port c.args.self.now.ports c.args.self.now.components c.args.self.now.instances s c.args.instance)) c.other.ensures) c.loop-join.invariant
