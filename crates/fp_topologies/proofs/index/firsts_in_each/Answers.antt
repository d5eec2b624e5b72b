use Rattle.std.proofs.Common.{◌∙◌, length, refl, subst, List}
use Rattle.std.proofs.lemmas.Option.{slice_get_read}
use Rattle.fp_tables.specs.declared.component.Port.{Port}
use Rattle.fp_topologies.specs.Firsts.{FindsPorts}
use Rattle.fp_topologies.proofs.Finding.{each_next}
use Rattle.fp_topologies.proofs.index.firsts_in_each.Goals as goal

pub loop-component-preserved : goal.loop-component-preserved
loop-component-preserved c =
    let all = c.args.components.now in
    let n = c.loop-component.component-index in
    let x = c.component-item.result in
    each_next all c.loop-component.firsts.items c.push.new.self.items n x c.in_ok-found.found (slice_get_read all (length all) n x refl c.loop-component-test.true c.component-item.is)
    c.in_ok-push.ensures.items (subst (λ (ps : List Port). FindsPorts ps c.in_ok-found.found) c.as_slice.ensures c.in_ok-found.ensures) c.loop-component.invariant
