use Rattle.std.proofs.Common.{◌≡◌, ◌∙◌, ◌+◌, List, ℕ, Some, length, slice_get, refl, ap}
use Rattle.std.proofs.lemmas.Option.{slice_get_read}
use Rattle.fp_base.specs.Numbers.{numbers_from}
use Rattle.fp_written_parts.specs.declared.topology.ImportedTopology.{ImportedTopology}
use Rattle.fp_topologies.specs.Links.{links_in}
use Rattle.fp_topologies.proofs.Linking.{links_next, rows_next}
use Rattle.fp_topologies.proofs.links.links_of.Goals as goal

pub loop-importer-preserved : goal.loop-importer-preserved
loop-importer-preserved c =
    let fs = c.args.written.now in
    let k = c.loop-importer.importer in
    let f = c.index-written-importer.result in
    let at : slice_get fs k ≡ Some f = slice_get_read fs (length fs) k f refl c.loop-importer-test.true c.index-written-importer.is in
    let more_is = c.in_ok-more.ensures ∙ ap (λ (ms : List ImportedTopology). links_in k ms) c.as_slice.ensures in
    record {
      links = links_next fs k f at c.loop-importer.links c.in_ok-more.more _ _ more_is c.in_ok-append.ensures.ok c.loop-importer.invariant.links;
      rows =
          rows_next fs k f at (length fs) c.in_ok-first.first c.loop-importer.links c.in_ok-more.more _ c.in_ok-row.row c.loop-importer.rows.items _ _ more_is c.in_ok-append.ensures.ok
          (c.in_ok-first.ensures ∙ ap (λ (n : ℕ). length fs + n) c.len.ensures)
          (c.in_ok-row.ensures ∙ ap (λ (n : ℕ). numbers_from c.in_ok-first.first n) c.len-in-loop-importer.ensures) c.in_ok-push.ensures.items c.loop-importer.invariant.rows;
    }
