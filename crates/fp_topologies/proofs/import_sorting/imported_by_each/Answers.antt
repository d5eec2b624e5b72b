use Rattle.std.proofs.Common.{◌≡◌, ◌∙◌, ◌++◌, [], ◌∷◌, List, ℕ, Some, length, map, slice_get, take, refl, sym, ap}
use Rattle.std.proofs.lemmas.Option.{slice_get_read}
use Rattle.fp_base.proofs.Mapped.{mapped_next}
use Rattle.fp_written_parts.specs.declared.topology.ImportedTopology.{ImportedTopology}
use Rattle.fp_topologies.specs.Filled.{imported_of}
use Rattle.fp_topologies.specs.Imports.{imported_by}
use Rattle.fp_topologies.proofs.import_sorting.imported_by_each.Goals as goal

pub loop-topology-preserved : goal.loop-topology-preserved
loop-topology-preserved c =
    let all = c.args.written.now in
    let n = c.loop-topology.topology-index in
    let o = c.topology-item.result in
    let at : slice_get all n ≡ Some o = slice_get_read all (length all) n o refl c.loop-topology-test.true c.topology-item.is in
    let row = c.in_ok-row.row in
    let row_is = c.in_ok-row.ensures ∙ ap (λ (is : List ImportedTopology). imported_of is) c.as_slice.ensures in
    c.in_ok-push.ensures.items ∙ ap (λ (rows : List (List ℕ)). rows ++ row ∷ []) c.loop-topology.invariant
    ∙ ap (λ (r : List ℕ). map imported_by (take n all) ++ r ∷ []) row_is ∙ sym (mapped_next imported_by all n o at)
