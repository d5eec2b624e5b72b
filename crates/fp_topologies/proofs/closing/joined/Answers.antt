use Rattle.std.proofs.Common.{◌∙◌, ◌+◌, List, ℕ, flat_map, map, take, sym, ap, subst}
use Rattle.std.proofs.lemmas.List.{take_all}
use Rattle.std.proofs.lemmas.Option.{slice_get-get_or}
use Rattle.fp_base.proofs.Mapped.{flat_last, mapped_next}
use Rattle.fp_written_parts.specs.declared.topology.ImportedTopology.{ImportedTopology}
use Rattle.fp_topologies.specs.Filled.{imported_of}
use Rattle.fp_topologies.specs.ImportFirsts.{AreFirsts}
use Rattle.fp_topologies.specs.Imports.{with_imports}
use Rattle.fp_topologies.proofs.ImportNoting.{along}
use Rattle.fp_topologies.proofs.closing.joined.Goals as goal

abbrev number : ImportedTopology → ℕ
number i = i.topology

pub loop-import-init : goal.loop-import-init
loop-import-init c = c.no_firsts-firsts.ensures

pub loop-import-preserved : goal.loop-import-preserved
loop-import-preserved c =
    let xs = c.args.imports.now in
    let n = c.loop-import.import-index in
    let f = with_imports c.args.closures.now in
    along _ (flat_map f (imported_of (take (n + 1) xs))) c.in_ok-firsts.firsts
    (sym (ap (flat_map f) (mapped_next number xs n _ (slice_get-get_or xs n _ c.loop-import-test.true)) ∙ flat_last f (map number (take n xs)) _))
    (c.in_ok-firsts.ensures (flat_map f (imported_of (take n xs))) c.loop-import.invariant)

pub returns : goal.returns
returns c =
    subst (λ (is : List ImportedTopology). AreFirsts (flat_map (with_imports c.args.closures.now) (imported_of is)) c.loop-import.firsts)
    (take_all c.loop-import.import-index c.args.imports.now c.loop-import-test.false) c.loop-import.invariant
