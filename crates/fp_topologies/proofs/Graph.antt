-- The graph of imports as rows of numbers.
use Rattle.std.proofs.Common.{◌≡◌, ◌↔◌, ◌<◌, ℕ, List, length, map, slice_get, Some, sym, subst}
use Rattle.fp_base.proofs.Mapped.{map_get, get_mapped, many_mapped}
use Rattle.fp_graph.specs.Rows.{IsListed}
use Rattle.fp_written_parts.specs.declared.topology.ImportedTopology.{ImportedTopology}
use Rattle.fp_written_parts.specs.declared.topology.WrittenTopology.{WrittenTopology}
use Rattle.fp_topologies.specs.Imports.{imported_by, Imports, ImportsLie}

module _ (ts : List WrittenTopology) (lie : ImportsLie ts) where
  abbrev rows : List (List ℕ)
  rows = map imported_by ts

  imports_listed : (v w : ℕ) → Imports ts v w → IsListed rows v w
  imports_listed v w i =
      let low : w < length ts = subst (λ (n : ℕ). n < length ts) i.of (lie v i.written i.k i.import_ i.here i.member) in
      record {
        row = imported_by i.written;
        here = map_get imported_by ts v i.written i.here;
        k = i.k;
        target = subst (λ (n : ℕ). slice_get (imported_by i.written) i.k ≡ Some n) i.of (map_get (λ (j : ImportedTopology). j.topology) i.written.imports i.k i.import_ i.member);
        within = subst (λ (n : ℕ). w < n) (sym (many_mapped imported_by ts)) low;
      }

  listed_imports : (v w : ℕ) → IsListed rows v w → Imports ts v w
  listed_imports v w l =
      let t = get_mapped imported_by ts v l.row l.here in
      let m = get_mapped (λ (j : ImportedTopology). j.topology) t.0.imports l.k w (subst (λ (xs : List ℕ). slice_get xs l.k ≡ Some w) (sym t.2) l.target) in
      record { written = t.0; here = t.1; k = l.k; import_ = m.0; member = m.1; of = m.2 }

  pub same_imports : (v w : ℕ) → Imports ts v w ↔ IsListed rows v w
  same_imports v w = (imports_listed v w, listed_imports v w)
