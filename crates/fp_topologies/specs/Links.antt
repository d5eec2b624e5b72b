-- The imports of topologies as a graph. Each import is a vertex of its own, behind those of the topologies: a topology leads to its imports, and
-- they lead to what they import.
use Rattle.std.specs.Prelude.{ℕ, suc, ◌+◌, List, [], ◌∷◌, ◌++◌, length, map}
use Rattle.fp_base.specs.Numbers.{numbers_from}
use Rattle.fp_written_parts.specs.declared.topology.ImportedTopology.{ImportedTopology}
use Rattle.fp_written_parts.specs.declared.topology.WrittenTopology.{WrittenTopology}
use Rattle.fp_topologies.specs.declared.links.Link.{Link}

abbrev pub link_by : ℕ → ImportedTopology → Link
link_by importer i = record { importer = importer; written = i }

abbrev pub links_in : ℕ → List ImportedTopology → List Link
links_in importer is = map (link_by importer) is

abbrev pub links_from : ℕ → List WrittenTopology → List Link
links_from t [] = []
links_from t (o ∷ os) = links_in t o.imports ++ links_from (suc t) os

-- the vertices of the imports of each topology
abbrev pub rows_from : ℕ → ℕ → List WrittenTopology → List (List ℕ)
rows_from first t [] = []
rows_from first t (o ∷ os) = numbers_from first (length (links_in t o.imports)) ∷ rows_from (first + length (links_in t o.imports)) (suc t) os

abbrev pub targets_of : List Link → List (List ℕ)
targets_of links = map (λ (l : Link). l.written.topology ∷ []) links
