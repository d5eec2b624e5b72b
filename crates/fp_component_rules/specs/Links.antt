-- The imports of interfaces as a graph.
use Rattle.std.specs.Prelude.{ℕ, suc, ◌+◌, List, [], ◌∷◌, ◌++◌, length, map, Option, Some, None}
use Rattle.std.specs.List.{filter_map}
use Rattle.fp_base.specs.Numbers.{numbers_from}
use Rattle.fp_written_parts.specs.declared.member.WrittenInterface.{WrittenInterface}
use Rattle.fp_written_parts.specs.declared.member.WrittenMember.{WrittenMember}
use Rattle.fp_written_parts.specs.declared.member.WrittenMember.TheVariants.{Import}
use Rattle.fp_component_rules.specs.declared.links.Link.{Link}

abbrev pub imported_by : WrittenMember → Option ℕ
imported_by (Import i) = Some i.interface
imported_by _ = None

abbrev pub imported_in : List WrittenMember → List ℕ
imported_in members = filter_map imported_by members

-- ---- each import is a vertex of its own, behind those of the interfaces: an interface leads to its imports, and they lead to what they import

abbrev pub link_by : ℕ → WrittenMember → Option Link
link_by importer (Import i) = Some (record { importer = importer; written = i })
link_by importer _ = None

abbrev pub links_in : ℕ → List WrittenMember → List Link
links_in importer members = filter_map (link_by importer) members

abbrev pub links_from : ℕ → List WrittenInterface → List Link
links_from v [] = []
links_from v (f ∷ fs) = links_in v f.members ++ links_from (suc v) fs

-- the vertices of the imports of each interface
abbrev pub rows_from : ℕ → ℕ → List WrittenInterface → List (List ℕ)
rows_from first v [] = []
rows_from first v (f ∷ fs) = numbers_from first (length (links_in v f.members)) ∷ rows_from (first + length (links_in v f.members)) (suc v) fs

abbrev pub targets_of : List Link → List (List ℕ)
targets_of links = map (λ (l : Link). l.written.interface ∷ []) links
