use Rattle.std.proofs.Common.{◌≡◌, ◌+◌, ◌++◌, drop, length}
use Rattle.fp_topologies.specs.Links.{links_from, rows_from}
use Rattle.fp_topologies.proofs.links.links_of.Given as goal

abbrev pub invariant-loop-importer : goal.invariant-loop-importer
invariant-loop-importer l = record {
  links : l.links ++ links_from l.importer (drop l.importer l.written) ≡ links_from 0 l.written;
  rows : l.rows.items ++ rows_from (length l.written + length l.links) l.importer (drop l.importer l.written) ≡ rows_from (length l.written) 0 l.written;
}
