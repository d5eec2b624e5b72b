use Rattle.std.proofs.Common.{◌≡◌, ◌+◌, ◌++◌, drop, length}
use Rattle.fp_component_rules.specs.Links.{links_from, rows_from}
use Rattle.fp_component_rules.proofs.links.links_of.Given as goal

abbrev pub invariant-loop-importer : goal.invariant-loop-importer
invariant-loop-importer l = record {
  links : l.links ++ links_from l.importer (drop l.importer l.interfaces) ≡ links_from 0 l.interfaces;
  rows : l.rows.items ++ rows_from (length l.interfaces + length l.links) l.importer (drop l.importer l.interfaces) ≡ rows_from (length l.interfaces) 0 l.interfaces;
}
