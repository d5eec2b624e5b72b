use Rattle.std.proofs.Common.{◌≡◌, take}
use Rattle.fp_topologies.specs.Links.{links_in}
use Rattle.fp_topologies.proofs.links.links_in.Given as goal

abbrev pub invariant-loop-import : goal.invariant-loop-import
invariant-loop-import l = l.links ≡ links_in l.importer (take l.import-index l.imports)
