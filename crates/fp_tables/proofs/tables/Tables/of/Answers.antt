use Rattle.std.proofs.Common.{sym}
use Rattle.fp_tables.proofs.Short.{topology_is_short}
use Rattle.fp_tables.proofs.tables.Tables.of.Goals as goal

pub places_of-requires : goal.places_of-requires
places_of-requires c =
    let short = topology_is_short c.args.model c.args.topology c.in-Some.topology.now c.requires.0.lists.lists_are_short (sym c.in-Some.ensures.value) in
    rw (c.as_slice-in-Some).ensures short
