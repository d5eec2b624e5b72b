use Rattle.fp_gather.proofs.AmongRead.{places_among}
use Rattle.fp_gather.proofs.gathering.laws.places_in_files.Goals as goal

pub returns : goal.returns
returns c = places_among (record { sites = c.stand_at_tokens.ensures; placed = c.places_begin_tokens.ensures; part_sites = c.parts_stand_at_tokens.ensures; part_own = c.part_places_begin_tokens.ensures.own; part_placed = c.part_places_begin_tokens.ensures.given; topology_sites = c.topology_stands_at_tokens.ensures; topology_own = c.topology_places_begin_tokens.ensures.own; topology_placed = c.topology_places_begin_tokens.ensures.given })
