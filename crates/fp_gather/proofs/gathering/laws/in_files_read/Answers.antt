use Rattle.fp_gather.proofs.AmongRead.{among_read}
use Rattle.fp_gather.proofs.gathering.laws.in_files_read.Goals as goal

pub returns : goal.returns
returns c = among_read (record { sites = c.stand_at_tokens.ensures; placed = c.places_begin_tokens.ensures; part_sites = c.parts_stand_at_tokens.ensures; part_own = c.part_places_begin_tokens.ensures.own; part_placed = c.part_places_begin_tokens.ensures.given; topology_sites = c.topology_stands_at_tokens.ensures; topology_own = c.topology_places_begin_tokens.ensures.own; topology_placed = c.topology_places_begin_tokens.ensures.given })
