use Rattle.std.proofs.Common.{sym, ◌∙◌}
use Rattle.fp_tables.specs.Lookup.{placed}
use Rattle.fp_tables.proofs.Indexed.{has_place, place_holds}
use Rattle.fp_plant.proofs.plant.place_of.Goals as goal

pub returns : goal.returns
returns c = place_holds (placed c.args.tables.now) c.args.instance c.in-Some.place (sym c.place.ensures ∙ c.in-Some.is)

pub unreachable-requires : goal.unreachable-requires
unreachable-requires c = has_place (placed c.args.tables.now) c.args.instance c.requires (sym c.place.ensures ∙ c.in_default.is)
