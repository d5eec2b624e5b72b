use Rattle.fp_main.proofs.Givens.{definitions_named, enumerations_listed, fields_named, machines_ordered, parts_named}
use Rattle.fp_bench.proofs.load.tables_of_files.Goals as goal

pub tables_of-requires-clause-names : goal.tables_of-requires-clause-names
tables_of-requires-clause-names c = definitions_named c.names_are_names.ensures _ _ c.in-Ok.source c.in-Ok.ensures.gathers

pub tables_of-requires-clause-fields : goal.tables_of-requires-clause-fields
tables_of-requires-clause-fields c = fields_named c.names_are_names.ensures _ _ c.in-Ok.source c.in-Ok.ensures.gathers

pub tables_of-requires-clause-parts : goal.tables_of-requires-clause-parts
tables_of-requires-clause-parts c = parts_named c.names_are_names.ensures _ _ c.in-Ok.source c.in-Ok.ensures.gathers

pub tables_of-requires-clause-enumerations : goal.tables_of-requires-clause-enumerations
tables_of-requires-clause-enumerations c =
    enumerations_listed c.enumerations_have_constants.ensures c.part_enumerations_have_constants.ensures c.listed_items_have_constants.ensures _ _ c.in-Ok.source c.in-Ok.ensures.gathers

pub tables_of-requires-clause-machines : goal.tables_of-requires-clause-machines
tables_of-requires-clause-machines c = machines_ordered c.machines_are_ordered.ensures c.part_machines_are_ordered.ensures _ _ c.in-Ok.source c.in-Ok.ensures.gathers
