use Rattle.fp_main.proofs.Givens.{definitions_named, enumerations_listed, fields_named, machines_ordered, parts_named}
use Rattle.fp_checks.proofs.models.source_of.Goals as goal

pub returns-in-Ok-clause-names : goal.returns-in-Ok-clause-names
returns-in-Ok-clause-names c = definitions_named c.names_are_names.ensures _ _ c.in-Ok.source c.in-Ok.ensures.gathers

pub returns-in-Ok-clause-fields : goal.returns-in-Ok-clause-fields
returns-in-Ok-clause-fields c = fields_named c.names_are_names.ensures _ _ c.in-Ok.source c.in-Ok.ensures.gathers

pub returns-in-Ok-clause-parts : goal.returns-in-Ok-clause-parts
returns-in-Ok-clause-parts c = parts_named c.names_are_names.ensures _ _ c.in-Ok.source c.in-Ok.ensures.gathers

pub returns-in-Ok-clause-enumerations : goal.returns-in-Ok-clause-enumerations
returns-in-Ok-clause-enumerations c =
    enumerations_listed c.enumerations_have_constants.ensures c.part_enumerations_have_constants.ensures c.listed_items_have_constants.ensures _ _ c.in-Ok.source c.in-Ok.ensures.gathers

pub returns-in-Ok-clause-machines : goal.returns-in-Ok-clause-machines
returns-in-Ok-clause-machines c = machines_ordered c.machines_are_ordered.ensures c.part_machines_are_ordered.ensures _ _ c.in-Ok.source c.in-Ok.ensures.gathers
