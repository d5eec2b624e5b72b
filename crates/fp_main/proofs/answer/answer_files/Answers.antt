use Rattle.std.proofs.Common.{List, ℕ, ap, inl, refl, sym, subst, ◌∙◌}
use Rattle.fp_base.proofs.Options.{if_ok_then}
use Rattle.fp_gather.specs.FilesRun.{files_run}
use Rattle.fp_main.proofs.Dues.{due_broken, due_no_file, due_read_fault, due_source, spelled_asks}
use Rattle.fp_main.proofs.Givens.{definitions_named, enumerations_listed, fields_named, machines_ordered, parts_named}
use Rattle.fp_main.specs.Lines.{no_file_line, read_fault_line, refusal_line}
use Rattle.fp_main.specs.Output.{IsDueOfFiles}
use Rattle.fp_main.specs.declared.answer.Due.{Due}
use Rattle.fp_main.proofs.answer.answer_files.Goals as goal

pub answer_source-requires-clause-names : goal.answer_source-requires-clause-names
answer_source-requires-clause-names g c κs within = definitions_named c.names_are_names.ensures _ _ c.in-Ok.source c.in-Ok.ensures.gathers

pub answer_source-requires-clause-fields : goal.answer_source-requires-clause-fields
answer_source-requires-clause-fields g c κs within = fields_named c.names_are_names.ensures _ _ c.in-Ok.source c.in-Ok.ensures.gathers

pub answer_source-requires-clause-parts : goal.answer_source-requires-clause-parts
answer_source-requires-clause-parts g c κs within = parts_named c.names_are_names.ensures _ _ c.in-Ok.source c.in-Ok.ensures.gathers

pub answer_source-requires-clause-enumerations : goal.answer_source-requires-clause-enumerations
answer_source-requires-clause-enumerations g c κs within =
    enumerations_listed c.enumerations_have_constants.ensures c.part_enumerations_have_constants.ensures c.listed_items_have_constants.ensures _ _ c.in-Ok.source c.in-Ok.ensures.gathers

pub answer_source-requires-clause-machines : goal.answer_source-requires-clause-machines
answer_source-requires-clause-machines g c κs within = machines_ordered c.machines_are_ordered.ensures c.part_machines_are_ordered.ensures _ _ c.in-Ok.source c.in-Ok.ensures.gathers

pub returns-in-Ok : goal.returns-in-Ok
returns-in-Ok g c told words spelled =
    if_ok_then c.answer_source.result _ _
    (λ due d. due_source told g.F.Files.told g.F.Files.faults g.F.Files.misses c.args.files.now c.gather.new.files c.answer_source.new.files words _ (spelled_asks told words _ _ spelled)
    c.in_files_read.ensures c.places_in_files.ensures
    (record { values = c.values_break_at_places.ensures; parts = c.parts_break_at_places.ensures; states = c.states_break_at_places.ensures; instances = c.instances_break_at_places.ensures; topologies = c.topologies_break_at_places.ensures; numbers = c.numbers_break_at_places.ensures })
    c.in-Ok.source due.status due.output due.line c.gather.ensures.told c.in-Ok.ensures.gathers d)
    (c.answer_source.ensures told words _ spelled)

pub returns-in_ok-line-in-Err-Broken : goal.returns-in_ok-line-in-Err-Broken
returns-in_ok-line-in-Err-Broken g c told words spelled =
    subst (λ (due : Due). IsDueOfFiles told words (files_run g.F.Files.told g.F.Files.faults g.F.Files.misses c.args.files.now c.gather.new.files) due.status due.output due.line) (sym c.said.ensures)
    (inl (due_broken told words _ _ (spelled_asks told words _ _ spelled) _ c.in-Err-Broken.refusal c.in-Err-Broken.file _ _ c.in-Err-Broken.field-0-is c.in-Err-Broken.ensures.gathers refl
    (c.in_ok-line-in-Err-Broken.ensures ∙ ap (λ (name : List ℕ). refusal_line name c.in-Err-Broken.refusal.place c.in-Err-Broken.refusal.rule) c.as_str.ensures)))

pub returns-in_ok-line-in-Err-NoFile : goal.returns-in_ok-line-in-Err-NoFile
returns-in_ok-line-in-Err-NoFile g c told words spelled =
    subst (λ (due : Due). IsDueOfFiles told words (files_run g.F.Files.told g.F.Files.faults g.F.Files.misses c.args.files.now c.gather.new.files) due.status due.output due.line) (sym c.said-in-Err-NoFile.ensures)
    (inl (due_no_file told words _ _ (spelled_asks told words _ _ spelled) _ c.in-Err-NoFile.name _ c.in-Err-NoFile.field-0-is c.in-Err-NoFile.ensures.gathers
    (c.in_ok-line-in-Err-NoFile.ensures ∙ ap no_file_line c.as_str-in-Err-NoFile.ensures)))

pub returns-in_ok-line-in-Err-ReadFault : goal.returns-in_ok-line-in-Err-ReadFault
returns-in_ok-line-in-Err-ReadFault g c told words spelled =
    subst (λ (due : Due). IsDueOfFiles told words (files_run g.F.Files.told g.F.Files.faults g.F.Files.misses c.args.files.now c.gather.new.files) due.status due.output due.line) (sym c.said-in-Err-ReadFault.ensures)
    (inl (due_read_fault told words _ _ (spelled_asks told words _ _ spelled) _ c.in-Err-ReadFault.name _ c.in-Err-ReadFault.field-0-is c.in-Err-ReadFault.ensures.gathers
    (c.in_ok-line-in-Err-ReadFault.ensures ∙ ap read_fault_line c.as_str-in-Err-ReadFault.ensures)))
