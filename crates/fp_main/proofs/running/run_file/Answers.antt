use Rattle.fp_base.proofs.Options.{if_ok_then}
use Rattle.fp_gather.specs.FilesRun.{files_run}
use Rattle.fp_main.specs.Output.{tables_of}
use Rattle.fp_main.proofs.Scenarios.{due_scenario_absent, due_scenario_unread, scenario_absent, scenario_read, scenario_unread}
use Rattle.fp_main.proofs.running.run_file.Goals as goal

pub returns-in-Ok-Some : goal.returns-in-Ok-Some
returns-in-Ok-Some g c =
    c.run_text.ensures (files_run g.F.Files.told g.F.Files.faults g.F.Files.misses c.args.files.now c.read.new.self)
    (scenario_read (files_run g.F.Files.told g.F.Files.faults g.F.Files.misses c.args.files.now c.read.new.self) c.args.asked.scenario.now c.as_slice.result.now c.in-Ok-Some.text c.in-Ok-Some.field-0
    c.in-Ok-Some.field-0-is c.as_slice.ensures c.in-Ok-Some.ensures.faults c.in-Ok-Some.ensures.misses c.in-Ok-Some.ensures.bytes)

pub returns-in-Ok-None : goal.returns-in-Ok-None
returns-in-Ok-None g c =
    if_ok_then c.no_file.result _ _
    (λ due is. due_scenario_absent c.args.asked.told (files_run g.F.Files.told g.F.Files.faults g.F.Files.misses c.args.files.now c.read.new.self) c.args.asked.scenario.now (tables_of c.args.model c.args.topology)
    due is c.in-Ok-None.ensures.faults
    (scenario_absent (files_run g.F.Files.told g.F.Files.faults g.F.Files.misses c.args.files.now c.read.new.self) c.args.asked.scenario.now c.in-Ok-None.field-0
    c.in-Ok-None.field-0-is c.in-Ok-None.ensures.misses c.in-Ok-None.ensures.bytes)) c.no_file.ensures

pub returns-in-Err-Failed : goal.returns-in-Err-Failed
returns-in-Err-Failed g c =
    if_ok_then c.read_fault.result _ _
    (λ due is. due_scenario_unread c.args.asked.told (files_run g.F.Files.told g.F.Files.faults g.F.Files.misses c.args.files.now c.read.new.self) c.args.asked.scenario.now (tables_of c.args.model c.args.topology)
    due is
    (scenario_unread (files_run g.F.Files.told g.F.Files.faults g.F.Files.misses c.args.files.now c.read.new.self) c.args.asked.scenario.now c.in-Err-Failed.field-0 c.in-Err-Failed.field-0-is c.in-Err-Failed.ensures.faults)
    c.in-Err-Failed.ensures.misses) c.read_fault.ensures
