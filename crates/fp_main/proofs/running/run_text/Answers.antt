use Rattle.fp_main.specs.Output.{tables_of}
use Rattle.fp_main.proofs.Scenarios.{due_scenario_broken, due_told}
use Rattle.fp_main.proofs.running.run_text.Goals as goal

pub returns-in-Ok : goal.returns-in-Ok
returns-in-Ok g c files read =
    due_told c.args.asked.told files c.args.asked.scenario.now (tables_of c.args.model c.args.topology) c.ended.result c.in-Ok.told.text c.args.text.now c.in-Ok.told.finish
    c.ended.ensures read c.in-Ok.ensures.unbroken c.in-Ok.ensures.told

pub returns-in_ok-line-in-Err-Broken : goal.returns-in_ok-line-in-Err-Broken
returns-in_ok-line-in-Err-Broken g c files read =
    due_scenario_broken c.args.asked.told files c.args.asked.scenario.now (tables_of c.args.model c.args.topology) c.said.result c.in-Err-Broken.field-0 c.in-Err-Broken.stop
    c.args.text.now _ c.said.ensures c.in_ok-line-in-Err-Broken.ensures c.in-Err-Broken.field-0-is c.in-Err-Broken.ensures.broken read
