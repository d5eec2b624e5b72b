use Rattle.fp_main.proofs.Found.{under_scenario, under_source}
use Rattle.fp_main.proofs.load_files.LoadFiles.copy_of.Goals as goal

pub returns-in_ok-copy : goal.returns-in_ok-copy
returns-in_ok-copy c = under_source c.args.self.now.source c.args.self.now.scenario c.args.name.now _ _ c.eq.ensures c.if-eq.true c.in_ok-copy.ensures

pub returns-in_ok-copy-2 : goal.returns-in_ok-copy-2
returns-in_ok-copy-2 c = under_scenario c.args.self.now.source c.args.self.now.scenario c.args.name.now _ _ c.eq-else-eq.ensures c.if-eq-2.true c.in_ok-copy-2.ensures
