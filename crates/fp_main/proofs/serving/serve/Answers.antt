-- each clause from what is written
use Rattle.fp_main.proofs.CausesMeant.{usage_means, read_fault_means, no_file_means, refused_means, no_topology_means, done_means, stuck_means, spent_means, asserted_means, write_fault_means, no_memory_means}
use Rattle.fp_main.proofs.CausesComing.{usage_comes, read_fault_comes, no_file_comes, refused_comes, no_topology_comes, done_comes, scenario_refused_comes, run_comes, make_comes, write_fault_comes}
use Rattle.fp_main.proofs.serving.serve.Goals as goal

pub returns-clause-usage : goal.returns-clause-usage
returns-clause-usage g c = usage_means _ _ _ _ _ c.write_answer.ensures.output

pub returns-clause-read_fault : goal.returns-clause-read_fault
returns-clause-read_fault g c = read_fault_means _ _ _ _ _ c.write_answer.ensures.output

pub returns-clause-no_file : goal.returns-clause-no_file
returns-clause-no_file g c = no_file_means _ _ _ _ _ c.write_answer.ensures.output

pub returns-clause-refused : goal.returns-clause-refused
returns-clause-refused g c = refused_means _ _ _ _ _ c.write_answer.ensures.output

pub returns-clause-no_topology : goal.returns-clause-no_topology
returns-clause-no_topology g c = no_topology_means _ _ _ _ _ c.write_answer.ensures.output

pub returns-clause-done : goal.returns-clause-done
returns-clause-done g c = done_means _ _ _ _ _ c.write_answer.ensures.output

pub returns-clause-stuck : goal.returns-clause-stuck
returns-clause-stuck g c = stuck_means _ _ _ _ _ c.write_answer.ensures.output

pub returns-clause-spent : goal.returns-clause-spent
returns-clause-spent g c = spent_means _ _ _ _ _ c.write_answer.ensures.output

pub returns-clause-asserted : goal.returns-clause-asserted
returns-clause-asserted g c = asserted_means _ _ _ _ _ c.write_answer.ensures.output

pub returns-clause-write_fault : goal.returns-clause-write_fault
returns-clause-write_fault g c = write_fault_means _ _ _ _ _ c.write_answer.ensures.output

pub returns-clause-no_memory : goal.returns-clause-no_memory
returns-clause-no_memory g c = no_memory_means _ _ _ _ _ c.write_answer.ensures.output

pub returns-clause-usage_comes : goal.returns-clause-usage_comes
returns-clause-usage_comes g c = usage_comes c.one_reading.ensures _ _ _ _ _ c.write_answer.ensures.output

pub returns-clause-read_fault_comes : goal.returns-clause-read_fault_comes
returns-clause-read_fault_comes g c = read_fault_comes c.one_reading.ensures _ _ _ _ _ c.write_answer.ensures.output

pub returns-clause-no_file_comes : goal.returns-clause-no_file_comes
returns-clause-no_file_comes g c = no_file_comes c.one_reading.ensures _ _ _ _ _ c.write_answer.ensures.output

pub returns-clause-refused_comes : goal.returns-clause-refused_comes
returns-clause-refused_comes g c = refused_comes c.one_reading.ensures _ _ _ _ _ c.write_answer.ensures.output

pub returns-clause-no_topology_comes : goal.returns-clause-no_topology_comes
returns-clause-no_topology_comes g c = no_topology_comes c.one_reading.ensures _ _ _ _ _ c.write_answer.ensures.output

pub returns-clause-done_comes : goal.returns-clause-done_comes
returns-clause-done_comes g c = done_comes c.one_reading.ensures _ _ _ _ _ c.write_answer.ensures.output

pub returns-clause-scenario_refused_comes : goal.returns-clause-scenario_refused_comes
returns-clause-scenario_refused_comes g c = scenario_refused_comes c.one_reading.ensures _ _ _ _ _ c.write_answer.ensures.output

pub returns-clause-run_comes : goal.returns-clause-run_comes
returns-clause-run_comes g c = run_comes c.one_reading.ensures _ _ _ _ _ c.write_answer.ensures.output

pub returns-clause-make_comes : goal.returns-clause-make_comes
returns-clause-make_comes g c = make_comes c.one_reading.ensures _ _ _ _ _ c.write_answer.ensures.output

pub returns-clause-write_fault_comes : goal.returns-clause-write_fault_comes
returns-clause-write_fault_comes g c = write_fault_comes c.one_reading.ensures _ _ _ _ _ c.write_answer.ensures.output
