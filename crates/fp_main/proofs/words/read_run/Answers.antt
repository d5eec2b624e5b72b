use Rattle.std.specs.String.{string_bytes}
use Rattle.fp_main.proofs.Wording.{missing_run_topology_of, run_over_of}
use Rattle.fp_main.proofs.words.read_run.Goals as goal

pub returns-in-None : goal.returns-in-None
returns-in-None c = missing_run_topology_of string_bytes c.args.rest.now c.in-None.ensures.cases

pub returns-in-Some : goal.returns-in-Some
returns-in-Some c = run_over_of string_bytes c.args.rest.now _ _ _ _ c.in-Some.ensures.cases.0 c.as_str.ensures.value c.read_run_over.ensures
