use Rattle.std.proofs.Common.{refl}
use Rattle.std.specs.String.{string_bytes}
use Rattle.fp_main.proofs.Wording.{missing_scenario_file_of, missing_scenario_of, none_left, run_of, some_left}
use Rattle.fp_main.proofs.words.read_run_over.Goals as goal

pub returns-in-None : goal.returns-in-None
returns-in-None c = missing_scenario_of string_bytes c.args.name.now c.args.rest.now c.in-None.ensures.cases

pub returns-then-is_empty : goal.returns-then-is_empty
returns-then-is_empty c =
    missing_scenario_file_of string_bytes c.args.name.now c.args.rest.now _ _ c.in-Some.ensures.cases.0 (none_left _ _ c.is_empty.ensures c.if-is_empty.true)

pub returns-else-is_empty : goal.returns-else-is_empty
returns-else-is_empty c =
    (refl, run_of string_bytes c.args.name.now c.args.rest.now _ _ _ c.in-Some.ensures.cases.0 c.as_str.ensures.value (some_left _ _ c.is_empty.ensures c.if-is_empty.false))
