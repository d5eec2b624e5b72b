use Rattle.std.proofs.Common.{◌+◌, arith}
use Rattle.fp_main.specs.Load.{call_text}
use Rattle.fp_main.proofs.Below.{all_below, one_more}
use Rattle.fp_main.proofs.load_scenario.push_calls.Goals as goal

pub numbers-preserved : goal.numbers-preserved
numbers-preserved c =
    (omega (arith, c.numbers-test.true), one_more call_text c.numbers.number (c.numbers.number + 1) _ _ _ (omega arith) c.numbers.invariant.1 c.in_ok-push_call.ensures)

pub returns : goal.returns
returns c = all_below call_text c.numbers.number c.args.count _ _ (omega (arith, c.numbers.invariant.0)) c.numbers.invariant.1
