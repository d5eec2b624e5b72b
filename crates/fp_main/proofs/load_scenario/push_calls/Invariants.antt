use Rattle.std.proofs.Common.{◌≡◌, ◌++◌, ◌-◌, ◌≤◌}
use Rattle.fp_main.specs.Load.{call_text, each_below}
use Rattle.fp_main.proofs.load_scenario.push_calls.Given as goal

abbrev pub invariant-numbers : goal.invariant-numbers
invariant-numbers l = (l.number ≤ l.count) × (l.text ≡ l.fn.text ++ each_below call_text l.number)

abbrev pub decreases-numbers : goal.decreases-numbers
decreases-numbers l = l.count - l.number
