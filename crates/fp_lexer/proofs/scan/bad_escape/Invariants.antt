use Rattle.std.proofs.Common.{◌≡◌, ◌≤◌, ◌-◌, drop, length, false}
use Rattle.fp_lexer.specs.Scan.{bad_len, past_bytes}
use Rattle.fp_lexer.proofs.scan.bad_escape.Given as goal

abbrev pub invariant-body : goal.invariant-body
invariant-body l = record {
  within : l.at ≤ length l.body;
  rest : past_bytes l.at (bad_len l.escaped (drop l.at l.body)) ≡ bad_len false l.body;
}

abbrev pub decreases-body : goal.decreases-body
decreases-body l = length l.body - l.at
