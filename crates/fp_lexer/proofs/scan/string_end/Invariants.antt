use Rattle.std.proofs.Common.{◌≡◌, ◌≤◌, ◌-◌, drop, length, false}
use Rattle.fp_lexer.specs.Scan.{string_len, past_bytes}
use Rattle.fp_lexer.proofs.scan.string_end.Given as goal

abbrev pub invariant-body : goal.invariant-body
invariant-body l = record {
  begun : l.from ≤ l.end;
  within : l.end ≤ length l.text;
  rest : past_bytes (l.end - l.from) (string_len l.escaped (drop l.end l.text)) ≡ string_len false (drop l.from l.text);
}

abbrev pub decreases-body : goal.decreases-body
decreases-body l = length l.text - l.end
