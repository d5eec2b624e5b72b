use Rattle.std.proofs.Common.{◌≡◌, ◌+◌, ◌≤◌, ◌-◌, drop, length}
use Rattle.std.specs.List.{prefix_len}
use Rattle.fp_base.specs.Names.{is_digit}
use Rattle.fp_lexer.proofs.scan.digits_end.Given as goal

abbrev pub invariant-digits : goal.invariant-digits
invariant-digits l = record {
  begun : l.from ≤ l.end;
  within : l.end ≤ length l.text;
  rest : l.end + prefix_len is_digit (drop l.end l.text) ≡ l.from + prefix_len is_digit (drop l.from l.text);
}

abbrev pub decreases-digits : goal.decreases-digits
decreases-digits l = length l.text - l.end
