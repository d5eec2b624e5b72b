use Rattle.std.proofs.Common.{◌≡◌, ◌+◌, ◌≤◌, ◌<◌, ◌-◌, ◌^◌, drop, length}
use Rattle.std.specs.List.{prefix_len}
use Rattle.fp_lexer.specs.Bytes.{is_hex_digit}
use Rattle.fp_lexer.specs.Scan.{run_hex}
use Rattle.fp_lexer.proofs.scan.hex_number.Given as goal

abbrev pub invariant-digits : goal.invariant-digits
invariant-digits l = record {
  begun : l.from ≤ l.end;
  within : l.end ≤ length l.text;
  small : l.value < 2 ^ 127;
  value : run_hex l.value (drop l.end l.text) ≡ run_hex 0 (drop l.from l.text);
  rest : l.end + prefix_len is_hex_digit (drop l.end l.text) ≡ l.from + prefix_len is_hex_digit (drop l.from l.text);
}

abbrev pub decreases-digits : goal.decreases-digits
decreases-digits l = length l.text - l.end
