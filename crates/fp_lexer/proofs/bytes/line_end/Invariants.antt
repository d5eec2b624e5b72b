use Rattle.std.proofs.Common.{◌≡◌, ◌+◌, ◌≤◌, ◌-◌, drop, length}
use Rattle.fp_lexer.specs.Bytes.{line}
use Rattle.fp_lexer.proofs.bytes.line_end.Given as goal

abbrev pub invariant-line : goal.invariant-line
invariant-line l = record {
  begun : l.from ≤ l.end;
  within : l.end ≤ length l.text;
  rest : l.end + length (line (drop l.end l.text)) ≡ l.from + length (line (drop l.from l.text));
}

abbrev pub decreases-line : goal.decreases-line
decreases-line l = length l.text - l.end
