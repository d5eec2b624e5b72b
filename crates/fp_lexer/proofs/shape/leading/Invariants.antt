use Rattle.std.proofs.Common.{◌≡◌, ◌+◌, ◌-◌, ◌≤◌, drop, length}
use Rattle.std.specs.List.{prefix_len}
use Rattle.fp_lexer.specs.Bytes.{is_blank}
use Rattle.fp_lexer.proofs.shape.leading.Given as goal

abbrev pub invariant-blanks : goal.invariant-blanks
invariant-blanks l = record {
  within : l.from ≤ length l.line;
  rest : l.from + prefix_len is_blank (drop l.from l.line) ≡ prefix_len is_blank l.line;
}

abbrev pub decreases-blanks : goal.decreases-blanks
decreases-blanks l = length l.line - l.from
