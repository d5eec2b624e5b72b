use Rattle.std.proofs.Common.{◌≡◌, ◌≤◌, ◌-◌, ◌++◌, drop, take, length}
use Rattle.std.specs.Str.{IsCharBoundary}
use Rattle.fp_lexer.specs.Bytes.{dedent, newline_len}
use Rattle.fp_lexer.proofs.shape.dedented.Given as goal

abbrev pub invariant-body : goal.invariant-body
invariant-body l = record {
  order : l.from ≤ l.at;
  within : l.at ≤ length l.bytes;
  begins : IsCharBoundary l.bytes l.from;
  rest : l.text ++ take (l.at - l.from) (drop l.from l.bytes) ++ dedent l.indent 0 (drop l.at l.bytes) ≡ drop (newline_len l.bytes) (dedent l.indent 0 l.bytes);
}

abbrev pub decreases-body : goal.decreases-body
decreases-body l = length l.bytes - l.at
