use Rattle.std.proofs.Common.{◌≡◌, ◌≤◌, ◌-◌, ◌++◌, drop, take, length, false}
use Rattle.std.specs.Str.{IsCharBoundary}
use Rattle.fp_lexer.specs.Bytes.{body_text}
use Rattle.fp_lexer.proofs.shape.unescaped.Given as goal

abbrev pub invariant-body : goal.invariant-body
invariant-body l = record {
  order : l.from ≤ l.at;
  begins : IsCharBoundary l.bytes l.from;
  rest : l.text ++ take (l.at - l.from) (drop l.from l.bytes) ++ body_text false (drop l.at l.bytes) ≡ body_text false l.bytes;
}

abbrev pub decreases-body : goal.decreases-body
decreases-body l = length l.bytes - l.at
