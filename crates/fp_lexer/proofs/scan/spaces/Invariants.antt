use Rattle.std.proofs.Common.{◌≡◌, ◌≤◌, ◌-◌, ◌+◌, drop, length}
use Rattle.fp_lexer.specs.Scan.{spaces}
use Rattle.fp_lexer.proofs.scan.spaces.Given as goal

abbrev pub invariant-spaces : goal.invariant-spaces
invariant-spaces l = record {
  below : l.count ≤ l.most;
  within : l.from + l.count ≤ length l.text;
  rest : l.count + spaces (l.most - l.count) (drop (l.from + l.count) l.text) ≡ spaces l.most (drop l.from l.text);
}

abbrev pub decreases-spaces : goal.decreases-spaces
decreases-spaces l = l.most - l.count
