use Rattle.std.proofs.Common.{◌≤◌, ◌-◌, length}
use Rattle.fp_lexer.proofs.Cuts.{Fine}
use Rattle.fp_lexer.proofs.lexing.flaw_of_mangled.Given as goal

abbrev pub invariant-pieces : goal.invariant-pieces
invariant-pieces l = record {
  within : l.at ≤ length l.text;
  fine : Fine l.text l.at;
}

abbrev pub decreases-pieces : goal.decreases-pieces
decreases-pieces l = length l.text - l.at
