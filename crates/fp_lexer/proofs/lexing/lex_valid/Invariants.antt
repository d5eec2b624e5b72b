use Rattle.std.proofs.Common.{◌≡◌, ◌≤◌, ◌-◌, length}
use Rattle.fp_base.specs.Places.{place_at}
use Rattle.fp_lexer.proofs.State.{LexState}
use Rattle.fp_lexer.proofs.lexing.lex_valid.Given as goal

abbrev pub invariant-pieces : goal.invariant-pieces
invariant-pieces l = record {
  within : l.at ≤ length l.bytes;
  here : l.here ≡ place_at l.file l.bytes l.at;
  state : LexState l.file l.bytes l.tokens l.standing l.at;
}

abbrev pub decreases-pieces : goal.decreases-pieces
decreases-pieces l = length l.bytes - l.at
