use Rattle.std.proofs.Common.{◌≡◌, ◌-◌, ◌<◌, ◌≤◌, take, length, true}
use Rattle.std.specs.Prelude.{slice_index}
use Rattle.std.specs.List.{suffix_len}
use Rattle.fp_lexer.specs.Bytes.{is_blank}
use Rattle.fp_lexer.proofs.shape.length_trimmed.Given as goal

abbrev pub invariant-blanks : goal.invariant-blanks
invariant-blanks l = record {
  within : l.past ≤ length l.line;
  blank : l.past < length l.line → is_blank (slice_index l.line l.past) ≡ true;
  rest : l.past - suffix_len is_blank (take l.past l.line) ≡ length l.line - suffix_len is_blank l.line;
}

abbrev pub decreases-blanks : goal.decreases-blanks
decreases-blanks l = l.past
