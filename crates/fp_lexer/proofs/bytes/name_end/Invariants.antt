use Rattle.std.proofs.Common.{◌≡◌, ◌+◌, ◌≤◌, ◌-◌, drop, length}
use Rattle.std.specs.List.{prefix_len}
use Rattle.fp_base.specs.Names.{is_name_byte}
use Rattle.fp_lexer.proofs.bytes.name_end.Given as goal

abbrev pub invariant-name : goal.invariant-name
invariant-name l = record {
  begun : l.from ≤ l.end;
  within : l.end ≤ length l.text;
  rest : l.end + prefix_len is_name_byte (drop l.end l.text) ≡ l.from + prefix_len is_name_byte (drop l.from l.text);
}

abbrev pub decreases-name : goal.decreases-name
decreases-name l = length l.text - l.end
