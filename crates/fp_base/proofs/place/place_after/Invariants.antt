use Rattle.std.proofs.Common.{◌≡◌, ◌≤◌, ◌-◌}
use Rattle.fp_base.specs.Places.{place_at}
use Rattle.fp_base.proofs.place.place_after.Given as goal

abbrev pub invariant-bytes : goal.invariant-bytes
invariant-bytes l = record {
  begun : l.from ≤ l.at;
  within : l.at ≤ l.to;
  line : l.line ≡ (place_at l.file l.text l.at).line;
  column : l.column ≡ (place_at l.file l.text l.at).column;
}

abbrev pub decreases-bytes : goal.decreases-bytes
decreases-bytes l = l.to - l.at
