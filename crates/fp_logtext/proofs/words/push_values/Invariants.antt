use Rattle.std.proofs.Common.{◌≡◌, ◌++◌, map, take}
use Rattle.fp_base.specs.Rendered.{joined, value_text}
use Rattle.fp_logtext.proofs.words.push_values.Given as goal

abbrev pub invariant-loop-at : goal.invariant-loop-at
invariant-loop-at l = l.log ≡ l.initial.log ++ joined (map value_text (take l.at l.values))
