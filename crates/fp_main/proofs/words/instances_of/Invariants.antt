use Rattle.std.proofs.Common.{◌≡◌, ◌-◌, ◌<◌, ◌≤◌, ℕ, decimal}
use Rattle.fp_main.specs.Words.{most_instances}
use Rattle.fp_main.proofs.words.instances_of.Given as goal

-- no number so far spells the word
abbrev pub invariant-numbers : goal.invariant-numbers
invariant-numbers l = (l.number ≤ most_instances) × ((n : ℕ) → 0 < n → n ≤ l.number → l.word ≡ decimal n → ⊥)

abbrev pub decreases-numbers : goal.decreases-numbers
decreases-numbers l = most_instances - l.number
