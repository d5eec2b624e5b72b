use Rattle.std.proofs.Common.{◌≡◌, ℕ, List, take}
use Rattle.std.specs.BTreeMap.{get_by}
use Rattle.fp_tables.specs.Found.{key_cmp}
use Rattle.fp_base.specs.Least.{IsLeast, InFirst}
use Rattle.fp_numbering.specs.Broken.{AreDifferent}
use Rattle.fp_numbering.specs.Origins.{AreLanes}
use Rattle.fp_numbering.specs.Looks.{said_in, noted, AreLooks}
use Rattle.fp_numbering.proofs.differing.differ_faults.Given as goal

abbrev pub invariant-loop-at : goal.invariant-loop-at
invariant-loop-at l =
    ((q : ℕ × ℕ × ℕ) → get_by (key_cmp q) l.numbers ≡ noted (said_in q (take l.at l.looks)))
    × ((matches : ℕ → List (ℕ × ℕ)) (label : ℕ → ℕ → ℕ) → AreLanes matches l.tips label → AreLooks matches l.tips label l.looks → IsLeast (InFirst l.at (AreDifferent matches l.tips) l.tips) l.first)
