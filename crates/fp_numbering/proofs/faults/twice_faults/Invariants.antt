use Rattle.std.proofs.Common.{◌≡◌, ℕ, take}
use Rattle.std.specs.Prelude.{ℤ}
use Rattle.std.specs.List.{list_any}
use Rattle.std.specs.BTreeSet.{contains_by}
use Rattle.fp_base.specs.Least.{IsLeast, InFirst}
use Rattle.fp_numbering.specs.Faults.{begun_cmp, begins_at, IsTwicePlainly}
use Rattle.fp_numbering.proofs.faults.twice_faults.Given as goal

abbrev pub invariant-loop-tip : goal.invariant-loop-tip
invariant-loop-tip l =
    ((q : ℕ × ℕ × ℤ) → contains_by (begun_cmp q) l.begun ≡ list_any (begins_at q) (take l.tip-index l.tips)) × IsLeast (InFirst l.tip-index (IsTwicePlainly l.tips) l.tips) l.first
