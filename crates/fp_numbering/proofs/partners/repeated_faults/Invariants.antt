use Rattle.std.proofs.Common.{◌≡◌, ℕ, take}
use Rattle.std.specs.List.{list_any}
use Rattle.std.specs.BTreeSet.{contains_by}
use Rattle.fp_tables.specs.Found.{key_cmp}
use Rattle.fp_base.specs.Least.{IsLeast, InFirst}
use Rattle.fp_numbering.specs.Ends.{matches_of}
use Rattle.fp_numbering.specs.Partners.{is_seen}
use Rattle.fp_numbering.specs.Broken.{IsRepeated}
use Rattle.fp_numbering.proofs.partners.repeated_faults.Given as goal

abbrev pub invariant-loop-tip : goal.invariant-loop-tip
invariant-loop-tip l =
    ((q : ℕ × ℕ × ℕ) → contains_by (key_cmp q) l.seen ≡ list_any (is_seen q) (take l.tip-index l.tips))
    × IsLeast (InFirst l.tip-index (IsRepeated (matches_of l.model) l.tips) l.tips) l.first
