use Rattle.std.proofs.Common.{◌≡◌, List, ℕ, Bool, subst}
use Rattle.fp_main.specs.Lines.{write_fault_line}
use Rattle.fp_main.specs.Delivery.{SinkRun, Written}
use Rattle.fp_main.proofs.Writing.{failed_out}
use Rattle.fp_main.proofs.deliver.deliver.Goals as goal

the_line : (whole : Bool) (bytes : List ℕ) (run : SinkRun) → bytes ≡ write_fault_line → Written whole bytes run → Written whole write_fault_line run
the_line whole bytes run e w = subst (λ (b : List ℕ). Written whole b run) e w

pub returns-else-write_all : goal.returns-else-write_all
returns-else-write_all g c =
    failed_out _ _ _ _ _ c.write_all-else-write_all.result c.if-write_all.ensures (the_line _ _ _ c.as_bytes.ensures.value c.write_all-else-write_all.ensures)
