use Rattle.std.proofs.Common.{ℕ, BTreeMap, ap, sym, ◌∙◌}
use Rattle.std.specs.Ordering.{nat_cmp}
use Rattle.std.specs.BTreeMap.{get_by}
use Rattle.fp_tables.specs.Components.{saved_parameter}
use Rattle.fp_listing.proofs.FirstOpcodes.{noted, passed}
use Rattle.fp_listing.proofs.opcodes.save_opcodes.Goals as goal
use Rattle.fp_listing.proofs.opcodes.save_opcodes.Goals.{in-Some+in_ok-note_first, in_default}

pub loop-command-preserved : goal.loop-command-preserved
loop-command-preserved c = λ q.
    let cs = c.args.commands.now in
    let i = c.loop-command.command-index in
    let x = c.command-item.result in
    let found = λ (m : BTreeMap ℕ ℕ). get_by (nat_cmp q) m in
    elim c.match-saved_by.branch [
      | in-Some+in_ok-note_first w ↦
          ap found w.opcodes-is
          ∙ noted saved_parameter cs i x c.loop-command-test.true c.command-item.is q w.in-Some.param (found c.loop-command.opcodes) (found w.note_first.new.opcodes) (sym c.saved_by.ensures ∙ w.in-Some.is)
          (c.loop-command.invariant q) (w.in_ok-note_first.ensures q)
      | in_default w ↦
          ap found w.opcodes-is
          ∙ passed saved_parameter cs i x c.loop-command-test.true c.command-item.is q (found c.loop-command.opcodes) (sym c.saved_by.ensures ∙ w.in_default.is) (c.loop-command.invariant q)
    ]
