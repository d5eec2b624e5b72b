use Rattle.std.proofs.Common.{◌≡◌, ◌∙◌, ◌<◌, Bool, true, false, ℕ, List, ap, sym, arith, length}
use Rattle.std.specs.Option.{option_copied}
use Rattle.std.specs.Str.{bytes_eq}
use Rattle.fp_outside.proofs.Held.{after_same, after_other}
use Rattle.fp_outside.proofs.mem_files.look_up.Goals as goal
use Rattle.fp_outside.proofs.mem_files.look_up.Goals.{then-eq, else-eq}

-- the test of the loop, on the names' bytes
tested : (read held name : List ℕ) (r b : Bool) → read ≡ held → r ≡ bytes_eq read name → r ≡ b → bytes_eq held name ≡ b
tested read held name r b same is value = ap (λ n. bytes_eq n name) (sym same) ∙ sym is ∙ value

pub loop-file-preserved : goal.loop-file-preserved
loop-file-preserved c =
    let within : c.loop-file.file-index < length c.args.held.now = omega arith in
    elim c.if-eq.branch [
      | then-eq w ↦ ap option_copied w.found-is
          ∙ sym (after_same c.args.held.now c.loop-file.file-index c.file-item.result c.args.name.now within c.file-item.is (tested _ _ _ _ _ c.as_str.ensures c.eq.ensures w.if-eq.true))
      | else-eq w ↦ ap option_copied w.found-is ∙ c.loop-file.invariant
          ∙ sym (after_other c.args.held.now c.loop-file.file-index c.file-item.result c.args.name.now within c.file-item.is (tested _ _ _ _ _ c.as_str.ensures c.eq.ensures w.if-eq.false))
    ]
