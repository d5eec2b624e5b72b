use Rattle.std.proofs.Common.{◌+◌, ◌≤◌, ◌<◌, ◌-◌, ℕ, List, length, take, drop, length-drop, length-take, ◌∙◌, arith}
use Rattle.fp_main.proofs.Writing.{adds_more_of}
use Rattle.fp_main.proofs.deliver.write_all.Goals as goal

within_of : (bytes : List ℕ) (at taken : ℕ) → at < length bytes → taken ≤ length (take (length bytes - at) (drop at bytes)) → at + taken ≤ length bytes
within_of bytes at taken h t = omega (arith, length-take (length bytes - at) (drop at bytes), length-drop at bytes)

pub pieces-preserved : goal.pieces-preserved
pieces-preserved g c = record {
  within = within_of _ _ _ c.pieces-test.true c.in-Ok.ensures.takes.0;
  written = adds_more_of _ _ _ _ _ _ c.pieces.invariant.written c.in-Ok.ensures.told;
  sound = c.in-Ok.ensures.faults ∙ c.pieces.invariant.sound;
}
