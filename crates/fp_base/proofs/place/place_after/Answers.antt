use Rattle.std.proofs.Common.{take, length-take, not, arith, ◌==◌, ℕ}
use Rattle.std.proofs.lemmas.List.Sums.{suffix_len-le-length}
use Rattle.fp_base.proofs.place.place_after.Goals as goal

pub overflow_add-column : goal.overflow_add-column
overflow_add-column c = omega (arith, suffix_len-le-length (λ (b : ℕ). not (b == 10)) (take c.bytes.at c.args.text.now), length-take c.bytes.at c.args.text.now)
