use Rattle.std.proofs.Common.{◌<◌, ◌^◌, arith}
use Rattle.std.proofs.lemmas.Nat.{mul-lt}
use Rattle.fp_sound_programs.proofs.queues.queue_places.Goals as goal

pub overflow_mul-result : goal.overflow_mul-result
overflow_mul-result c =
    let size : c.from.result < 2 ^ 32 = omega arith in
    let count : c.in-Some-get.count.now < 2 ^ 64 = omega (arith, c.type_inv.counts c.in-Some.instance.now.component, c.in-Some-get.ensures.lookup) in
    omega (arith, mul-lt c.from.result c.in-Some-get.count.now (2 ^ 32) (2 ^ 64) size count)
