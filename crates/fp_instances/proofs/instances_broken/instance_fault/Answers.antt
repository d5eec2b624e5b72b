use Rattle.std.proofs.Common.{sym}
use Rattle.fp_base.proofs.Calculus.{least_along, least_either}
use Rattle.fp_instances.proofs.instances_broken.instance_fault.Goals as goal

pub returns : goal.returns
returns c = least_along (sym c.lesser.ensures) (least_either c.words_fault-words.result c.numbers_fault-numbers.result c.words_fault-words.ensures c.numbers_fault-numbers.ensures)
