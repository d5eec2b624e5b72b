use Rattle.std.proofs.Common.{take}
use Rattle.fp_meaning.specs.Broken.{IsUnmeant}
use Rattle.fp_base.specs.Least.{InFirst, IsLeast}
use Rattle.fp_names.specs.Answers.{AreFound}
use Rattle.fp_names.proofs.lookups.look_up.Given as goal

abbrev pub invariant-loop-mention : goal.invariant-loop-mention
invariant-loop-mention l = record {
  least : IsLeast (InFirst l.mention-index (λ _. IsUnmeant l.names) l.mentions) l.found.first;
  found : AreFound l.names (take l.mention-index l.mentions) l.found;
}
