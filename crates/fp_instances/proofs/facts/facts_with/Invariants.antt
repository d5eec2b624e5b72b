use Rattle.std.proofs.Common.{◌≡◌, take}
use Rattle.fp_instances.specs.Facts.{all_facts}
use Rattle.fp_instances.proofs.facts.facts_with.Given as goal

abbrev pub invariant-loop-instance : goal.invariant-loop-instance
invariant-loop-instance l = l.facts ≡ all_facts l.components (take l.instance-index l.written)
