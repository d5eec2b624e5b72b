use Rattle.std.specs.BTreeSet.{contains}
use Rattle.fp_machine_rules.specs.Repeated.{key_cmp}
use Rattle.fp_machine_rules.proofs.Repeats.{IsFlagged}
use Rattle.fp_machine_rules.proofs.repeating.repeated.Given as goal

abbrev pub invariant-loop-key : goal.invariant-loop-key
invariant-loop-key l = IsFlagged l.keys l.key-index (contains key_cmp l.noted) l.flags.items
