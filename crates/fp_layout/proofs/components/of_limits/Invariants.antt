use Rattle.std.proofs.Common.{◌≡◌, ◌++◌, flat_map, take}
use Rattle.fp_meaning.specs.Layout.{limit_items}
use Rattle.fp_layout.proofs.components.of_limits.Given as goal

abbrev pub invariant-loop-limit : goal.invariant-loop-limit
invariant-loop-limit l = l.found ≡ l.initial.found ++ flat_map (limit_items l.scope) (take l.limit-index l.limits)
