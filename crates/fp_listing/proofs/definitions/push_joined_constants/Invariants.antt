use Rattle.std.proofs.Common.{◌≡◌, ◌++◌, map, take}
use Rattle.fp_base.specs.Rendered.{joined}
use Rattle.fp_listing.specs.Definitions.{constant_text}
use Rattle.fp_listing.proofs.definitions.push_joined_constants.Given as goal

abbrev pub invariant-loop-at : goal.invariant-loop-at
invariant-loop-at l = l.out ≡ l.initial.out ++ joined (map constant_text (take l.at l.constants))
