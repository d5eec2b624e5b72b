use Rattle.std.proofs.Common.{◌≡◌, ◌++◌, map, take}
use Rattle.fp_base.specs.Rendered.{joined}
use Rattle.fp_listing.specs.Definitions.{field_text}
use Rattle.fp_listing.proofs.definitions.push_joined_fields.Given as goal

abbrev pub invariant-loop-at : goal.invariant-loop-at
invariant-loop-at l = l.out ≡ l.initial.out ++ joined (map (field_text l.types) (take l.at l.fields))
