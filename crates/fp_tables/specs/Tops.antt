-- The greatest opcode or id of a component.
use Rattle.std.specs.Prelude.{ℕ, max, Option, None, Some}
use Rattle.fp_tables.specs.Instances.{largest, local_ids}
use Rattle.fp_tables.specs.declared.component.Component.{Component}

abbrev pub larger : Option ℕ → Option ℕ → Option ℕ
larger None q = q
larger (Some m) None = Some m
larger (Some m) (Some n) = Some (max m n)

-- the largest opcode or id of a component
abbrev pub top_of : Component → Option ℕ
top_of c = largest (local_ids c)
