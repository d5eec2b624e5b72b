-- Values in which `Opaque` stands for one that is missing, and types of which each is given.
use Rattle.std.specs.Prelude.{◌≡◌, ℕ, Bool, true, false, cond, List, Option, Some, None, slice_get}
use Rattle.fp_base.specs.declared.value.Value.{Value, Opaque}
use Rattle.fp_tables.specs.declared.kind.TypeDef.{TypeDef}

abbrev pub is_opaque : Value → Bool
is_opaque Opaque = true
is_opaque _ = false

-- the value, where there is one
abbrev pub mark_of : Value → Option Value
mark_of v = cond (is_opaque v) None (Some v)

abbrev pub EachIsGiven : List (Option TypeDef) → Type 0
EachIsGiven given = (i : ℕ) (o : Option TypeDef) → slice_get given i ≡ Some o → (d : TypeDef) × (o ≡ Some d)
