-- What the test of chains works with.
use Rattle.std.specs.Prelude.{Bool, false, ◌&&◌, ◌||◌, List, slice_get, unwrap_or}
use Rattle.std.specs.List.{list_any}
use Rattle.fp_tables.specs.Types.{kinds_in, uses_constants}
use Rattle.fp_tables.specs.declared.kind.Kind.{Kind}
use Rattle.fp_tables.specs.declared.kind.Kind.TheVariants as kind
use Rattle.fp_tables.specs.declared.kind.Form.{Form}

-- a type of the model has a mark at its place
abbrev pub is_marked : List Bool → Kind → Bool
is_marked marks (kind.Named i) = unwrap_or (slice_get marks i) false
is_marked marks _ = false

-- a form uses a type that is marked, or a constant where these are
abbrev pub uses_marked : List Bool → Bool → Form → Bool
uses_marked marks constants f = (uses_constants f && constants) || list_any (is_marked marks) (kinds_in f)
