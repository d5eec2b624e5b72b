-- What the tests of machines work with.
use Rattle.std.specs.Prelude.{ℕ, Bool, true, not, List, Option, None, Some}
use Rattle.fp_tables.specs.declared.machine.Node.{Node}
use Rattle.fp_tables.specs.declared.machine.Node.TheVariants as node
use Rattle.fp_tables.specs.declared.machine.Vertex.{Vertex}
use denote.Ref.{Bor}

-- ---- names of vertices

-- the state round a vertex, and its name
abbrev pub family_name : Vertex → Option ℕ × List ℕ
family_name v = (v.parent, v.name)

abbrev pub family_name_of : Option ℕ × Bor (List ℕ) → Option ℕ × List ℕ
family_name_of key = (key.0, key.1.now)

-- ---- states

-- a state has an initial transition exactly where something stands in it
abbrev pub begins_where : Bool → Node → Bool
begins_where held (node.State (Some step) entry exit on) = held
begins_where held (node.State None entry exit on) = not held
begins_where held (node.Choice guard met unmet) = true
