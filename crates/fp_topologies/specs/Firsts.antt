-- What finds the ports of components by their names.
use Rattle.std.specs.Prelude.{◌≡◌, ℕ, ◌<◌, ◌^◌, List, [], ◌∷◌, length, position, slice_get, Option, option_and_then}
use Rattle.std.specs.Ordering.{nat_cmp}
use Rattle.std.specs.Cmp.Lexicographic.{slice_cmp}
use Rattle.std.specs.Str.{bytes_eq}
use Rattle.std.specs.BTreeMap.{BTreeMap, get_by}
use denote.Ref.{Bor}
use Rattle.fp_tables.specs.declared.component.Component.{Component}
use Rattle.fp_tables.specs.declared.component.Port.{Port}

abbrev pub first_named : BTreeMap (Bor (List ℕ)) ℕ → List ℕ → Option ℕ
first_named firsts name = get_by (λ (k : Bor (List ℕ)). slice_cmp nat_cmp name k.now) firsts

-- of a component
abbrev pub named_in : List (BTreeMap (Bor (List ℕ)) ℕ) → ℕ → List ℕ → Option ℕ
named_in firsts component name = option_and_then (λ (m : BTreeMap (Bor (List ℕ)) ℕ). first_named m name) (slice_get firsts component)

-- the first port of each name, among ports that 32 bits number
pub record FindsPorts (ports : List Port) (firsts : BTreeMap (Bor (List ℕ)) ℕ) : Type 0 where
  pub short : length ports < 2 ^ 32
  pub finds : (name : List ℕ) → first_named firsts name ≡ position (λ (p : Port). bytes_eq p.name name) ports

-- of each component
abbrev pub FindsInEach : List Component → List (BTreeMap (Bor (List ℕ)) ℕ) → Type 0
FindsInEach [] [] = Unit {0}
FindsInEach (c ∷ cs) (m ∷ ms) = FindsPorts c.ports m × FindsInEach cs ms
FindsInEach _ _ = ⊥
