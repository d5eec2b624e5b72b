-- What stands behind the choices of a machine.
use Rattle.std.specs.Prelude.{◌≡◌, ◌⊎◌, ℕ, suc, Bool, true, false, cond, ◌<◌, ◌≤◌, ◌^◌, ◌&&◌, max, min, sum_by, nat_le, is_some, is_none, List, [], ◌∷◌, length, Option, None, Some, slice_get, option_and_then}
use Rattle.std.specs.Option.{option_len}
use Rattle.fp_tables.specs.Lists.{if_some}
use Rattle.fp_tables.specs.Positions.{is_inside}
use Rattle.fp_tables.specs.Machines.{node_at, reached, begins_choices, behind_is_given, has_no_ring}
use Rattle.fp_sound_machines.specs.Wanted.{meets}
use Rattle.fp_tables.specs.declared.kind.Kind.{Kind}
use Rattle.fp_tables.specs.declared.kind.TypeDef.{TypeDef}
use Rattle.fp_tables.specs.declared.machine.Node.{Node}
use Rattle.fp_tables.specs.declared.machine.Node.TheVariants as node
use Rattle.fp_tables.specs.declared.machine.Vertex.{Vertex}
use Rattle.fp_tables.specs.declared.machine.Machine.{Machine}
use Rattle.fp_sound_machines.specs.declared.wanted.Wanted.TheVariants.{Nothing}
use Rattle.fp_sound_machines.specs.declared.choices.Behind.{Behind}

-- ---- spans

-- the least and the greatest of two pairs of numbers
abbrev pub join_spans : Option (ℕ × ℕ) → Option (ℕ × ℕ) → Option (ℕ × ℕ)
join_spans None q = q
join_spans (Some p) None = Some p
join_spans (Some p) (Some q) = Some (min p.0 q.0, max p.1 q.1)

-- the least and the greatest number
abbrev pub span : List ℕ → Option (ℕ × ℕ)
span [] = None
span (n ∷ ns) = join_spans (Some (n, n)) (span ns)

-- ---- what is behind a target

-- so many choices in the longest chain, the states that are reached, and what is wanted
pub record IsBehind (types : List TypeDef) (m : Machine) (target : Option ℕ) (b : Behind) : Type 0 where
  pub choices : (n : ℕ) → begins_choices m.vertices n target ≡ nat_le n b.choices
  pub states : (n : ℕ) → b.choices < n → span (reached m.vertices n target) ≡ b.states
  pub wanted : (given : Option Kind) (n : ℕ) → b.choices < n → behind_is_given types m given n target ≡ meets types given b.wanted

abbrev pub nothing_behind : Behind
nothing_behind = record { choices = 0; states = None; wanted = Nothing }

-- what was found of a vertex
abbrev pub found_at : List (Option Behind) → ℕ → Option Behind
found_at found v = option_and_then (λ (b : Option Behind). b) (slice_get found v)

abbrev pub choice_at : List Vertex → ℕ → Bool
choice_at vs v = of_node (node_at vs v)
  where
    of_node : Option Node → Bool
    of_node (Some (node.Choice guard met unmet)) = true
    of_node _ = false

-- a choice of which nothing was found yet
abbrev pub is_open : List Vertex → List (Option Behind) → ℕ → Bool
is_open vs found v = choice_at vs v && is_none (found_at found v)

abbrev pub open_target : List Vertex → List (Option Behind) → Option ℕ → Option ℕ
open_target vs found None = None
open_target vs found (Some v) = cond (is_open vs found v) (Some v) None

abbrev pub either : Option ℕ → Option ℕ → Option ℕ
either None q = q
either (Some p) q = Some p

-- the first branch of a choice to such a choice
abbrev pub open_branch : List Vertex → List (Option Behind) → ℕ → Option ℕ
open_branch vs found v = of_node (node_at vs v)
  where
    of_node : Option Node → Option ℕ
    of_node (Some (node.Choice guard met unmet)) = either (open_target vs found met.target) (open_target vs found unmet.target)
    of_node _ = None

-- what was found behind a target
abbrev pub found_behind : List Vertex → List (Option Behind) → Option ℕ → Behind
found_behind vs found None = nothing_behind
found_behind vs found (Some v) = of_node (node_at vs v)
  where
    or_nothing : Option Behind → Behind
    or_nothing None = nothing_behind
    or_nothing (Some b) = b

    of_node : Option Node → Behind
    of_node (Some (node.State initial entry exit on)) = record { choices = 0; states = Some (v, v); wanted = Nothing }
    of_node (Some (node.Choice guard met unmet)) = or_nothing (found_at found v)
    of_node None = nothing_behind

-- ---- what is known while choices are gone through

-- of how many vertices something was found
abbrev pub found_count : List (Option Behind) → ℕ
found_count found = sum_by (λ (b : Option Behind). option_len b) found

-- what was found is so
pub record AreBehind (types : List TypeDef) (m : Machine) (found : List (Option Behind)) : Type 0 where
  pub few : length m.vertices < 2 ^ 32
  pub one_each : length found ≡ length m.vertices
  pub right : (v : ℕ) (b : Behind) → found_at found v ≡ Some b → IsBehind types m (Some v) b
  pub bounded : (v : ℕ) (b : Behind) → found_at found v ≡ Some b → b.choices ≤ found_count found

-- what was found stays, and of a choice something is found
pub record Settles (types : List TypeDef) (m : Machine) (choice : ℕ) (before after : List (Option Behind)) : Type 0 where
  pub behind : AreBehind types m after
  pub kept : (v : ℕ) → is_some (found_at before v) ≡ true → is_some (found_at after v) ≡ true
  pub here : is_some (found_at after choice) ≡ true

-- the states that each target reaches
abbrev pub FindsStates : List Vertex → List (Option Behind) → Type 0
FindsStates vs found = (target : Option ℕ) → span (reached vs (suc (length vs)) target) ≡ (found_behind vs found target).states

-- what is wanted behind each target
abbrev pub FindsWanted : List TypeDef → Machine → List (Option Behind) → Type 0
FindsWanted types m found =
    (given : Option Kind) (target : Option ℕ) → behind_is_given types m given (suc (length m.vertices)) target ≡ meets types given (found_behind m.vertices found target).wanted

pub record AllBehind (types : List TypeDef) (m : Machine) (found : List (Option Behind)) : Type 0 where
  pub no_ring : has_no_ring m.vertices ≡ true
  pub states : FindsStates m.vertices found
  pub wanted : FindsWanted types m found

-- ---- the path from the choice that is gone through

abbrev pub is_branch : List Vertex → ℕ → ℕ → Type 0
is_branch vs v w = of_node (node_at vs v)
  where
    of_node : Option Node → Type 0
    of_node (Some (node.Choice guard met unmet)) = (met.target ≡ Some w) ⊎ (unmet.target ≡ Some w)
    of_node _ = ⊥

-- choices of which nothing was found yet, each a branch of the one before
abbrev pub IsPath : List Vertex → List (Option Behind) → List ℕ → Type 0
IsPath vs found [] = Unit {0}
IsPath vs found (v ∷ []) = is_open vs found v ≡ true
IsPath vs found (v ∷ w ∷ path) = (is_open vs found v ≡ true) × is_branch vs v w × IsPath vs found (w ∷ path)

-- a path begins at a choice, or something was found of it
abbrev pub Begins : List (Option Behind) → ℕ → List ℕ → Type 0
Begins found choice [] = is_some (found_at found choice) ≡ true
Begins found choice (v ∷ path) = v ≡ choice

-- whether the least and the greatest stand in a state, if there is any
abbrev pub span_is_inside : List Vertex → ℕ → Option (ℕ × ℕ) → Bool
span_is_inside vs state s = if_some (λ (p : ℕ × ℕ). is_inside vs (length vs) p.0 state && is_inside vs (length vs) p.1 state) s
