-- The tree of the names of each group: what is in it, and which definitions it stands for.
use Rattle.std.specs.Str.{bytes_eq}
use Rattle.std.specs.Prelude.{◌≡◌, ℕ, ◌+◌, ◌⊎◌, cond, List, [], ◌∷◌, ◌++◌, length, slice_get, Option, Some, None}
use Rattle.std.specs.HashMap.{get_by_text}
use Rattle.fp_meaning.specs.declared.group.Group.{Group}
use Rattle.fp_meaning.specs.declared.group.Group.TheVariants.{Kind, Value, Port, Component, Instance, Topology, Machine, Interface}
use Rattle.fp_meaning.specs.declared.names.Definition.{Definition}
use Rattle.fp_meaning.specs.Meaning.{IsNamed, IsKnown, IsFirst}
use Rattle.fp_meaning.specs.Names.{Path}
use Rattle.fp_names.specs.declared.tree.Node.{Node}

-- the node of the empty name in each group
abbrev pub root : Group → ℕ
root Kind = 0
root Value = 1
root Port = 2
root Component = 3
root Instance = 4
root Topology = 5
root Machine = 6
root Interface = 7

abbrev pub next_of : Option Node → List ℕ → Option ℕ
next_of None text = None
next_of (Some node) text = get_by_text node.next text

-- the node to which a name leads from a node
abbrev pub step : List Node → ℕ → List ℕ → Option ℕ
step nodes from text = next_of (slice_get nodes from) text

abbrev pub meaning_of : Option Node → Option ℕ
meaning_of None = None
meaning_of (Some node) = node.meaning

-- the number of the definition whose qualified name ends at a node
abbrev pub meaning_at : List Node → ℕ → Option ℕ
meaning_at nodes at = meaning_of (slice_get nodes at)

-- the names that lead from the root of a group to a node
pub record Spot : Type 0 where
  pub group : Group
  pub names : Path

abbrev pub spot : Group → Path → Spot
spot group names = record { group = group; names = names }

-- the nodes stand for the spots, each for one
pub record IsTree (nodes : List Node) (spots : List Spot) : Type 0 where
  pub each : length nodes ≡ length spots
  pub roots : (g : Group) → slice_get spots (root g) ≡ Some (spot g [])
  pub follows : (n j : ℕ) (g : Group) (p : Path) (t : List ℕ) → slice_get spots n ≡ Some (spot g p) → step nodes n t ≡ Some j → slice_get spots j ≡ Some (spot g (p ++ t ∷ []))
  pub leads : (n j : ℕ) (g : Group) (p : Path) (t : List ℕ) → slice_get spots n ≡ Some (spot g p) → slice_get spots j ≡ Some (spot g (p ++ t ∷ [])) → step nodes n t ≡ Some j
  pub closed : (j : ℕ) (g : Group) (p r : Path) → slice_get spots j ≡ Some (spot g (p ++ r)) → (n : ℕ) × (slice_get spots n ≡ Some (spot g p))
  pub single : (i j : ℕ) (s : Spot) → slice_get spots i ≡ Some s → slice_get spots j ≡ Some s → i ≡ j

-- what a node says is the first definition of the group with the qualified name
pub record SaysFirst (definitions : List Definition) (group : Group) (name : Path) (said : Option ℕ) : Type 0 where
  pub holds : (k : ℕ) → said ≡ Some k → IsFirst definitions group name k
  pub none : (k : ℕ) → said ≡ None → IsNamed definitions group name k → ⊥

-- the nodes stand for the names that begin a qualified name: for all those of the definitions before, and for no other than those of the
-- definitions after; and each says what is first of those before
pub record IsPart (after before : List Definition) (nodes : List Node) (spots : List Spot) : Type 0 where
  pub tree : IsTree nodes spots
  pub known : (j : ℕ) (g : Group) (p : Path) → slice_get spots j ≡ Some (spot g p) → (p ≡ []) ⊎ IsKnown after g p
  pub found : (g : Group) (p : Path) → IsKnown before g p → (j : ℕ) × (slice_get spots j ≡ Some (spot g p))
  pub says : (j : ℕ) (g : Group) (p : Path) → slice_get spots j ≡ Some (spot g p) → SaysFirst before g p (meaning_at nodes j)

abbrev pub IsTable : List Definition → List Node → Type 0
IsTable definitions nodes = (spots : List Spot) × IsPart definitions definitions nodes spots

-- one node more, to which a name leads from a node
pub record Grows (old new : List Node) (from : ℕ) (name : List ℕ) : Type 0 where
  pub absent : step old from name ≡ None
  pub longer : length new ≡ length old + 1
  pub here : step new from name ≡ Some (length old)
  pub others : (k : ℕ) (other : List ℕ) → (k ≡ from → other ≡ name → ⊥) → step new k other ≡ step old k other
  pub meanings : (k : ℕ) → meaning_at new k ≡ meaning_at old k

-- the name leads to the node, which was there or is new
abbrev pub Enters : List Node → List Node → ℕ → List ℕ → ℕ → Type 0
Enters old new from name to = ((new ≡ old) × (step old from name ≡ Some to)) ⊎ ((to ≡ length old) × Grows old new from name)

abbrev pub or_number : Option ℕ → ℕ → Option ℕ
or_number None number = Some number
or_number (Some k) number = Some k

-- a node says the number, where it said none
pub record Says (old new : List Node) (at number : ℕ) : Type 0 where
  pub as_long : length new ≡ length old
  pub steps : (k : ℕ) (name : List ℕ) → step new k name ≡ step old k name
  pub here : meaning_at new at ≡ or_number (meaning_at old at) number
  pub others : (k : ℕ) → (k ≡ at → ⊥) → meaning_at new k ≡ meaning_at old k

abbrev pub onward : {A B : Type 0} → (A → Option B) → Option A → Option B
onward f None = None
onward f (Some x) = f x

-- the node to which names lead from a node
abbrev pub walk : List Node → ℕ → Path → Option ℕ
walk nodes at [] = Some at
walk nodes at (t ∷ ts) = onward (λ to. walk nodes to ts) (step nodes at t)

abbrev pub or_of : Option ℕ → Option ℕ → Option ℕ
or_of None b = b
or_of (Some a) b = Some a

abbrev pub onward_or : Option ℕ → (ℕ → Option ℕ) → Option ℕ → Option ℕ
onward_or best f None = best
onward_or best f (Some to) = f to

-- the node of a name behind the longest of the names of a scope that lead on, where it has one there
abbrev pub longest : List Node → List ℕ → ℕ → Option ℕ → Path → Option ℕ
longest nodes name at best [] = best
longest nodes name at best (t ∷ ts) = onward_or best (λ to. longest nodes name to (or_of (step nodes to name) best) ts) (step nodes at t)

-- no name leads on from a node, and it says nothing
pub record IsLeaf (node : Node) : Type 0 where
  pub next : (name : List ℕ) → get_by_text node.next name ≡ None
  pub meaning : node.meaning ≡ None

-- a name leads from the node after to a number, and each other where it led before
pub record LeadsOn (before after : Node) (name : List ℕ) (to : ℕ) : Type 0 where
  pub next : (other : List ℕ) → get_by_text after.next other ≡ cond (bytes_eq name other) (Some to) (get_by_text before.next other)
  pub meaning : after.meaning ≡ before.meaning

-- eight nodes from which no name leads on, and which say nothing
pub record AreRoots (nodes : List Node) : Type 0 where
  pub each : length nodes ≡ 8
  pub steps : (k : ℕ) (name : List ℕ) → step nodes k name ≡ None
  pub meanings : (k : ℕ) → meaning_at nodes k ≡ None

-- the nodes stand for such a part, and one of them for a name
abbrev pub Within : List Definition → List Definition → List Node → Group → Path → ℕ → Type 0
Within after before nodes g p at = (spots : List Spot) × IsPart after before nodes spots × (slice_get spots at ≡ Some (spot g p))

-- the number that a look-up finds
abbrev pub looked_up : List Node → Group → Path → List ℕ → Path → Option ℕ
looked_up nodes g scope first others =
    onward (λ b. onward (meaning_at nodes) (walk nodes b others)) (longest nodes first (root g) (step nodes (root g) first) scope)
