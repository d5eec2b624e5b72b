-- What is read of instances and topologies, part by part.
use Rattle.std.specs.Prelude.{◌≡◌, ℕ, List, [], ◌∷◌, ◌++◌, flat_map, Option}
use Rattle.std.specs.Option.{option_to_list}
use Rattle.fp_base.specs.declared.value.Value.{Value}
use Rattle.fp_tree.specs.declared.source.Source.{Source}
use Rattle.fp_tree.specs.declared.topology.TMember.{TMember}
use Rattle.fp_meaning.specs.declared.group.Group.TheVariants as group
use Rattle.fp_meaning.specs.declared.item.Item.{Item}
use Rattle.fp_meaning.specs.Layout.{items}
use Rattle.fp_meaning.specs.Names.{Path, definitions}
use Rattle.fp_type_forms.specs.declared.resolving.Resolution.{Resolution}
use Rattle.fp_type_forms.specs.Resolved.{AreResolved, parts_of_item}
use Rattle.fp_type_forms.specs.Written.{AllAt}
use Rattle.fp_component_forms.specs.Positions.{RanksAre}
use Rattle.fp_topology_forms.specs.declared.members.MembersTaken.{MembersTaken}
use Rattle.fp_topology_forms.specs.declared.ranks.Ranks.{Ranks}
use Rattle.fp_topology_forms.specs.Written.{ConnectionIs, ImportIs, MemberInstanceIs, PatternIs, connections_in, imports_in, patterns_in, uses_in}

-- the positions of components, instances and topologies, each among its kind
pub record AreRanks (source : Source) (r : Ranks) : Type 0 where
  pub components : RanksAre group.Component (definitions source) r.components
  pub instances : RanksAre group.Instance (definitions source) r.instances
  pub topologies : RanksAre group.Topology (definitions source) r.topologies

-- ---- members of a topology

abbrev pub no_members : MembersTaken
no_members = record { instances = []; imports = []; connections = []; patterns = [] }

-- what these give
pub record MembersAre (source : Source) (scope : Path) (ms : List TMember) (w : MembersTaken) : Type 0 where
  pub instances : AllAt (λ position. MemberInstanceIs source scope) 0 (flat_map uses_in ms) w.instances
  pub imports : AllAt (λ position. ImportIs source scope) 0 (flat_map imports_in ms) w.imports
  pub connections : AllAt (λ position. ConnectionIs source scope) 0 (flat_map connections_in ms) w.connections
  pub patterns : AllAt (λ position. PatternIs source scope) 0 (flat_map patterns_in ms) w.patterns

-- with a member behind those before
abbrev pub AreWithMember : Source → Path → TMember → MembersTaken → MembersTaken → Type 0
AreWithMember source scope m before after = (ms : List TMember) → MembersAre source scope ms before → MembersAre source scope (ms ++ m ∷ []) after

-- ---- items

-- what an item gives, whose parts are read from a place on
abbrev pub IsGiven : {A B : Type 0} → (Source → A → B → Type 0) → (Item → List A) → Ranks → List (Option Value) → List Resolution → ℕ → Item → Option B → Type 0
IsGiven R these_of ranks marks rs start i one =
    (source : Source) → AreRanks source ranks → AreResolved source marks rs (parts_of_item i) start → AllAt (λ position. R source) 0 (these_of i) (option_to_list one)

-- what all items of a source give
abbrev pub Gives : {A B : Type 0} → (Source → A → B → Type 0) → (Item → List A) → Ranks → List (Option Value) → List Resolution → List Item → List B → Type 0
Gives R these_of ranks marks rs is ws =
    (source : Source) → AreRanks source ranks → is ≡ items source → AreResolved source marks rs is 0 → AllAt (λ position. R source) 0 (flat_map these_of (items source)) ws
