-- The dictionary of a topology of a model: a JSON value, and its compact text with a newline.
-- F Prime GDS JSON Dictionary Specification, "Dictionary". This profile: the versions, and the empty lists.
use Rattle.std.specs.Prelude.{◌≡◌, ℕ, ◌<◌, ◌≤◌, codes, List, [], ◌∷◌, ◌++◌, ◌+◌, flat_map, map, option_map, option_to_list, slice_get, Option, Some, None}
use Rattle.std.specs.List.Sorted.{IsPermutation}
use Rattle.fp_tables.specs.declared.component.Channel.{Channel}
use Rattle.fp_tables.specs.declared.component.Command.{Command}
use Rattle.fp_tables.specs.declared.component.Component.{Component}
use Rattle.fp_tables.specs.declared.component.Event.{Event}
use Rattle.fp_tables.specs.declared.component.Param.{Param}
use Rattle.fp_tables.specs.declared.kind.TypeDef.{TypeDef}
use Rattle.fp_tables.specs.declared.model.Model.{Model}
use Rattle.fp_tables.specs.declared.topology.Instance.{Instance}
use Rattle.fp_tables.specs.declared.topology.Topology.{Topology}
use Rattle.fp_dictionary.specs.Used.{AreUsedTypes}
use Rattle.serde_json.specs.Data.{Data, string}
use Rattle.serde_json.specs.Written.{compact_text}
use Rattle.fp_dictionary.specs.Objects.{object_of, list_of}
use Rattle.fp_dictionary.specs.Types.{type_data}
use Rattle.fp_dictionary.specs.Members.{command_data, parameter_data, event_data, channel_data}

-- what stands in a list, by opcode or id
abbrev pub Numbered : Type 0
Numbered = ℕ × Data

-- the members of one sort of an instance's component, each by its number behind the instance's base
module _ {A : Type 0} (m : Model) (members : Component → List A) (number : A → ℕ) (data_of : Instance → A → Data) where
  abbrev pub members_in : Instance → Component → List Numbered
  members_in i c = map (λ (x : A). (i.base + number x, data_of i x)) (members c)

  abbrev pub members_of : Instance → List Numbered
  members_of i = flat_map (members_in i) (option_to_list (slice_get m.components i.component))

  abbrev pub members_at : ℕ → List Numbered
  members_at k = flat_map members_of (option_to_list (slice_get m.instances k))

  abbrev pub members_listed : Topology → List Numbered
  members_listed o = flat_map members_at o.instances

-- the same in the order of their numbers
pub record AreInOrder (before after : List Numbered) : Type 0 where
  pub permutation : IsPermutation before after
  pub sorted : (j k : ℕ) (a b : Numbered) → j < k → slice_get after j ≡ Some a → slice_get after k ≡ Some b → a.0 ≤ b.0

-- what stands there
abbrev pub said : List Numbered → List Data
said ns = map (λ (n : Numbered). n.1) ns

abbrev pub metadata : List ℕ → Data
metadata name =
    object_of
    ((codes "deploymentName", string name) ∷ (codes "projectVersion", string (codes "0")) ∷ (codes "frameworkVersion", string (codes "0"))
    ∷ (codes "libraryVersions", list_of []) ∷ (codes "dictionarySpecVersion", string (codes "1.0.0")) ∷ [])

-- the definitions of types at positions
abbrev pub types_data : List TypeDef → List ℕ → List Data
types_data types ks = flat_map (λ (k : ℕ). option_to_list (option_map (type_data types) (slice_get types k))) ks

abbrev pub root : List ℕ → List Data → List Data → List Data → List Data → List Data → Data
root name types commands parameters events channels =
    object_of
    ((codes "metadata", metadata name) ∷ (codes "typeDefinitions", list_of types) ∷ (codes "commands", list_of commands)
    ∷ (codes "parameters", list_of parameters) ∷ (codes "events", list_of events) ∷ (codes "telemetryChannels", list_of channels)
    ∷ (codes "records", list_of []) ∷ (codes "containers", list_of []) ∷ (codes "telemetryPacketSets", list_of []) ∷ [])

pub record IsDictionary (m : Model) (o : Topology) (d : Data) : Type 0 where
  pub types : List ℕ
  pub commands : List Numbered
  pub parameters : List Numbered
  pub events : List Numbered
  pub channels : List Numbered
  pub types_are : AreUsedTypes m o types
  pub commands_are : AreInOrder (members_listed m (λ (c : Component). c.commands) (λ (x : Command). x.opcode) (command_data m.types) o) commands
  pub parameters_are : AreInOrder (members_listed m (λ (c : Component). c.params) (λ (p : Param). p.id) (parameter_data m.types) o) parameters
  pub events_are : AreInOrder (members_listed m (λ (c : Component). c.events) (λ (e : Event). e.id) (event_data m.types) o) events
  pub channels_are : AreInOrder (members_listed m (λ (c : Component). c.channels) (λ (t : Channel). t.id) (channel_data m.types) o) channels
  pub is : d ≡ root o.name (types_data m.types types) (said commands) (said parameters) (said events) (said channels)

-- the text of a topology's dictionary
abbrev pub IsTextOf : Model → Topology → List ℕ → Type 0
IsTextOf m o text = (d : Data) × IsDictionary m o d × (text ≡ compact_text d ++ codes "\n")

-- of the topology at a position; nothing where there is none
abbrev pub IsText : Model → Option Topology → List ℕ → Type 0
IsText m None text = text ≡ []
IsText m (Some o) text = IsTextOf m o text

abbrev pub IsDictionaryText : Model → ℕ → List ℕ → Type 0
IsDictionaryText m t text = IsText m (slice_get m.topologies t) text
