-- The sentences on a sound model, in the groups that they are tested in.
use Rattle.std.specs.Prelude.{◌≡◌, ℕ, Option, None, Some, slice_get, Bool, true, not, ◌||◌, List, [], ◌∷◌, map}
use Rattle.std.specs.List.{list_all}
use Rattle.fp_tables.specs.Lists.{all_hold, all_pass}
use Rattle.fp_tables.specs.Names.{texts_differ}
use Rattle.fp_tables.specs.Positions as positions
use Rattle.fp_tables.specs.Chains.{chains_are_short}
use Rattle.fp_tables.specs.Types.{type_has_values, is_of_size}
use Rattle.fp_tables.specs.Components as components
use Rattle.fp_tables.specs.Instances as instances
use Rattle.fp_tables.specs.Sound as sound
use Rattle.fp_sound_machines.specs.SoundMachine.{is_sound_machine}
use Rattle.fp_tables.specs.declared.kind.Constant.{Constant}
use Rattle.fp_tables.specs.declared.kind.TypeDef.{TypeDef}
use Rattle.fp_tables.specs.declared.kind.PortDef.{PortDef}
use Rattle.fp_tables.specs.declared.component.Port.{Port}
use Rattle.fp_tables.specs.declared.component.Param.{Param}
use Rattle.fp_tables.specs.declared.component.Running.{Running}
use Rattle.fp_tables.specs.declared.component.Component.{Component}
use Rattle.fp_tables.specs.declared.topology.Instance.{Instance}
use Rattle.fp_tables.specs.declared.model.Model.{Model}

module _ (m : Model) where
  abbrev pub tests_of_ports : List (Component → Bool)
  tests_of_ports =
      (λ c. list_all (components.has_its_formals m.ports) c.ports)
      ∷ (λ c. list_all (components.suits_its_role m.ports) c.ports)
      ∷ (λ c. list_all (λ (p : Port). components.internal_is_later p.role) c.ports)
      ∷ (λ c. list_all (λ (p : Port). components.is_from_1_to 1024 p.size) c.ports)
      ∷ (λ c. list_all (components.waits_for_no_result m.ports) c.ports)
      ∷ components.special_ports_differ
      ∷ []

  abbrev pub tests_of_commands : List (Component → Bool)
  tests_of_commands =
      (λ c. components.are_one_each components.set_parameter c.commands c.params)
      ∷ (λ c. components.are_one_each components.saved_parameter c.commands c.params)
      ∷ (λ c. list_all (components.takes_its_value c.params) c.commands)
      ∷ []

  abbrev pub tests_of_reports : List (Component → Bool)
  tests_of_reports =
      (λ c. list_all components.reads_its_format c.events)
      ∷ (λ c. list_all (components.agrees_with_formals m.types) c.events)
      ∷ (λ c. list_all (components.has_good_limits m.types) c.channels)
      ∷ components.component_has_values m.types
      ∷ (λ c. list_all (λ (p : Param). is_of_size p.default) c.params)
      ∷ []

  abbrev pub tests_of_names : List (Component → Bool)
  tests_of_names = components.names_differ ∷ components.ids_differ ∷ components.formals_differ ∷ []

  abbrev pub tests_of_running : List (Component → Bool)
  tests_of_running =
      (λ c. list_all (λ (r : Running). components.is_later r.way) c.machines)
      ∷ components.runs_no_external m.machines
      ∷ (λ c. not (components.is_passive c.queueing) || components.waits_for_nothing c)
      ∷ []

  abbrev pub tests_of_component : List (Component → Bool)
  tests_of_component = all_pass tests_of_ports ∷ all_pass tests_of_commands ∷ all_pass tests_of_reports ∷ all_pass tests_of_names ∷ all_pass tests_of_running ∷ []

  abbrev pub tests_of_types : List Bool
  tests_of_types =
      chains_are_short m.types
      ∷ list_all (type_has_values m.types) m.types
      ∷ list_all (λ (d : TypeDef). sound.form_is_of_size d.form) m.types
      ∷ list_all (λ (d : TypeDef). is_of_size d.default) m.types
      ∷ list_all (λ (c : Constant). is_of_size c.value) m.constants
      ∷ list_all (λ (d : TypeDef). sound.form_differs d.form) m.types
      ∷ []

  abbrev pub tests_of_definitions : List Bool
  tests_of_definitions =
      positions.lists_are_short m
      ∷ sound.own_names_are_names m
      ∷ sound.qualified_names_are_names m
      ∷ texts_differ (map (λ (i : Instance). i.name) m.instances)
      ∷ texts_differ (map (λ (d : TypeDef). d.name) m.types)
      ∷ list_all (λ (p : PortDef). texts_differ (components.names_of p.formals)) m.ports
      ∷ list_all (instances.has_its_queue m) m.instances
      ∷ []

  pub record PartsPass : Type 0 where
    pub types : all_hold tests_of_types ≡ true
    pub definitions : all_hold tests_of_definitions ≡ true
    pub components : list_all (all_pass tests_of_component) m.components ≡ true

  pub record StructurePasses : Type 0 where
    pub positions : positions.positions_lie m ≡ true
    pub ranges : instances.ranges_are_apart m ≡ true
    pub numbers : list_all (instances.numbers_are_in_range m) m.instances ≡ true
    pub machines : list_all (is_sound_machine m.types) m.machines ≡ true

-- beside a topology, if there is one
abbrev pub IsSoundBeside : Model → Option ℕ → Type 0
IsSoundBeside m None = Unit {0}
IsSoundBeside m (Some t) = sound.IsSoundAt m (slice_get m.topologies t)
