-- What soundness asks of components, and of the definitions of their ports, part by part. FPP Language Specification, "Component Definitions", "Port
-- Definitions".
use Rattle.std.specs.Prelude.{◌≡◌, Bool, true, not, ◌||◌, List, length}
use Rattle.std.specs.List.{list_all}
use Rattle.fp_tables.specs.Names.{is_qualified, texts_differ}
use Rattle.fp_tables.specs.Positions.{port_def_lies, component_lies, component_is_short}
use Rattle.fp_tables.specs.Sound.{formals_have_names, component_has_names}
use Rattle.fp_tables.specs.Types.{is_of_size}
use Rattle.fp_tables.specs.Components as components
use Rattle.fp_tables.specs.declared.kind.TypeDef.{TypeDef}
use Rattle.fp_tables.specs.declared.kind.PortDef.{PortDef}
use Rattle.fp_tables.specs.declared.component.Port.{Port}
use Rattle.fp_tables.specs.declared.component.Event.{Event}
use Rattle.fp_tables.specs.declared.component.Param.{Param}
use Rattle.fp_tables.specs.declared.component.Running.{Running}
use Rattle.fp_tables.specs.declared.component.Component.{Component}
use Rattle.fp_tables.specs.declared.machine.Machine.{Machine}

-- what is said of each port, and of each event, of components
abbrev pub each_port : (Port → Bool) → List Component → Bool
each_port test cs = list_all (λ (c : Component). list_all test c.ports) cs

abbrev pub each_event : (Event → Bool) → List Component → Bool
each_event test cs = list_all (λ (c : Component). list_all test c.events) cs

-- among these types, machines and definitions of ports
module _ (types : List TypeDef) (machines : List Machine) (definitions : List PortDef) (cs : List Component) where
  -- positions, and the lists that they name
  pub record HaveSoundLists : Type 0 where
    pub definitions_lie : list_all (port_def_lies (length types)) definitions ≡ true
    pub components_lie : list_all (component_lies (length types) (length definitions) (length machines)) cs ≡ true
    pub components_are_short : list_all component_is_short cs ≡ true

  -- names
  pub record HaveSoundNames : Type 0 where
    pub definitions_have_names : list_all (λ (p : PortDef). formals_have_names p.formals) definitions ≡ true
    pub components_have_names : list_all component_has_names cs ≡ true
    pub definitions_are_qualified : list_all (λ (p : PortDef). is_qualified p.name) definitions ≡ true
    pub components_are_qualified : list_all (λ (c : Component). is_qualified c.name) cs ≡ true

  -- values
  pub record HaveSoundValues : Type 0 where
    pub parts_have_their_values : list_all (components.component_has_values types) cs ≡ true
    pub defaults_are_of_size : list_all (λ (c : Component). list_all (λ (p : Param). is_of_size p.default) c.params) cs ≡ true

  -- ports
  pub record HaveSoundPorts : Type 0 where
    pub ports_have_their_formals : each_port (components.has_its_formals definitions) cs ≡ true
    pub ports_suit_their_roles : each_port (components.suits_its_role definitions) cs ≡ true
    pub internal_ports_are_later : each_port (λ p. components.internal_is_later p.role) cs ≡ true
    pub waiting_ports_have_no_result : each_port (components.waits_for_no_result definitions) cs ≡ true
    pub formals_of_ports_differ : list_all (λ (p : PortDef). texts_differ (components.names_of p.formals)) definitions ≡ true
    pub special_ports_differ : list_all components.special_ports_differ cs ≡ true
    pub ports_are_of_size : each_port (λ p. components.is_from_1_to 1024 p.size) cs ≡ true

  -- the other parts
  pub record HaveSoundParts : Type 0 where
    pub names_differ : list_all components.names_differ cs ≡ true
    pub ids_differ : list_all components.ids_differ cs ≡ true
    pub formals_differ : list_all components.formals_differ cs ≡ true
    pub each_has_one_set_command : list_all (λ (c : Component). components.are_one_each components.set_parameter c.commands c.params) cs ≡ true
    pub each_has_one_save_command : list_all (λ (c : Component). components.are_one_each components.saved_parameter c.commands c.params) cs ≡ true
    pub commands_take_their_values : list_all (λ (c : Component). list_all (components.takes_its_value c.params) c.commands) cs ≡ true
    pub fields_are_those_of_formats : each_event components.reads_its_format cs ≡ true
    pub fields_agree_with_formals : each_event (components.agrees_with_formals types) cs ≡ true
    pub limits_are_good : list_all (λ (c : Component). list_all (components.has_good_limits types) c.channels) cs ≡ true
    pub running_machines_are_later : list_all (λ (c : Component). list_all (λ (r : Running). components.is_later r.way) c.machines) cs ≡ true
    pub no_external_machine_runs : list_all (components.runs_no_external machines) cs ≡ true
    pub passive_ones_wait_for_nothing : list_all (λ (c : Component). not (components.is_passive c.queueing) || components.waits_for_nothing c) cs ≡ true

  pub record AreSound : Type 0 where
    pub lists : HaveSoundLists
    pub names : HaveSoundNames
    pub values : HaveSoundValues
    pub ports : HaveSoundPorts
    pub parts : HaveSoundParts
