-- A model is sound, part by part, where what it lists is.
use Rattle.std.proofs.Common.{◌≡◌, ℕ, Bool, true, false, ◌&&◌, ◌||◌, is_some, List, length, map, Some, None, refl}
use Rattle.std.specs.Prelude.{nat_lt}
use Rattle.std.specs.List.{list_all}
use Rattle.fp_base.proofs.Bools.{both}
use Rattle.fp_base.proofs.Passing.{all_items}
use Rattle.fp_tables.specs.Chains.{chains_are_short}
use Rattle.fp_tables.specs.Lists.{all_from, if_some}
use Rattle.fp_tables.specs.Machines as machines
use Rattle.fp_tables.specs.Names.{is_qualified, texts_differ}
use Rattle.fp_tables.specs.Positions.{are_in_preorder, component_is_short, form_lies, item_lies, lists_are_short, machine_lies, positions_lie, topology_lies}
use Rattle.fp_tables.specs.Sound.{form_has_names, machine_has_names, HasSoundLists, HasSoundNames, HasSoundTypes, HasSoundPorts, HasSoundComponents, HasSoundInstances, HasSoundMachines, IsSound}
use Rattle.fp_tables.specs.Types.{is_of_size}
use Rattle.fp_tables.specs.declared.component.Component.{Component}
use Rattle.fp_tables.specs.declared.kind.Constant.{Constant}
use Rattle.fp_tables.specs.declared.kind.TypeDef.{TypeDef}
use Rattle.fp_tables.specs.declared.machine.Machine.{Machine}
use Rattle.fp_tables.specs.declared.machine.Step.{Step}
use Rattle.fp_tables.specs.declared.model.Model.{Model}
use Rattle.fp_tables.specs.declared.topology.Instance.{Instance}
use Rattle.fp_tables.specs.declared.topology.Topology.{Topology}
use Rattle.fp_types.specs.WellWritten.{AreSoundTypes}
use Rattle.fp_sound_parts.specs.ComponentSound.{AreSound, HaveSoundLists}
use Rattle.fp_sound_parts.specs.Sound.{HasSoundBody, HasSoundOutline}
use Rattle.fp_sound_parts.specs.Machines.{AreSoundMachines, IsSoundMachine}

-- the tests of a model's lists
positions : (a b c d e f g : Bool) → a ≡ true → b ≡ true → c ≡ true → d ≡ true → e ≡ true → f ≡ true → g ≡ true → ((((((a && b) && c) && d) && e) && f) && g) ≡ true
positions a b c d e f g h k l m n o p = rw (h, k, l, m, n, o, p) refl

own : (a b c d : Bool) → a ≡ true → b ≡ true → c ≡ true → d ≡ true → (((a && b) && c) && d) ≡ true
own a b c d h k l m = rw (h, k, l, m) refl

qualified : (a b c d e f g : Bool) → a ≡ true → b ≡ true → c ≡ true → d ≡ true → e ≡ true → f ≡ true → g ≡ true → ((((((a && b) && c) && d) && e) && f) && g) ≡ true
qualified a b c d e f g h k l m n o p = rw (h, k, l, m, n, o, p) refl

sizes : (a b c : Bool) → a ≡ true → b ≡ true → c ≡ true → ((a && b) && c) ≡ true
sizes a b c h k l = rw (h, k, l) refl

pub short_with : (a b c d e x y f g h : Bool) → ((((a && b) && c) && d) && e) ≡ true → ((x && y) && h) ≡ true → f ≡ true → g ≡ true
    → (((((((((a && b) && c) && d) && e) && x) && y) && f) && g) && h) ≡ true
short_with a b c d e x y f g h i j k l = let p = both (x && y) h j in let q = both x y p.0 in rw (i, q.0, q.1, p.1, k, l) refl

third_last : (a b c d : Bool) → (((a && b) && c) && d) ≡ true → b ≡ true
third_last a b c d h = (both a b (both (a && b) c (both ((a && b) && c) d h).0).0).1

pub components_short : (m : Model) → lists_are_short m ≡ true → list_all component_is_short m.components ≡ true
components_short m h = third_last _ (list_all component_is_short m.components) _ _ h

module _ (m : Model) where
  each_outline_lies : AreSoundMachines m.types m.machines → list_all (machine_lies (length m.types)) m.machines ≡ true
  each_outline_lies are = all_items (machine_lies (length m.types)) m.machines (λ k x at. (are k x at).outline.lies)

  pub positions_hold : list_all (λ (d : TypeDef). form_lies (length m.types) d.form) m.types ≡ true → HaveSoundLists m.types m.machines m.ports m.components → AreSoundMachines m.types m.machines
      → list_all (λ (i : Instance). nat_lt i.component (length m.components)) m.instances ≡ true → list_all (topology_lies m) m.topologies ≡ true → list_all (item_lies m) m.order ≡ true → positions_lie m ≡ true
  positions_hold types parts machines instances topologies order =
      positions _ _ _ _ _ _ _ types parts.definitions_lie parts.components_lie (each_outline_lies machines) instances topologies order

  -- what a sound model lists
  pub record AreSoundLists : Type 0 where
    pub lie : positions_lie m ≡ true
    pub short : lists_are_short m ≡ true
    pub own : list_all (λ (d : TypeDef). form_has_names d.form) m.types ≡ true
    pub constants_named : list_all (λ (c : Constant). is_qualified c.name) m.constants ≡ true
    pub types_named : list_all (λ (d : TypeDef). is_qualified d.name) m.types ≡ true
    pub instances_named : list_all (λ (i : Instance). is_qualified i.name) m.instances ≡ true
    pub topologies_named : list_all (λ (t : Topology). is_qualified t.name) m.topologies ≡ true
    pub instances_differ : texts_differ (map (λ (i : Instance). i.name) m.instances) ≡ true
    pub types_differ : texts_differ (map (λ (d : TypeDef). d.name) m.types) ≡ true
    pub types : AreSoundTypes m.types
    pub chains : chains_are_short m.types ≡ true
    pub sized : list_all (λ (c : Constant). is_of_size c.value) m.constants ≡ true
    pub parts : AreSound m.types m.machines m.ports m.components
    pub instances : HasSoundInstances m
    pub machines : AreSoundMachines m.types m.machines

  module _ (s : AreSoundLists) where
    -- what is so of each machine
    each_there : (test : Machine → Bool) → ((x : Machine) → IsSoundMachine m.types x → test x ≡ true) → list_all test m.machines ≡ true
    each_there test is = all_items test m.machines (λ k x at. is x (s.machines k x at))

    each_outline : (test : Machine → Bool) → ((x : Machine) → HasSoundOutline m.types x → test x ≡ true) → list_all test m.machines ≡ true
    each_outline test is = each_there test (λ x h. is x h.outline)

    -- where it has a body
    each_body_there : (test : Machine → Bool) → ((x : Machine) → HasSoundBody m.types x → test x ≡ true) → list_all (λ (x : Machine). x.external || test x) m.machines ≡ true
    each_body_there test is = each_there (λ (x : Machine). x.external || test x) (λ x h. outside x h x.external refl)
      where
        outside : (x : Machine) → IsSoundMachine m.types x → (b : Bool) → x.external ≡ b → (b || test x) ≡ true
        outside x h true e = refl
        outside x h false e = is x (h.body e)

    sound_machines : HasSoundMachines m
    sound_machines = record {
      machine_names_differ = each_outline machines.machine_names_differ (λ x h. h.names_differ);
      siblings_differ = each_outline (λ (x : Machine). machines.siblings_differ x.vertices) (λ x h. h.siblings_differ);
      machines_are_of_size = each_outline machines.is_machine_of_size (λ x h. h.of_size);
      machines_lead_somewhere = each_outline (λ (x : Machine). if_some (λ (s : Step). is_some s.target) x.initial && list_all machines.leads_somewhere x.vertices) (λ x h. h.leads);
      machines_begin = each_body_there (λ (x : Machine). is_some x.initial) (λ x h. h.begins);
      states_begin = each_body_there (λ (x : Machine). all_from (machines.has_its_initial x.vertices) 0 x.vertices) (λ x h. h.states_begin);
      initials_stay_inside = each_body_there (λ (x : Machine). all_from (machines.stays_inside x.vertices) 0 x.vertices) (λ x h. h.initials_stay);
      signals_differ = each_body_there (λ (x : Machine). list_all machines.signals_differ x.vertices) (λ x h. h.signals_differ);
      choices_make_no_ring = each_body_there (λ (x : Machine). machines.has_no_ring x.vertices) (λ x h. h.no_ring);
      values_are_given = each_body_there (λ (x : Machine). if_some (machines.step_is_given m.types x None) x.initial && list_all (machines.vertex_is_given m.types x) x.vertices) (λ x h. h.values_given);
    }

    sound_lists : HasSoundLists m
    sound_lists = record {
      positions_lie = s.lie;
      lists_are_short = s.short;
      vertices_are_in_preorder = each_outline (λ (x : Machine). are_in_preorder x.vertices) (λ x h. h.in_preorder);
    }

    sound_names : HasSoundNames m
    sound_names = record {
      own_names_are_names = own _ _ _ _ s.own s.parts.names.definitions_have_names s.parts.names.components_have_names (each_outline machine_has_names (λ x h. h.has_names));
      qualified_names_are_names = qualified _ _ _ _ _ _ _ s.constants_named s.types_named s.parts.names.definitions_are_qualified s.parts.names.components_are_qualified (each_there (λ (x : Machine). is_qualified x.name) (λ x h. h.qualified)) s.instances_named s.topologies_named;
      instance_names_differ = s.instances_differ;
      type_names_differ = s.types_differ;
    }

    sound_types : HasSoundTypes m
    sound_types = record {
      no_type_uses_itself = s.types.no_type_uses_itself;
      types_have_their_values = s.types.types_have_their_values;
      parts_have_their_values = s.parts.values.parts_have_their_values;
      members_differ = s.types.members_differ;
      arrays_are_of_size = s.types.arrays_are_of_size;
      values_are_of_size = sizes _ _ _ s.sized s.types.defaults_are_of_size s.parts.values.defaults_are_of_size;
      chains_are_short = s.chains;
    }

    sound_ports : HasSoundPorts m
    sound_ports = record {
      ports_have_their_formals = s.parts.ports.ports_have_their_formals;
      ports_suit_their_roles = s.parts.ports.ports_suit_their_roles;
      internal_ports_are_later = s.parts.ports.internal_ports_are_later;
      waiting_ports_have_no_result = s.parts.ports.waiting_ports_have_no_result;
      formals_of_ports_differ = s.parts.ports.formals_of_ports_differ;
      special_ports_differ = s.parts.ports.special_ports_differ;
      ports_are_of_size = s.parts.ports.ports_are_of_size;
    }

    sound_components : HasSoundComponents m
    sound_components = record {
      names_differ = s.parts.parts.names_differ;
      ids_differ = s.parts.parts.ids_differ;
      formals_differ = s.parts.parts.formals_differ;
      each_has_one_set_command = s.parts.parts.each_has_one_set_command;
      each_has_one_save_command = s.parts.parts.each_has_one_save_command;
      commands_take_their_values = s.parts.parts.commands_take_their_values;
      fields_are_those_of_formats = s.parts.parts.fields_are_those_of_formats;
      fields_agree_with_formals = s.parts.parts.fields_agree_with_formals;
      limits_are_good = s.parts.parts.limits_are_good;
      running_machines_are_later = s.parts.parts.running_machines_are_later;
      no_external_machine_runs = s.parts.parts.no_external_machine_runs;
      passive_ones_wait_for_nothing = s.parts.parts.passive_ones_wait_for_nothing;
    }

  pub sound_with : AreSoundLists → IsSound m
  sound_with s = record {
    lists = sound_lists s;
    names = sound_names s;
    types = sound_types s;
    ports = sound_ports s;
    components = sound_components s;
    instances = s.instances;
    machines = sound_machines s;
  }
