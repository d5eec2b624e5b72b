-- The groups of tests that parts pass, and the sentences that they stand for.
use Rattle.std.proofs.Common.{◌≡◌, ℕ, zero, suc, Bool, true, false, ◌&&◌, List, [], ◌∷◌, map, get_or, refl, sym, ap, ap₂, ◌∙◌}
use Rattle.std.specs.List.{list_all}
use Rattle.fp_tables.specs.Types.{is_of_size}
use Rattle.fp_tables.specs.Lists.{all_hold, all_pass}
use Rattle.fp_sound_model.specs.Parts.{tests_of_ports, tests_of_commands, tests_of_reports, tests_of_names, tests_of_running, tests_of_component, tests_of_types, tests_of_definitions, PartsPass}
use Rattle.fp_tables.specs.Sound.{IsSound, HasSoundNames, HasSoundTypes, HasSoundPorts, HasSoundComponents}
use Rattle.fp_tables.specs.declared.kind.Constant.{Constant}
use Rattle.fp_tables.specs.declared.kind.TypeDef.{TypeDef}
use Rattle.fp_tables.specs.declared.component.Param.{Param}
use Rattle.fp_tables.specs.declared.component.Component.{Component}
use Rattle.fp_tables.specs.declared.model.Model.{Model}
use Rattle.fp_base.proofs.Bools.{both}
use Rattle.fp_tables.proofs.Joined.{same_first, none}
use Rattle.fp_sound_model.proofs.Uses.{none_uses_itself}

pub held : (bs : List Bool) (k : ℕ) → all_hold bs ≡ true → get_or bs k true ≡ true
held [] k h = refl
held (b ∷ bs) zero h = (both b (all_hold bs) h).0
held (b ∷ bs) (suc k) h = held bs k (both b (all_hold bs) h).1

module _ {A : Type 0} where
  pub all_and : (p q : A → Bool) (xs : List A) → list_all (λ x. p x && q x) xs ≡ (list_all p xs && list_all q xs)
  all_and p q [] = refl
  all_and p q (x ∷ xs) = go (p x) (q x) (list_all p xs) (list_all q xs) (list_all (λ x. p x && q x) xs) (all_and p q xs)
    where
      go : (a b c d e : Bool) → e ≡ (c && d) → ((a && b) && e) ≡ ((a && c) && (b && d))
      go false b c d e h = refl
      go true false true d e h = refl
      go true false false d e h = refl
      go true true c d e h = h

  all_true : (xs : List A) → list_all (λ _. true) xs ≡ true
  all_true [] = refl
  all_true (x ∷ xs) = all_true xs

  -- a test of each item by all is one by each of all items
  pub by_test : (tests : List (A → Bool)) (xs : List A) → list_all (all_pass tests) xs ≡ all_hold (map (λ test. list_all test xs) tests)
  by_test [] xs = all_true xs
  by_test (test ∷ tests) xs = all_and test (all_pass tests) xs ∙ ap (λ b. list_all test xs && b) (by_test tests xs)

  pub each : (tests : List (A → Bool)) (xs : List A) (k : ℕ) → list_all (all_pass tests) xs ≡ true → get_or (map (λ test. list_all test xs) tests) k true ≡ true
  each tests xs k h = held (map (λ test. list_all test xs) tests) k (sym (by_test tests xs) ∙ h)

module _ (m : Model) (parts : PartsPass m) where
  abbrev of_components : List (Component → Bool) → List Bool
  of_components tests = map (λ test. list_all test m.components) tests

  group : (k : ℕ) → get_or (of_components (tests_of_component m)) k true ≡ true
  group k = each (tests_of_component m) m.components k parts.components

  port : (k : ℕ) → get_or (of_components (tests_of_ports m)) k true ≡ true
  port k = each (tests_of_ports m) m.components k (group 0)

  command : (k : ℕ) → get_or (of_components (tests_of_commands m)) k true ≡ true
  command k = each (tests_of_commands m) m.components k (group 1)

  report : (k : ℕ) → get_or (of_components (tests_of_reports m)) k true ≡ true
  report k = each (tests_of_reports m) m.components k (group 2)

  name : (k : ℕ) → get_or (of_components (tests_of_names m)) k true ≡ true
  name k = each (tests_of_names m) m.components k (group 3)

  running : (k : ℕ) → get_or (of_components (tests_of_running m)) k true ≡ true
  running k = each (tests_of_running m) m.components k (group 4)

  type : (k : ℕ) → get_or (tests_of_types m) k true ≡ true
  type k = held (tests_of_types m) k parts.types

  pub definition : (k : ℕ) → get_or (tests_of_definitions m) k true ≡ true
  definition k = held (tests_of_definitions m) k parts.definitions

  pub sound_names : HasSoundNames m
  sound_names = record { own_names_are_names = definition 1; qualified_names_are_names = definition 2; instance_names_differ = definition 3; type_names_differ = definition 4 }

  pub sound_types : HasSoundTypes m
  sound_types = record {
    no_type_uses_itself = none_uses_itself m.types 256 (type 0);
    types_have_their_values = type 1;
    parts_have_their_values = report 3;
    members_differ = type 5;
    arrays_are_of_size = type 2;
    values_are_of_size = ap₂ (λ (a b : Bool). a && b) (ap₂ (λ (a b : Bool). a && b) (type 4) (type 3)) (report 4);
    chains_are_short = type 0;
  }

  pub sound_ports : HasSoundPorts m
  sound_ports = record {
    ports_have_their_formals = port 0;
    ports_suit_their_roles = port 1;
    internal_ports_are_later = port 2;
    waiting_ports_have_no_result = port 4;
    formals_of_ports_differ = definition 5;
    special_ports_differ = port 5;
    ports_are_of_size = port 3;
  }

  pub sound_components : HasSoundComponents m
  sound_components = record {
    names_differ = name 0;
    ids_differ = name 1;
    formals_differ = name 2;
    each_has_one_set_command = command 0;
    each_has_one_save_command = command 1;
    commands_take_their_values = command 2;
    fields_are_those_of_formats = report 0;
    fields_agree_with_formals = report 1;
    limits_are_good = report 2;
    running_machines_are_later = running 0;
    no_external_machine_runs = running 1;
    passive_ones_wait_for_nothing = running 2;
  }

pub passed_parts : (m : Model) → IsSound m → PartsPass m
passed_parts m s =
    let cs = m.components in
    let constants : Bool = list_all (λ (x : Constant). is_of_size x.value) m.constants in
    let defaults : Bool = list_all (λ (d : TypeDef). is_of_size d.default) m.types in
    let params : Bool = list_all (λ (c : Component). list_all (λ (p : Param). is_of_size p.default) c.params) cs in
    let sizes = both (constants && defaults) params s.types.values_are_of_size in
    let few = both constants defaults sizes.0 in
    let ports : list_all (all_pass (tests_of_ports m)) cs ≡ true =
    by_test (tests_of_ports m) cs
    ∙ ap all_hold (same_first s.ports.ports_have_their_formals (same_first s.ports.ports_suit_their_roles (same_first s.ports.internal_ports_are_later
    (same_first s.ports.ports_are_of_size (same_first s.ports.waiting_ports_have_no_result (same_first s.ports.special_ports_differ none)))))) in
    let commands : list_all (all_pass (tests_of_commands m)) cs ≡ true =
    by_test (tests_of_commands m) cs
    ∙ ap all_hold (same_first s.components.each_has_one_set_command (same_first s.components.each_has_one_save_command (same_first s.components.commands_take_their_values none))) in
    let reports : list_all (all_pass (tests_of_reports m)) cs ≡ true =
    by_test (tests_of_reports m) cs
    ∙ ap all_hold (same_first s.components.fields_are_those_of_formats (same_first s.components.fields_agree_with_formals
    (same_first s.components.limits_are_good (same_first s.types.parts_have_their_values (same_first sizes.1 none))))) in
    let names : list_all (all_pass (tests_of_names m)) cs ≡ true =
    by_test (tests_of_names m) cs ∙ ap all_hold (same_first s.components.names_differ (same_first s.components.ids_differ (same_first s.components.formals_differ none))) in
    let running : list_all (all_pass (tests_of_running m)) cs ≡ true =
    by_test (tests_of_running m) cs
    ∙ ap all_hold (same_first s.components.running_machines_are_later (same_first s.components.no_external_machine_runs (same_first s.components.passive_ones_wait_for_nothing none))) in
    record {
      types =
          ap all_hold (same_first s.types.chains_are_short (same_first s.types.types_have_their_values (same_first s.types.arrays_are_of_size
          (same_first few.1 (same_first few.0 (same_first s.types.members_differ none))))));
      definitions =
          ap all_hold (same_first s.lists.lists_are_short (same_first s.names.own_names_are_names (same_first s.names.qualified_names_are_names
          (same_first s.names.instance_names_differ (same_first s.names.type_names_differ (same_first s.ports.formals_of_ports_differ (same_first s.instances.instances_have_their_queues none)))))));
      components = by_test (tests_of_component m) cs ∙ ap all_hold (same_first ports (same_first commands (same_first reports (same_first names (same_first running none)))));
    }
