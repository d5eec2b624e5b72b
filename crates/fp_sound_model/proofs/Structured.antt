-- The tests that a model passes, and what it is that it is sound.
use Rattle.std.proofs.Common.{◌≡◌, ℕ, Bool, true, ◌&&◌, map, get_or, Option, None, Some, sym, ap, ap₂, ◌∙◌}
use Rattle.std.specs.List.{list_all}
use Rattle.fp_tables.specs.Lists.{all_hold, all_pass}
use Rattle.fp_tables.specs.Sound.{HasSoundMachines, IsSound, IsSoundFor}
use Rattle.fp_sound_machines.specs.SoundMachine.{tests_of_outlines, tests_of_bodies, where_a_body}
use Rattle.fp_sound_model.specs.Parts.{PartsPass, StructurePasses, IsSoundBeside}
use Rattle.fp_tables.specs.declared.model.Model.{Model}
use Rattle.fp_base.proofs.Bools.{both}
use Rattle.fp_tables.proofs.Joined.{same_first, none}
use Rattle.fp_sound_model.proofs.Parted.{by_test, each, all_and, definition, sound_names, sound_types, sound_ports, sound_components}

module _ (m : Model) where
  abbrev outlines : Bool
  outlines = list_all (all_pass tests_of_outlines) m.machines

  abbrev bodies : Bool
  bodies = list_all (all_pass (map where_a_body (tests_of_bodies m.types))) m.machines

  module _ (structure : StructurePasses m) where
    halves : (outlines ≡ true) × (bodies ≡ true)
    halves = both outlines bodies (sym (all_and (all_pass tests_of_outlines) (all_pass (map where_a_body (tests_of_bodies m.types))) m.machines) ∙ structure.machines)

    outline : (k : ℕ) → get_or (map (λ test. list_all test m.machines) tests_of_outlines) k true ≡ true
    outline k = each tests_of_outlines m.machines k halves.0

    body : (k : ℕ) → get_or (map (λ test. list_all test m.machines) (map where_a_body (tests_of_bodies m.types))) k true ≡ true
    body k = each (map where_a_body (tests_of_bodies m.types)) m.machines k halves.1

    sound_machines : HasSoundMachines m
    sound_machines = record {
      machine_names_differ = outline 0;
      siblings_differ = outline 1;
      machines_are_of_size = outline 2;
      machines_lead_somewhere = outline 3;
      machines_begin = body 1;
      states_begin = body 2;
      initials_stay_inside = body 3;
      signals_differ = body 4;
      choices_make_no_ring = body 0;
      values_are_given = body 5;
    }

    pub sound_by_tests : PartsPass m → IsSound m
    sound_by_tests parts = record {
      lists = record { positions_lie = structure.positions; lists_are_short = definition m parts 0; vertices_are_in_preorder = outline 4 };
      names = sound_names m parts;
      types = sound_types m parts;
      ports = sound_ports m parts;
      components = sound_components m parts;
      instances = record { instances_have_their_queues = definition m parts 6; ranges_are_apart = structure.ranges; numbers_are_in_range = structure.numbers };
      machines = sound_machines;
    }

  pub passed_structure : IsSound m → StructurePasses m
  passed_structure s =
      let xs = m.machines in
      let tests = map where_a_body (tests_of_bodies m.types) in
      let outline : outlines ≡ true =
      by_test tests_of_outlines xs
      ∙ ap all_hold (same_first s.machines.machine_names_differ (same_first s.machines.siblings_differ (same_first s.machines.machines_are_of_size
      (same_first s.machines.machines_lead_somewhere (same_first s.lists.vertices_are_in_preorder none))))) in
      let body : bodies ≡ true =
      by_test tests xs
      ∙ ap all_hold (same_first s.machines.choices_make_no_ring (same_first s.machines.machines_begin (same_first s.machines.states_begin
      (same_first s.machines.initials_stay_inside (same_first s.machines.signals_differ (same_first s.machines.values_are_given none)))))) in
      record {
        positions = s.lists.positions_lie;
        ranges = s.instances.ranges_are_apart;
        numbers = s.instances.numbers_are_in_range;
        machines = all_and (all_pass tests_of_outlines) (all_pass tests) xs ∙ ap₂ (λ (a b : Bool). a && b) outline body;
      }

pub sound_for : (m : Model) (t : Option ℕ) → IsSound m → IsSoundBeside m t → IsSoundFor m t
sound_for m None s b = s
sound_for m (Some t) s b = (s, b)

pub sound_model : (m : Model) (t : Option ℕ) → IsSoundFor m t → IsSound m
sound_model m None s = s
sound_model m (Some t) s = s.0

pub sound_beside : (m : Model) (t : Option ℕ) → IsSoundFor m t → IsSoundBeside m t
sound_beside m None s = tt
sound_beside m (Some t) s = s.1
