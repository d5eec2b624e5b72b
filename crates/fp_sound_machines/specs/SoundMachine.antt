-- What each machine of a sound model is, in the groups that it is tested in.
use Rattle.std.specs.Prelude.{Bool, ◌&&◌, ◌||◌, is_some, List, [], ◌∷◌, map, None}
use Rattle.std.specs.List.{list_all}
use Rattle.fp_tables.specs.Lists.{all_pass, all_from, if_some}
use Rattle.fp_tables.specs.Positions as positions
use Rattle.fp_tables.specs.Machines as machines
use Rattle.fp_tables.specs.declared.kind.TypeDef.{TypeDef}
use Rattle.fp_tables.specs.declared.machine.Step.{Step}
use Rattle.fp_tables.specs.declared.machine.Machine.{Machine}

abbrev pub tests_of_outlines : List (Machine → Bool)
tests_of_outlines =
    machines.machine_names_differ
    ∷ (λ x. machines.siblings_differ x.vertices)
    ∷ machines.is_machine_of_size
    ∷ (λ x. if_some (λ (s : Step). is_some s.target) x.initial && list_all machines.leads_somewhere x.vertices)
    ∷ (λ x. positions.are_in_preorder x.vertices)
    ∷ []

abbrev pub tests_of_bodies : List TypeDef → List (Machine → Bool)
tests_of_bodies types =
    (λ x. machines.has_no_ring x.vertices)
    ∷ (λ x. is_some x.initial)
    ∷ (λ x. all_from (machines.has_its_initial x.vertices) 0 x.vertices)
    ∷ (λ x. all_from (machines.stays_inside x.vertices) 0 x.vertices)
    ∷ (λ x. list_all machines.signals_differ x.vertices)
    ∷ (λ x. if_some (machines.step_is_given types x None) x.initial && list_all (machines.vertex_is_given types x) x.vertices)
    ∷ []

-- what has no body passes
abbrev pub where_a_body : (Machine → Bool) → Machine → Bool
where_a_body test x = x.external || test x

abbrev pub is_sound_machine : List TypeDef → Machine → Bool
is_sound_machine types x = all_pass tests_of_outlines x && all_pass (map where_a_body (tests_of_bodies types)) x
