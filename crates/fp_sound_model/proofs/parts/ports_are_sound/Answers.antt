use Rattle.std.proofs.Common.{◌∙◌, List, [], ◌∷◌, ap, ap₂, refl}
use Rattle.std.specs.List.{list_all}
use Rattle.fp_tables.specs.Components.{has_its_formals, suits_its_role, internal_is_later, is_from_1_to, waits_for_no_result}
use Rattle.fp_tables.specs.declared.kind.PortDef.{PortDef}
use Rattle.fp_tables.specs.declared.component.Port.{Port}
use Rattle.fp_tables.proofs.Joined.{results, same_first}
use Rattle.fp_sound_model.proofs.parts.ports_are_sound.Goals as goal

pub returns : goal.returns
returns c =
    let all = c.as_slice-definitions.ensures in
    let own = c.as_slice-items.ensures in
    let formals = c.ports_have_their_formals-formals.ensures ∙ ap₂ (λ (ds : List PortDef) (ps : List Port). list_all (has_its_formals ds) ps) all own in
    let roles = c.ports_suit_their_roles-roles.ensures ∙ ap₂ (λ (ds : List PortDef) (ps : List Port). list_all (suits_its_role ds) ps) all own in
    let later = c.internal_ports_are_later-later.ensures ∙ ap (λ (ps : List Port). list_all (λ (p : Port). internal_is_later p.role) ps) own in
    let sizes = c.ports_are_of_size-sizes.ensures ∙ ap (λ (ps : List Port). list_all (λ (p : Port). is_from_1_to 1024 p.size) ps) own in
    let waiting = c.waiting_ports_have_no_result-results.ensures ∙ ap₂ (λ (ds : List PortDef) (ps : List Port). list_all (waits_for_no_result ds) ps) all own in
    results c.ports_have_their_formals-formals.result
    (c.ports_suit_their_roles-roles.result ∷ c.internal_ports_are_later-later.result ∷ c.ports_are_of_size-sizes.result ∷ c.waiting_ports_have_no_result-results.result ∷ c.in_ok-differ.differ ∷ [])
    _ (same_first formals (same_first roles (same_first later (same_first sizes (same_first waiting (same_first c.in_ok-differ.ensures refl))))))
