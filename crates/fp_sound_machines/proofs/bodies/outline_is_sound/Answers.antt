use Rattle.std.proofs.Common.{[], ◌∷◌, ap, ◌∙◌}
use Rattle.fp_tables.specs.Machines.{siblings_differ}
use Rattle.fp_tables.specs.Positions.{are_in_preorder}
use Rattle.fp_tables.proofs.Joined.{same_first, none, results}
use Rattle.fp_sound_machines.proofs.bodies.outline_is_sound.Goals as goal

pub returns : goal.returns
returns c =
    let siblings = c.in_ok-siblings.ensures ∙ ap siblings_differ c.as_slice.ensures in
    let order = c.are_in_preorder-order.ensures ∙ ap are_in_preorder (c.as_slice-2).ensures in
    results _ (_ ∷ _ ∷ _ ∷ _ ∷ []) _ (same_first c.in_ok-names.ensures (same_first siblings (same_first c.is_machine_of_size-size.ensures (same_first c.machine_leads_somewhere-leads.ensures (same_first order none)))))
