use Rattle.std.proofs.Common.{◌∙◌, ◌&&◌, ap, subst, List, ℕ}
use Rattle.std.specs.List.{list_all}
use Rattle.std.specs.Ordering.{nat_cmp}
use Rattle.std.specs.BTreeSet.{IsFromIterResult, contains}
use Rattle.fp_tables.specs.declared.topology.Wire.{Wire}
use Rattle.fp_sound_model.proofs.Joining.{members_join}
use Rattle.fp_sound_model.proofs.topologies.wires_join_members.Goals as goal

pub returns : goal.returns
returns c =
    let members = c.in_ok-members.members in
    let made = subst (λ (ns : List ℕ). IsFromIterResult nat_cmp ns members) (c.in_ok-instances.ensures.items ∙ c.as_slice.ensures) c.in_ok-members.ensures in
    c.wires_join.ensures ∙ ap (λ (ws : List Wire). list_all (λ (w : Wire). contains nat_cmp members w.from.instance && contains nat_cmp members w.to.instance) ws) (c.as_slice-2).ensures
    ∙ members_join c.args.model.now c.args.topology.now members made c.args.topology.now.wires
