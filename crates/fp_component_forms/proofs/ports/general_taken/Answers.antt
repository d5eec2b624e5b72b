use Rattle.std.proofs.Common.{ℕ, List, ◌++◌, refl, sym, subst}
use Rattle.fp_meaning.specs.declared.group.Group.TheVariants as group
use Rattle.fp_meaning.specs.Layout.{use_items, value_items}
use Rattle.fp_meaning.specs.Names.{definitions, in_optional}
use Rattle.fp_type_forms.proofs.Taking.{taken_as, taken_then}
use Rattle.fp_component_forms.specs.Positions.{RanksAre}
use Rattle.fp_component_forms.proofs.ports.general_taken.Goals as goal

pub returns : goal.returns
returns c source scope ready =
    taken_as source c.args.marks.now c.args.resolutions.now ((value_items scope c.args.port.now.size ++ in_optional (use_items group.Port scope) c.args.port.now.of) ++ value_items scope c.args.port.now.priority) c.args.next.now _
    (λ t. record { name = c.in_ok-name.ensures; at = refl; begins = refl; role = c.general_role-role.ensures; size = t.0.0; of = t.0.1; formals = c.new-formals.ensures; queue = t.1 })
    (taken_then source c.args.marks.now c.args.resolutions.now (value_items scope c.args.port.now.size ++ in_optional (use_items group.Port scope) c.args.port.now.of) (value_items scope c.args.port.now.priority) c.args.next.now _ _ (taken_then source c.args.marks.now c.args.resolutions.now (value_items scope c.args.port.now.size) (in_optional (use_items group.Port scope) c.args.port.now.of) c.args.next.now _ _ (c.optional_taken-size.ensures source scope)
    (c.optional_position-of.ensures source c.args.marks.now group.Port scope refl (subst (λ (ns : List ℕ). RanksAre group.Port (definitions source) ns) (sym c.as_slice.ensures) ready.ports)))
    (c.queue_taken-queue.ensures source scope))
