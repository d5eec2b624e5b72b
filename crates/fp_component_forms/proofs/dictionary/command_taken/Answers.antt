use Rattle.std.proofs.Common.{List, ◌++◌, refl, subst}
use Rattle.fp_tree.specs.declared.part.Formal.{Formal}
use Rattle.fp_meaning.specs.Layout.{value_items, formals_items}
use Rattle.fp_type_forms.specs.Resolved.{Takes}
use Rattle.fp_type_forms.proofs.Taking.{taken_as, taken_then}
use Rattle.fp_component_forms.specs.Taken.{FormalsWhere}
use Rattle.fp_component_forms.proofs.dictionary.command_taken.Goals as goal

pub returns : goal.returns
returns c source scope =
    taken_as source c.args.marks.now c.args.resolutions.now ((formals_items scope c.args.command.now.formals ++ value_items scope c.args.command.now.opcode) ++ value_items scope c.args.command.now.priority) c.args.next.now _
    (λ t has. record { name = c.in_ok-name.ensures; at = refl; begins = refl; kind = refl; formals = t.0.0 has; opcode = t.0.1; queue = t.1; note = c.in_ok-note.ensures })
    (taken_then source c.args.marks.now c.args.resolutions.now (formals_items scope c.args.command.now.formals ++ value_items scope c.args.command.now.opcode) (value_items scope c.args.command.now.priority) c.args.next.now _ _ (taken_then source c.args.marks.now c.args.resolutions.now (formals_items scope c.args.command.now.formals) (value_items scope c.args.command.now.opcode) c.args.next.now _ _ (subst (λ (fs : List Formal). Takes source c.args.marks.now c.args.resolutions.now (formals_items scope fs) c.args.next.now c.formals_taken.new.next (FormalsWhere source scope fs c.in_ok-formals.formals)) c.as_slice.ensures (c.in_ok-formals.ensures source scope))
    (c.optional_taken-opcode.ensures source scope))
    (c.queue_taken-queue.ensures source scope))
