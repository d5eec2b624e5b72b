use Rattle.std.proofs.Common.{sym, ap, ◌∙◌, subst}
use Rattle.std.specs.Option.{option_to_list}
use Rattle.fp_base.proofs.Options.{if_ok_then}
use Rattle.fp_tree.specs.declared.component.InterfacePart.{InterfacePart}
use Rattle.fp_tree.specs.declared.component.InterfacePart.TheVariants as interface_part
use Rattle.fp_meaning.specs.Layout.{interface_part_items}
use Rattle.fp_type_forms.specs.Resolved.{Takes}
use Rattle.fp_type_forms.proofs.Taking.{taken_nothing}
use Rattle.fp_component_forms.specs.Taken.{MemberWhere}
use Rattle.fp_component_forms.specs.Written.{part_of}
use Rattle.fp_component_forms.proofs.interfaces.interface_member.Goals as goal

pub returns-in-General : goal.returns-in-General
returns-in-General c =
    if_ok_then c.general_member.result _ _
    (λ one h source scope ready.
    subst (λ (p : InterfacePart). Takes source c.args.marks.now c.args.resolutions.now (interface_part_items scope p) c.args.next.now c.general_member.new.next (MemberWhere source scope (part_of p) (option_to_list one))) (sym (c.in-General.is ∙ ap (λ x. interface_part.General x) (sym c.get.ensures)))
    (h source scope ready))
    c.general_member.ensures

pub returns-in-Special : goal.returns-in-Special
returns-in-Special c =
    if_ok_then c.special_member.result _ _
    (λ one h source scope ready.
    subst (λ (p : InterfacePart). Takes source c.args.marks.now c.args.resolutions.now (interface_part_items scope p) c.args.next.now c.args.next.now (MemberWhere source scope (part_of p) (option_to_list one))) (sym c.in-Special.is)
    (taken_nothing source c.args.marks.now c.args.resolutions.now c.args.next.now (h source scope ready)))
    c.special_member.ensures

pub returns-in-Import : goal.returns-in-Import
returns-in-Import c =
    if_ok_then c.import_member.result _ _
    (λ one h source scope ready.
    subst (λ (p : InterfacePart). Takes source c.args.marks.now c.args.resolutions.now (interface_part_items scope p) c.args.next.now c.import_member.new.next (MemberWhere source scope (part_of p) (option_to_list one))) (sym c.in-Import.is)
    (h source scope c.args.marks.now ready))
    c.import_member.ensures
