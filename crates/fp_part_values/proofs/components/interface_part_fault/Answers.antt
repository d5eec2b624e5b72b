use Rattle.std.proofs.Common.{◌∷◌, [], None, sym, ap, ◌∙◌}
use Rattle.fp_meaning.specs.Sites.{naming}
use Rattle.fp_meaning.specs.Layout.{interface_part_items}
use Rattle.fp_part_values.specs.Numbers.{interface_part_numbers}
use Rattle.fp_part_values.proofs.Joining.{moved, nothing_there, nothing_passed, faults_at}
use Rattle.fp_meaning.specs.declared.item.Item.TheVariants as item
use Rattle.fp_meaning.specs.declared.group.Group.TheVariants as group
use Rattle.fp_tree.specs.declared.component.InterfacePart.TheVariants as interface_part
use Rattle.fp_part_values.proofs.components.interface_part_fault.Goals as goal

pub returns-in-General : goal.returns-in-General
returns-in-General c source scope =
    faults_at source c.args.marks.now c.args.resolutions.now scope (interface_part_items scope) (λ x. []) interface_part_numbers c.args.part.now (interface_part.General c.get.result.now) c.args.next.now c.general_fault.new.next c.general_fault.result
    (c.in-General.is ∙ ap (λ x. interface_part.General x) (sym c.get.ensures)) (c.general_fault.ensures source scope)

pub returns-in-Special : goal.returns-in-Special
returns-in-Special c source scope =
    faults_at source c.args.marks.now c.args.resolutions.now scope (interface_part_items scope) (λ x. []) interface_part_numbers c.args.part.now (interface_part.Special c.in-Special.field-0) c.args.next.now c.args.next.now None c.in-Special.is (nothing_there source c.args.marks.now c.args.resolutions.now scope c.args.next.now)

pub returns-in-Import : goal.returns-in-Import
returns-in-Import c source scope =
    let i = item.Used 0 (naming group.Interface scope c.in-Import.field-0.of) in
    faults_at source c.args.marks.now c.args.resolutions.now scope (interface_part_items scope) (λ x. []) interface_part_numbers c.args.part.now (interface_part.Import c.in-Import.field-0) c.args.next.now c.nothing_at_name.new.next c.nothing_at_name.result c.in-Import.is
    (nothing_passed source c.args.marks.now c.args.resolutions.now scope (i ∷ []) c.args.next.now c.nothing_at_name.new.next c.nothing_at_name.result c.nothing_at_name.ensures.nothing (moved source c.args.marks.now c.args.resolutions.now i c.args.next.now c.nothing_at_name.new.next c.nothing_at_name.ensures.moves))
