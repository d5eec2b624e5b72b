use Rattle.std.proofs.Common.{◌∷◌, [], None, sym, ap, ◌∙◌}
use Rattle.fp_meaning.specs.Sites.{naming}
use Rattle.fp_meaning.specs.Layout.{own_items}
use Rattle.fp_part_values.specs.Names.{part_names}
use Rattle.fp_part_values.specs.Numbers.{part_numbers}
use Rattle.fp_part_values.proofs.Joining.{moved, nothing_there, nothing_passed, faults_at}
use Rattle.fp_meaning.specs.declared.item.Item.TheVariants as item
use Rattle.fp_meaning.specs.declared.group.Group.TheVariants as group
use Rattle.fp_tree.specs.declared.component.Part.TheVariants as part
use Rattle.fp_part_values.proofs.components.part_fault.Goals as goal

pub returns-in-General : goal.returns-in-General
returns-in-General c source scope =
    faults_at source c.args.marks.now c.args.resolutions.now scope (own_items scope) part_names part_numbers c.args.part.now (part.General c.get.result.now) c.args.next.now c.general_fault.new.next c.general_fault.result
    (c.in-General.is ∙ ap (λ x. part.General x) (sym c.get.ensures)) (c.general_fault.ensures source scope)

pub returns-in-Internal : goal.returns-in-Internal
returns-in-Internal c source scope =
    faults_at source c.args.marks.now c.args.resolutions.now scope (own_items scope) part_names part_numbers c.args.part.now (part.Internal c.get-in-Internal.result.now) c.args.next.now c.internal_fault.new.next c.internal_fault.result
    (c.in-Internal.is ∙ ap (λ x. part.Internal x) (sym c.get-in-Internal.ensures)) (c.internal_fault.ensures source scope)

pub returns-in-Command : goal.returns-in-Command
returns-in-Command c source scope =
    faults_at source c.args.marks.now c.args.resolutions.now scope (own_items scope) part_names part_numbers c.args.part.now (part.Command c.get-in-Command.result.now) c.args.next.now c.command_fault.new.next c.command_fault.result
    (c.in-Command.is ∙ ap (λ x. part.Command x) (sym c.get-in-Command.ensures)) (c.command_fault.ensures source scope)

pub returns-in-Event : goal.returns-in-Event
returns-in-Event c source scope =
    faults_at source c.args.marks.now c.args.resolutions.now scope (own_items scope) part_names part_numbers c.args.part.now (part.Event c.get-in-Event.result.now) c.args.next.now c.event_fault.new.next c.event_fault.result
    (c.in-Event.is ∙ ap (λ x. part.Event x) (sym c.get-in-Event.ensures)) (c.event_fault.ensures source scope)

pub returns-in-Channel : goal.returns-in-Channel
returns-in-Channel c source scope =
    faults_at source c.args.marks.now c.args.resolutions.now scope (own_items scope) part_names part_numbers c.args.part.now (part.Channel c.get-in-Channel.result.now) c.args.next.now c.channel_fault.new.next c.channel_fault.result
    (c.in-Channel.is ∙ ap (λ x. part.Channel x) (sym c.get-in-Channel.ensures)) (c.channel_fault.ensures source scope)

pub returns-in-Param : goal.returns-in-Param
returns-in-Param c source scope =
    faults_at source c.args.marks.now c.args.resolutions.now scope (own_items scope) part_names part_numbers c.args.part.now (part.Param c.get-in-Param.result.now) c.args.next.now c.param_fault.new.next c.param_fault.result
    (c.in-Param.is ∙ ap (λ x. part.Param x) (sym c.get-in-Param.ensures)) (c.param_fault.ensures source scope)

pub returns-in-Running : goal.returns-in-Running
returns-in-Running c source scope =
    faults_at source c.args.marks.now c.args.resolutions.now scope (own_items scope) part_names part_numbers c.args.part.now (part.Running c.get-in-Running.result.now) c.args.next.now c.running_fault.new.next c.running_fault.result
    (c.in-Running.is ∙ ap (λ x. part.Running x) (sym c.get-in-Running.ensures)) (c.running_fault.ensures source scope)

pub returns-in-Def : goal.returns-in-Def
returns-in-Def c source scope =
    faults_at source c.args.marks.now c.args.resolutions.now scope (own_items scope) part_names part_numbers c.args.part.now (part.Def c.in-Def.field-0) c.args.next.now c.args.next.now None c.in-Def.is (nothing_there source c.args.marks.now c.args.resolutions.now scope c.args.next.now)

pub returns-in-Machine : goal.returns-in-Machine
returns-in-Machine c source scope =
    faults_at source c.args.marks.now c.args.resolutions.now scope (own_items scope) part_names part_numbers c.args.part.now (part.Machine c.in-Machine.field-0) c.args.next.now c.args.next.now None c.in-Machine.is (nothing_there source c.args.marks.now c.args.resolutions.now scope c.args.next.now)

pub returns-in-Special : goal.returns-in-Special
returns-in-Special c source scope =
    faults_at source c.args.marks.now c.args.resolutions.now scope (own_items scope) part_names part_numbers c.args.part.now (part.Special c.in-Special.field-0) c.args.next.now c.args.next.now None c.in-Special.is (nothing_there source c.args.marks.now c.args.resolutions.now scope c.args.next.now)

pub returns-in-Match : goal.returns-in-Match
returns-in-Match c source scope =
    faults_at source c.args.marks.now c.args.resolutions.now scope (own_items scope) part_names part_numbers c.args.part.now (part.Match c.in-Match.field-0) c.args.next.now c.args.next.now None c.in-Match.is (nothing_there source c.args.marks.now c.args.resolutions.now scope c.args.next.now)

pub returns-in-Include : goal.returns-in-Include
returns-in-Include c source scope =
    faults_at source c.args.marks.now c.args.resolutions.now scope (own_items scope) part_names part_numbers c.args.part.now (part.Include c.in-Include.field-0) c.args.next.now c.args.next.now None c.in-Include.is (nothing_there source c.args.marks.now c.args.resolutions.now scope c.args.next.now)

pub returns-in-Import : goal.returns-in-Import
returns-in-Import c source scope =
    let i = item.Used 0 (naming group.Interface scope c.in-Import.field-0.of) in
    faults_at source c.args.marks.now c.args.resolutions.now scope (own_items scope) part_names part_numbers c.args.part.now (part.Import c.in-Import.field-0) c.args.next.now c.nothing_at_name.new.next c.nothing_at_name.result c.in-Import.is
    (nothing_passed source c.args.marks.now c.args.resolutions.now scope (i ∷ []) c.args.next.now c.nothing_at_name.new.next c.nothing_at_name.result c.nothing_at_name.ensures.nothing (moved source c.args.marks.now c.args.resolutions.now i c.args.next.now c.nothing_at_name.new.next c.nothing_at_name.ensures.moves))
