use Rattle.std.proofs.Common.{None, refl, sym, ap, ◌∙◌}
use Rattle.fp_meaning.specs.declared.group.Group.TheVariants.{Interface}
use Rattle.fp_meaning.specs.declared.item.Item.TheVariants as item
use Rattle.fp_tree.specs.declared.component.Part.TheVariants as part
use Rattle.fp_meaning.specs.Layout.{own_items}
use Rattle.fp_meaning.specs.Sites.{naming}
use Rattle.fp_part_values.proofs.Passed.{part_as, passed_nothing, passed_one, quiet}
use Rattle.fp_part_values.proofs.parts.part_fault.Goals as goal

pub returns-in-Def : goal.returns-in-Def
returns-in-Def c source scope =
    let x = part.Def c.in-Def.field-0 in
    let n = c.args.next.now in
    part_as source c.args.marks.now c.args.resolutions.now c.args.types.now scope c.args.part.now x n n None c.in-Def.is
    (quiet source c.args.marks.now c.args.resolutions.now (own_items scope x) n n None (λ f h. h) refl (passed_nothing source c.args.marks.now c.args.resolutions.now n))

pub returns-in-Machine : goal.returns-in-Machine
returns-in-Machine c source scope =
    let x = part.Machine c.in-Machine.field-0 in
    let n = c.args.next.now in
    part_as source c.args.marks.now c.args.resolutions.now c.args.types.now scope c.args.part.now x n n None c.in-Machine.is
    (quiet source c.args.marks.now c.args.resolutions.now (own_items scope x) n n None (λ f h. h) refl (passed_nothing source c.args.marks.now c.args.resolutions.now n))

pub returns-in-Special : goal.returns-in-Special
returns-in-Special c source scope =
    let x = part.Special c.in-Special.field-0 in
    let n = c.args.next.now in
    part_as source c.args.marks.now c.args.resolutions.now c.args.types.now scope c.args.part.now x n n None c.in-Special.is
    (quiet source c.args.marks.now c.args.resolutions.now (own_items scope x) n n None (λ f h. h) refl (passed_nothing source c.args.marks.now c.args.resolutions.now n))

pub returns-in-Match : goal.returns-in-Match
returns-in-Match c source scope =
    let x = part.Match c.in-Match.field-0 in
    let n = c.args.next.now in
    part_as source c.args.marks.now c.args.resolutions.now c.args.types.now scope c.args.part.now x n n None c.in-Match.is
    (quiet source c.args.marks.now c.args.resolutions.now (own_items scope x) n n None (λ f h. h) refl (passed_nothing source c.args.marks.now c.args.resolutions.now n))

pub returns-in-Include : goal.returns-in-Include
returns-in-Include c source scope =
    let x = part.Include c.in-Include.field-0 in
    let n = c.args.next.now in
    part_as source c.args.marks.now c.args.resolutions.now c.args.types.now scope c.args.part.now x n n None c.in-Include.is
    (quiet source c.args.marks.now c.args.resolutions.now (own_items scope x) n n None (λ f h. h) refl (passed_nothing source c.args.marks.now c.args.resolutions.now n))

pub returns-in-General : goal.returns-in-General
returns-in-General c source scope =
    let x = part.General c.get.result.now in
    let n = c.args.next.now in
    part_as source c.args.marks.now c.args.resolutions.now c.args.types.now scope c.args.part.now x n c.past_general.new.next c.past_general.result (c.in-General.is ∙ ap (λ d. part.General d) (sym c.get.ensures))
    (quiet source c.args.marks.now c.args.resolutions.now (own_items scope x) n c.past_general.new.next c.past_general.result (λ f h. h) c.past_general.ensures.nothing (c.past_general.ensures.passes source c.args.marks.now scope))

pub returns-in-Internal : goal.returns-in-Internal
returns-in-Internal c source scope =
    let x = part.Internal c.get-in-Internal.result.now in
    let n = c.args.next.now in
    part_as source c.args.marks.now c.args.resolutions.now c.args.types.now scope c.args.part.now x n c.past_internal.new.next c.past_internal.result (c.in-Internal.is ∙ ap (λ d. part.Internal d) (sym c.get-in-Internal.ensures))
    (quiet source c.args.marks.now c.args.resolutions.now (own_items scope x) n c.past_internal.new.next c.past_internal.result (λ f h. h) c.past_internal.ensures.nothing (c.past_internal.ensures.passes source scope))

pub returns-in-Command : goal.returns-in-Command
returns-in-Command c source scope =
    let x = part.Command c.get-in-Command.result.now in
    let n = c.args.next.now in
    part_as source c.args.marks.now c.args.resolutions.now c.args.types.now scope c.args.part.now x n c.past_command.new.next c.past_command.result (c.in-Command.is ∙ ap (λ d. part.Command d) (sym c.get-in-Command.ensures))
    (quiet source c.args.marks.now c.args.resolutions.now (own_items scope x) n c.past_command.new.next c.past_command.result (λ f h. h) c.past_command.ensures.nothing (c.past_command.ensures.passes source scope))

pub returns-in-Event : goal.returns-in-Event
returns-in-Event c source scope =
    let x = part.Event c.get-in-Event.result.now in
    let n = c.args.next.now in
    part_as source c.args.marks.now c.args.resolutions.now c.args.types.now scope c.args.part.now x n c.past_event.new.next c.past_event.result (c.in-Event.is ∙ ap (λ d. part.Event d) (sym c.get-in-Event.ensures))
    (quiet source c.args.marks.now c.args.resolutions.now (own_items scope x) n c.past_event.new.next c.past_event.result (λ f h. h) c.past_event.ensures.nothing (c.past_event.ensures.passes source scope))

pub returns-in-Running : goal.returns-in-Running
returns-in-Running c source scope =
    let x = part.Running c.get-in-Running.result.now in
    let n = c.args.next.now in
    part_as source c.args.marks.now c.args.resolutions.now c.args.types.now scope c.args.part.now x n c.past_running.new.next c.past_running.result (c.in-Running.is ∙ ap (λ d. part.Running d) (sym c.get-in-Running.ensures))
    (quiet source c.args.marks.now c.args.resolutions.now (own_items scope x) n c.past_running.new.next c.past_running.result (λ f h. h) c.past_running.ensures.nothing (c.past_running.ensures.passes source c.args.marks.now scope))

pub returns-in-Import : goal.returns-in-Import
returns-in-Import c source scope =
    let x = part.Import c.in-Import.field-0 in
    let n = c.args.next.now in
    part_as source c.args.marks.now c.args.resolutions.now c.args.types.now scope c.args.part.now x n c.past_import.new.next c.past_import.result c.in-Import.is
    (quiet source c.args.marks.now c.args.resolutions.now (own_items scope x) n c.past_import.new.next c.past_import.result (λ f h. h) c.past_import.ensures.nothing
    (passed_one source c.args.marks.now c.args.resolutions.now (item.Used 0 (naming Interface scope c.in-Import.field-0.of)) n c.past_import.new.next c.past_import.ensures.moves))

pub returns-in-Channel : goal.returns-in-Channel
returns-in-Channel c source scope =
    part_as source c.args.marks.now c.args.resolutions.now c.args.types.now scope c.args.part.now (part.Channel c.get-in-Channel.result.now) c.args.next.now c.channel_fault.new.next c.channel_fault.result
    (c.in-Channel.is ∙ ap (λ d. part.Channel d) (sym c.get-in-Channel.ensures)) (c.channel_fault.ensures source scope)

pub returns-in-Param : goal.returns-in-Param
returns-in-Param c source scope =
    part_as source c.args.marks.now c.args.resolutions.now c.args.types.now scope c.args.part.now (part.Param c.get-in-Param.result.now) c.args.next.now c.param_fault.new.next c.param_fault.result
    (c.in-Param.is ∙ ap (λ d. part.Param d) (sym c.get-in-Param.ensures)) (c.param_fault.ensures source scope)
