use Rattle.std.proofs.Common.{None, refl, sym, ap, ◌∙◌}
use Rattle.fp_tree.specs.declared.machine.ElementForm.TheVariants as element
use Rattle.fp_type_forms.proofs.Taking.{taken_nothing}
use Rattle.fp_source_parts.proofs.Taken.{form_by}
use Rattle.fp_source_parts.proofs.kinds.form_taken.Goals as goal

pub returns-in-Signal : goal.returns-in-Signal
returns-in-Signal c source scope =
    form_by source c.args.marks.now c.args.resolutions.now scope c.args.form.now (element.Signal c.get.result.now) c.args.next.now c.type_taken.new.next c.type_taken.result
    (c.in-Signal.is ∙ ap (λ x. element.Signal x) (sym c.get.ensures)) (c.type_taken.ensures source scope)

pub returns-in-Action : goal.returns-in-Action
returns-in-Action c source scope =
    form_by source c.args.marks.now c.args.resolutions.now scope c.args.form.now (element.Action c.get-in-Action.result.now) c.args.next.now c.type_taken-in-Action.new.next c.type_taken-in-Action.result
    (c.in-Action.is ∙ ap (λ x. element.Action x) (sym c.get-in-Action.ensures)) (c.type_taken-in-Action.ensures source scope)

pub returns-in-Guard : goal.returns-in-Guard
returns-in-Guard c source scope =
    form_by source c.args.marks.now c.args.resolutions.now scope c.args.form.now (element.Guard c.get-in-Guard.result.now) c.args.next.now c.type_taken-in-Guard.new.next c.type_taken-in-Guard.result
    (c.in-Guard.is ∙ ap (λ x. element.Guard x) (sym c.get-in-Guard.ensures)) (c.type_taken-in-Guard.ensures source scope)

pub returns-in-State : goal.returns-in-State
returns-in-State c source scope =
    form_by source c.args.marks.now c.args.resolutions.now scope c.args.form.now (element.State c.in-State.field-0) c.args.next.now c.args.next.now None c.in-State.is
    (taken_nothing source c.args.marks.now c.args.resolutions.now c.args.next.now refl)

pub returns-in-Choice : goal.returns-in-Choice
returns-in-Choice c source scope =
    form_by source c.args.marks.now c.args.resolutions.now scope c.args.form.now (element.Choice c.in-Choice.field-0) c.args.next.now c.args.next.now None c.in-Choice.is
    (taken_nothing source c.args.marks.now c.args.resolutions.now c.args.next.now refl)

pub returns-in-Initial : goal.returns-in-Initial
returns-in-Initial c source scope =
    form_by source c.args.marks.now c.args.resolutions.now scope c.args.form.now (element.Initial c.in-Initial.field-0) c.args.next.now c.args.next.now None c.in-Initial.is
    (taken_nothing source c.args.marks.now c.args.resolutions.now c.args.next.now refl)

pub returns-in-On : goal.returns-in-On
returns-in-On c source scope =
    form_by source c.args.marks.now c.args.resolutions.now scope c.args.form.now (element.On c.in-On.field-0) c.args.next.now c.args.next.now None c.in-On.is
    (taken_nothing source c.args.marks.now c.args.resolutions.now c.args.next.now refl)

pub returns-in-Entry : goal.returns-in-Entry
returns-in-Entry c source scope =
    form_by source c.args.marks.now c.args.resolutions.now scope c.args.form.now (element.Entry c.in-Entry.field-0) c.args.next.now c.args.next.now None c.in-Entry.is
    (taken_nothing source c.args.marks.now c.args.resolutions.now c.args.next.now refl)

pub returns-in-Exit : goal.returns-in-Exit
returns-in-Exit c source scope =
    form_by source c.args.marks.now c.args.resolutions.now scope c.args.form.now (element.Exit c.in-Exit.field-0) c.args.next.now c.args.next.now None c.in-Exit.is
    (taken_nothing source c.args.marks.now c.args.resolutions.now c.args.next.now refl)
