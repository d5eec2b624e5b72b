use Rattle.std.proofs.Common.{[], None, sym, ap, ◌∙◌}
use Rattle.fp_meaning.specs.Layout.{element_form_items}
use Rattle.fp_part_values.specs.Names.{form_names}
use Rattle.fp_part_values.proofs.Joining.{nothing_there, faults_at}
use Rattle.fp_tree.specs.declared.machine.ElementForm.TheVariants as element
use Rattle.fp_part_values.proofs.machines.element_fault.Goals as goal

pub returns-in-Signal : goal.returns-in-Signal
returns-in-Signal c source scope =
    faults_at source c.args.marks.now c.args.resolutions.now scope (element_form_items scope) form_names (λ x. []) c.args.form.now (element.Signal c.get.result.now) c.args.next.now c.typed_fault.new.next c.typed_fault.result
    (c.in-Signal.is ∙ ap (λ x. element.Signal x) (sym c.get.ensures)) (c.typed_fault.ensures source scope)

pub returns-in-Action : goal.returns-in-Action
returns-in-Action c source scope =
    faults_at source c.args.marks.now c.args.resolutions.now scope (element_form_items scope) form_names (λ x. []) c.args.form.now (element.Action c.get-in-Action.result.now) c.args.next.now c.typed_fault-in-Action.new.next c.typed_fault-in-Action.result
    (c.in-Action.is ∙ ap (λ x. element.Action x) (sym c.get-in-Action.ensures)) (c.typed_fault-in-Action.ensures source scope)

pub returns-in-Guard : goal.returns-in-Guard
returns-in-Guard c source scope =
    faults_at source c.args.marks.now c.args.resolutions.now scope (element_form_items scope) form_names (λ x. []) c.args.form.now (element.Guard c.get-in-Guard.result.now) c.args.next.now c.typed_fault-in-Guard.new.next c.typed_fault-in-Guard.result
    (c.in-Guard.is ∙ ap (λ x. element.Guard x) (sym c.get-in-Guard.ensures)) (c.typed_fault-in-Guard.ensures source scope)

pub returns-in-State : goal.returns-in-State
returns-in-State c source scope =
    faults_at source c.args.marks.now c.args.resolutions.now scope (element_form_items scope) form_names (λ x. []) c.args.form.now (element.State c.in-State.field-0) c.args.next.now c.args.next.now None c.in-State.is (nothing_there source c.args.marks.now c.args.resolutions.now scope c.args.next.now)

pub returns-in-Choice : goal.returns-in-Choice
returns-in-Choice c source scope =
    faults_at source c.args.marks.now c.args.resolutions.now scope (element_form_items scope) form_names (λ x. []) c.args.form.now (element.Choice c.in-Choice.field-0) c.args.next.now c.args.next.now None c.in-Choice.is (nothing_there source c.args.marks.now c.args.resolutions.now scope c.args.next.now)

pub returns-in-Initial : goal.returns-in-Initial
returns-in-Initial c source scope =
    faults_at source c.args.marks.now c.args.resolutions.now scope (element_form_items scope) form_names (λ x. []) c.args.form.now (element.Initial c.in-Initial.field-0) c.args.next.now c.args.next.now None c.in-Initial.is (nothing_there source c.args.marks.now c.args.resolutions.now scope c.args.next.now)

pub returns-in-On : goal.returns-in-On
returns-in-On c source scope =
    faults_at source c.args.marks.now c.args.resolutions.now scope (element_form_items scope) form_names (λ x. []) c.args.form.now (element.On c.in-On.field-0) c.args.next.now c.args.next.now None c.in-On.is (nothing_there source c.args.marks.now c.args.resolutions.now scope c.args.next.now)

pub returns-in-Entry : goal.returns-in-Entry
returns-in-Entry c source scope =
    faults_at source c.args.marks.now c.args.resolutions.now scope (element_form_items scope) form_names (λ x. []) c.args.form.now (element.Entry c.in-Entry.field-0) c.args.next.now c.args.next.now None c.in-Entry.is (nothing_there source c.args.marks.now c.args.resolutions.now scope c.args.next.now)

pub returns-in-Exit : goal.returns-in-Exit
returns-in-Exit c source scope =
    faults_at source c.args.marks.now c.args.resolutions.now scope (element_form_items scope) form_names (λ x. []) c.args.form.now (element.Exit c.in-Exit.field-0) c.args.next.now c.args.next.now None c.in-Exit.is (nothing_there source c.args.marks.now c.args.resolutions.now scope c.args.next.now)
