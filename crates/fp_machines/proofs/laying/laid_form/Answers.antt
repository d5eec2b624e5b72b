use Rattle.std.proofs.Common.{◌≡◌, ◌∙◌, ap, sym, subst, refl}
use Rattle.fp_tree.specs.declared.machine.ElementForm.{ElementForm}
use Rattle.fp_tree.specs.declared.machine.OnSignal.{OnSignal}
use Rattle.fp_machines.specs.Outline.{outlined}
use Rattle.fp_machines.specs.Steps.{laid_form, on_form}
use Rattle.fp_machines.proofs.laying.laid_form.Goals as goal

pub returns-in-On : goal.returns-in-On
returns-in-On c = λ es a.
    c.on_form.ensures es a ∙ (ap (λ (o : OnSignal). on_form es c.args.items.now c.args.parent o) c.get-in-On.ensures
    ∙ subst (λ (f : ElementForm). on_form es c.args.items.now c.args.parent c.in-On.on ≡ laid_form es c.args.items.now c.args.parent f) (sym c.in-On.is) refl)

pub returns-in-State : goal.returns-in-State
returns-in-State c = λ es a. c.outlined.ensures es a.spellings ∙ subst (λ (f : ElementForm). outlined es f ≡ laid_form es c.args.items.now c.args.parent f) (sym c.in-State.is) refl

pub returns-in-Signal : goal.returns-in-Signal
returns-in-Signal c = λ es a. c.outlined-in-Signal.ensures es a.spellings ∙ subst (λ (f : ElementForm). outlined es f ≡ laid_form es c.args.items.now c.args.parent f) (sym c.in-Signal.is) refl

pub returns-in-Action : goal.returns-in-Action
returns-in-Action c = λ es a. c.outlined-in-Action.ensures es a.spellings ∙ subst (λ (f : ElementForm). outlined es f ≡ laid_form es c.args.items.now c.args.parent f) (sym c.in-Action.is) refl

pub returns-in-Guard : goal.returns-in-Guard
returns-in-Guard c = λ es a. c.outlined-in-Guard.ensures es a.spellings ∙ subst (λ (f : ElementForm). outlined es f ≡ laid_form es c.args.items.now c.args.parent f) (sym c.in-Guard.is) refl

pub returns-in-Entry : goal.returns-in-Entry
returns-in-Entry c = λ es a. c.outlined-in-Entry.ensures es a.spellings ∙ subst (λ (f : ElementForm). outlined es f ≡ laid_form es c.args.items.now c.args.parent f) (sym c.in-Entry.is) refl

pub returns-in-Exit : goal.returns-in-Exit
returns-in-Exit c = λ es a. c.outlined-in-Exit.ensures es a.spellings ∙ subst (λ (f : ElementForm). outlined es f ≡ laid_form es c.args.items.now c.args.parent f) (sym c.in-Exit.is) refl
