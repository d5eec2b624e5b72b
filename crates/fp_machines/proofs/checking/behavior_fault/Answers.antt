use Rattle.std.proofs.Common.{List, Option, None, Some, subst, sym, ◌∙◌}
use Rattle.fp_base.specs.declared.refusal.Refusal.{Refusal}
use Rattle.fp_base.specs.Least.{IsLeast}
use Rattle.fp_base.proofs.Options.{if_ok_then}
use Rattle.fp_machine_rules.specs.declared.item.Item.{Item}
use Rattle.fp_machine_rules.specs.Broken.{BrokenAsWhole}
use Rattle.fp_machine_rules.specs.Forms.{IsLaid}
use Rattle.fp_machine_rules.proofs.Joined.{least_inside}
use Rattle.fp_machines.specs.Layout.{laid}
use Rattle.fp_machines.proofs.Laid.{whole_laid}
use Rattle.fp_machines.proofs.checking.behavior_fault.Goals as goal

pub as_whole-requires-clause-laid : goal.as_whole-requires-clause-laid
as_whole-requires-clause-laid c =
    subst (λ (items : List Item). IsLaid items) (sym (c.deref.ensures.value ∙ c.in_ok-outlines.ensures)) c.requires

pub beside-requires-clause-whole : goal.beside-requires-clause-whole
beside-requires-clause-whole c =
    subst (λ (items : List Item). IsLeast (BrokenAsWhole c.args.place items) (Some c.in-Some.refusal)) (c.deref.ensures.value ∙ c.in_ok-outlines.ensures)
    (subst (λ (o : Option Refusal). IsLeast (BrokenAsWhole c.args.place c.deref.result.now) o) c.in-Some.is c.in_ok-refusal.ensures)

pub returns : goal.returns
returns c =
    let place = c.args.place in
    let es = c.args.elements.now in
    if_ok_then c.inside.result _ _
    (λ o l.
    least_inside (laid place es c.args.types.now) o
    (whole_laid place es None
    (subst (λ (items : List Item). IsLeast (BrokenAsWhole place items) None) (c.deref.ensures.value ∙ c.in_ok-outlines.ensures)
    (subst (λ (o : Option Refusal). IsLeast (BrokenAsWhole place c.deref.result.now) o) c.in-None.is c.in_ok-refusal.ensures)))
    l)
    c.inside.ensures
