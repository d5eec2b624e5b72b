use Rattle.std.proofs.Common.{◌∷◌, [], subst, sym}
use Rattle.std.proofs.lemmas.Result.{on_ok_weaker}
use Rattle.fp_machine_rules.specs.declared.item.Target.{Target}
use Rattle.fp_machine_rules.specs.declared.item.Target.TheVariants.{Stays, Undefined}
use Rattle.fp_machine_rules.specs.Visits.{Adds}
use Rattle.fp_machine_rules.proofs.Visited.{added_visit, added_adds, adds_stays}
use Rattle.fp_machine_rules.proofs.reaching.add.Goals as goal

pub returns-in-To-clause-kept : goal.returns-in-To-clause-kept
returns-in-To-clause-kept c = on_ok_weaker c.add_vertex.result (λ e. added_visit _ _ _ _ _ e) c.add_vertex.ensures

pub returns-in-To-clause-adds : goal.returns-in-To-clause-adds
returns-in-To-clause-adds c =
    on_ok_weaker c.add_vertex.result
    (λ e.
    subst (λ (t : Target). Adds (t ∷ []) c.args.visit.now.seen.items c.args.visit.now.found.items c.add_vertex.new.visit.seen.items c.add_vertex.new.visit.found.items)
    (sym c.in-To.is) (added_adds _ _ _ _ _ e))
    c.add_vertex.ensures

pub returns-in-Stays-clause-adds : goal.returns-in-Stays-clause-adds
returns-in-Stays-clause-adds c =
    subst (λ (t : Target). Adds (t ∷ []) c.args.visit.now.seen.items c.args.visit.now.found.items c.args.visit.now.seen.items c.args.visit.now.found.items)
    (sym c.in-Stays.is) (adds_stays Stays _ _ (λ v e. cc))

pub returns-in-Undefined-clause-adds : goal.returns-in-Undefined-clause-adds
returns-in-Undefined-clause-adds c =
    subst (λ (t : Target). Adds (t ∷ []) c.args.visit.now.seen.items c.args.visit.now.found.items c.args.visit.now.seen.items c.args.visit.now.found.items)
    (sym c.in-Undefined.is) (adds_stays Undefined _ _ (λ v e. cc))
