use Rattle.std.proofs.Common.{List, sym, subst, ◌∙◌}
use Rattle.fp_base.proofs.Options.{if_ok_then}
use Rattle.fp_type_forms.specs.declared.resolving.Resolution.{Resolution}
use Rattle.fp_type_forms.specs.Resolved.{AreItemsOf, AreResolved}
use Rattle.fp_type_forms.proofs.checking.part_faults.Goals as goal

pub returns : goal.returns
returns c =
    let source = c.args.source.now in
    let of : AreItemsOf source c.items-items.result.now c.args.uses.now.meanings c.args.marks.now =
    record { laid = c.items-items.ensures ∙ c.in_ok-layout.ensures; meant = c.requires.meanings; valued = c.requires.values } in
    let resolved = subst (λ (rs : List Resolution). AreResolved source c.args.marks.now rs c.items-items.result.now 0) (sym c.as_slice-resolutions.ensures) (c.in_ok-resolved.ensures source of) in
    if_ok_then c.faults_of.result _ _ (λ o h. h source of.laid resolved) c.faults_of.ensures
