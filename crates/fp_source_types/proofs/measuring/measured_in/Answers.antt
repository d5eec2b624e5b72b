use Rattle.std.proofs.Common.{List, sym, subst}
use Rattle.fp_base.proofs.Options.{if_ok_then}
use Rattle.fp_type_sizes.specs.declared.written.WrittenType.{WrittenType}
use Rattle.fp_type_forms.specs.declared.resolving.Resolution.{Resolution}
use Rattle.fp_type_forms.specs.Resolved.{AreResolved}
use Rattle.fp_type_forms.specs.Written.{AreWritten}
use Rattle.fp_source_types.proofs.measuring.measured_in.Goals as goal

pub returns-clause-resolved : goal.returns-clause-resolved
returns-clause-resolved c =
    if_ok_then c.measured_with.result _ _
    (λ found same source of. subst (λ (rs : List Resolution). AreResolved source c.args.values.now rs c.args.items.now 0) (sym same) (c.in_ok-resolved.ensures source of))
    c.measured_with.ensures.resolutions

pub returns-clause-written : goal.returns-clause-written
returns-clause-written c =
    if_ok_then c.measured_with.result _ _
    (λ found same source of.
    let resolved = subst (λ (rs : List Resolution). AreResolved source c.args.values.now rs c.args.items.now 0) (sym c.as_slice-resolutions.ensures) (c.in_ok-resolved.ensures source of) in
    subst (λ (ws : List WrittenType). AreWritten source ws) (sym same) (c.in_ok-written.ensures source of.laid resolved))
    c.measured_with.ensures.written
