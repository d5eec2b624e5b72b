use Rattle.std.proofs.Common.{List, Bool, ℕ, length, subst, sym}
use Rattle.fp_machine_rules.specs.Leaving.{AreFlags}
use Rattle.fp_machine_rules.specs.Repeated.{IsRepeated}
use Rattle.fp_machine_rules.proofs.Joined.{flags_told}
use Rattle.fp_machine_rules.proofs.placing.repeat_fault.Goals as goal

pub returns : goal.returns
returns c =
    let keys = c.args.keys.now in
    let places = c.args.places.now in
    flags_told c.args.rule places (IsRepeated keys) _ c.least_flagged.result
    (subst (λ (n : ℕ). AreFlags (IsRepeated keys) n c.deref.result.now) (sym c.requires)
    (subst (λ (fs : List Bool). AreFlags (IsRepeated keys) (length keys) fs) (sym c.deref.ensures.value) c.in_ok-flags.ensures))
    c.least_flagged.ensures
