use Rattle.std.proofs.Common.{ℕ, Option, refl, ap}
use Rattle.fp_base.proofs.Options.{if_ok_then}
use Rattle.fp_types.specs.Converting.{member_target}
use Rattle.fp_types.proofs.Complete.{many_default, at_default}
use Rattle.fp_types.proofs.completing.default_of_member.Goals as goal

pub returns-in-Some : goal.returns-in-Some
returns-in-Some c =
    if_ok_then c.repeated.result _ _
    (λ o e ws sound. at_default ws _ _ _ o _ (ap (λ (s : Option ℕ). member_target s c.args.kind) c.in-Some.is) e
    (many_default ws _ c.in-Some.size c.args.kind c.in_ok-one.one (c.in_ok-one.ensures ws sound))) c.repeated.ensures

pub returns-in-None : goal.returns-in-None
returns-in-None c ws sound = at_default ws _ _ _ _ _ (ap (λ (s : Option ℕ). member_target s c.args.kind) c.in-None.is) refl (c.in_ok-one.ensures ws sound)
