use Rattle.std.proofs.Common.{Option, sym, ap}
use Rattle.std.specs.Prelude.{option_map}
use Rattle.fp_base.specs.declared.value.MemberValue.{MemberValue}
use Rattle.fp_base.proofs.Options.{if_ok_then}
use Rattle.fp_types.proofs.Complete.{member_left, is_given}
use Rattle.fp_types.proofs.completing.member_value.Goals as goal

pub returns-in_ok-copy-in-Some : goal.returns-in_ok-copy-in-Some
returns-in_ok-copy-in-Some c ws sound = is_given ws c.args.rest c.args.given.now c.args.field.now c.in-Some.part.now c.in_ok-copy-in-Some.field-0 (sym c.in-Some.ensures) c.in_ok-copy-in-Some.ensures

pub returns-in-None : goal.returns-in-None
returns-in-None c =
    let f = c.args.field.now in
    if_ok_then c.rest_of.result _ _
    (λ o h ws sound. member_left ws _ c.args.rest c.args.given.now f o (ap (λ (q : Option MemberValue). option_map (λ (p : MemberValue). p.value) q) (sym c.in-None.ensures)) (h ws sound)) c.rest_of.ensures
