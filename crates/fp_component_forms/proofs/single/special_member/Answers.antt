use Rattle.std.proofs.Common.{sym, subst}
use Rattle.fp_tree.specs.declared.component.Part.TheVariants as part
use Rattle.fp_written_parts.specs.declared.member.WrittenMember.{WrittenMember}
use Rattle.fp_component_forms.specs.Written.{MemberIs}
use Rattle.fp_component_forms.proofs.single.special_member.Goals as goal

pub returns : goal.returns
returns c source scope ready has =
    (subst (λ (m : WrittenMember). MemberIs source scope (part.Special c.args.port.now) m) (sym c.in_ok-member.ensures) (c.in_ok-port.ensures source scope ready), tt)
