use Rattle.std.proofs.Common.{sym, subst}
use Rattle.fp_tree.specs.declared.component.Part.TheVariants as part
use Rattle.fp_meaning.specs.Layout.{general_items}
use Rattle.fp_type_forms.proofs.Taking.{taken_as}
use Rattle.fp_written_parts.specs.declared.member.WrittenMember.{WrittenMember}
use Rattle.fp_component_forms.specs.Written.{MemberIs}
use Rattle.fp_component_forms.proofs.single.general_member.Goals as goal

pub returns : goal.returns
returns c source scope ready =
    taken_as source c.args.marks.now c.args.resolutions.now (general_items scope c.args.port.now) c.args.next.now c.general_taken.new.next
    (λ g has. (subst (λ (m : WrittenMember). MemberIs source scope (part.General c.args.port.now) m) (sym c.in_ok-member.ensures) g, tt)) (c.in_ok-port.ensures source scope ready)
