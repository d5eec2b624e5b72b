use Rattle.std.proofs.Common.{sym, subst}
use Rattle.fp_meaning.specs.Layout.{param_items}
use Rattle.fp_type_forms.proofs.Taking.{taken_as}
use Rattle.fp_written_parts.specs.declared.dictionary.WrittenParam.{WrittenParam}
use Rattle.fp_component_forms.specs.Written.{ParamIs}
use Rattle.fp_component_forms.proofs.single.param_member.Goals as goal

pub returns : goal.returns
returns c source scope =
    taken_as source c.args.marks.now c.args.resolutions.now (param_items scope c.args.param.now) c.args.next.now c.param_taken.new.next
    (λ g has. (subst (λ (w : WrittenParam). ParamIs source scope c.args.param.now w) (sym c.in_ok-boxed.ensures) (g has.0), tt)) (c.in_ok-param.ensures source scope)
