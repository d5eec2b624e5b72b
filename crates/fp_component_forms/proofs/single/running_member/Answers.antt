use Rattle.std.proofs.Common.{sym, subst}
use Rattle.fp_meaning.specs.Layout.{running_items}
use Rattle.fp_type_forms.proofs.Taking.{taken_as}
use Rattle.fp_written_parts.specs.declared.member.WrittenRunning.{WrittenRunning}
use Rattle.fp_component_forms.specs.Written.{RunningIs}
use Rattle.fp_component_forms.proofs.single.running_member.Goals as goal

pub returns : goal.returns
returns c source scope ready =
    taken_as source c.args.marks.now c.args.resolutions.now (running_items scope c.args.running.now) c.args.next.now c.running_taken.new.next
    (λ g has. (subst (λ (w : WrittenRunning). RunningIs source scope c.args.running.now w) (sym c.in_ok-boxed.ensures) g, tt)) (c.in_ok-running.ensures source scope ready)
