use Rattle.std.proofs.Common.{sym, subst}
use Rattle.fp_meaning.specs.Layout.{event_items}
use Rattle.fp_type_forms.proofs.Taking.{taken_as}
use Rattle.fp_written_parts.specs.declared.dictionary.WrittenEvent.{WrittenEvent}
use Rattle.fp_component_forms.specs.Written.{EventIs}
use Rattle.fp_component_forms.proofs.single.event_member.Goals as goal

pub returns : goal.returns
returns c source scope =
    taken_as source c.args.marks.now c.args.resolutions.now (event_items scope c.args.event.now) c.args.next.now c.event_taken.new.next
    (λ g has. (subst (λ (w : WrittenEvent). EventIs source scope c.args.event.now w) (sym c.in_ok-boxed.ensures) (g has), tt)) (c.in_ok-event.ensures source scope)
