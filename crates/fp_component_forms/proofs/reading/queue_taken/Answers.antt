use Rattle.fp_meaning.specs.Layout.{value_items}
use Rattle.fp_type_forms.proofs.Taking.{taken_as}
use Rattle.fp_component_forms.proofs.reading.queue_taken.Goals as goal

pub returns : goal.returns
returns c source scope =
    taken_as source c.args.marks.now c.args.resolutions.now (value_items scope c.args.priority.now) c.args.next.now c.optional_taken-priority.new.next
    (λ p. record { priority = p; full = c.full_written-full.ensures; word = c.first_place-word.ensures }) (c.optional_taken-priority.ensures source scope)
