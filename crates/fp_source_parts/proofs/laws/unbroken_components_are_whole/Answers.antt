use Rattle.std.proofs.Common.{inr}
use Rattle.fp_source_parts.proofs.Assembled.{components_whole}
use Rattle.fp_source_parts.proofs.laws.unbroken_components_are_whole.Goals as goal
use Rattle.fp_meaning.specs.Layout.{items}

pub returns : goal.returns
returns c source values resolutions ws types written valued are unbroken =
    components_whole source ws types written are valued.written valued.given unbroken values resolutions valued.resolved valued.valued (λ k d at. c.unbroken_part_numbers_stand.ensures source valued.forms_unbroken k d at)
    (λ k i at. c.unbroken_formats_read.ensures (items source) valued.formats_unbroken k i at)
    (λ scope x l v of has val. c.unbroken_limits_convert.ensures.numbers source ws scope x l v valued.conversions_unbroken of has val)
    (λ scope p e v k given of same val is size. c.unbroken_defaults_convert.ensures source ws types scope p e v k valued.conversions_unbroken given of same val is size)
    c.default_has_form.ensures.size (c.unbroken_are_consistent.ensures written.interfaces written.components (λ f b. unbroken f (inr (inr b))))
