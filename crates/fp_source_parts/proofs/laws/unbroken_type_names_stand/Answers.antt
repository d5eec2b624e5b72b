use Rattle.std.proofs.Common.{inl, inr}
use Rattle.fp_source_parts.proofs.Names.{type_names_stand}
use Rattle.fp_source_parts.proofs.laws.unbroken_type_names_stand.Goals as goal

pub returns : goal.returns
returns c source values resolutions ws types valued =
    type_names_stand source values resolutions valued.resolved valued.valued (λ f b. valued.types_unbroken f (record { written = ws; are = valued.written; broken = inr (inl (inl b)) }))
    (λ k d at. c.unbroken_part_names_stand.ensures source values resolutions valued.resolved valued.valued valued.forms_unbroken k d at)
