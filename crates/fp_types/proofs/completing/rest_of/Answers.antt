use Rattle.std.proofs.Common.{◌≡◌, List, Option, ap, ◌∙◌}
use Rattle.std.specs.Prelude.{option_map, find}
use Rattle.std.specs.Str.{bytes_eq}
use Rattle.fp_base.specs.declared.value.MemberValue.{MemberValue}
use Rattle.fp_base.proofs.Options.{if_ok_then}
use Rattle.fp_types.specs.declared.target.Rest.{Rest}
use Rattle.fp_types.specs.declared.target.Rest.TheVariants.{OfStruct}
use Rattle.fp_types.specs.Completing.{left_parts}
use Rattle.fp_types.proofs.Complete.{rest_default, left_default, at_rest, for_rest}
use Rattle.fp_types.proofs.completing.rest_of.Goals as goal

pub returns-in-OfMembers : goal.returns-in-OfMembers
returns-in-OfMembers c =
    if_ok_then c.default_of_member.result _ _
    (λ o h ws sound. for_rest ws c.args.defaults.now _ _ c.args.field.now o c.in-OfMembers.is (rest_default ws _ c.args.field.now o (h ws sound))) c.default_of_member.ensures

pub returns-in-OfStruct : goal.returns-in-OfStruct
returns-in-OfStruct c =
    let f = c.args.field.now in
    let defaults = c.args.defaults.now in
    let i = c.in-OfStruct.field-0 in
    let left : c.args.left.now ≡ left_parts defaults (OfStruct i) = c.requires.left ∙ ap (λ (r : Rest). left_parts defaults r) c.in-OfStruct.is in
    let named = c.part_named.ensures ∙ ap (λ (ps : List MemberValue). find (λ (p : MemberValue). bytes_eq p.name f.name) ps) left in
    if_ok_then c.value_of.result _ _
    (λ o e ws sound. for_rest ws defaults _ _ f o c.in-OfStruct.is
    (at_rest ws _ _ f o _ (e ∙ ap (λ (q : Option MemberValue). option_map (λ (p : MemberValue). p.value) q) named) (left_default ws defaults sound i f))) c.value_of.ensures
