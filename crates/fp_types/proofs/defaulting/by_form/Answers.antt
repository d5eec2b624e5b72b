use Rattle.std.proofs.Common.{List, Some, refl, ap, ◌∙◌}
use Rattle.std.specs.Prelude.{option_map, slice_get}
use Rattle.fp_base.proofs.Options.{if_ok_then}
use Rattle.fp_tables.specs.declared.kind.Constant.{Constant}
use Rattle.fp_types.specs.Converting.{the_one}
use Rattle.fp_types.proofs.Passed.{for_form, weaker, lefts_of, first_default, at_fields}
use Rattle.fp_types.proofs.defaulting.by_form.Goals as goal

pub returns-in-Abstract : goal.returns-in-Abstract
returns-in-Abstract c ws sound = for_form ws c.args.table.now _ _ (Some _) (Some _) c.in-Abstract.is refl the_one

pub returns-in-Alias : goal.returns-in-Alias
returns-in-Alias c =
    if_ok_then c.default_of_kind.result _ _
    (λ o h ws sound. for_form ws c.args.table.now _ _ o o c.in-Alias.is refl (weaker ws c.args.table.now _ _ _ o (λ knows. knows 0 c.in-Alias.kind refl) (h ws sound))) c.default_of_kind.ensures

pub returns-in-Array : goal.returns-in-Array
returns-in-Array c =
    if_ok_then c.default_of_member.result _ _
    (λ o h ws sound. for_form ws c.args.table.now _ _ o o c.in-Array.is refl (weaker ws c.args.table.now _ _ _ o (λ knows. knows 0 c.in-Array.element refl) (h ws sound))) c.default_of_member.ensures

pub returns-in-Struct : goal.returns-in-Struct
returns-in-Struct c =
    if_ok_then c.of_each.result _ _
    (λ o h ws sound. for_form ws c.args.table.now _ _ o o c.in-Struct.is refl
    (weaker ws c.args.table.now _ _ _ o (λ knows. lefts_of ws c.args.table.now c.in-Struct.fields knows) (at_fields ws c.args.table.now _ c.in-Struct.fields o c.as_slice.ensures (h ws sound)))) c.of_each.ensures

pub returns-in-Enum : goal.returns-in-Enum
returns-in-Enum c =
    if_ok_then c.first_value.result _ _
    (λ o e ws sound. for_form ws c.args.table.now _ _ o _ c.in-Enum.is (e ∙ ap (λ (cs : List Constant). option_map (λ (x : Constant). x.value) (slice_get cs 0)) c.as_slice-in-Enum.ensures)
    (first_default ws c.args.table.now _ c.in-Enum.constants)) c.first_value.ensures
