use Rattle.std.proofs.Common.{◌∙◌, List, [], ◌∷◌, sym, ap, ap₂, refl}
use Rattle.std.specs.List.{list_all}
use Rattle.fp_tables.specs.Chains.{chains_are_short}
use Rattle.fp_tables.specs.Types.{type_has_values, is_of_size}
use Rattle.fp_tables.specs.Sound.{form_is_of_size, form_differs}
use Rattle.fp_tables.specs.declared.kind.Constant.{Constant}
use Rattle.fp_tables.specs.declared.kind.TypeDef.{TypeDef}
use Rattle.fp_tables.proofs.Joined.{later_results, same_first}
use Rattle.fp_sound_model.proofs.parts.types_are_sound.Goals as goal

pub returns : goal.returns
returns c =
    let all = c.as_slice-definitions.ensures in
    let short = sym (c.in_ok-chains_are_short.ensures ∙ ap (λ (ds : List TypeDef). chains_are_short ds) all) ∙ c.if-not-branch.false in
    let values = c.types_have_their_values-values.ensures ∙ ap₂ (λ (ds es : List TypeDef). list_all (type_has_values ds) es) all all in
    let arrays = c.arrays_are_of_size-arrays.ensures ∙ ap (λ (ds : List TypeDef). list_all (λ (d : TypeDef). form_is_of_size d.form) ds) all in
    let defaults = c.defaults_are_of_size-defaults.ensures ∙ ap (λ (ds : List TypeDef). list_all (λ (d : TypeDef). is_of_size d.default) ds) all in
    let constants = c.constants_are_of_size-constants.ensures ∙ ap (λ (cs : List Constant). list_all (λ (x : Constant). is_of_size x.value) cs) c.as_slice.ensures in
    let members = c.in_ok-members.ensures ∙ ap (λ (ds : List TypeDef). list_all (λ (d : TypeDef). form_differs d.form) ds) all in
    later_results (chains_are_short c.args.model.now.types) c.types_have_their_values-values.result
    (c.arrays_are_of_size-arrays.result ∷ c.defaults_are_of_size-defaults.result ∷ c.constants_are_of_size-constants.result ∷ c.in_ok-members.members ∷ [])
    _ short (same_first values (same_first arrays (same_first defaults (same_first constants (same_first members refl)))))
