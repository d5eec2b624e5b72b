use Rattle.std.proofs.Common.{◌++◌, ◌∙◌, ap, false}
use Rattle.std.proofs.lemmas.Result.{on_ok_weaker}
use Rattle.fp_dictionary.specs.Dictionary.{types_data}
use Rattle.fp_dictionary.specs.Printed.{items_printed}
use Rattle.fp_dictionary.proofs.types.push_types.Goals as goal

pub returns : goal.returns
returns c =
    let out = c.args.out.now in
    let types = ap (λ ts. out ++ items_printed false (types_data ts (c.as_slice-2).result.now)) c.as_slice.ensures in
    let used = ap (λ ks. out ++ items_printed false (types_data c.args.model.now.types ks)) (c.as_slice-2).ensures in
    on_ok_weaker c.push_all.result (λ h. (_, c.in_ok-used.ensures, h ∙ types ∙ used)) c.push_all.ensures
