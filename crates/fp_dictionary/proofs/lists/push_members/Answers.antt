use Rattle.std.proofs.Common.{◌++◌, ◌∙◌, ap, false, map}
use Rattle.std.proofs.lemmas.Result.{on_ok_weaker}
use Rattle.fp_dictionary.specs.Dictionary.{said}
use Rattle.fp_dictionary.specs.Placed.{numbered}
use Rattle.fp_dictionary.specs.Printed.{items_printed}
use Rattle.fp_dictionary.proofs.lists.push_members.Goals as goal

pub returns : goal.returns
returns g c =
    let data_of = g.T.Listed.data_of in
    let out = c.args.out.now in
    let types = ap (λ ts. out ++ items_printed false (said (map (numbered (data_of ts)) (c.as_slice-2).result.now))) c.as_slice.ensures in
    let places = ap (λ ps. out ++ items_printed false (said (map (numbered (data_of c.args.model.now.types)) ps))) (c.as_slice-2).ensures.value in
    on_ok_weaker c.push_all.result (λ h. (_, c.in_ok-places.ensures, h ∙ types ∙ places)) c.push_all.ensures
