use Rattle.std.proofs.Common.{map, ap, ◌∙◌, arith}
use Rattle.std.proofs.lemmas.List.{take_all}
use Rattle.serde_json.specs.Data.{array}
use Rattle.serde_json.specs.View.{items_of}
use Rattle.serde_json.proofs.Views.{view-Array}
use Rattle.fp_dictionary.specs.Objects.{list_of}
use Rattle.fp_dictionary.specs.Types.{enumerated_data}
use Rattle.fp_dictionary.proofs.descriptor_types.constants_value.Goals as goal

pub returns : goal.returns
returns c =
    view-Array c.loop-constant.list ∙ ap (λ ds. array (items_of ds)) c.loop-constant.invariant
    ∙ ap (λ xs. list_of (map enumerated_data xs)) (take_all c.loop-constant.constant-index c.args.constants.now (omega arith))
