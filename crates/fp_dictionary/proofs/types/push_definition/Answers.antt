use Rattle.std.proofs.Common.{◌∙◌, ap}
use Rattle.serde_json.specs.Written.{has_float}
use Rattle.fp_dictionary.proofs.DescriptorFloats.{type_no_float}
use Rattle.fp_dictionary.proofs.types.push_definition.Goals as goal

pub push_item-requires : goal.push_item-requires
push_item-requires c = ap has_float c.in_ok-value.ensures ∙ type_no_float c.args.types.now c.args.definition.now
