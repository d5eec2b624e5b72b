use Rattle.fp_components.proofs.OneComponents.{components_same}
use Rattle.fp_components.proofs.laws.one_components.Goals as goal

pub returns : goal.returns
returns c fs ds ws written a b are also = components_same fs ds ws (c.one_default.ensures ws) (c.one_result.ensures ws) written a b are also
