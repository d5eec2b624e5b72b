use Rattle.std.proofs.Common.{◌∙◌}
use Rattle.fp_component_rules.proofs.Meeting.{joined_as}
use Rattle.fp_component_rules.proofs.kinds.three_kinds.Goals as goal

pub returns : goal.returns
returns c s = c.joined.ensures s ∙ joined_as _ _ _ _ (c.only.ensures s) (c.two_kinds.ensures s)
