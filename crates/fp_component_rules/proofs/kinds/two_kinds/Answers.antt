use Rattle.std.proofs.Common.{◌∙◌}
use Rattle.fp_component_rules.proofs.Meeting.{two_joined}
use Rattle.fp_component_rules.proofs.kinds.two_kinds.Goals as goal

pub returns : goal.returns
returns c s = c.joined.ensures s ∙ two_joined _ _ _ _ (c.only.ensures s) (c.only-2.ensures s)
