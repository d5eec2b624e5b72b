use Rattle.fp_component_rules.proofs.Meeting.{common_turned}
use Rattle.fp_component_rules.proofs.kinds.have_common.Goals as goal

pub returns : goal.returns
returns c = common_turned c.args.one c.args.other
