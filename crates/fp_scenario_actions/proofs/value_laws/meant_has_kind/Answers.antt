use Rattle.fp_scenario_actions.proofs.MeantKinds.{meant_kind}
use Rattle.fp_scenario_actions.proofs.value_laws.meant_has_kind.Goals as goal

pub returns : goal.returns
returns c = λ m k d v sound h. meant_kind m sound k d v h
