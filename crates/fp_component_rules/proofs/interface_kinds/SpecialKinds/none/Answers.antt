use Rattle.std.proofs.Common.{refl}
use Rattle.fp_tables.specs.declared.component.Special.TheVariants.{CmdRecv, CmdReg, CmdResp, Event as Log, TextEvent, Tlm, Time, PrmGet, PrmSet}
use Rattle.fp_component_rules.proofs.interface_kinds.SpecialKinds.none.Goals as goal

pub returns : goal.returns
returns c CmdRecv = refl
returns c CmdReg = refl
returns c CmdResp = refl
returns c Log = refl
returns c TextEvent = refl
returns c Tlm = refl
returns c Time = refl
returns c PrmGet = refl
returns c PrmSet = refl
