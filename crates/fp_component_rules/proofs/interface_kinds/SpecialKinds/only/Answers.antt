use Rattle.fp_tables.specs.declared.component.Special.TheVariants.{CmdRecv, CmdReg, CmdResp, Event as Log, TextEvent, Tlm, Time, PrmGet, PrmSet}
use Rattle.fp_component_rules.proofs.interface_kinds.SpecialKinds.only.Goals as goal

pub returns : goal.returns
returns c CmdRecv = c.is_special.ensures
returns c CmdReg = c.is_special-2.ensures
returns c CmdResp = c.is_special-3.ensures
returns c Log = c.is_special-4.ensures
returns c TextEvent = c.is_special-5.ensures
returns c Tlm = c.is_special-6.ensures
returns c Time = c.is_special-7.ensures
returns c PrmGet = c.is_special-8.ensures
returns c PrmSet = c.is_special-9.ensures
