-- No two rules stand in one row of their table.
use Rattle.std.proofs.Common.{◌≡◌, ℕ, List, [], ◌∷◌, Some, sym, ap, ◌∙◌, refl}
use Rattle.std.specs.Prelude.{slice_get}
use Rattle.fp_base.specs.Rules.{row}
use Rattle.fp_base.specs.declared.rule.Rule.{Rule}
use Rattle.fp_base.specs.declared.rule.Rule.TheVariants.{BadCharacter, OpenString, BadEscape, NumberTooLarge, TextTooLong, UnexpectedToken, NestingTooDeep, FormLeftOut, DefinedTwice, Undefined, WrongKindOfName, BadInclude, FloatUsed, Outside128Bits, ZeroDivisor, OperandKind, Cycle, BadConversion, OutsideType, ArraySize, EnumValuesAllOrNone, EnumValueRepeated, BadMember, StringSize, FieldCount, FieldKind, LoneBrace, ValueTooLarge, ChainTooLong, ParameterRepeated, AsyncWithReturn, QueueWordNotAllowed, PortSize, PortNameRepeated, SpecialPort, PriorityRange, NameRepeated, IdRepeated, IdPast32Bits, RefParameter, BadLimits, BadThrottle, PassiveWithQueueUse, QueueWithoutUse, SpecialPortMissing, BadMatch, InterfaceCycle, InitialCount, InitialLeavesState, SignalTwice, ChoiceCycle, Unreachable, TypedValue, UndefinedInMachine, MachineNameRepeated, MachineTooLarge, ExternalMachine, QueueSize, ForActiveAlone, RangesOverlap, NumberOutOfRange, BadInstance, BadDirection, TypesDiffer, PatternPort, ImportCycle, PortMissing, PortNumberRange, OutputNumberTwice, MatchPairMissing, MatchPairRepeated, MatchNumbersDiffer, NoNumberFree, NotJson, UnknownKey, WrongKindOfValue, MissingKey, PastSize, UnknownName, BadArgument, NoWire, SynchronousCycle, LockCycle, BadReturn, BadDispatch, ScenarioRepeated, ActionNotAllowed}

-- the rules by their rows; no rule stands in row 0
rules : List Rule
rules = BadCharacter ∷ BadCharacter ∷ OpenString ∷ BadEscape ∷ NumberTooLarge ∷ TextTooLong ∷ UnexpectedToken ∷ NestingTooDeep ∷ FormLeftOut ∷ DefinedTwice ∷ Undefined ∷ WrongKindOfName ∷ BadInclude ∷ FloatUsed ∷ Outside128Bits ∷ ZeroDivisor ∷ OperandKind ∷ Cycle ∷ BadConversion ∷ OutsideType ∷ ArraySize ∷ EnumValuesAllOrNone ∷ EnumValueRepeated ∷ BadMember ∷ StringSize ∷ FieldCount ∷ FieldKind ∷ LoneBrace ∷ ValueTooLarge ∷ ChainTooLong ∷ ParameterRepeated ∷ AsyncWithReturn ∷ QueueWordNotAllowed ∷ PortSize ∷ PortNameRepeated ∷ SpecialPort ∷ PriorityRange ∷ NameRepeated ∷ IdRepeated ∷ IdPast32Bits ∷ RefParameter ∷ BadLimits ∷ BadThrottle ∷ PassiveWithQueueUse ∷ QueueWithoutUse ∷ SpecialPortMissing ∷ BadMatch ∷ InterfaceCycle ∷ InitialCount ∷ InitialLeavesState ∷ SignalTwice ∷ ChoiceCycle ∷ Unreachable ∷ TypedValue ∷ UndefinedInMachine ∷ MachineNameRepeated ∷ MachineTooLarge ∷ ExternalMachine ∷ QueueSize ∷ ForActiveAlone ∷ RangesOverlap ∷ NumberOutOfRange ∷ BadInstance ∷ BadDirection ∷ TypesDiffer ∷ PatternPort ∷ ImportCycle ∷ PortMissing ∷ PortNumberRange ∷ OutputNumberTwice ∷ MatchPairMissing ∷ MatchPairRepeated ∷ MatchNumbersDiffer ∷ NoNumberFree ∷ NotJson ∷ UnknownKey ∷ WrongKindOfValue ∷ MissingKey ∷ PastSize ∷ UnknownName ∷ BadArgument ∷ NoWire ∷ SynchronousCycle ∷ LockCycle ∷ BadReturn ∷ BadDispatch ∷ ScenarioRepeated ∷ ActionNotAllowed ∷ []

rule_of-row : (a : Rule) → slice_get rules (row a) ≡ Some a
unfolding rules
rule_of-row BadCharacter = refl
rule_of-row OpenString = refl
rule_of-row BadEscape = refl
rule_of-row NumberTooLarge = refl
rule_of-row TextTooLong = refl
rule_of-row UnexpectedToken = refl
rule_of-row NestingTooDeep = refl
rule_of-row FormLeftOut = refl
rule_of-row DefinedTwice = refl
rule_of-row Undefined = refl
rule_of-row WrongKindOfName = refl
rule_of-row BadInclude = refl
rule_of-row FloatUsed = refl
rule_of-row Outside128Bits = refl
rule_of-row ZeroDivisor = refl
rule_of-row OperandKind = refl
rule_of-row Cycle = refl
rule_of-row BadConversion = refl
rule_of-row OutsideType = refl
rule_of-row ArraySize = refl
rule_of-row EnumValuesAllOrNone = refl
rule_of-row EnumValueRepeated = refl
rule_of-row BadMember = refl
rule_of-row StringSize = refl
rule_of-row FieldCount = refl
rule_of-row FieldKind = refl
rule_of-row LoneBrace = refl
rule_of-row ValueTooLarge = refl
rule_of-row ChainTooLong = refl
rule_of-row ParameterRepeated = refl
rule_of-row AsyncWithReturn = refl
rule_of-row QueueWordNotAllowed = refl
rule_of-row PortSize = refl
rule_of-row PortNameRepeated = refl
rule_of-row SpecialPort = refl
rule_of-row PriorityRange = refl
rule_of-row NameRepeated = refl
rule_of-row IdRepeated = refl
rule_of-row IdPast32Bits = refl
rule_of-row RefParameter = refl
rule_of-row BadLimits = refl
rule_of-row BadThrottle = refl
rule_of-row PassiveWithQueueUse = refl
rule_of-row QueueWithoutUse = refl
rule_of-row SpecialPortMissing = refl
rule_of-row BadMatch = refl
rule_of-row InterfaceCycle = refl
rule_of-row InitialCount = refl
rule_of-row InitialLeavesState = refl
rule_of-row SignalTwice = refl
rule_of-row ChoiceCycle = refl
rule_of-row Unreachable = refl
rule_of-row TypedValue = refl
rule_of-row UndefinedInMachine = refl
rule_of-row MachineNameRepeated = refl
rule_of-row MachineTooLarge = refl
rule_of-row ExternalMachine = refl
rule_of-row QueueSize = refl
rule_of-row ForActiveAlone = refl
rule_of-row RangesOverlap = refl
rule_of-row NumberOutOfRange = refl
rule_of-row BadInstance = refl
rule_of-row BadDirection = refl
rule_of-row TypesDiffer = refl
rule_of-row PatternPort = refl
rule_of-row ImportCycle = refl
rule_of-row PortMissing = refl
rule_of-row PortNumberRange = refl
rule_of-row OutputNumberTwice = refl
rule_of-row MatchPairMissing = refl
rule_of-row MatchPairRepeated = refl
rule_of-row MatchNumbersDiffer = refl
rule_of-row NoNumberFree = refl
rule_of-row NotJson = refl
rule_of-row UnknownKey = refl
rule_of-row WrongKindOfValue = refl
rule_of-row MissingKey = refl
rule_of-row PastSize = refl
rule_of-row UnknownName = refl
rule_of-row BadArgument = refl
rule_of-row NoWire = refl
rule_of-row SynchronousCycle = refl
rule_of-row LockCycle = refl
rule_of-row BadReturn = refl
rule_of-row BadDispatch = refl
rule_of-row ScenarioRepeated = refl
rule_of-row ActionNotAllowed = refl

pub same_row : (a b : Rule) → row a ≡ row b → a ≡ b
same_row a b e = cc (sym (rule_of-row a) ∙ ap (λ (n : ℕ). slice_get rules n) e ∙ rule_of-row b)
