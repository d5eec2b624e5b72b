-- The rules that the definition of a port, a port, or an instance of a state machine breaks by itself, and where each is broken. FPP Language
-- Specification, "Port Definitions", "Port Instance Specifiers", "Internal Port Specifiers", "State Machine Instance Specifiers".
use Rattle.std.specs.Prelude.{◌≡◌, ℕ, ◌<◌, ◌^◌, ◌-◌, ◌⊎◌, ℤ, pos, negsuc, ◌<ℤ◌, true, is_some, List, slice_get, Option, None, Some}
use Rattle.fp_base.specs.declared.place.Place.{Place}
use Rattle.fp_base.specs.declared.refusal.Refusal.{Refusal}
use Rattle.fp_base.specs.declared.rule.Rule.{Rule}
use Rattle.fp_base.specs.declared.rule.Rule.TheVariants.{ParameterRepeated, AsyncWithReturn, QueueWordNotAllowed, PortSize, SpecialPort, PriorityRange}
use Rattle.fp_base.specs.Least.{broken_at, Either, InSome}
pub use Rattle.fp_base.specs.Least.{BrokenAt, ByOptional}
use Rattle.fp_written_parts.specs.declared.port.Given.{Given}
use Rattle.fp_written_parts.specs.declared.port.QueueWords.{QueueWords}
use Rattle.fp_written_parts.specs.declared.port.WrittenFormal.{WrittenFormal}
use Rattle.fp_written_parts.specs.declared.port.WrittenRole.{WrittenRole}
use Rattle.fp_written_parts.specs.declared.port.WrittenRole.TheVariants.{AsyncInput, Special, Internal}
use Rattle.fp_written_parts.specs.declared.port.WrittenPort.{WrittenPort}
use Rattle.fp_written_parts.specs.declared.port.WrittenPortDef.{WrittenPortDef}
use Rattle.fp_written_parts.specs.declared.member.WrittenMember.{WrittenMember}
use Rattle.fp_written_parts.specs.declared.member.WrittenMember.TheVariants.{Port, Running}
use Rattle.fp_written_parts.specs.declared.member.WrittenInterface.{WrittenInterface}
use Rattle.fp_written_parts.specs.declared.member.WrittenComponent.{WrittenComponent}

-- a number is there, and is below the low one or above the high one
abbrev pub IsOutside : ℤ → ℤ → Option ℤ → Type 0
IsOutside low high number = (n : ℤ) × (number ≡ Some n) × ((n <ℤ low) ⊎ (high <ℤ n))

abbrev pub OutsideAt : Rule → ℤ → ℤ → Given → Refusal → Type 0
OutsideAt rule low high given = BrokenAt rule given.at (IsOutside low high given.number)

-- ---- parameters of a definition or of an internal port

-- an earlier parameter has the name of the k-th
abbrev pub HasName : List WrittenFormal → ℕ → List ℕ → Type 0
HasName ps k name = (p : WrittenFormal) × (slice_get ps k ≡ Some p) × (p.name ≡ name)

abbrev pub IsRepeated : List WrittenFormal → ℕ → Type 0
IsRepeated ps k = (name : List ℕ) × (earlier : ℕ) × (earlier < k) × HasName ps earlier name × HasName ps k name

abbrev pub RepeatedAt : List WrittenFormal → ℕ → WrittenFormal → Refusal → Type 0
RepeatedAt ps k p = BrokenAt ParameterRepeated p.at (IsRepeated ps k)

abbrev pub RepeatedFormals : List WrittenFormal → Refusal → Type 0
RepeatedFormals ps = InSome (RepeatedAt ps) ps

abbrev pub BrokenFormals : WrittenRole → List WrittenFormal → Refusal → Type 0
BrokenFormals Internal ps = RepeatedFormals ps
BrokenFormals _ ps = λ f. ⊥

-- in a definition
abbrev pub BrokenPortDef : ℕ → WrittenPortDef → Refusal → Type 0
BrokenPortDef k d = RepeatedFormals d.formals

-- ---- the definition that a port has

-- it has a result
abbrev pub HasResult : List WrittenPortDef → Option ℕ → Type 0
HasResult definitions of = (k : ℕ) × (d : WrittenPortDef) × (of ≡ Some k) × (slice_get definitions k ≡ Some d) × (is_some d.result ≡ true)

-- one with a result, of an async input; none, of a special port
abbrev pub BrokenDefinition : List WrittenPortDef → WrittenRole → Option ℕ → Place → Refusal → Type 0
BrokenDefinition definitions AsyncInput of place = BrokenAt AsyncWithReturn place (HasResult definitions of)
BrokenDefinition definitions (Special kind) of place = BrokenAt SpecialPort place (of ≡ None)
BrokenDefinition definitions _ of place = λ f. ⊥

-- ---- what is written of the queue

-- a priority outside the 32 signed bits
abbrev pub BrokenPriority : Option Given → Refusal → Type 0
BrokenPriority priority = ByOptional (OutsideAt PriorityRange (negsuc (2 ^ 31 - 1)) (pos (2 ^ 31 - 1))) priority

-- a word of the queue where nothing comes into it
abbrev pub BrokenWord : Option Place → Refusal → Type 0
BrokenWord word = ByOptional (λ place f. f ≡ broken_at QueueWordNotAllowed place) word

abbrev pub BrokenQueue : WrittenRole → QueueWords → Refusal → Type 0
BrokenQueue AsyncInput queue = BrokenPriority queue.priority
BrokenQueue Internal queue = BrokenPriority queue.priority
BrokenQueue _ queue = BrokenWord queue.word

-- ---- how many ports a port is

abbrev pub BrokenSize : Option Given → Refusal → Type 0
BrokenSize size = ByOptional (OutsideAt PortSize (pos 1) (pos 1024)) size

-- ---- a member, and all of them

abbrev pub BrokenPort : List WrittenPortDef → WrittenPort → Refusal → Type 0
BrokenPort definitions p =
    Either (Either (BrokenFormals p.role p.formals) (BrokenDefinition definitions p.role p.of p.at)) (Either (BrokenQueue p.role p.queue) (BrokenSize p.size))

abbrev pub BrokenMember : List WrittenPortDef → WrittenMember → Refusal → Type 0
BrokenMember definitions (Port p) = BrokenPort definitions p
BrokenMember definitions (Running r) = BrokenPriority r.queue.priority
BrokenMember definitions _ = λ f. ⊥

abbrev pub BrokenMembers : List WrittenPortDef → List WrittenMember → Refusal → Type 0
BrokenMembers definitions members = InSome (λ k. BrokenMember definitions) members

abbrev pub InterfaceBroken : List WrittenPortDef → ℕ → WrittenInterface → Refusal → Type 0
InterfaceBroken definitions k i = BrokenMembers definitions i.members

abbrev pub ComponentBroken : List WrittenPortDef → ℕ → WrittenComponent → Refusal → Type 0
ComponentBroken definitions k c = BrokenMembers definitions c.members

-- in some definition, interface or component
abbrev pub PortsBroken : List WrittenPortDef → List WrittenInterface → List WrittenComponent → Refusal → Type 0
PortsBroken definitions interfaces components =
    Either (InSome BrokenPortDef definitions) (Either (InSome (InterfaceBroken definitions) interfaces) (InSome (ComponentBroken definitions) components))
