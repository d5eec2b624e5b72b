-- The rules on the commands, events, channels and parameters of a component, and where each is broken.
use Rattle.std.specs.Prelude.{◌≡◌, ℕ, ◌^◌, ◌-◌, ◌⊎◌, ℤ, pos, negsuc, int_le, ◌&&◌, Bool, true, false, List, flat_map, Option, None, Some}
use Rattle.fp_base.specs.declared.place.Place.{Place}
use Rattle.fp_base.specs.declared.refusal.Refusal.{Refusal}
use Rattle.fp_base.specs.declared.rule.Rule.{Rule}
use Rattle.fp_base.specs.declared.rule.Rule.TheVariants.{ParameterRepeated, QueueWordNotAllowed, PriorityRange, NameRepeated, IdRepeated, IdPast32Bits, RefParameter, BadLimits, BadThrottle}
use Rattle.fp_base.specs.Least.{broken_at, Either, InSome}
pub use Rattle.fp_base.specs.Least.{BrokenAt, ByOptional}
use Rattle.fp_tree.specs.declared.dictionary.Color.{Color}
use Rattle.fp_tree.specs.declared.dictionary.CommandKind.{CommandKind}
use Rattle.fp_tree.specs.declared.dictionary.CommandKind.TheVariants.{Async}
use Rattle.fp_tables.specs.Types.{is_integer_kind}
use Rattle.fp_tables.specs.declared.kind.Kind.{Kind}
use Rattle.fp_tables.specs.declared.kind.Kind.TheVariants as kind
use Rattle.fp_tables.specs.declared.kind.TypeDef.{TypeDef}
use Rattle.fp_tables.specs.Machines.{target}
use Rattle.fp_written_parts.specs.declared.port.Given.{Given}
use Rattle.fp_written_parts.specs.declared.port.QueueWords.{QueueWords}
use Rattle.fp_written_parts.specs.declared.port.WrittenFormal.{WrittenFormal}
use Rattle.fp_written_parts.specs.declared.port.WrittenRole.{WrittenRole}
use Rattle.fp_written_parts.specs.declared.port.WrittenRole.TheVariants.{Internal}
use Rattle.fp_written_parts.specs.declared.dictionary.WrittenCommand.{WrittenCommand}
use Rattle.fp_written_parts.specs.declared.dictionary.WrittenEvent.{WrittenEvent}
use Rattle.fp_written_parts.specs.declared.dictionary.WrittenLimit.{WrittenLimit}
use Rattle.fp_written_parts.specs.declared.member.WrittenMember.{WrittenMember}
use Rattle.fp_written_parts.specs.declared.member.WrittenMember.TheVariants as member
use Rattle.fp_written_parts.specs.declared.member.WrittenComponent.{WrittenComponent}
use Rattle.fp_dictdefs.specs.declared.listed.Listed.{Listed}
use Rattle.fp_dictdefs.specs.Ids.{HasId}
use Rattle.fp_dictdefs.specs.Listed.{commands_in, events_in, channels_in, params_in}
use Rattle.fp_dictdefs.specs.Repeated.{HasPart, IsRepeated}

abbrev pub is_within : ℤ → ℤ → ℤ → Bool
is_within low high n = int_le low n && int_le n high

-- the number is there and is outside
abbrev pub OutsideAt : Rule → ℤ → ℤ → Given → Refusal → Type 0
OutsideAt rule low high g = BrokenAt rule g.at ((n : ℤ) × (g.number ≡ Some n) × (is_within low high n ≡ false))

-- ---- names and ids of one kind in a component

abbrev pub BrokenNames : List Listed → Refusal → Type 0
BrokenNames xs = InSome (λ k (x : Listed). BrokenAt NameRepeated x.at (IsRepeated (HasPart (λ (y : Listed). y.name) xs) k)) xs

-- the id of the k-th isn't one of 32 bits
abbrev pub IsPast : List Listed → ℕ → Type 0
IsPast xs k = (n : ℤ) × HasId xs k n × (is_within (pos 0) (pos (2 ^ 32 - 1)) n ≡ false)

abbrev pub BrokenIdAt : List Listed → ℕ → Listed → Refusal → Type 0
BrokenIdAt xs k x = Either (BrokenAt IdRepeated x.at (IsRepeated (HasId xs) k)) (BrokenAt IdPast32Bits x.at (IsPast xs k))

abbrev pub BrokenIds : List Listed → Refusal → Type 0
BrokenIds xs = InSome (BrokenIdAt xs) xs

abbrev pub BrokenList : List Listed → Refusal → Type 0
BrokenList xs = Either (BrokenNames xs) (BrokenIds xs)

-- ---- parameters of internal ports, commands and events

abbrev pub RepeatedFormals : List WrittenFormal → Refusal → Type 0
RepeatedFormals ps = InSome (λ k (p : WrittenFormal). BrokenAt ParameterRepeated p.at (IsRepeated (HasPart (λ (q : WrittenFormal). q.name) ps) k)) ps

abbrev pub RefFormals : List WrittenFormal → Refusal → Type 0
RefFormals ps = InSome (λ k (p : WrittenFormal). BrokenAt RefParameter p.at (p.by_ref ≡ true)) ps

abbrev pub BrokenFormals : List WrittenFormal → Refusal → Type 0
BrokenFormals ps = Either (RepeatedFormals ps) (RefFormals ps)

-- the rules on ports stand with ports; this one is on internal ports alone
abbrev pub RefByRole : WrittenRole → List WrittenFormal → Refusal → Type 0
RefByRole Internal ps = RefFormals ps
RefByRole _ ps = λ f. ⊥

-- ---- what is written of the queue by a command

abbrev pub BrokenQueue : CommandKind → QueueWords → Refusal → Type 0
BrokenQueue Async q = ByOptional (OutsideAt PriorityRange (negsuc (2 ^ 31 - 1)) (pos (2 ^ 31 - 1))) q.priority
BrokenQueue _ q = ByOptional (λ place f. f ≡ broken_at QueueWordNotAllowed place) q.word

-- ---- limits of a channel

-- whether it is a limit from above, and its color
abbrev pub Side : Type 0
Side = Bool × Color

abbrev pub side_of : WrittenLimit → Side
side_of l = (l.high, l.color)

-- a limit of a type that is no integer type behind its aliases, or of a color that stood before on the same side
abbrev pub BrokenLimits : List TypeDef → Kind → List WrittenLimit → Refusal → Type 0
BrokenLimits types k limits =
    InSome (λ i (l : WrittenLimit). BrokenAt BadLimits l.at ((is_integer_kind (target types k) ≡ false) ⊎ IsRepeated (HasPart side_of limits) i)) limits

-- ---- a member, and a component

abbrev pub BrokenCommand : WrittenCommand → Refusal → Type 0
BrokenCommand c = Either (BrokenFormals c.formals) (BrokenQueue c.kind c.queue)

abbrev pub BrokenEvent : WrittenEvent → Refusal → Type 0
BrokenEvent e = Either (BrokenFormals e.formals) (ByOptional (OutsideAt BadThrottle (pos 1) (pos (2 ^ 32 - 1))) e.throttle)

abbrev pub BrokenMember : List TypeDef → WrittenMember → Refusal → Type 0
BrokenMember types (member.Port p) = RefByRole p.role p.formals
BrokenMember types (member.Command c) = BrokenCommand c
BrokenMember types (member.Event e) = BrokenEvent e
BrokenMember types (member.Channel t) = BrokenLimits types t.kind t.limits
BrokenMember types _ = λ f. ⊥

-- two of one kind should have neither one name nor one id; the commands that parameters bring are of the kind of commands
abbrev pub BrokenLists : List WrittenMember → Refusal → Type 0
BrokenLists members =
    Either (Either (BrokenList (flat_map commands_in members)) (BrokenList (flat_map events_in members)))
    (Either (BrokenList (flat_map channels_in members)) (BrokenList (flat_map params_in members)))

abbrev pub BrokenMembers : List TypeDef → List WrittenMember → Refusal → Type 0
BrokenMembers types members = InSome (λ k. BrokenMember types) members

abbrev pub DictionaryBroken : List TypeDef → WrittenComponent → Refusal → Type 0
DictionaryBroken types c = Either (BrokenLists c.members) (BrokenMembers types c.members)
