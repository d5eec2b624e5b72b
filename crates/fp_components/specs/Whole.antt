-- Which written components come to something: whatever number, format, default or name stands in them is there. FPP Language Specification,
-- "Component Definitions".
use Rattle.std.specs.Prelude.{◌≡◌, ℕ, ◌<◌, ◌^◌, ◌-◌, ℤ, pos, negsuc, true, List, length, flat_map, slice_get, Option, Some, None}
use Rattle.fp_base.specs.declared.format.FormatPiece.{FormatPiece}
use Rattle.fp_base.specs.declared.value.Value.{Value}
use Rattle.fp_tree.specs.declared.dictionary.CommandKind.{CommandKind}
use Rattle.fp_tree.specs.declared.dictionary.CommandKind.TheVariants.{Async}
use Rattle.fp_formats.specs.Spelling.{IsFormat}
use Rattle.fp_type_sizes.specs.declared.written.WrittenType.{WrittenType}
use Rattle.fp_written_parts.specs.declared.port.Given.{Given}
use Rattle.fp_written_parts.specs.declared.port.QueueWords.{QueueWords}
use Rattle.fp_written_parts.specs.declared.port.WrittenPortDef.{WrittenPortDef}
use Rattle.fp_written_parts.specs.declared.port.WrittenRole.{WrittenRole}
use Rattle.fp_written_parts.specs.declared.port.WrittenRole.TheVariants.{AsyncInput, Internal}
use Rattle.fp_written_parts.specs.declared.port.WrittenPort.{WrittenPort}
use Rattle.fp_written_parts.specs.declared.dictionary.WrittenEvent.{WrittenEvent}
use Rattle.fp_written_parts.specs.declared.dictionary.WrittenLimit.{WrittenLimit}
use Rattle.fp_written_parts.specs.declared.dictionary.WrittenParam.{WrittenParam}
use Rattle.fp_written_parts.specs.declared.member.WrittenMatch.{WrittenMatch}
use Rattle.fp_written_parts.specs.declared.member.WrittenMember.{WrittenMember}
use Rattle.fp_written_parts.specs.declared.member.WrittenMember.TheVariants as member
use Rattle.fp_written_parts.specs.declared.member.WrittenInterface.{WrittenInterface}
use Rattle.fp_written_parts.specs.declared.member.WrittenComponent.{WrittenComponent}
use Rattle.fp_written_parts.specs.Giving.{GiveAll}
use Rattle.fp_written_parts.specs.Numbered.{HasNumber}
use Rattle.fp_component_rules.specs.Firsts.{has_port}
use Rattle.fp_component_rules.specs.Lists.{AreNamedOnce}
use Rattle.fp_dictdefs.specs.declared.listed.Listed.{Listed}
use Rattle.fp_dictdefs.specs.Broken.{is_within}
use Rattle.fp_dictdefs.specs.Ids.{HasId}
use Rattle.fp_dictdefs.specs.Listed.{commands_in, events_in, channels_in, params_in}
use Rattle.fp_components.specs.Resolved.{IsDefault}

-- ---- numbers

-- one that is written has a number from the least to the greatest
abbrev pub IsGivenWithin : ℤ → ℤ → Option Given → Type 0
IsGivenWithin least greatest None = Unit {0}
IsGivenWithin least greatest (Some g) = (n : ℤ) × (g.number ≡ Some n) × (is_within least greatest n ≡ true)

abbrev pub IsWholeQueue : QueueWords → Type 0
IsWholeQueue q = IsGivenWithin (negsuc (2 ^ 31 - 1)) (pos (2 ^ 31 - 1)) q.priority

-- each has an id, and it is one of 32 bits
abbrev pub HaveIds : List Listed → Type 0
HaveIds listed = (k : ℕ) (x : Listed) → slice_get listed k ≡ Some x → (id : ℕ) × (id < 2 ^ 32) × HasId listed k (pos id)

-- ---- ports

-- what isn't put into a queue needs no priority
abbrev pub IsWholeRole : WrittenRole → QueueWords → Type 0
IsWholeRole AsyncInput q = IsWholeQueue q
IsWholeRole Internal q = IsWholeQueue q
IsWholeRole _ q = Unit {0}

-- a definition that it names is there
abbrev pub LiesWithin : List WrittenPortDef → Option ℕ → Type 0
LiesWithin definitions None = Unit {0}
LiesWithin definitions (Some k) = k < length definitions

pub record IsWholePort (definitions : List WrittenPortDef) (p : WrittenPort) : Type 0 where
  pub queue : IsWholeRole p.role p.queue
  pub size : IsGivenWithin (pos 1) (pos 1024) p.size
  pub of : LiesWithin definitions p.of

-- ---- members

abbrev pub IsWholeCommand : CommandKind → QueueWords → Type 0
IsWholeCommand Async q = IsWholeQueue q
IsWholeCommand _ q = Unit {0}

pub record IsWholeEvent (e : WrittenEvent) : Type 0 where
  pub format : (parts : List FormatPiece) × IsFormat e.format parts
  pub throttle : IsGivenWithin (pos 1) (pos (2 ^ 32 - 1)) e.throttle

abbrev pub AreWholeLimits : List WrittenLimit → Type 0
AreWholeLimits limits = (k : ℕ) (l : WrittenLimit) → slice_get limits k ≡ Some l → HasNumber l.value

-- it has a default
abbrev pub IsWholeParam : List WrittenType → WrittenParam → Type 0
IsWholeParam ws p = (v : Value) × IsDefault ws p.kind p.default v

abbrev pub IsWholeMember : List WrittenType → WrittenMember → Type 0
IsWholeMember ws (member.Command c) = IsWholeCommand c.kind c.queue
IsWholeMember ws (member.Event e) = IsWholeEvent e
IsWholeMember ws (member.Channel t) = AreWholeLimits t.limits
IsWholeMember ws (member.Param p) = IsWholeParam ws p
IsWholeMember ws (member.Running r) = IsWholeQueue r.queue
IsWholeMember ws _ = Unit {0}

pub record AreWholeMembers (ws : List WrittenType) (members : List WrittenMember) : Type 0 where
  pub each : (k : ℕ) (m : WrittenMember) → slice_get members k ≡ Some m → IsWholeMember ws m
  pub commands : HaveIds (flat_map commands_in members)
  pub events : HaveIds (flat_map events_in members)
  pub channels : HaveIds (flat_map channels_in members)
  pub params : HaveIds (flat_map params_in members)

-- ---- components

-- both names are names of ports
abbrev pub IsWholeMatch : List WrittenPort → WrittenMatch → Type 0
IsWholeMatch all m = (has_port m.first all ≡ true) × (has_port m.second all ≡ true)

module _ (interfaces : List WrittenInterface) (definitions : List WrittenPortDef) (ws : List WrittenType) where
  pub record IsWhole (w : WrittenComponent) : Type 0 where
    pub members : AreWholeMembers ws w.members
    pub ports : (all : List WrittenPort) (k : ℕ) (p : WrittenPort) → GiveAll interfaces w.members all → slice_get all k ≡ Some p → IsWholePort definitions p
    pub matches : (all : List WrittenPort) (k : ℕ) (m : WrittenMatch) → GiveAll interfaces w.members all → slice_get w.members k ≡ Some (member.Match m) → IsWholeMatch all m

  abbrev pub AreWholeEach : List WrittenComponent → Type 0
  AreWholeEach components = (k : ℕ) (w : WrittenComponent) → slice_get components k ≡ Some w → IsWhole w

  pub record AreWhole (components : List WrittenComponent) : Type 0 where
    pub named_once : AreNamedOnce interfaces components
    pub each : AreWholeEach components
