-- What stands in the lists of a component behind its first members, the ids that are at hand for them, and what finds ports by their names.
use Rattle.std.specs.Prelude.{◌≡◌, ℕ, Bool, true, false, cond, List, [], flat_map, slice_get, position, Option, Some, None, is_some, String}
use Rattle.std.specs.BTreeMap.{BTreeMap, get_by_text}
use Rattle.std.specs.declared.alloc.Global.{Global}
use Rattle.fp_type_sizes.specs.declared.written.WrittenType.{WrittenType}
use Rattle.fp_written_parts.specs.declared.port.WrittenRole.{WrittenRole}
use Rattle.fp_written_parts.specs.declared.port.WrittenRole.TheVariants.{Internal}
use Rattle.fp_written_parts.specs.declared.port.WrittenPort.{WrittenPort}
use Rattle.fp_written_parts.specs.declared.member.WrittenMatch.{WrittenMatch}
use Rattle.fp_written_parts.specs.declared.member.WrittenMember.{WrittenMember}
use Rattle.fp_written_parts.specs.declared.member.WrittenMember.TheVariants as member
use Rattle.fp_component_rules.specs.Firsts.{is_named}
use Rattle.fp_dictdefs.specs.declared.listed.Listed.{Listed}
use Rattle.fp_dictdefs.specs.Ids.{AreIds}
use Rattle.fp_dictdefs.specs.Listed.{commands_in, events_in, channels_in, params_in}
use Rattle.fp_components.specs.declared.ids.Ids.{Ids}
use Rattle.fp_components.specs.declared.parts.Parts.{Parts}
use Rattle.fp_components.specs.Resolved.{AreEach, IsChannel, IsCommand, IsEvent, IsId, IsParam, IsRunning, channel_in, commands_from, event_in, param_in, running_in}
use Rattle.fp_components.specs.Whole.{IsWholeMatch}

abbrev pub is_internal : WrittenRole → Bool
is_internal Internal = true
is_internal _ = false

-- ---- ids

pub record AreIdsOf (members : List WrittenMember) (ids : Ids) : Type 0 where
  pub commands : AreIds (flat_map commands_in members) ids.commands
  pub events : AreIds (flat_map events_in members) ids.events
  pub channels : AreIds (flat_map channels_in members) ids.channels
  pub params : AreIds (flat_map params_in members) ids.params

-- the id at a position of a list stands at that position of the other
abbrev pub IsKnownAt : List Listed → List ℕ → ℕ → Type 0
IsKnownAt listed ids k = (id : ℕ) × (slice_get ids k ≡ Some id) × IsId listed k id

abbrev pub AreKnown : List Listed → List ℕ → Type 0
AreKnown listed ids = (k : ℕ) (x : Listed) → slice_get listed k ≡ Some x → IsKnownAt listed ids k

pub record AreIdsKnown (members : List WrittenMember) (ids : Ids) : Type 0 where
  pub commands : AreKnown (flat_map commands_in members) ids.commands
  pub events : AreKnown (flat_map events_in members) ids.events
  pub channels : AreKnown (flat_map channels_in members) ids.channels
  pub params : AreKnown (flat_map params_in members) ids.params

-- ---- lists

abbrev pub nothing_listed : Parts
nothing_listed = record { commands = []; events = []; channels = []; params = []; machines = [] }

-- of `members` those before some member
pub record AreListed (ws : List WrittenType) (members before : List WrittenMember) (parts : Parts) : Type 0 where
  pub commands : AreEach (IsCommand (flat_map commands_in members)) (commands_from 0 before) parts.commands
  pub events : AreEach (IsEvent (flat_map events_in members)) (flat_map event_in before) parts.events
  pub channels : AreEach (IsChannel (flat_map channels_in members)) (flat_map channel_in before) parts.channels
  pub params : AreEach (IsParam ws (flat_map params_in members)) (flat_map param_in before) parts.params
  pub machines : AreEach (λ k. IsRunning) (flat_map running_in before) parts.machines

-- ---- matches

abbrev pub AreWholeMatches : List WrittenPort → List WrittenMember → Type 0
AreWholeMatches all members = (k : ℕ) (m : WrittenMatch) → slice_get members k ≡ Some (member.Match m) → IsWholeMatch all m

-- each name with the position of its first port
abbrev pub FindsPorts : List WrittenPort → BTreeMap (String Global) ℕ → Type 0
FindsPorts all positions = (name : List ℕ) → get_by_text positions name ≡ position (is_named name) all

-- the position that is there, else the number where the test holds
abbrev pub or_first : Option ℕ → Bool → ℕ → Option ℕ
or_first o holds at = cond (is_some o) o (cond holds (Some at) None)

-- with a port more
abbrev pub NotesPort : WrittenPort → ℕ → BTreeMap (String Global) ℕ → BTreeMap (String Global) ℕ → Type 0
NotesPort p at before after = (name : List ℕ) → get_by_text after name ≡ or_first (get_by_text before name) (is_named name p) at
