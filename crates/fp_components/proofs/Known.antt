-- The ids that are at hand, and the members one after another.
use Rattle.std.proofs.Common.{◌≡◌, ℕ, ◌+◌, ◌<◌, ◌≤◌, List, [], ◌∷◌, ◌++◌, length, take, flat_map, slice_get, Some, sym, ap, subst}
use Rattle.std.proofs.lemmas.List.{take_all}
use Rattle.std.proofs.lemmas.Option.{slice_get_within}
use Rattle.fp_base.proofs.Lists.{take_next}
use Rattle.fp_base.proofs.Spots.{item_below}
use Rattle.fp_type_sizes.specs.declared.written.WrittenType.{WrittenType}
use Rattle.fp_written_parts.specs.declared.member.WrittenMember.{WrittenMember}
use Rattle.fp_dictdefs.specs.declared.listed.Listed.{Listed}
use Rattle.fp_dictdefs.specs.Ids.{AreIds}
use Rattle.fp_dictdefs.specs.Listed.{commands_in, events_in, channels_in, params_in}
use Rattle.fp_components.specs.declared.ids.Ids.{Ids}
use Rattle.fp_components.specs.declared.parts.Parts.{Parts}
use Rattle.fp_components.specs.Listing.{AreIdsKnown, AreIdsOf, AreKnown, AreListed, IsKnownAt, nothing_listed}
use Rattle.fp_components.specs.Resolved.{IsChannel, IsCommand, IsEvent, IsId, IsParam, IsRunning}
use Rattle.fp_components.specs.Whole.{AreWholeMembers, HaveIds}
use Rattle.fp_components.proofs.Each.{each_none}

pub id_known : (listed : List Listed) (ids : List ℕ) (k n r : ℕ) → n ≡ k → IsKnownAt listed ids k → ((id : ℕ) → slice_get ids n ≡ Some id → r ≡ id) → IsId listed k r
id_known listed ids k n r same known clause =
    subst (IsId listed k) (sym (clause known.0 (subst (λ (m : ℕ). slice_get ids m ≡ Some known.0) (sym same) known.1))) known.2

known_of : (listed : List Listed) (ids : List ℕ) → AreIds listed ids → HaveIds listed → AreKnown listed ids
known_of listed ids are have k x at =
    let i = have k x at in
    let there = item_below ids k (subst (λ (n : ℕ). k < n) (sym are.each) (slice_get_within listed k x at)) in
    (there.0, there.1, subst (IsId listed k) (sym (are.of k there.0 i.0 there.1 i.2 i.1)) i.2)

pub ids_known : (ws : List WrittenType) (members : List WrittenMember) (ids : Ids) → AreIdsOf members ids → AreWholeMembers ws members → AreIdsKnown members ids
ids_known ws members ids are whole = record {
  commands = known_of (flat_map commands_in members) ids.commands are.commands whole.commands;
  events = known_of (flat_map events_in members) ids.events are.events whole.events;
  channels = known_of (flat_map channels_in members) ids.channels are.channels whole.channels;
  params = known_of (flat_map params_in members) ids.params are.params whole.params;
}

-- ---- members one after another

module _ (ws : List WrittenType) (members : List WrittenMember) where
  pub listed_none : (parts : Parts) → parts ≡ nothing_listed → AreListed ws members [] parts
  listed_none parts none = record {
    commands = each_none (IsCommand (flat_map commands_in members)) parts.commands (ap (λ (p : Parts). p.commands) none);
    events = each_none (IsEvent (flat_map events_in members)) parts.events (ap (λ (p : Parts). p.events) none);
    channels = each_none (IsChannel (flat_map channels_in members)) parts.channels (ap (λ (p : Parts). p.channels) none);
    params = each_none (IsParam ws (flat_map params_in members)) parts.params (ap (λ (p : Parts). p.params) none);
    machines = each_none (λ k. IsRunning) parts.machines (ap (λ (p : Parts). p.machines) none);
  }

  pub listed_next : (k : ℕ) (m : WrittenMember) (parts : Parts) → slice_get members k ≡ Some m → AreListed ws members (take k members ++ m ∷ []) parts → AreListed ws members (take (k + 1) members) parts
  listed_next k m parts at h = subst (λ (ms : List WrittenMember). AreListed ws members ms parts) (sym (take_next members k m at)) h

  pub listed_all : (k : ℕ) (parts : Parts) → length members ≤ k → AreListed ws members (take k members) parts → AreListed ws members members parts
  listed_all k parts past h = subst (λ (ms : List WrittenMember). AreListed ws members ms parts) (take_all k members past) h
