-- The least that an instance of a state machine breaks, one member after another.
use Rattle.std.proofs.Common.{◌≡◌, Bool, true, false, cond, ◌||◌, ℕ, ◌+◌, ◌≤◌, List, [], length, slice_get, Option, Some, None, unwrap_or, refl, sym, ap, ◌∙◌, BTreeSet, MatchBool, bytes_eq}
use Rattle.std.proofs.lemmas.Slice.Eq.{bytes_eq-Decides}
use denote.Ref.{Bor}
use Rattle.fp_base.proofs.Calculus.{least_flag, least_along, least_either, least_none}
use Rattle.fp_base.proofs.Elements.{least_first_none, least_first_next, least_in_one, least_of_all}
use Rattle.fp_base.proofs.Options.{same_some}
use Rattle.fp_base.proofs.KeySets.{no_name}
use Rattle.fp_base.specs.NameSets.{has_name}
use Rattle.fp_base.specs.Least.{broken_at, InFirst, IsLeast, lesser_of}
use Rattle.fp_base.specs.declared.refusal.Refusal.{Refusal}
use Rattle.fp_base.specs.declared.rule.Rule.TheVariants.{MachineNameRepeated, ExternalMachine}
use Rattle.fp_written_parts.specs.declared.member.WrittenMember.{WrittenMember}
use Rattle.fp_written_parts.specs.declared.member.WrittenMember.TheVariants.{Port, Import, Command, Event, Channel, Param, Match, Running}
use Rattle.fp_written_parts.specs.declared.member.WrittenRunning.{WrittenRunning}
use Rattle.fp_dictdefs.specs.Running.{HasInstance, InstanceBroken, InstancesBroken, instance_fault, is_external, is_instance, running_fault}
use Rattle.fp_dictdefs.proofs.Noting.{AreNoted, noted_none, noted_next, repeat_told}

external_told : (externals : List Bool) (k : ℕ) (o : Option Bool) → slice_get externals k ≡ o → MatchBool (unwrap_or o false) (slice_get externals k ≡ Some true) (slice_get externals k ≡ Some true → ⊥)
external_told externals k None is = λ e. absurd (cc)
external_told externals k (Some true) is = is
external_told externals k (Some false) is = λ e. different (same_some (sym is ∙ e))
  where
    different : ◌≡◌ {A = Bool} false true → ⊥
    different e = cc

module _ (externals : List Bool) (ms : List WrittenMember) where
  named_only : (k : ℕ) (r : WrittenRunning) → slice_get ms k ≡ Some (Running r) → (p : List ℕ) → HasInstance ms k p → p ≡ r.name
  named_only k r at p t = sym t.2 ∙ same (same_some (sym t.1 ∙ at))
    where
      same : ◌≡◌ {A = WrittenMember} (Running t.0) (Running r) → t.0.name ≡ r.name
      same e = cc

  none_named : (k : ℕ) (m : WrittenMember) → slice_get ms k ≡ Some m → ((r : WrittenRunning) → m ≡ Running r → ⊥) → (p : List ℕ) → HasInstance ms k p → ⊥
  none_named k m at other p t = other t.0 (same_some (sym at ∙ t.1))

  -- what was noted of the members before
  running_least : (k : ℕ) (r : WrittenRunning) (had : List ℕ → Bool) → slice_get ms k ≡ Some (Running r) → AreNoted (HasInstance ms) k had
      → IsLeast (InstanceBroken externals ms k (Running r)) (running_fault externals had r)
  running_least k r had at noted =
      least_either _ _
      (least_flag _ (had r.name) (broken_at MachineNameRepeated r.at) (repeat_told (HasInstance ms) k r.name had (r, at, refl) (named_only k r at) noted (had r.name) refl))
      (least_flag _ (is_external externals r.machine) (broken_at ExternalMachine r.at) (external_told externals r.machine (slice_get externals r.machine) refl))

  member_least : (k : ℕ) (m : WrittenMember) (had : List ℕ → Bool) → slice_get ms k ≡ Some m → AreNoted (HasInstance ms) k had → IsLeast (InstanceBroken externals ms k m) (instance_fault externals had m)
  member_least k (Running r) had at noted = running_least k r had at noted
  member_least k (Port p) had at noted = least_none (λ f b. b)
  member_least k (Import p) had at noted = least_none (λ f b. b)
  member_least k (Command p) had at noted = least_none (λ f b. b)
  member_least k (Event p) had at noted = least_none (λ f b. b)
  member_least k (Channel p) had at noted = least_none (λ f b. b)
  member_least k (Param p) had at noted = least_none (λ f b. b)
  member_least k (Match p) had at noted = least_none (λ f b. b)

  -- what the next member adds
  tells : (k : ℕ) (m : WrittenMember) → slice_get ms k ≡ Some m → (q : List ℕ) → is_instance m q ≡ true → HasInstance ms k q
  tells k (Running r) at q e = (r, at, sym ((bytes_eq-Decides q r.name).0 e))
  tells k (Port p) at q e = absurd (cc)
  tells k (Import p) at q e = absurd (cc)
  tells k (Command p) at q e = absurd (cc)
  tells k (Event p) at q e = absurd (cc)
  tells k (Channel p) at q e = absurd (cc)
  tells k (Param p) at q e = absurd (cc)
  tells k (Match p) at q e = absurd (cc)

  told : (k : ℕ) (m : WrittenMember) → slice_get ms k ≡ Some m → (q : List ℕ) → HasInstance ms k q → is_instance m q ≡ true
  told k (Running r) at q t = (bytes_eq-Decides q r.name).1 (named_only k r at q t)
  told k (Port p) at q t = absurd (none_named k (Port p) at (λ r e. cc) q t)
  told k (Import p) at q t = absurd (none_named k (Import p) at (λ r e. cc) q t)
  told k (Command p) at q t = absurd (none_named k (Command p) at (λ r e. cc) q t)
  told k (Event p) at q t = absurd (none_named k (Event p) at (λ r e. cc) q t)
  told k (Channel p) at q t = absurd (none_named k (Channel p) at (λ r e. cc) q t)
  told k (Param p) at q t = absurd (none_named k (Param p) at (λ r e. cc) q t)
  told k (Match p) at q t = absurd (none_named k (Match p) at (λ r e. cc) q t)

  -- of the first so many
  pub record InstancesFirst (k : ℕ) (first : Option Refusal) (seen : BTreeSet (Bor (List ℕ))) : Type 0 where
    pub least : IsLeast (InFirst k (InstanceBroken externals ms) ms) first
    pub noted : AreNoted (HasInstance ms) k (has_name seen)

  pub instances_none : (seen : BTreeSet (Bor (List ℕ))) → seen.keys ≡ [] → InstancesFirst 0 None seen
  instances_none seen empty = record { least = least_first_none (InstanceBroken externals ms) ms; noted = noted_none (HasInstance ms) (has_name seen) (no_name seen empty) }

  pub instances_next : (k : ℕ) (m : WrittenMember) (first more fault : Option Refusal) (old new : BTreeSet (Bor (List ℕ))) → slice_get ms k ≡ Some m → more ≡ lesser_of first fault
      → fault ≡ instance_fault externals (has_name old) m → ((q : List ℕ) → has_name new q ≡ (has_name old q || is_instance m q)) → InstancesFirst k first old → InstancesFirst (k + 1) more new
  instances_next k m first more fault old new at is found adds before = record {
    least =
        least_along (sym is)
        (least_first_next (InstanceBroken externals ms) ms k first fault before.least
        (least_in_one (InstanceBroken externals ms) ms k m fault at (least_along (sym found) (member_least k m (has_name old) at before.noted))));
    noted = noted_next (HasInstance ms) k (has_name old) (has_name new) (is_instance m) adds (tells k m at) (told k m at) before.noted;
  }

  pub instances_all : (k : ℕ) (first : Option Refusal) (seen : BTreeSet (Bor (List ℕ))) → length ms ≤ k → InstancesFirst k first seen → IsLeast (InstancesBroken externals ms) first
  instances_all k first seen past h = least_of_all (InstanceBroken externals ms) ms k first past h.least
