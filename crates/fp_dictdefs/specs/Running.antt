-- The rules that instances of state machines break, in components. FPP Language Specification, "State Machine Instance Specifiers".
use Rattle.std.specs.Prelude.{◌≡◌, ℕ, Bool, true, false, cond, List, slice_get, unwrap_or, Option, None, Some}
use Rattle.std.specs.Str.{bytes_eq}
use Rattle.fp_base.specs.declared.refusal.Refusal.{Refusal}
use Rattle.fp_base.specs.declared.rule.Rule.TheVariants.{MachineNameRepeated, ExternalMachine}
use Rattle.fp_base.specs.Least.{broken_at, BrokenAt, Either, InSome, lesser_of}
use Rattle.fp_written_parts.specs.declared.member.WrittenComponent.{WrittenComponent}
use Rattle.fp_written_parts.specs.declared.member.WrittenMember.{WrittenMember}
use Rattle.fp_written_parts.specs.declared.member.WrittenMember.TheVariants.{Running}
use Rattle.fp_written_parts.specs.declared.member.WrittenRunning.{WrittenRunning}
use Rattle.fp_dictdefs.specs.Repeated.{IsRepeated}

-- the k-th member is an instance with this name
abbrev pub HasInstance : List WrittenMember → ℕ → List ℕ → Type 0
HasInstance ms k name = (r : WrittenRunning) × (slice_get ms k ≡ Some (Running r)) × (r.name ≡ name)

-- over whether the body of each machine of the source is written elsewhere
module _ (externals : List Bool) where
  -- an earlier instance has its name, or its machine has no body
  abbrev pub InstanceBroken : List WrittenMember → ℕ → WrittenMember → Refusal → Type 0
  InstanceBroken ms k (Running r) f =
      Either (BrokenAt MachineNameRepeated r.at (IsRepeated (HasInstance ms) k)) (BrokenAt ExternalMachine r.at (slice_get externals r.machine ≡ Some true)) f
  InstanceBroken ms k _ f = ⊥

  abbrev pub InstancesBroken : List WrittenMember → Refusal → Type 0
  InstancesBroken ms = InSome (InstanceBroken ms) ms

  abbrev pub RunningBroken : WrittenComponent → Refusal → Type 0
  RunningBroken c = InstancesBroken c.members

-- ---- as tests

abbrev pub is_external : List Bool → ℕ → Bool
is_external externals k = unwrap_or (slice_get externals k) false

-- a member is an instance with the name
abbrev pub is_instance : WrittenMember → List ℕ → Bool
is_instance (Running r) q = bytes_eq q r.name
is_instance _ q = false

-- what an instance breaks, where these names stand before
abbrev pub running_fault : List Bool → (List ℕ → Bool) → WrittenRunning → Option Refusal
running_fault externals had r =
    lesser_of (cond (had r.name) (Some (broken_at MachineNameRepeated r.at)) None) (cond (is_external externals r.machine) (Some (broken_at ExternalMachine r.at)) None)

abbrev pub instance_fault : List Bool → (List ℕ → Bool) → WrittenMember → Option Refusal
instance_fault externals had (Running r) = running_fault externals had r
instance_fault externals had _ = None
