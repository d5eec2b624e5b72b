-- Where the instances that a topology names break a rule. FPP Language Specification, "Instance Specifiers", "Connection Graph Specifiers".
use Rattle.std.specs.Prelude.{◌≡◌, ℕ, ◌<◌, List, slice_get, Some}
use Rattle.fp_base.specs.declared.refusal.Refusal.{Refusal}
use Rattle.fp_base.specs.declared.rule.Rule.TheVariants.{BadInstance}
use Rattle.fp_base.specs.Least.{BrokenAt, Either, InSome}
use Rattle.fp_written_parts.specs.declared.topology.UsedInstance.{UsedInstance}

-- ---- twice among the members

-- an instance is the k-th
abbrev pub Stands : List UsedInstance → ℕ → ℕ → Type 0
Stands us k i = (u : UsedInstance) × (slice_get us k ≡ Some u) × (u.instance ≡ i)

-- the k-th stands before too
abbrev pub IsRepeated : List UsedInstance → ℕ → Type 0
IsRepeated us k = (i : ℕ) × (earlier : ℕ) × (earlier < k) × Stands us earlier i × Stands us k i

abbrev pub RepeatedAt : List UsedInstance → ℕ → UsedInstance → Refusal → Type 0
RepeatedAt us k u = BrokenAt BadInstance u.at (IsRepeated us k)

abbrev pub Repeated : List UsedInstance → Refusal → Type 0
Repeated us = InSome (RepeatedAt us) us

-- ---- used, and not held

abbrev pub Holds : List ℕ → ℕ → Type 0
Holds held i = (k : ℕ) × (slice_get held k ≡ Some i)

abbrev pub LackingAt : List ℕ → UsedInstance → Refusal → Type 0
LackingAt held u = BrokenAt BadInstance u.at (Holds held u.instance → ⊥)

abbrev pub Lacking : List ℕ → List UsedInstance → Refusal → Type 0
Lacking held us = InSome (λ (k : ℕ). LackingAt held) us

-- by the own members of a topology, all that it holds, and all that it uses
abbrev pub MembersBroken : List UsedInstance → List ℕ → List UsedInstance → Refusal → Type 0
MembersBroken own held used = Either (Repeated own) (Lacking held used)
