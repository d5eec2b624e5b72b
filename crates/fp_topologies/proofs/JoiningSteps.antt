-- What topologies break, by one list of what they import, and what is said of those that lead to a cycle.
use Rattle.std.proofs.Common.{◌≡◌, ℕ, ◌⊎◌, inl, inr, List, [], slice_get, Option, Some, None, Result, IfOk, subst}
use Rattle.fp_base.specs.declared.refusal.Refusal.{Refusal}
use Rattle.fp_base.specs.Least.{Either, InSome, IsLeast}
use Rattle.fp_base.proofs.Calculus.{least_same}
use Rattle.fp_tables.specs.declared.component.Component.{Component}
use Rattle.fp_tables.specs.declared.kind.PortDef.{PortDef}
use Rattle.fp_tables.specs.declared.topology.Instance.{Instance}
use Rattle.fp_written_parts.specs.declared.topology.UsedInstance.{UsedInstance}
use Rattle.fp_written_parts.specs.declared.topology.WrittenTopology.{WrittenTopology}
use Rattle.fp_topologies.specs.Held.{instances_with}
use Rattle.fp_topologies.specs.Imports.{AreClosures, ImportsBroken}
use Rattle.fp_topologies.specs.ImportLaws.{OneClosures}
use Rattle.fp_topologies.specs.MemberBroken.{Lacking, MembersBroken, Repeated}
use Rattle.fp_topologies.specs.Broken.{Lacks, TopologiesBroken, TopologyBroken, own_uses, uses_in}

-- ---- by the closures that are known

module _ (ds : List PortDef) (cs : List Component) (is : List Instance) (ts : List WrittenTopology) (closures : List (Option (List ℕ))) where
  pub least_by_closures : OneClosures → AreClosures ts closures → (o : Option Refusal) → IsLeast (Either (ImportsBroken ts) (InSome (TopologyBroken ds cs is ts closures) ts)) o
      → IsLeast (TopologiesBroken ds cs is ts) o
  least_by_closures one closed o l =
      least_same (λ f b. record { closures = closures; closed = closed; broken = b })
      (λ f b. subst (λ (all : List (Option (List ℕ))). Either (ImportsBroken ts) (InSome (TopologyBroken ds cs is ts all) ts) f) (one ts b.closures closures b.closed closed) b.broken)
      l

-- ---- what a topology lacks

module _ (ts : List WrittenTopology) (o : WrittenTopology) where
  pub members_with : (c : List ℕ) (closure : Option (List ℕ)) (r : Option Refusal) → Some c ≡ closure → IsLeast (MembersBroken (own_uses o) (instances_with ts c o) (uses_in o)) r
      → IsLeast (Either (Repeated (own_uses o)) (Lacks ts closure o)) r
  members_with c closure r is l = subst (λ (q : Option (List ℕ)). IsLeast (Either (Repeated (own_uses o)) (Lacks ts q o)) r) is l

  none_lacked : (f : Refusal) → MembersBroken (own_uses o) [] [] f → Either (Repeated (own_uses o)) (Lacks ts None o) f
  none_lacked f (inl b) = inl b
  none_lacked f (inr b) = absurd (none_at b.0 b.1 b.2)
    where
      none_at : (k : ℕ) (u : UsedInstance) → slice_get [] k ≡ Some u → ⊥
      none_at k u e = absurd (cc)

  lacked_by_none : (f : Refusal) → Either (Repeated (own_uses o)) (Lacks ts None o) f → MembersBroken (own_uses o) [] [] f
  lacked_by_none f (inl b) = inl b
  lacked_by_none f (inr b) = absurd b

  pub members_without : (closure : Option (List ℕ)) (r : Option Refusal) → None ≡ closure → IsLeast (MembersBroken (own_uses o) [] []) r
      → IsLeast (Either (Repeated (own_uses o)) (Lacks ts closure o)) r
  members_without closure r is l = subst (λ (q : Option (List ℕ)). IsLeast (Either (Repeated (own_uses o)) (Lacks ts q o)) r) is (least_same none_lacked lacked_by_none l)

-- ---- what is equal

pub members_along : {E : Type 0} (r : Result (Option Refusal) E) (a b : List UsedInstance) (h k : List ℕ) (u v : List UsedInstance) → a ≡ b → h ≡ k → u ≡ v
    → IfOk r (IsLeast (MembersBroken a h u)) → IfOk r (IsLeast (MembersBroken b k v))
members_along r a b h k u v own held used l =
    subst (λ (xs : List UsedInstance). IfOk r (IsLeast (MembersBroken xs k v))) own
    (subst (λ (xs : List ℕ). IfOk r (IsLeast (MembersBroken a xs v))) held (subst (λ (xs : List UsedInstance). IfOk r (IsLeast (MembersBroken a h xs))) used l))
