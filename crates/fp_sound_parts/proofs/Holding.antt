-- What unbroken topologies have: a closure each, and each instance that they name.
use Rattle.std.proofs.Common.{◌≡◌, refl, sym, subst, ℕ, zero, suc, Bool, true, false, List, [], ◌∷◌, flat_map, inl, inr, Option, Some, slice_get}
use Rattle.std.specs.Prelude.{option_and_then, unwrap_or}
use Rattle.std.specs.List.{AllByRecursion}
use Rattle.fp_base.specs.declared.refusal.Refusal.{Refusal}
use Rattle.fp_base.specs.declared.rule.Rule.TheVariants.{BadInstance}
use Rattle.fp_base.specs.Least.{IsUnbroken, broken_at}
use Rattle.fp_base.proofs.Lists.{each_before, each_behind, of_item, each_item}
use Rattle.fp_base.proofs.Options.{same_some}
use Rattle.fp_tables.specs.Lists.{is_in}
use Rattle.fp_tables.specs.declared.component.Component.{Component}
use Rattle.fp_tables.specs.declared.kind.PortDef.{PortDef}
use Rattle.fp_tables.specs.declared.topology.Instance.{Instance}
use Rattle.fp_tables.proofs.Indexed.{item_in}
use Rattle.fp_written_parts.specs.declared.topology.UsedInstance.{UsedInstance}
use Rattle.fp_written_parts.specs.declared.topology.WrittenTopology.{WrittenTopology}
use Rattle.fp_topologies.specs.MemberBroken.{Holds}
use Rattle.fp_topologies.specs.Held.{instances_with}
use Rattle.fp_topologies.specs.Imports.{AreClosures}
use Rattle.fp_topologies.specs.ImportLaws.{UnbrokenAreClosed}
use Rattle.fp_topologies.specs.Broken.{Lacks, TopologiesBroken, TopologyBroken, ends_of, uses_in, uses_of}
use Rattle.fp_topologies.specs.Laws.{AllUsesAreHeld, HaveClosures, UsesAreHeld}

flat_at : {A B : Type 0} (P : B → Type 0) (f : A → List B) (xs : List A) (k : ℕ) (x : A) → slice_get xs k ≡ Some x → AllByRecursion P (flat_map f xs) → AllByRecursion P (f x)
flat_at P f [] k x e h = absurd (cc)
flat_at P f (y ∷ xs) zero x e h = subst (λ z. AllByRecursion P (f z)) (same_some e) (each_before P (f y) (flat_map f xs) h)
flat_at P f (y ∷ xs) (suc k) x e h = flat_at P f xs k x e (each_behind P (f y) (flat_map f xs) h)

not_lacked : (held : List ℕ) (i : ℕ) → ((Holds held i → ⊥) → ⊥) → is_in i held ≡ true
not_lacked held i h = by (is_in i held) refl
  where
    clash : (b : Bool) → b ≡ true → b ≡ false → ⊥
    clash b p q = cc

    by : (b : Bool) → is_in i held ≡ b → is_in i held ≡ true
    by true e = e
    by false e = absurd (h (λ there. clash (is_in i held) (item_in held there.0 i there.1) e))

module _ (ds : List PortDef) (cs : List Component) (is : List Instance) (ts : List WrittenTopology) (unbroken : IsUnbroken (TopologiesBroken ds cs is ts)) where
  pub have_closures : UnbrokenAreClosed → HaveClosures ts
  have_closures law closures closed = law ts closures closed (λ f b. unbroken f (record { closures = closures; closed = closed; broken = inl b }))

  pub one_unbroken : (closures : List (Option (List ℕ))) → AreClosures ts closures → (t : ℕ) (o : WrittenTopology) → slice_get ts t ≡ Some o → IsUnbroken (TopologyBroken ds cs is ts closures t o)
  one_unbroken closures closed t o at f b = unbroken f (record { closures = closures; closed = closed; broken = inr (t, o, at, b) })

  module _ (closures : List (Option (List ℕ))) (closed : AreClosures ts closures) (t : ℕ) (o : WrittenTopology) (c : List ℕ) (at : slice_get ts t ≡ Some o) (there : slice_get closures t ≡ Some (Some c)) where
    abbrev Held : UsedInstance → Type 0
    Held u = is_in u.instance (instances_with ts c o) ≡ true

    each_held : AllByRecursion Held (uses_in o)
    each_held =
        each_item Held (uses_in o) (λ k u e. not_lacked (instances_with ts c o) u.instance (λ out. lacks (broken_at BadInstance u.at) (k, u, e, (refl, out))))
      where
        lacks : (f : Refusal) → Lacks ts (Some c) o f → ⊥
        lacks f b =
            one_unbroken closures closed t o at f
            (inl (inr (subst (λ (x : Option (Option (List ℕ))). Lacks ts (option_and_then (λ (d : Option (List ℕ)). d) x) o f) (sym there) b)))

    uses_held : UsesAreHeld (instances_with ts c o) o
    uses_held =
        let ends = each_before Held (flat_map ends_of o.connections) (flat_map uses_of o.patterns) each_held in
        let others = each_behind Held (flat_map ends_of o.connections) (flat_map uses_of o.patterns) each_held in
        record {
          from = λ k x e. (flat_at Held ends_of o.connections k x e ends).0;
          to = λ k x e. (flat_at Held ends_of o.connections k x e ends).1.0;
          patterns = λ k p e. (flat_at Held uses_of o.patterns k p e others).0;
          targets = λ k p us j u e f g.
              let each = (flat_at Held uses_of o.patterns k p e others).1 in
              of_item Held us j u (subst (λ (x : Option (List UsedInstance)). AllByRecursion Held (unwrap_or x [])) f each) g;
        }

  pub all_held : AllUsesAreHeld ts
  all_held closures closed t o c at there = uses_held closures closed t o c at there
