-- Lists of which the items of one have the names of those of the other.
use Rattle.std.proofs.Common.{◌≡◌, ℕ, suc, Bool, true, ◌&&◌, List, [], ◌∷◌, length, map, slice_get, Some, refl, ap, ◌∙◌, arith}
use Rattle.std.specs.List.{list_all}
use Rattle.fp_base.proofs.Bools.{both, join}
use Rattle.fp_base.proofs.Lists.{get_within}
use Rattle.fp_base.proofs.Spots.{item_below}
use Rattle.fp_tables.specs.declared.component.Component.{Component}
use Rattle.fp_tables.specs.declared.kind.PortDef.{PortDef}
use Rattle.fp_tables.specs.declared.topology.Instance.{Instance}
use Rattle.fp_tables.specs.declared.topology.Topology.{Topology}
use Rattle.fp_tables.specs.Names.{is_qualified, texts_differ}
use Rattle.fp_written_parts.specs.declared.instance.WrittenInstance.{WrittenInstance}
use Rattle.fp_written_parts.specs.declared.topology.WrittenTopology.{WrittenTopology}
use Rattle.fp_instances.specs.Resolved.{AreInstances}
use Rattle.fp_topologies.specs.Laws.{HaveClosures}
use Rattle.fp_topologies.specs.Resolved.{AreTopologies}

module _ {A B : Type 0} (f : A → List ℕ) (g : B → List ℕ) where
  abbrev pub Named : List A → List B → Type 0
  Named xs ys = (k : ℕ) (x : A) (y : B) → slice_get xs k ≡ Some x → slice_get ys k ≡ Some y → f x ≡ g y

  map_named : (xs : List A) (ys : List B) → length xs ≡ length ys → Named xs ys → map f xs ≡ map g ys
  map_named [] [] e same = refl
  map_named [] (y ∷ ys) e same = absurd (cc)
  map_named (x ∷ xs) [] e same = absurd (cc)
  map_named (x ∷ xs) (y ∷ ys) e same =
      ap (λ (t : List ℕ). t ∷ map f xs) (same 0 x y refl refl) ∙ ap (λ (ts : List (List ℕ)). g y ∷ ts) (map_named xs ys (omega (arith, e)) (λ k. same (suc k)))

  pub all_named : (p : List ℕ → Bool) (xs : List A) (ys : List B) → length xs ≡ length ys → Named xs ys → list_all (λ (y : B). p (g y)) ys ≡ true → list_all (λ (x : A). p (f x)) xs ≡ true
  all_named p [] ys e same h = refl
  all_named p (x ∷ xs) [] e same h = absurd (cc)
  all_named p (x ∷ xs) (y ∷ ys) e same h =
      let b = both (p (g y)) (list_all (λ (y : B). p (g y)) ys) h in
      join (p (f x)) (list_all (λ (x : A). p (f x)) xs) (ap p (same 0 x y refl refl) ∙ b.0) (all_named p xs ys (omega (arith, e)) (λ k. same (suc k)) b.1)

module _ (ws : List WrittenInstance) (xs : List Instance) (are : AreInstances ws xs) where
  pub instances_named : list_all (λ (w : WrittenInstance). is_qualified w.name) ws ≡ true → list_all (λ (x : Instance). is_qualified x.name) xs ≡ true
  instances_named =
      all_named (λ (x : Instance). x.name) (λ (w : WrittenInstance). w.name) is_qualified xs ws are.each (λ k x w here there. (are.at k w x there here).name)

  pub instances_apart : texts_differ (map (λ (w : WrittenInstance). w.name) ws) ≡ true → texts_differ (map (λ (x : Instance). x.name) xs) ≡ true
  instances_apart h =
      ap texts_differ (map_named (λ (x : Instance). x.name) (λ (w : WrittenInstance). w.name) xs ws are.each (λ k x w here there. (are.at k w x there here).name)) ∙ h

module _ (ds : List PortDef) (cs : List Component) (is : List Instance) (ts : List WrittenTopology) (rs : List Topology) (closed : HaveClosures ts) (are : AreTopologies ds cs is ts rs) where
  topology_name : (k : ℕ) (r : Topology) (o : WrittenTopology) → slice_get rs k ≡ Some r → slice_get ts k ≡ Some o → r.name ≡ o.name
  topology_name k r o here there =
      let low = get_within ts k o there in
      let c = closed are.closures are.closed k low in
      let each = are.are.each in
      let j = item_below are.joined k (omega (arith, low, each)) in
      (are.resolved.of k o c.0 j.0 r there c.1 j.1 here).name

  pub topologies_named : list_all (λ (o : WrittenTopology). is_qualified o.name) ts ≡ true → list_all (λ (r : Topology). is_qualified r.name) rs ≡ true
  topologies_named = all_named (λ (r : Topology). r.name) (λ (o : WrittenTopology). o.name) is_qualified rs ts are.each topology_name
