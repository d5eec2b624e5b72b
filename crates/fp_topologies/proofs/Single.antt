-- There is one list of topologies.
use Rattle.std.proofs.Common.{◌≡◌, ℕ, zero, suc, ◌<◌, ◌≤◌, List, [], ◌∷◌, ◌++◌, length, Option, Some, None, slice_get, refl, sym, ap, subst, ◌∙◌, arith}
use Rattle.std.specs.Prelude.{option_and_then, unwrap_or}
use Rattle.std.specs.List.{AllByRecursion}
use Rattle.std.proofs.lemmas.Option.{slice_get_within}
use Rattle.fp_base.proofs.Lists.{each_before, each_flat, each_mapped, each_push, each_item, past_end}
use Rattle.fp_base.proofs.Spots.{item_below}
use Rattle.fp_tables.specs.declared.component.Component.{Component}
use Rattle.fp_tables.specs.declared.kind.PortDef.{PortDef}
use Rattle.fp_tables.specs.declared.topology.Instance.{Instance}
use Rattle.fp_tables.specs.declared.topology.Link.{Link}
use Rattle.fp_tables.specs.declared.topology.Topology.{Topology}
use Rattle.fp_written_parts.specs.declared.topology.ImportedTopology.{ImportedTopology}
use Rattle.fp_written_parts.specs.declared.topology.WrittenTopology.{WrittenTopology}
use Rattle.fp_topologies.specs.Imports.{AreClosures, Imports, LeadsToCycle, closure_at, closure_of, imported_by, with_imports}
use Rattle.fp_topologies.specs.ImportLaws.{OneClosures}
use Rattle.fp_topologies.proofs.Ways.{by_imports}
use Rattle.fp_topologies.specs.Ports.{direct_links}
use Rattle.fp_topologies.specs.declared.joining.Joined.{Joined}
use Rattle.fp_topologies.specs.Joined.{AreJoined, IsJoined, imported_links, made_links}
use Rattle.fp_topologies.specs.Laws.{AreAlike, HaveClosures}
use Rattle.fp_topologies.specs.Ordered.{AreInOrder, link_cmp}
use Rattle.fp_topologies.specs.Resolved.{AreTopologies, IsTopology}
use Rattle.fp_topologies.proofs.Earlier.{each_first}
use Rattle.fp_topologies.proofs.FillingSteps.{imported_same}
use Rattle.fp_topologies.proofs.OneOrder.{one_in_order}
use Rattle.fp_topologies.proofs.Ordering.{link_ranks}

past : {A : Type 0} (xs : List A) (k : ℕ) → length xs ≤ k → slice_get xs k ≡ None
past [] k h = refl
past (x ∷ xs) zero h = absurd (omega arith)
past (x ∷ xs) (suc k) h = past xs k (omega arith)

module _ (ds : List PortDef) (cs : List Component) (is : List Instance) (ts : List WrittenTopology) (closures : List (Option (List ℕ))) (closed : AreClosures ts closures) (js ks : List Joined)
    (are : AreJoined ts ds cs is closures js) (again : AreJoined ts ds cs is closures ks) where
  abbrev Same : ℕ → Type 0
  Same m = slice_get js m ≡ slice_get ks m

  abbrev AllSame : ℕ → Type 0
  AllSame v = AllByRecursion Same (with_imports closures v)

  joined_one : (c : List ℕ) (o : WrittenTopology) (j k : Joined) → AllByRecursion Same c → IsJoined ts ds cs is js c o j → IsJoined ts ds cs is ks c o k → j ≡ k
  joined_one c o j k all h g =
      let instances : j.instances ≡ k.instances = h.instances ∙ sym g.instances in
      let own : j.own ≡ k.own =
      h.own ∙ (λ i. direct_links cs is o ++ made_links ds cs is (imported_same ts js ks c all i) (instances i) o) ∙ sym g.own in
      λ i. record { instances = instances i; own = own i }

  -- of all that a topology imports, and so of itself
  step : (v : ℕ) → (LeadsToCycle ts v → ⊥) → ((w : ℕ) → Imports ts v w → AllSame w) → AllSame v
  step v free behind = each_push Same (closure_at closures v) v (members (slice_get closures v) refl) (here (slice_get closures v) refl)
    where
      within : (c : List ℕ) → slice_get closures v ≡ Some (Some c) → v < length ts
      within c e = let l = slice_get_within closures v (Some c) e in let n = closed.each in omega arith

      all : (c : List ℕ) → slice_get closures v ≡ Some (Some c) → AllByRecursion Same c
      all c e =
          let o = item_below ts v (within c e) in
          subst (AllByRecursion Same) (sym (closed.closed v o.0 c o.1 e))
          (each_first Same _ (each_flat Same (with_imports closures) (imported_by o.0)
          (each_mapped AllSame (λ (i : ImportedTopology). i.topology) o.0.imports
          (each_item _ o.0.imports (λ k i m. behind i.topology (record { written = o.0; here = o.1; k = k; import_ = i; member = m; of = refl }))))))

      members : (x : Option (Option (List ℕ))) → slice_get closures v ≡ x → AllByRecursion Same (unwrap_or (option_and_then (λ (c : Option (List ℕ)). c) x) [])
      members None e = tt
      members (Some None) e = tt
      members (Some (Some c)) e = all c e

      here : (x : Option (Option (List ℕ))) → slice_get closures v ≡ x → Same v
      here None e =
          let n = closed.each in
          let over = past_end closures v e in
          let l = are.each in
          let m = again.each in
          past js v (omega arith) ∙ sym (past ks v (omega arith))
      here (Some None) e = absurd (free (closed.cyclic v e))
      here (Some (Some c)) e =
          let low = within c e in
          let o = item_below ts v low in
          let n = are.each in
          let m = again.each in
          let j = item_below js v (omega arith) in
          let k = item_below ks v (omega arith) in
          j.1 ∙ ap Some (joined_one c o.0 j.0 k.0 (all c e) (are.of v o.0 c j.0 o.1 e j.1) (again.of v o.0 c k.0 o.1 e k.1)) ∙ sym k.1

  pub one_joined : (t : ℕ) (c : List ℕ) (o : WrittenTopology) (j k : Joined) → slice_get ts t ≡ Some o → slice_get closures t ≡ Some (Some c) → slice_get js t ≡ Some j → slice_get ks t ≡ Some k
      → (AllByRecursion Same c) × (j ≡ k)
  one_joined t c o j k w e f g =
      let all : AllByRecursion Same c =
      subst (AllByRecursion Same) (ap (λ (x : Option (Option (List ℕ))). unwrap_or (option_and_then (λ (d : Option (List ℕ)). d) x) []) e)
      (each_before Same (closure_at closures t) (t ∷ []) (by_imports ts AllSame step t (closed.free t c e))) in
      (all, joined_one c o j k all (are.of t o c j w e f) (again.of t o c k w e g))

module _ (one : OneClosures) (ds : List PortDef) (cs : List Component) (is : List Instance) (ts : List WrittenTopology) (rs qs : List Topology) (have : HaveClosures ts) where
  like : (closures : List (Option (List ℕ))) (js ks : List Joined) → AreClosures ts closures → AreJoined ts ds cs is closures js → AreJoined ts ds cs is closures ks → (t : ℕ) (r q : Topology) → t < length ts
      → ((o : WrittenTopology) (c : List ℕ) (j : Joined) → slice_get ts t ≡ Some o → slice_get closures t ≡ Some (Some c) → slice_get js t ≡ Some j → IsTopology cs is o (imported_links ts js c) j r)
      → ((o : WrittenTopology) (c : List ℕ) (k : Joined) → slice_get ts t ≡ Some o → slice_get closures t ≡ Some (Some c) → slice_get ks t ≡ Some k → IsTopology cs is o (imported_links ts ks c) k q) → AreAlike r q
  like closures js ks closed are again t r q low here there =
      let c = have closures closed t low in
      let o = item_below ts t low in
      let n = are.each in
      let m = again.each in
      let j = item_below js t (omega arith) in
      let k = item_below ks t (omega arith) in
      let a = here o.0 c.0 j.0 o.1 c.1 j.1 in
      let b = there o.0 c.0 k.0 o.1 c.1 k.1 in
      let s = one_joined ds cs is ts closures closed js ks are again t c.0 o.0 j.0 k.0 o.1 c.1 j.1 k.1 in
      let same : imported_links ts js c.0 ++ j.0.own ≡ imported_links ts ks c.0 ++ k.0.own = λ i. imported_same ts js ks c.0 s.0 i ++ (s.1 i).own in
      let moved : AreInOrder (link_cmp cs is) (imported_links ts js c.0 ++ j.0.own) q.links = subst (λ (ls : List Link). AreInOrder (link_cmp cs is) ls q.links) (sym same) b.links in
      record {
        name = a.name ∙ sym b.name;
        instances = a.instances ∙ ap (λ (x : Joined). x.instances) s.1 ∙ sym b.instances;
        links = one_in_order _ (link_ranks cs is) (imported_links ts js c.0 ++ j.0.own) r.links q.links a.links.sorted moved.sorted a.links.stable moved.stable;
      }

  pub all_alike : AreTopologies ds cs is ts rs → AreTopologies ds cs is ts qs → (t : ℕ) (r q : Topology) → slice_get rs t ≡ Some r → slice_get qs t ≡ Some q → AreAlike r q
  all_alike a b t r q e f =
      let same : b.closures ≡ a.closures = one ts b.closures a.closures b.closed a.closed in
      let n = a.each in
      let low = slice_get_within rs t r e in
      like a.closures a.joined b.joined a.closed a.are (subst (λ (x : List (Option (List ℕ))). AreJoined ts ds cs is x b.joined) same b.are) t r q (omega arith)
      (λ o c j w g h. a.resolved.of t o c j r w g h e)
      (λ o c k w g h. b.resolved.of t o c k q w (ap (λ (x : List (Option (List ℕ))). slice_get x t) same ∙ g) h f)
