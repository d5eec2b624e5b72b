-- Topologies that are put one behind another.
use Rattle.std.proofs.Common.{◌≡◌, ℕ, ◌+◌, ◌<◌, ◌≤◌, ◌⊎◌, inl, inr, List, [], ◌∷◌, ◌++◌, length, Option, Some, None, slice_get, refl, sym, ap, subst, ◌∙◌, arith}
use Rattle.std.specs.Prelude.{option_and_then, unwrap_or}
use Rattle.std.proofs.lemmas.List.{length-append}
use Rattle.fp_base.proofs.Options.{one_some}
use Rattle.fp_base.proofs.Spots.{get_push}
use Rattle.fp_base.proofs.Lists.{no_item}
use Rattle.fp_tables.specs.declared.component.Component.{Component}
use Rattle.fp_tables.specs.declared.topology.Instance.{Instance}
use Rattle.fp_tables.specs.declared.topology.Link.{Link}
use Rattle.fp_tables.specs.declared.topology.Topology.{Topology}
use Rattle.fp_written_parts.specs.declared.topology.WrittenTopology.{WrittenTopology}
use Rattle.fp_topologies.specs.Imports.{closure_at}
use Rattle.fp_topologies.specs.declared.joining.Joined.{Joined}
use Rattle.fp_topologies.specs.Joined.{imported_links}
use Rattle.fp_topologies.specs.Ordered.{AreInOrder, link_cmp}
use Rattle.fp_topologies.specs.Resolved.{AreResolved, HaveNoWires, IsTopology}

module _ (cs : List Component) (is : List Instance) (ts : List WrittenTopology) (closures : List (Option (List ℕ))) (joined : List Joined) where
  -- the first so many
  pub record ArePlaced (n : ℕ) (rs : List Topology) : Type 0 where
    pub each : length rs ≡ n
    pub resolved : AreResolved cs is ts closures joined rs
    pub wires : HaveNoWires rs

  pub placed_none : ArePlaced 0 []
  placed_none = record {
    each = refl;
    resolved = record { of = λ t o c j r w f g e. no_item t r e };
    wires = λ t r e. no_item t r e;
  }

  module _ (n : ℕ) (o : WrittenTopology) (j : Joined) (links sorted : List Link) (one : Topology) (here : slice_get ts n ≡ Some o) (there : slice_get joined n ≡ Some j)
      (are : links ≡ imported_links ts joined (closure_at closures n) ++ j.own) (in_order : AreInOrder (link_cmp cs is) links sorted)
      (made : one ≡ record { name = o.name; instances = j.instances; links = sorted; wires = [] }) where
    topology : (c : List ℕ) → slice_get closures n ≡ Some (Some c) → IsTopology cs is o (imported_links ts joined c) j one
    topology c f =
        let closure : closure_at closures n ≡ c = ap (λ (x : Option (Option (List ℕ))). unwrap_or (option_and_then (λ (d : Option (List ℕ)). d) x) []) f in
        let before : links ≡ imported_links ts joined c ++ j.own = are ∙ ap (λ (d : List ℕ). imported_links ts joined d ++ j.own) closure in
        record {
          name = ap (λ (r : Topology). r.name) made;
          instances = ap (λ (r : Topology). r.instances) made;
          links = subst (λ (ls : List Link). AreInOrder (link_cmp cs is) ls one.links) before (subst (AreInOrder (link_cmp cs is) links) (sym (ap (λ (r : Topology). r.links) made)) in_order);
        }

    pub placed_next : (rs more : List Topology) → more ≡ rs ++ one ∷ [] → ArePlaced n rs → ArePlaced (n + 1) more
    placed_next rs more grows h = record {
      each = ap (λ (xs : List Topology). length xs) grows ∙ length-append rs (one ∷ []) ∙ ap (λ (k : ℕ). k + 1) h.each;
      resolved = record { of = λ t p c i r w f g e. go t p c i r w f g (pushed t r e) };
      wires = λ t r e. bare t r (pushed t r e);
    }
      where
        pushed : (t : ℕ) (r : Topology) → slice_get more t ≡ Some r → (slice_get rs t ≡ Some r) ⊎ ((t ≡ length rs) × (one ≡ r))
        pushed t r e = get_push rs one r t (subst (λ (xs : List Topology). slice_get xs t ≡ Some r) grows e)

        bare : (t : ℕ) (r : Topology) → (slice_get rs t ≡ Some r) ⊎ ((t ≡ length rs) × (one ≡ r)) → r.wires ≡ []
        bare t r (inl e) = h.wires t r e
        bare t r (inr e) = ap (λ (x : Topology). x.wires) (sym e.1) ∙ ap (λ (x : Topology). x.wires) made

        go : (t : ℕ) (p : WrittenTopology) (c : List ℕ) (i : Joined) (r : Topology) → slice_get ts t ≡ Some p → slice_get closures t ≡ Some (Some c) → slice_get joined t ≡ Some i
            → (slice_get rs t ≡ Some r) ⊎ ((t ≡ length rs) × (one ≡ r)) → IsTopology cs is p (imported_links ts joined c) i r
        go t p c i r w f g (inl e) = h.resolved.of t p c i r w f g e
        go t p c i r w f g (inr e) =
            let last : t ≡ n = e.0 ∙ h.each in
            let of_o : o ≡ p = one_some (slice_get ts n) o p here (subst (λ (k : ℕ). slice_get ts k ≡ Some p) last w) in
            let of_j : j ≡ i = one_some (slice_get joined n) j i there (subst (λ (k : ℕ). slice_get joined k ≡ Some i) last g) in
            let whole = topology c (subst (λ (k : ℕ). slice_get closures k ≡ Some (Some c)) last f) in
            subst (λ (x : WrittenTopology). IsTopology cs is x (imported_links ts joined c) i r) of_o
            (subst (λ (x : Joined). IsTopology cs is o (imported_links ts joined c) x r) of_j (subst (λ (x : Topology). IsTopology cs is o (imported_links ts joined c) j x) e.1 whole))
