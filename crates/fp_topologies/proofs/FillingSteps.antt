-- Topologies that are joined one after another, each behind those that it imports.
use Rattle.std.proofs.Common.{◌≡◌, ℕ, ◌+◌, ◌<◌, ◌≤◌, ◌⊎◌, inl, inr, List, [], ◌∷◌, ◌++◌, length, set, Option, Some, None, slice_get, refl, sym, ap, subst, ◌∙◌, arith}
use Rattle.std.specs.Prelude.{option_and_then, option_map, unwrap_or, filter}
use Rattle.std.specs.List.{AllByRecursion}
use Rattle.std.proofs.lemmas.List.{length-set}
use Rattle.std.proofs.lemmas.Option.{slice_get_within}
use Rattle.fp_base.proofs.Lists.{each_weaker}
use Rattle.fp_base.proofs.Options.{one_some, same_some}
use Rattle.fp_base.proofs.Spots.{below_or_at, get_set_other, get_set_same, same_or_other}
use Rattle.fp_graph.specs.Chains.{IsOrder}
use Rattle.fp_tables.specs.declared.component.Component.{Component}
use Rattle.fp_tables.specs.declared.kind.PortDef.{PortDef}
use Rattle.fp_tables.specs.declared.topology.Instance.{Instance}
use Rattle.fp_tables.specs.declared.topology.Link.{Link}
use Rattle.fp_written_parts.specs.declared.topology.WrittenTopology.{WrittenTopology}
use Rattle.fp_topologies.specs.Imports.{AreClosures, Imports}
use Rattle.fp_topologies.specs.Ports.{direct_links}
use Rattle.fp_topologies.specs.declared.joining.Joined.{Joined}
use Rattle.fp_topologies.specs.Joined.{AreJoined, AreJoinedTo, IsJoined, imported_links, is_taken, made_links, taken_links}
use Rattle.fp_topologies.proofs.Earlier.{Stands, earlier}

module _ (ts : List WrittenTopology) where
  taken_same : (js ks : List Joined) (m : ℕ) → slice_get js m ≡ slice_get ks m → taken_links ts js m ≡ taken_links ts ks m
  taken_same js ks m e = ap (λ (o : Option Joined). filter (is_taken ts m) (unwrap_or (option_map (λ (j : Joined). j.own) o) [])) e

  pub imported_same : (js ks : List Joined) (c : List ℕ) → AllByRecursion (λ (m : ℕ). slice_get js m ≡ slice_get ks m) c → imported_links ts js c ≡ imported_links ts ks c
  imported_same js ks [] h = refl
  imported_same js ks (m ∷ c) h = λ i. taken_same js ks m h.0 i ++ imported_same js ks c h.1 i

  module _ (ds : List PortDef) (cs : List Component) (is : List Instance) where
    pub joined_same : (js ks : List Joined) (c : List ℕ) (o : WrittenTopology) (j : Joined) → imported_links ts js c ≡ imported_links ts ks c → IsJoined ts ds cs is js c o j → IsJoined ts ds cs is ks c o j
    joined_same js ks c o j e h = record {
      instances = h.instances;
      own = h.own ∙ ap (λ (ls : List Link). direct_links cs is o ++ made_links ds cs is ls j.instances o) e;
    }

    module _ (closures : List (Option (List ℕ))) (order : List ℕ) (sorted : IsOrder (length ts) (Imports ts) order) (are : AreClosures ts closures) where
      pub joined_none : (js : List Joined) → length js ≡ length ts → AreJoinedTo ts ds cs is closures order 0 js
      joined_none js each = record { each = each; of = λ k t o c j low. absurd (omega arith) }

      pub joined_passed : (count v : ℕ) (js : List Joined) → slice_get order count ≡ Some v → option_and_then (λ (c : Option (List ℕ)). c) (slice_get closures v) ≡ None
          → AreJoinedTo ts ds cs is closures order count js → AreJoinedTo ts ds cs is closures order (count + 1) js
      joined_passed count v js at none h = record { each = h.each; of = λ k t o c j low e w f g. go k t o c j e w f g (below_or_at k count low) }
        where
          go : (k t : ℕ) (o : WrittenTopology) (c : List ℕ) (j : Joined) → slice_get order k ≡ Some t → slice_get ts t ≡ Some o → slice_get closures t ≡ Some (Some c) → slice_get js t ≡ Some j
              → (k < count) ⊎ (k ≡ count) → IsJoined ts ds cs is js c o j
          go k t o c j e w f g (inl low) = h.of k t o c j low e w f g
          go k t o c j e w f g (inr last) =
              let same : t ≡ v = one_some (slice_get order count) t v (subst (λ (n : ℕ). slice_get order n ≡ Some t) last e) at in
              let some : option_and_then (λ (d : Option (List ℕ)). d) (slice_get closures v) ≡ Some c =
              ap (λ (n : ℕ). option_and_then (λ (d : Option (List ℕ)). d) (slice_get closures n)) (sym same) ∙ ap (option_and_then (λ (d : Option (List ℕ)). d)) f in
              absurd (cc)

      -- what stands before the next isn't the next
      apart : (count v k m : ℕ) → slice_get order count ≡ Some v → k ≤ count → Stands order k m → m ≡ v → ⊥
      apart count v k m at low s e =
          let same : s.0 ≡ count = sorted.once s.0 count v (subst (λ (n : ℕ). slice_get order s.0 ≡ Some n) e s.2) at in
          let l = s.1 in
          omega arith

      kept : (count v k t : ℕ) (c : List ℕ) (js : List Joined) (j : Joined) → slice_get order count ≡ Some v → k ≤ count → slice_get order k ≡ Some t → slice_get closures t ≡ Some (Some c)
          → imported_links ts js c ≡ imported_links ts (set js v j) c
      kept count v k t c js j at low e f =
          imported_same js (set js v j) c
          (each_weaker (Stands order k) (λ (m : ℕ). slice_get js m ≡ slice_get (set js v j) m) (λ m s. sym (get_set_other js v m j (apart count v k m at low s))) c
          (earlier ts closures order sorted are (k + 1) k t c (omega arith) e f))

      pub joined_next : (count v : ℕ) (o : WrittenTopology) (c : List ℕ) (j : Joined) (js : List Joined) → slice_get order count ≡ Some v → slice_get ts v ≡ Some o
          → option_and_then (λ (c : Option (List ℕ)). c) (slice_get closures v) ≡ Some c → IsJoined ts ds cs is js c o j
          → AreJoinedTo ts ds cs is closures order count js → AreJoinedTo ts ds cs is closures order (count + 1) (set js v j)
      joined_next count v o c j js at here some good h = record {
        each = length-set js v j ∙ h.each;
        of = λ k t p d i low e w f g. go k t p d i low e w f g (same_or_other t v);
      }
        where
          closed : (x : Option (Option (List ℕ))) → option_and_then (λ (c : Option (List ℕ)). c) x ≡ Some c → x ≡ Some (Some c)
          closed None e = absurd (cc)
          closed (Some None) e = absurd (cc)
          closed (Some (Some d)) e = ap Some e

          closure : slice_get closures v ≡ Some (Some c)
          closure = closed (slice_get closures v) some

          within : v < length js
          within = let e = h.each in let w = slice_get_within ts v o here in omega arith

          fresh : IsJoined ts ds cs is (set js v j) c o j
          fresh = joined_same js (set js v j) c o j (kept count v count v c js j at (omega arith) at closure) good

          older : (k t : ℕ) (p : WrittenTopology) (d : List ℕ) (i : Joined) → slice_get order k ≡ Some t → slice_get ts t ≡ Some p → slice_get closures t ≡ Some (Some d)
              → slice_get js t ≡ Some i → (t ≡ v → ⊥) → (k < count) ⊎ (k ≡ count) → IsJoined ts ds cs is (set js v j) d p i
          older k t p d i e w f g differ (inl low) = joined_same js (set js v j) d p i (kept count v k t d js j at (omega arith) e f) (h.of k t p d i low e w f g)
          older k t p d i e w f g differ (inr last) = absurd (differ (one_some (slice_get order count) t v (subst (λ (n : ℕ). slice_get order n ≡ Some t) last e) at))

          go : (k t : ℕ) (p : WrittenTopology) (d : List ℕ) (i : Joined) → k < count + 1 → slice_get order k ≡ Some t → slice_get ts t ≡ Some p → slice_get closures t ≡ Some (Some d)
              → slice_get (set js v j) t ≡ Some i → (t ≡ v) ⊎ (t ≡ v → ⊥) → IsJoined ts ds cs is (set js v j) d p i
          go k t p d i low e w f g (inr differ) = older k t p d i e w f (sym (get_set_other js v t j differ) ∙ g) differ (below_or_at k count low)
          go k t p d i low e w f g (inl same) =
              let of_o : o ≡ p = one_some (slice_get ts v) o p here (subst (λ (n : ℕ). slice_get ts n ≡ Some p) same w) in
              let of_c : c ≡ d = same_some (same_some (sym closure ∙ subst (λ (n : ℕ). slice_get closures n ≡ Some (Some d)) same f)) in
              let of_j : j ≡ i = one_some (slice_get (set js v j) v) j i (get_set_same js v j within) (subst (λ (n : ℕ). slice_get (set js v j) n ≡ Some i) same g) in
              subst (λ (x : List ℕ). IsJoined ts ds cs is (set js v j) x p i) of_c
              (subst (λ (x : WrittenTopology). IsJoined ts ds cs is (set js v j) c x i) of_o (subst (λ (x : Joined). IsJoined ts ds cs is (set js v j) c o x) of_j fresh))

      pub joined_all : (count : ℕ) (js : List Joined) → length order ≤ count → AreJoinedTo ts ds cs is closures order count js → AreJoined ts ds cs is closures js
      joined_all count js over h = record {
        each = h.each;
        of = λ t o c j w f g.
            let k = sorted.all t (slice_get_within ts t o w) in
            let low = slice_get_within order k.0 t k.1 in
            h.of k.0 t o c j (omega arith) k.1 w f g;
      }
