-- The connections of topologies, those of imported topologies too, have the places of written connections and patterns, and their numbers those of
-- written numbers.
use Rattle.std.proofs.Common.{◌≡◌, ℕ, ◌<◌, Bool, true, false, ℤ, List, [], ◌∷◌, ◌++◌, flat_map, length, Option, Some, None, refl, sym, subst}
use Rattle.std.specs.Prelude.{option_and_then, option_map, slice_get, unwrap_or}
use Rattle.std.specs.List.{AllByRecursion as Each, list_any}
use Rattle.std.proofs.lemmas.List.Elements.{All-from_recursion, recursion_from_All}
use Rattle.std.proofs.lemmas.List.Sorted.{All-permutation}
use Rattle.fp_base.specs.declared.place.Place.{Place}
use Rattle.fp_base.proofs.Lists.{InOption, each_append, each_flat, each_of_any, each_weaker, get_within, of_item}
use Rattle.fp_base.proofs.Spots.{item_below}
use Rattle.fp_tables.specs.declared.component.Component.{Component}
use Rattle.fp_tables.specs.declared.kind.PortDef.{PortDef}
use Rattle.fp_tables.specs.declared.topology.Instance.{Instance}
use Rattle.fp_tables.specs.declared.topology.Link.{Link}
use Rattle.fp_tables.specs.declared.topology.Topology.{Topology}
use Rattle.fp_tables.specs.declared.topology.Written.{Written}
use Rattle.fp_written_parts.specs.declared.port.Given.{Given}
use Rattle.fp_written_parts.specs.declared.topology.WrittenConnection.{WrittenConnection}
use Rattle.fp_written_parts.specs.declared.topology.WrittenPattern.{WrittenPattern}
use Rattle.fp_written_parts.specs.declared.topology.WrittenTopology.{WrittenTopology}
use Rattle.fp_topologies.specs.declared.sorts.JoinAt.{JoinAt}
use Rattle.fp_topologies.specs.Patterns.{joined, joined_by, joins_at, leaves, links_by, only_port, other, pattern_links, targets_of}
use Rattle.fp_topologies.specs.Ports.{direct_links, link_between, link_of, port_used, written_number}
use Rattle.fp_topologies.specs.declared.joining.Joined.{Joined}
use Rattle.fp_topologies.specs.Joined.{AreJoined, imported_links, is_taken, made_links, new_beside, same_ports, taken_links}
use Rattle.fp_topologies.specs.Laws.{HaveClosures}
use Rattle.fp_topologies.specs.Resolved.{AreTopologies}
use Rattle.fp_source_laws.proofs.Filtered.{each_found, each_left, either}
use Rattle.fp_source_laws.proofs.Written.{GivenStands}
use Rattle.fp_source_laws.proofs.WrittenDeployment.{ConnectionStands, PatternStands, TopologyStands}

module _ (G : Place → Type 0) where
  abbrev pub NumberStands : Written → Type 0
  NumberStands w = G w.at

  pub record LinkStands (l : Link) : Type 0 where
    pub here : G l.at
    pub of_from : InOption NumberStands l.from_number
    pub of_to : InOption NumberStands l.to_number

  -- ---- that are written

  counted_stands : (at : Place) (o : Option ℤ) → G at → InOption NumberStands (option_map (λ (n : ℤ). let w : Written = record { number = n; at = at } in w) o)
  counted_stands at None h = tt
  counted_stands at (Some n) h = h

  number_stands : (g : Option Given) → InOption (GivenStands G) g → InOption NumberStands (option_and_then written_number g)
  number_stands None h = tt
  number_stands (Some g) h = counted_stands g.at g.number h

  between_stands : (c : WrittenConnection) (from to : Option ℕ) → ConnectionStands G c → InOption LinkStands (option_and_then (λ (p : ℕ). option_map (link_between c p) to) from)
  between_stands c None to h = tt
  between_stands c (Some p) None h = tt
  between_stands c (Some p) (Some q) h =
      record { here = h.here; of_from = number_stands c.from.number h.of_from.of_number; of_to = number_stands c.to.number h.of_to.of_number }

  module _ (cs : List Component) (is : List Instance) where
    direct_stand : (o : WrittenTopology) → TopologyStands G o → Each LinkStands (direct_links cs is o)
    direct_stand o h =
        each_found LinkStands (link_of cs is) o.connections
        (each_weaker (ConnectionStands G) (λ (c : WrittenConnection). InOption LinkStands (link_of cs is c))
        (λ c k. between_stands c (port_used cs is c.from) (port_used cs is c.to) k) o.connections h.of_connections)

  -- ---- of patterns

  joined_stands : (at : Place) (forth : Bool) (i port j other_port : ℕ) → G at → LinkStands (joined at forth i port j other_port)
  joined_stands at true i port j other_port h = record { here = h; of_from = tt; of_to = tt }
  joined_stands at false i port j other_port h = record { here = h; of_from = tt; of_to = tt }

  by_stands : (at : Place) (forth : Bool) (i port j : ℕ) (o : Option ℕ) → G at → InOption LinkStands (option_map (joined at forth i port j) o)
  by_stands at forth i port j None h = tt
  by_stands at forth i port j (Some p) h = joined_stands at forth i port j p h

  each_new : (there ls : List Link) → Each LinkStands ls → Each LinkStands (new_beside there ls)
  each_new there [] h = tt
  each_new there (l ∷ ls) h =
      either LinkStands (list_any (same_ports l) there) (new_beside there ls) (l ∷ new_beside (there ++ l ∷ []) ls)
      (each_new there ls h.1) (h.0, each_new (there ++ l ∷ []) ls h.1)

  module _ (ds : List PortDef) (cs : List Component) (is : List Instance) where
    target_stands : (p : WrittenPattern) (joins : List JoinAt) (target : ℕ) → G p.at → Each LinkStands (links_by ds cs is p joins target)
    target_stands p joins target h =
        each_found LinkStands (joined_by ds cs is p target) joins
        (each_of_any (λ (b : JoinAt). InOption LinkStands (joined_by ds cs is p target b))
        (λ b. by_stands p.at (leaves b.join) p.of.instance b.port target (only_port ds cs is (other b.join) target) h) joins)

    pattern_stands : (held : List ℕ) (p : WrittenPattern) → G p.at → Each LinkStands (pattern_links ds cs is held p)
    pattern_stands held p h =
        let joins = joins_at ds cs is p.kind p.of.instance in
        each_flat LinkStands (links_by ds cs is p joins) (targets_of ds cs is held p p.targets)
        (each_of_any (λ (target : ℕ). Each LinkStands (links_by ds cs is p joins target)) (λ target. target_stands p joins target h) (targets_of ds cs is held p p.targets))

    made_stand : (imported : List Link) (held : List ℕ) (o : WrittenTopology) → TopologyStands G o → Each LinkStands (made_links ds cs is imported held o)
    made_stand imported held o h =
        each_new (imported ++ direct_links cs is o) (flat_map (pattern_links ds cs is held) o.patterns)
        (each_flat LinkStands (pattern_links ds cs is held) o.patterns
        (each_weaker (PatternStands G) (λ (p : WrittenPattern). Each LinkStands (pattern_links ds cs is held p)) (λ p k. pattern_stands held p k.here) o.patterns h.of_patterns))

  -- ---- of topologies

  unwrapped : (o : Option Joined) → ((j : Joined) → o ≡ Some j → Each LinkStands j.own) → Each LinkStands (unwrap_or (option_map (λ (j : Joined). j.own) o) [])
  unwrapped None h = tt
  unwrapped (Some j) h = h j refl

  module _ (ds : List PortDef) (cs : List Component) (is : List Instance) (ts : List WrittenTopology) (closures : List (Option (List ℕ))) (js : List Joined)
      (are : AreJoined ts ds cs is closures js) (closed : (t : ℕ) → t < length ts → (c : List ℕ) × (slice_get closures t ≡ Some (Some c)))
      (stand : Each (TopologyStands G) ts) where
    own_stand : (t : ℕ) (j : Joined) → slice_get js t ≡ Some j → Each LinkStands j.own
    own_stand t j at =
        let low : t < length ts = subst (λ n. t < n) are.each (get_within js t j at) in
        let here = item_below ts t low in
        let closure = closed t low in
        let is_ = are.of t here.0 closure.0 j here.1 closure.1 at in
        let holds = of_item (TopologyStands G) ts t here.0 stand here.1 in
        subst (Each LinkStands) (sym is_.own)
        (each_append LinkStands (direct_links cs is here.0) (made_links ds cs is (imported_links ts js closure.0) j.instances here.0)
        (direct_stand cs is here.0 holds) (made_stand ds cs is (imported_links ts js closure.0) j.instances here.0 holds))

    taken_stand : (t : ℕ) → Each LinkStands (taken_links ts js t)
    taken_stand t =
        each_left LinkStands (is_taken ts t) (unwrap_or (option_map (λ (j : Joined). j.own) (slice_get js t)) []) (unwrapped (slice_get js t) (own_stand t))

    imported_stand : (c : List ℕ) → Each LinkStands (imported_links ts js c)
    imported_stand c = each_flat LinkStands (taken_links ts js) c (each_of_any (λ (t : ℕ). Each LinkStands (taken_links ts js t)) taken_stand c)

  pub links_stand : (ds : List PortDef) (cs : List Component) (is : List Instance) (ts : List WrittenTopology) (rs : List Topology) → HaveClosures ts → Each (TopologyStands G) ts
      → AreTopologies ds cs is ts rs → (t : ℕ) (r : Topology) → slice_get rs t ≡ Some r → Each LinkStands r.links
  links_stand ds cs is ts rs have stand are t r at =
      let closed = have are.closures are.closed in
      let low : t < length ts = subst (λ n. t < n) are.each (get_within rs t r at) in
      let here = item_below ts t low in
      let closure = closed t low in
      let some = item_below are.joined t (subst (λ n. t < n) (sym are.are.each) low) in
      let is_ = are.resolved.of t here.0 closure.0 some.0 r here.1 closure.1 some.1 at in
      let imported = imported_links ts are.joined closure.0 in
      let all = each_append LinkStands imported some.0.own (imported_stand ds cs is ts are.closures are.joined are.are closed stand closure.0)
      (own_stand ds cs is ts are.closures are.joined are.are closed stand t some.0 some.1) in
      recursion_from_All LinkStands r.links
      (All-permutation LinkStands (imported ++ some.0.own) r.links is_.links.permutation (All-from_recursion LinkStands (imported ++ some.0.own) all))
