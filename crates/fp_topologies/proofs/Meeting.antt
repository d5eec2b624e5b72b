-- The connections of topologies join instances that they have.
use Rattle.std.proofs.Common.{◌≡◌, ℕ, zero, suc, ◌<◌, ◌≤◌, Bool, true, false, not, cond, ◌&&◌, ◌||◌, ◌==◌, List, [], ◌∷◌, ◌++◌, length, map, flat_map, Option, Some, None, slice_get, refl, sym, ap, subst, ◌∙◌, arith}
use Rattle.std.specs.Prelude.{option_and_then, option_map, unwrap_or}
use Rattle.std.specs.List.{AllByRecursion, filter, list_all, list_any}
use Rattle.std.specs.List.Sorted.{IsPermutation}
use Rattle.std.proofs.lemmas.List.Elements.{All-from_recursion, recursion_from_All}
use Rattle.std.proofs.lemmas.List.Sorted.{All-permutation}
use Rattle.std.proofs.lemmas.Option.{slice_get_within}
use Rattle.fp_base.proofs.Bools.{both, join, neither, not_true, or_left, or_right}
use Rattle.fp_base.proofs.Lists.{each_append, each_flat, each_mapped, of_item, each_item}
use Rattle.fp_base.proofs.Options.{mapped_some, same_some, then_some}
use Rattle.fp_base.proofs.Spots.{item_below}
use Rattle.fp_base.proofs.Numbers.{number_itself}
use Rattle.fp_base.proofs.Passing.{each_filtered, each_passing}
use Rattle.fp_tables.specs.Lists.{is_in, some_and}
use Rattle.fp_tables.specs.declared.component.Component.{Component}
use Rattle.fp_tables.specs.declared.kind.PortDef.{PortDef}
use Rattle.fp_tables.specs.declared.topology.Instance.{Instance}
use Rattle.fp_tables.specs.declared.topology.Link.{Link}
use Rattle.fp_tables.specs.declared.topology.Topology.{Topology}
use Rattle.fp_tables.proofs.Indexed.{item_in}
use Rattle.fp_written_parts.specs.declared.topology.MemberInstance.{MemberInstance}
use Rattle.fp_written_parts.specs.declared.topology.UsedInstance.{UsedInstance}
use Rattle.fp_written_parts.specs.declared.topology.WrittenConnection.{WrittenConnection}
use Rattle.fp_written_parts.specs.declared.topology.WrittenPattern.{WrittenPattern}
use Rattle.fp_written_parts.specs.declared.topology.WrittenTopology.{WrittenTopology}
use Rattle.fp_topologies.specs.Held.{has_private, instances_of, instances_with, is_private_at, public_at, public_instances}
use Rattle.fp_topologies.specs.Imports.{AreClosures, closure_at}
use Rattle.fp_topologies.specs.declared.sorts.JoinAt.{JoinAt}
use Rattle.fp_topologies.specs.Patterns.{is_target, joined, joined_by, joins_at, leaves, links_by, only_port, other, pattern_links, targets_of}
use Rattle.fp_topologies.specs.Ports.{direct_links, link_between, link_of, port_used}
use Rattle.fp_topologies.specs.declared.joining.Joined.{Joined}
use Rattle.fp_topologies.specs.Joined.{AreJoined, IsJoined, imported_links, is_taken, taken_links}
use Rattle.fp_topologies.specs.Laws.{AllUsesAreHeld, HaveClosures, UsesAreHeld, joins}
use Rattle.fp_topologies.specs.Resolved.{AreTopologies}
use Rattle.fp_topologies.proofs.ClosingSteps.{whole}
use Rattle.fp_topologies.proofs.Earlier.{each_first}
use Rattle.fp_topologies.proofs.Having.{all_in, in_back, in_first, in_flat, in_flat_of, in_front, of_in}
use Rattle.fp_topologies.proofs.Lying.{each_kept, each_new, list_all_each}

-- a member that isn't private is among those that importers take
open_in : (ms : List MemberInstance) (k : ℕ) (m : MemberInstance) → slice_get ms k ≡ Some m → list_any (λ (x : MemberInstance). x.private && x.used.instance == m.used.instance) ms ≡ false
    → is_in m.used.instance (instances_of (filter (λ (x : MemberInstance). not x.private) ms)) ≡ true
open_in [] k m e h = absurd (cc)
open_in (x ∷ ms) k m e h = go k e (neither (x.private && x.used.instance == m.used.instance) (list_any (λ (y : MemberInstance). y.private && y.used.instance == m.used.instance) ms) h) (λ k e f. open_in ms k m e f)
  where
    shut : (a b : Bool) → (a && b) ≡ false → b ≡ true → a ≡ false
    shut true b g f = absurd (cc)
    shut false b g f = refl

    more : (b : Bool) (rest : List MemberInstance) → is_in m.used.instance (instances_of rest) ≡ true → is_in m.used.instance (instances_of (cond b (x ∷ rest) rest)) ≡ true
    more true rest f = or_right (x.used.instance == m.used.instance) (is_in m.used.instance (instances_of rest)) f
    more false rest f = f

    first : (b : Bool) (rest : List MemberInstance) → b ≡ false → (x.used.instance == m.used.instance) ≡ true → is_in m.used.instance (instances_of (cond (not b) (x ∷ rest) rest)) ≡ true
    first true rest e f = absurd (cc)
    first false rest e f = or_left (x.used.instance == m.used.instance) (is_in m.used.instance (instances_of rest)) f

    go : (k : ℕ) → slice_get (x ∷ ms) k ≡ Some m
        → ((x.private && x.used.instance == m.used.instance) ≡ false) × (list_any (λ (y : MemberInstance). y.private && y.used.instance == m.used.instance) ms ≡ false)
        → ((k : ℕ) → slice_get ms k ≡ Some m → list_any (λ (y : MemberInstance). y.private && y.used.instance == m.used.instance) ms ≡ false
        → is_in m.used.instance (instances_of (filter (λ (y : MemberInstance). not y.private) ms)) ≡ true)
        → is_in m.used.instance (instances_of (filter (λ (y : MemberInstance). not y.private) (x ∷ ms))) ≡ true
    go zero e n rest =
        let same : (x.used.instance == m.used.instance) ≡ true = ap (λ (y : MemberInstance). y.used.instance == m.used.instance) (same_some e) ∙ number_itself m.used.instance in
        first x.private (filter (λ (y : MemberInstance). not y.private) ms) (shut x.private (x.used.instance == m.used.instance) n.0 same) same
    go (suc k) e n rest = more (not x.private) (filter (λ (y : MemberInstance). not y.private) ms) (rest k e n.1)

module _ (ds : List PortDef) (cs : List Component) (is : List Instance) where
  abbrev Joins : List ℕ → Link → Type 0
  Joins held l = joins held l ≡ true

  -- ---- its own

  module _ (held : List ℕ) (o : WrittenTopology) (uses : UsesAreHeld held o) where
    direct_join : AllByRecursion (Joins held) (direct_links cs is o)
    direct_join = each_kept (Joins held) (link_of cs is) o.connections (λ k c l e f. by k c l e f)
      where
        by : (k : ℕ) (c : WrittenConnection) (l : Link) → slice_get o.connections k ≡ Some c → link_of cs is c ≡ Some l → Joins held l
        by k c l e f =
            let p = then_some (λ (n : ℕ). option_map (link_between c n) (port_used cs is c.to)) (port_used cs is c.from) l f in
            let q = mapped_some (link_between c p.0) (port_used cs is c.to) l p.2 in
            subst (Joins held) q.2 (join (is_in c.from.used.instance held) (is_in c.to.used.instance held) (uses.from k c e) (uses.to k c e))

    targets_join : (k : ℕ) (p : WrittenPattern) → slice_get o.patterns k ≡ Some p → (us : Option (List UsedInstance)) → p.targets ≡ us → AllByRecursion (λ (i : ℕ). is_in i held ≡ true) (targets_of ds cs is held p us)
    targets_join k p e None f = each_filtered (λ (i : ℕ). is_in i held ≡ true) (is_target ds cs is p) held (all_in held)
    targets_join k p e (Some us) f =
        each_mapped (λ (i : ℕ). is_in i held ≡ true) (λ (u : UsedInstance). u.instance) us (each_item _ us (λ j u g. uses.targets k p us j u e f g))

    pattern_join : (k : ℕ) (p : WrittenPattern) → slice_get o.patterns k ≡ Some p → AllByRecursion (Joins held) (pattern_links ds cs is held p)
    pattern_join k p e =
        each_flat (Joins held) (links_by ds cs is p (joins_at ds cs is p.kind p.of.instance)) (targets_of ds cs is held p p.targets)
        (each_item _ (targets_of ds cs is held p p.targets)
        (λ j target f. to_one target (of_item (λ (i : ℕ). is_in i held ≡ true) (targets_of ds cs is held p p.targets) j target (targets_join k p e p.targets refl) f)))
      where
        made : (target one_port other_port : ℕ) → is_in target held ≡ true → (b : Bool) → Joins held (joined p.at b p.of.instance one_port target other_port)
        made target one_port other_port h true = join (is_in p.of.instance held) (is_in target held) (uses.patterns k p e) h
        made target one_port other_port h false = join (is_in target held) (is_in p.of.instance held) h (uses.patterns k p e)

        to_one : (target : ℕ) → is_in target held ≡ true → AllByRecursion (Joins held) (links_by ds cs is p (joins_at ds cs is p.kind p.of.instance) target)
        to_one target h =
            each_kept (Joins held) (joined_by ds cs is p target) (joins_at ds cs is p.kind p.of.instance)
            (λ j b l g f.
            let q = mapped_some (joined p.at (leaves b.join) p.of.instance b.port target) (only_port ds cs is (other b.join) target) l f in
            subst (Joins held) q.2 (made target b.port q.0 h (leaves b.join)))

  own_join : (ts : List WrittenTopology) (js : List Joined) (c : List ℕ) (o : WrittenTopology) (j : Joined) → IsJoined ts ds cs is js c o j → UsesAreHeld (instances_with ts c o) o → AllByRecursion (Joins j.instances) j.own
  own_join ts js c o j h uses =
      let held = subst (λ (xs : List ℕ). UsesAreHeld xs o) (sym h.instances) uses in
      subst (AllByRecursion (Joins j.instances)) (sym h.own)
      (each_append (Joins j.instances) _ _ (direct_join j.instances o held)
      (each_new (Joins j.instances) _ _ (each_flat (Joins j.instances) (pattern_links ds cs is j.instances) o.patterns (each_item _ o.patterns (λ k p e. pattern_join j.instances o held k p e)))))

  -- ---- those that are imported

  module _ (ts : List WrittenTopology) (closures : List (Option (List ℕ))) (closed : AreClosures ts closures) (t u : ℕ) (c d : List ℕ) (o p : WrittenTopology) (at : slice_get closures t ≡ Some (Some c))
      (below : slice_get closures u ≡ Some (Some d)) (there : slice_get ts u ≡ Some p) (within : is_in u c ≡ true) where
    abbrev Given : ℕ → Type 0
    Given i = is_private_at ts u i ≡ false → is_in i (instances_with ts c o) ≡ true

    -- of a topology that the importer has
    given_by : (v : ℕ) → is_in v c ≡ true → (i : ℕ) → is_in i (public_at ts v) ≡ true → is_in i (instances_with ts c o) ≡ true
    given_by v e i h = in_first i (flat_map (public_at ts) c ++ instances_of o.instances) (in_front i (flat_map (public_at ts) c) (instances_of o.instances) (in_flat_of (public_at ts) i v c e h))

    through : (v : ℕ) → is_in v d ≡ true → is_in v c ≡ true
    through v e =
        let all = of_in (λ (w : ℕ). AllByRecursion (λ (n : ℕ). is_in n c ≡ true) (closure_at closures w)) u c (whole ts closures closed t c at) within in
        let same = ap (λ (x : Option (Option (List ℕ))). unwrap_or (option_and_then (λ (y : Option (List ℕ)). y) x) []) below in
        of_in (λ (n : ℕ). is_in n c ≡ true) v d (subst (AllByRecursion (λ (n : ℕ). is_in n c ≡ true)) same all) e

    member : (k : ℕ) (m : MemberInstance) → slice_get p.instances k ≡ Some m → Given m.used.instance
    member k m e open_ = given_by u within m.used.instance (ap (λ (x : Option WrittenTopology). is_in m.used.instance (unwrap_or (option_map public_instances x) [])) there ∙ open_in p.instances k m e none)
      where
        none : has_private m.used.instance p ≡ false
        none = sym (ap (some_and (has_private m.used.instance)) there) ∙ open_

    given : AllByRecursion Given (instances_with ts d p)
    given =
        each_first Given (flat_map (public_at ts) d ++ instances_of p.instances)
        (each_append Given (flat_map (public_at ts) d) (instances_of p.instances)
        (each_flat Given (public_at ts) d
        (each_item _ d (λ k v e. each_item _ (public_at ts v) (λ j i f. λ open_. given_by v (through v (item_in d k v e)) i (item_in (public_at ts v) j i f)))))
        (each_mapped Given (λ (m : MemberInstance). m.used.instance) p.instances (each_item _ p.instances (λ k m e. member k m e))))

    pub taken_join : (ls : List Link) → AllByRecursion (Joins (instances_with ts d p)) ls → AllByRecursion (Joins (instances_with ts c o)) (filter (is_taken ts u) ls)
    taken_join ls h =
        each_passing (Joins (instances_with ts d p)) (Joins (instances_with ts c o)) (is_taken ts u)
        (λ l e f.
        let a = both (is_in l.from (instances_with ts d p)) (is_in l.to (instances_with ts d p)) e in
        let b = both (not (is_private_at ts u l.from)) (not (is_private_at ts u l.to)) f in
        join (is_in l.from (instances_with ts c o)) (is_in l.to (instances_with ts c o)) (of_in Given l.from (instances_with ts d p) given a.0 (not_true (is_private_at ts u l.from) b.0))
        (of_in Given l.to (instances_with ts d p) given a.1 (not_true (is_private_at ts u l.to) b.1))) ls h

  -- ---- topologies

  pub all_join : (ts : List WrittenTopology) (rs : List Topology) → HaveClosures ts → AllUsesAreHeld ts → AreTopologies ds cs is ts rs → (t : ℕ) (r : Topology) → slice_get rs t ≡ Some r
      → list_all (joins r.instances) r.links ≡ true
  all_join ts rs have uses a t r e =
      let n = a.each in
      let k = a.are.each in
      let low = slice_get_within rs t r e in
      let c = have a.closures a.closed t (omega arith) in
      let o = item_below ts t (omega arith) in
      let j = item_below a.joined t (omega arith) in
      let it = a.resolved.of t o.0 c.0 j.0 r o.1 c.1 j.1 e in
      let of = a.are.of t o.0 c.0 j.0 o.1 c.1 j.1 in
      let held : r.instances ≡ instances_with ts c.0 o.0 = it.instances ∙ of.instances in
      let own : AllByRecursion (Joins (instances_with ts c.0 o.0)) j.0.own =
      subst (λ (xs : List ℕ). AllByRecursion (Joins xs) j.0.own) of.instances (own_join ts a.joined c.0 o.0 j.0 of (uses a.closures a.closed t o.0 c.0 o.1 c.1)) in
      let imported : AllByRecursion (Joins (instances_with ts c.0 o.0)) (imported_links ts a.joined c.0) =
      each_flat (Joins (instances_with ts c.0 o.0)) (taken_links ts a.joined) c.0 (each_item _ c.0 (λ i u f. taken c.0 o.0 c.1 u (item_in c.0 i u f) (slice_get a.joined u) refl)) in
      let all : AllByRecursion (Joins (instances_with ts c.0 o.0)) r.links =
      moved (instances_with ts c.0 o.0) (imported_links ts a.joined c.0 ++ j.0.own) r.links it.links.permutation (each_append (Joins (instances_with ts c.0 o.0)) (imported_links ts a.joined c.0) j.0.own imported own) in
      list_all_each (joins r.instances) r.links (subst (λ (xs : List ℕ). AllByRecursion (Joins xs) r.links) (sym held) all)
    where
      moved : (held : List ℕ) (us vs : List Link) → IsPermutation us vs → AllByRecursion (Joins held) us → AllByRecursion (Joins held) vs
      moved held us vs p h = recursion_from_All (Joins held) vs (All-permutation (Joins held) us vs p (All-from_recursion (Joins held) us h))

      taken : (c : List ℕ) (o : WrittenTopology) → slice_get a.closures t ≡ Some (Some c) → (u : ℕ) → is_in u c ≡ true → (x : Option Joined) → slice_get a.joined u ≡ x
          → AllByRecursion (Joins (instances_with ts c o)) (filter (is_taken ts u) (unwrap_or (option_map (λ (j : Joined). j.own) x) []))
      taken c o at u within None f = tt
      taken c o at u within (Some i) f =
          let k = a.are.each in
          let low = slice_get_within a.joined u i f in
          let d = have a.closures a.closed u (omega arith) in
          let p = item_below ts u (omega arith) in
          let of = a.are.of u p.0 d.0 i p.1 d.1 f in
          taken_join ts a.closures a.closed t u c d.0 o p.0 at d.1 p.1 within i.own
          (subst (λ (xs : List ℕ). AllByRecursion (Joins xs) i.own) of.instances (own_join ts a.joined d.0 p.0 i of (uses a.closures a.closed u p.0 d.0 p.1 d.1)))
