-- The positions in topologies are those of what is there.
use Rattle.std.proofs.Common.{◌≡◌, ℕ, zero, suc, ◌+◌, ◌<◌, ◌≤◌, Bool, true, false, not, cond, ◌&&◌, ◌==◌, List, [], ◌∷◌, ◌++◌, length, map, flat_map, Option, Some, None, slice_get, refl, sym, ap, subst, ◌∙◌, arith}
use Rattle.std.specs.Prelude.{nat_lt, option_and_then, option_map, unwrap_or, position, filter_map}
use Rattle.std.specs.List.{AllByRecursion, cons_option, filter, list_all, list_any}
use Rattle.std.specs.List.Sorted.{IsPermutation}
use Rattle.std.specs.Str.{bytes_eq}
use Rattle.std.proofs.lemmas.Bool.Decides.{nat_tests}
use Rattle.std.proofs.lemmas.List.Elements.{All-from_recursion, recursion_from_All}
use Rattle.std.proofs.lemmas.List.Sorted.{All-permutation}
use Rattle.std.proofs.lemmas.Option.{slice_get_within}
use Rattle.fp_base.proofs.Bools.{join}
use Rattle.fp_base.proofs.Lists.{each_append, each_flat, each_mapped, of_item, each_item}
use Rattle.fp_base.proofs.Options.{mapped_some, one_some, then_some}
use Rattle.fp_base.proofs.Spots.{item_below}
use Rattle.fp_base.proofs.Passing.{position_below, each_filtered}
use Rattle.fp_tables.specs.Lists.{some_and}
use Rattle.fp_tables.specs.Positions.{has_port, link_lies, numbers_lie, topology_lies, wire_lies}
use Rattle.fp_tables.specs.declared.component.Component.{Component}
use Rattle.fp_tables.specs.declared.component.Port.{Port}
use Rattle.fp_tables.specs.declared.kind.PortDef.{PortDef}
use Rattle.fp_tables.specs.declared.model.Model.{Model}
use Rattle.fp_tables.specs.declared.topology.Instance.{Instance}
use Rattle.fp_tables.specs.declared.topology.Link.{Link}
use Rattle.fp_tables.specs.declared.topology.Topology.{Topology}
use Rattle.fp_tables.specs.declared.topology.Wire.{Wire}
use Rattle.fp_written_parts.specs.Lying.{TopologyLies}
use Rattle.fp_written_parts.specs.declared.topology.MemberInstance.{MemberInstance}
use Rattle.fp_written_parts.specs.declared.topology.WrittenConnection.{WrittenConnection}
use Rattle.fp_written_parts.specs.declared.topology.WrittenPattern.{WrittenPattern}
use Rattle.fp_written_parts.specs.declared.topology.WrittenTopology.{WrittenTopology}
use Rattle.fp_topologies.specs.Held.{instances_of, instances_with, public_at, public_instances}
use Rattle.fp_topologies.specs.declared.sorts.Join.{Join}
use Rattle.fp_topologies.specs.declared.sorts.JoinAt.{JoinAt}
use Rattle.fp_topologies.specs.declared.sorts.Sort.{Sort}
use Rattle.fp_topologies.specs.Patterns.{is_sort, joined, joined_by, joins_at, joins_of, leaves, links_by, one, only_port, only_position, other, pattern_links, targets_of}
use Rattle.fp_topologies.specs.Ports.{direct_links, link_between, link_of, port_named, port_used, ports_at}
use Rattle.fp_topologies.specs.declared.joining.Joined.{Joined}
use Rattle.fp_topologies.specs.Joined.{AreJoined, IsJoined, imported_links, is_taken, made_links, new_beside, same_ports, taken_links}
use Rattle.fp_topologies.specs.Laws.{HaveClosures}
use Rattle.fp_topologies.specs.Ordered.{AreInOrder, link_cmp}
use Rattle.fp_topologies.specs.Resolved.{AreTopologies, HaveNoWires, IsTopology}
use Rattle.fp_topologies.proofs.Earlier.{each_first}

-- ---- on lists

module _ {A B : Type 0} (P : B → Type 0) (f : A → Option B) where
  kept : (x : A) (rest : List B) → AllByRecursion P rest → ((y : B) → f x ≡ Some y → P y) → (o : Option B) → f x ≡ o → AllByRecursion P (cons_option o rest)
  kept x rest h new None e = h
  kept x rest h new (Some y) e = (new y e, h)

  pub each_kept : (xs : List A) → ((k : ℕ) (x : A) (y : B) → slice_get xs k ≡ Some x → f x ≡ Some y → P y) → AllByRecursion P (filter_map f xs)
  each_kept [] h = tt
  each_kept (x ∷ xs) h = kept x (filter_map f xs) (each_kept xs (λ k. h (suc k))) (λ y e. h 0 x y refl e) (f x) refl

pub each_new : (P : Link → Type 0) (there ls : List Link) → AllByRecursion P ls → AllByRecursion P (new_beside there ls)
each_new P there [] h = tt
each_new P there (l ∷ ls) h = go (list_any (same_ports l) there) (each_new P there ls h.1) (each_new P (there ++ l ∷ []) ls h.1)
  where
    go : (b : Bool) → AllByRecursion P (new_beside there ls) → AllByRecursion P (new_beside (there ++ l ∷ []) ls) → AllByRecursion P (cond b (new_beside there ls) (l ∷ new_beside (there ++ l ∷ []) ls))
    go true passed more = passed
    go false passed more = (h.0, more)

pub list_all_each : {A : Type 0} (test : A → Bool) (xs : List A) → AllByRecursion (λ x. test x ≡ true) xs → list_all test xs ≡ true
list_all_each test [] h = refl
list_all_each test (x ∷ xs) h = join (test x) (list_all test xs) h.0 (list_all_each test xs h.1)

only_below : {A : Type 0} (test : A → Bool) (xs : List A) (k : ℕ) → only_position test xs ≡ Some k → k < length xs
only_below test xs k e = go (length (filter test xs) == 1) e
  where
    go : (b : Bool) → cond b (position test xs) None ≡ Some k → k < length xs
    go true f = position_below test xs k f
    go false f = absurd (cc)

-- ---- connections

module _ (m : Model) where
  -- a port that the instance's component has
  has : (i p : ℕ) → p < length (ports_at m.components m.instances i) → has_port m i p ≡ true
  has i p low = go (option_and_then (λ (x : Instance). slice_get m.components x.component) (slice_get m.instances i)) low
    where
      there : (ps : List Port) → p < length ps → some_and (λ _. true) (slice_get ps p) ≡ true
      there ps low = let q = item_below ps p low in ap (some_and (λ _. true)) q.1

      go : (o : Option Component) → p < length (unwrap_or (option_map (λ (c : Component). c.ports) o) []) → some_and (λ _. true) (option_and_then (λ (c : Component). slice_get c.ports p) o) ≡ true
      go None low = absurd (omega arith)
      go (Some c) low = there c.ports low

  abbrev Lies : Link → Type 0
  Lies l = link_lies m l ≡ true

  -- a connection that is written, or made
  between : (l : Link) → l.from_port < length (ports_at m.components m.instances l.from) → l.to_port < length (ports_at m.components m.instances l.to) → Lies l
  between l from to = join (has_port m l.from l.from_port) (has_port m l.to l.to_port) (has l.from l.from_port from) (has l.to l.to_port to)

  direct_lie : (o : WrittenTopology) → AllByRecursion Lies (direct_links m.components m.instances o)
  direct_lie o = each_kept Lies (link_of m.components m.instances) o.connections (λ k c l e f. by c l f)
    where
      by : (c : WrittenConnection) (l : Link) → link_of m.components m.instances c ≡ Some l → Lies l
      by c l f =
          let p = then_some (λ (k : ℕ). option_map (link_between c k) (port_used m.components m.instances c.to)) (port_used m.components m.instances c.from) l f in
          let q = mapped_some (link_between c p.0) (port_used m.components m.instances c.to) l p.2 in
          let from : p.0 < length (ports_at m.components m.instances c.from.used.instance) = position_below (λ (x : Port). bytes_eq x.name c.from.port) (ports_at m.components m.instances c.from.used.instance) p.0 p.1 in
          let to : q.0 < length (ports_at m.components m.instances c.to.used.instance) = position_below (λ (x : Port). bytes_eq x.name c.to.port) (ports_at m.components m.instances c.to.used.instance) q.0 q.1 in
          subst Lies q.2 (between (link_between c p.0 q.0) from to)

  module _ (ds : List PortDef) where
    -- each has a port at the one instance
    joins_lie : (p : WrittenPattern) → AllByRecursion (λ (b : JoinAt). b.port < length (ports_at m.components m.instances p.of.instance)) (joins_at ds m.components m.instances p.kind p.of.instance)
    joins_lie p =
        each_kept (λ (b : JoinAt). b.port < length (ports_at m.components m.instances p.of.instance)) _ (joins_of p.kind)
        (λ k j b e f.
        let q = mapped_some (λ (a : ℕ). record { join = j; port = a }) (only_port ds m.components m.instances (one j) p.of.instance) b f in
        let low = only_below (is_sort ds (one j)) (ports_at m.components m.instances p.of.instance) q.0 q.1 in
        subst (λ (x : JoinAt). x.port < length (ports_at m.components m.instances p.of.instance)) q.2 low)

    pattern_lie : (held : List ℕ) (p : WrittenPattern) → AllByRecursion Lies (pattern_links ds m.components m.instances held p)
    pattern_lie held p =
        each_flat Lies (links_by ds m.components m.instances p (joins_at ds m.components m.instances p.kind p.of.instance)) (targets_of ds m.components m.instances held p p.targets)
        (each_item _ (targets_of ds m.components m.instances held p p.targets) (λ k target e. to_one target))
      where
        made : (target one_port other_port : ℕ) → one_port < length (ports_at m.components m.instances p.of.instance) → other_port < length (ports_at m.components m.instances target)
            → (b : Bool) → Lies (joined p.at b p.of.instance one_port target other_port)
        made target one_port other_port low under true = between (joined p.at true p.of.instance one_port target other_port) low under
        made target one_port other_port low under false = between (joined p.at false p.of.instance one_port target other_port) under low

        to_one : (target : ℕ) → AllByRecursion Lies (links_by ds m.components m.instances p (joins_at ds m.components m.instances p.kind p.of.instance) target)
        to_one target =
            each_kept Lies (joined_by ds m.components m.instances p target) (joins_at ds m.components m.instances p.kind p.of.instance)
            (λ k b l e f.
            let q = mapped_some (joined p.at (leaves b.join) p.of.instance b.port target) (only_port ds m.components m.instances (other b.join) target) l f in
            let under = only_below (is_sort ds (other b.join)) (ports_at m.components m.instances target) q.0 q.1 in
            subst Lies q.2 (made target b.port q.0 (of_item (λ (x : JoinAt). x.port < length (ports_at m.components m.instances p.of.instance)) (joins_at ds m.components m.instances p.kind p.of.instance) k b (joins_lie p) e) under (leaves b.join)))

    own_lie : (ts : List WrittenTopology) (js : List Joined) (c : List ℕ) (o : WrittenTopology) (j : Joined) → IsJoined ts ds m.components m.instances js c o j → AllByRecursion Lies j.own
    own_lie ts js c o j h =
        subst (AllByRecursion Lies) (sym h.own)
        (each_append Lies _ _ (direct_lie o) (each_new Lies _ _ (each_flat Lies (pattern_links ds m.components m.instances j.instances) o.patterns (each_item _ o.patterns (λ k p e. pattern_lie j.instances p)))))

    -- ---- topologies

    imported_lie : (ts : List WrittenTopology) (js : List Joined) (c : List ℕ) → ((t : ℕ) (j : Joined) → slice_get js t ≡ Some j → AllByRecursion Lies j.own) → AllByRecursion Lies (imported_links ts js c)
    imported_lie ts js c each = each_flat Lies (taken_links ts js) c (each_item _ c (λ k t e. taken t (slice_get js t) refl))
      where
        taken : (t : ℕ) (o : Option Joined) → slice_get js t ≡ o → AllByRecursion Lies (filter (is_taken ts t) (unwrap_or (option_map (λ (j : Joined). j.own) o) []))
        taken t None e = tt
        taken t (Some j) e = each_filtered Lies (is_taken ts t) j.own (each t j e)

    abbrev Below : ℕ → Type 0
    Below i = i < length m.instances

    members_lie : (ms : List MemberInstance) → ((k : ℕ) (x : MemberInstance) → slice_get ms k ≡ Some x → Below x.used.instance) → AllByRecursion (λ (x : MemberInstance). Below x.used.instance) ms
    members_lie ms h = each_item _ ms h

    held_lie : (ts : List WrittenTopology) (c : List ℕ) (o : WrittenTopology) → ((t : ℕ) (p : WrittenTopology) → slice_get ts t ≡ Some p → TopologyLies (length m.instances) (length ts) p)
        → TopologyLies (length m.instances) (length ts) o → AllByRecursion Below (instances_with ts c o)
    held_lie ts c o lie own =
        each_first Below _
        (each_append Below (flat_map (public_at ts) c) (instances_of o.instances) (each_flat Below (public_at ts) c (each_item _ c (λ k t e. public t (slice_get ts t) refl)))
        (each_mapped Below (λ (x : MemberInstance). x.used.instance) o.instances (members_lie o.instances own.members)))
      where
        public : (t : ℕ) (x : Option WrittenTopology) → slice_get ts t ≡ x → AllByRecursion Below (unwrap_or (option_map public_instances x) [])
        public t None e = tt
        public t (Some p) e =
            each_mapped Below (λ (x : MemberInstance). x.used.instance) (filter (λ (x : MemberInstance). not x.private) p.instances)
            (each_filtered _ (λ (x : MemberInstance). not x.private) p.instances (members_lie p.instances (lie t p e).members))

    below_tests : (ns : List ℕ) → AllByRecursion Below ns → numbers_lie (length m.instances) ns ≡ true
    below_tests [] h = refl
    below_tests (n ∷ ns) h = join (nat_lt n (length m.instances)) (numbers_lie (length m.instances) ns) (test n h.0) (below_tests ns h.1)
      where
        test : (n : ℕ) → n < length m.instances → nat_lt n (length m.instances) ≡ true
        test n low = grind (arith, nat_tests)

    moved_lie : (us vs : List Link) → IsPermutation us vs → AllByRecursion Lies us → AllByRecursion Lies vs
    moved_lie us vs p h = recursion_from_All Lies vs (All-permutation Lies us vs p (All-from_recursion Lies us h))

    three : (a b c : Bool) → a ≡ true → b ≡ true → c ≡ true → (a && b && c) ≡ true
    three true true c p q r = r
    three true false c p q r = absurd (cc)
    three false b c p q r = absurd (cc)

    pub all_lie : (ts : List WrittenTopology) (rs : List Topology) → HaveClosures ts → ((t : ℕ) (o : WrittenTopology) → slice_get ts t ≡ Some o → TopologyLies (length m.instances) (length ts) o)
        → AreTopologies ds m.components m.instances ts rs → HaveNoWires rs → (t : ℕ) (r : Topology) → slice_get rs t ≡ Some r → topology_lies m r ≡ true
    all_lie ts rs have lie a wires t r e =
        let n = a.each in
        let k = a.are.each in
        let low = slice_get_within rs t r e in
        let c = have a.closures a.closed t (omega arith) in
        let o = item_below ts t (omega arith) in
        let j = item_below a.joined t (omega arith) in
        let is = a.resolved.of t o.0 c.0 j.0 r o.1 c.1 j.1 e in
        let of = a.are.of t o.0 c.0 j.0 o.1 c.1 j.1 in
        let instances : numbers_lie (length m.instances) r.instances ≡ true =
        ap (numbers_lie (length m.instances)) (is.instances ∙ of.instances) ∙ below_tests (instances_with ts c.0 o.0) (held_lie ts c.0 o.0 lie (lie t o.0 o.1)) in
        let links : AllByRecursion Lies r.links =
        moved_lie (imported_links ts a.joined c.0 ++ j.0.own) r.links is.links.permutation
        (each_append Lies (imported_links ts a.joined c.0) j.0.own (imported_lie ts a.joined c.0 (λ u i f. own u i f)) (own t j.0 j.1)) in
        three _ _ _ instances (list_all_each (link_lies m) r.links links) (ap (list_all (wire_lies m)) (wires t r e))
      where
        own : (u : ℕ) (i : Joined) → slice_get a.joined u ≡ Some i → AllByRecursion Lies i.own
        own u i f =
            let k = a.are.each in
            let low = slice_get_within a.joined u i f in
            let c = have a.closures a.closed u (omega arith) in
            let o = item_below ts u (omega arith) in
            own_lie ts a.joined c.0 o.0 i (a.are.of u o.0 c.0 i o.1 c.1 f)
