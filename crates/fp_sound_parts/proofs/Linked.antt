-- The connections of unbroken topologies go from outputs to inputs of one definition: those that are written, those of patterns, and those that
-- are imported.
use Rattle.std.proofs.Common.{◌≡◌, ◌∙◌, ap, refl, sym, subst, ℕ, true, List, [], ◌++◌, inl, inr, Option, None, Some, slice_get, arith}
use Rattle.std.specs.Prelude.{option_map, unwrap_or}
use Rattle.std.specs.List.{AllByRecursion, filter, list_all}
use Rattle.std.specs.List.Sorted.{IsPermutation}
use Rattle.std.proofs.lemmas.List.Elements.{All-from_recursion, recursion_from_All}
use Rattle.std.proofs.lemmas.List.Sorted.{All-permutation}
use Rattle.std.proofs.lemmas.Option.{slice_get_within}
use Rattle.fp_base.specs.Least.{IsUnbroken}
use Rattle.fp_base.proofs.Bools.{both}
use Rattle.fp_base.proofs.Lists.{all_get, each_append, each_flat, of_item, each_item}
use Rattle.fp_base.proofs.Options.{mapped_some, one_some}
use Rattle.fp_base.proofs.Spots.{item_below}
use Rattle.fp_base.proofs.Passing.{each_filtered}
use Rattle.fp_tree.specs.declared.topology.Pattern.{Pattern}
use Rattle.fp_tables.specs.Lists.{is_in}
use Rattle.fp_tables.specs.Positions.{port_of}
use Rattle.fp_tables.specs.declared.component.Port.{Port}
use Rattle.fp_tables.specs.declared.model.Model.{Model}
use Rattle.fp_tables.specs.declared.topology.Link.{Link}
use Rattle.fp_tables.specs.declared.topology.Topology.{Topology}
use Rattle.fp_numbering.specs.Links.{LinksAreSound}
use Rattle.fp_written_parts.specs.declared.topology.WrittenPattern.{WrittenPattern}
use Rattle.fp_written_parts.specs.declared.topology.WrittenTopology.{WrittenTopology}
use Rattle.fp_topologies.specs.declared.sorts.JoinAt.{JoinAt}
use Rattle.fp_topologies.specs.Patterns.{is_sort, join_at, joined, joined_by, joins_at, joins_of, leaves, links_by, one, only_port, other, pattern_links, targets_of}
use Rattle.fp_topologies.specs.Broken.{TopologiesBroken}
use Rattle.fp_topologies.specs.declared.joining.Joined.{Joined}
use Rattle.fp_topologies.specs.Joined.{imported_links, is_taken, taken_links}
use Rattle.fp_topologies.specs.Laws.{HaveClosures, joins}
use Rattle.fp_topologies.specs.Resolved.{AreTopologies}
use Rattle.fp_topologies.proofs.Lying.{each_kept, each_new}
use Rattle.fp_sound_parts.specs.Premises.{HasSuitingPorts}
use Rattle.fp_sound_parts.proofs.Going.{Fits, Goes, goes_joined, joins_fit, sort_at}
use Rattle.fp_sound_parts.proofs.Holding.{one_unbroken}
use Rattle.fp_sound_parts.proofs.Written.{direct_go}

-- what a pattern joins at its one instance
record JoinsAt (m : Model) (i : ℕ) (b : JoinAt) : Type 0 where
  port : Port
  at : port_of m i b.port ≡ Some port
  sort : is_sort m.ports (one b.join) port ≡ true
  fits : Fits b.join

module _ (m : Model) (ports : HasSuitingPorts m) where
  joins_there : (kind : Pattern) (i : ℕ) → AllByRecursion (JoinsAt m i) (joins_at m.ports m.components m.instances kind i)
  joins_there kind i =
      each_kept (JoinsAt m i) (join_at m.ports m.components m.instances i) (joins_of kind)
      (λ k j b e f.
      let q = mapped_some (λ (a : ℕ). record { join = j; port = a }) (only_port m.ports m.components m.instances (one j) i) b f in
      let s = sort_at m ports (one j) i q.0 q.1 in
      subst (JoinsAt m i) q.2 (record { port = s.0; at = s.1; sort = s.2; fits = of_item Fits (joins_of kind) k j (joins_fit kind) e }))

  pattern_go : (held : List ℕ) (p : WrittenPattern) → AllByRecursion (Goes m) (pattern_links m.ports m.components m.instances held p)
  pattern_go held p =
      each_flat (Goes m) (links_by m.ports m.components m.instances p (joins_at m.ports m.components m.instances p.kind p.of.instance)) (targets_of m.ports m.components m.instances held p p.targets)
      (each_item _ (targets_of m.ports m.components m.instances held p p.targets) (λ k target e. to_one target))
    where
      to_one : (target : ℕ) → AllByRecursion (Goes m) (links_by m.ports m.components m.instances p (joins_at m.ports m.components m.instances p.kind p.of.instance) target)
      to_one target =
          each_kept (Goes m) (joined_by m.ports m.components m.instances p target) (joins_at m.ports m.components m.instances p.kind p.of.instance)
          (λ k b l e f.
          let q = mapped_some (joined p.at (leaves b.join) p.of.instance b.port target) (only_port m.ports m.components m.instances (other b.join) target) l f in
          let s = sort_at m ports (other b.join) target q.0 q.1 in
          let t = of_item (JoinsAt m p.of.instance) (joins_at m.ports m.components m.instances p.kind p.of.instance) k b (joins_there p.kind p.of.instance) e in
          subst (Goes m) q.2 (goes_joined m ports p.at p.of.instance b.port target q.0 t.port s.0 t.at s.1 b.join t.fits t.sort s.2))

  imported_go : (ts : List WrittenTopology) (js : List Joined) (c : List ℕ) → ((t : ℕ) (j : Joined) → slice_get js t ≡ Some j → AllByRecursion (Goes m) j.own) → AllByRecursion (Goes m) (imported_links ts js c)
  imported_go ts js c each = each_flat (Goes m) (taken_links ts js) c (each_item _ c (λ k t e. taken t (slice_get js t) refl))
    where
      taken : (t : ℕ) (o : Option Joined) → slice_get js t ≡ o → AllByRecursion (Goes m) (filter (is_taken ts t) (unwrap_or (option_map (λ (j : Joined). j.own) o) []))
      taken t None e = tt
      taken t (Some j) e = each_filtered (Goes m) (is_taken ts t) j.own (each t j e)

  moved_go : (us vs : List Link) → IsPermutation us vs → AllByRecursion (Goes m) us → AllByRecursion (Goes m) vs
  moved_go us vs p h = recursion_from_All (Goes m) vs (All-permutation (Goes m) us vs p (All-from_recursion (Goes m) us h))

  module _ (ts : List WrittenTopology) (rs : List Topology) (unbroken : IsUnbroken (TopologiesBroken m.ports m.components m.instances ts)) (have : HaveClosures ts)
      (are : AreTopologies m.ports m.components m.instances ts rs) where
    own_go : (t : ℕ) (j : Joined) → slice_get are.joined t ≡ Some j → AllByRecursion (Goes m) j.own
    own_go t j e =
        let k = are.are.each in
        let low = slice_get_within are.joined t j e in
        let c = have are.closures are.closed t (omega arith) in
        let o = item_below ts t (omega arith) in
        let of = are.are.of t o.0 c.0 j o.1 c.1 e in
        let rules = one_unbroken m.ports m.components m.instances ts unbroken are.closures are.closed t o.0 o.1 in
        subst (AllByRecursion (Goes m)) (sym of.own)
        (each_append (Goes m) _ _ (direct_go m o.0 (λ f b. rules f (inr (inl b))))
        (each_new (Goes m) _ _ (each_flat (Goes m) (pattern_links m.ports m.components m.instances j.instances) o.0.patterns (each_item _ o.0.patterns (λ n p g. pattern_go j.instances p)))))

    all_go : (t : ℕ) (r : Topology) → slice_get rs t ≡ Some r → AllByRecursion (Goes m) r.links
    all_go t r e =
        let n = are.each in
        let k = are.are.each in
        let low = slice_get_within rs t r e in
        let c = have are.closures are.closed t (omega arith) in
        let o = item_below ts t (omega arith) in
        let j = item_below are.joined t (omega arith) in
        let it = are.resolved.of t o.0 c.0 j.0 r o.1 c.1 j.1 e in
        moved_go (imported_links ts are.joined c.0 ++ j.0.own) r.links it.links.permutation
        (each_append (Goes m) (imported_links ts are.joined c.0) j.0.own (imported_go ts are.joined c.0 own_go) (own_go t j.0 j.1))

    pub links_sound : (t : ℕ) (r : Topology) → slice_get rs t ≡ Some r → list_all (joins r.instances) r.links ≡ true → LinksAreSound m r
    links_sound t r e members =
        record {
          begin_at_members = λ k l at. (member k l at).0;
          end_at_members = λ k l at. (member k l at).1;
          begin_at_outputs = λ k l at.
              let g = goes k l at in
              (g.begins, g.from, g.output);
          end_at_inputs = λ k l at.
              let g = goes k l at in
              (g.ends, g.to, g.input);
          join_one_definition = λ k l p q at from to.
              let g = goes k l at in
              ap (λ (x : Port). x.of) (one_some (port_of m l.from l.from_port) p g.begins from g.from) ∙ g.of_one ∙ ap (λ (x : Port). x.of) (one_some (port_of m l.to l.to_port) g.ends q g.to to);
        }
      where
        member : (k : ℕ) (l : Link) → slice_get r.links k ≡ Some l → (is_in l.from r.instances ≡ true) × (is_in l.to r.instances ≡ true)
        member k l at = both (is_in l.from r.instances) (is_in l.to r.instances) (all_get (joins r.instances) r.links k l members at)

        goes : (k : ℕ) (l : Link) → slice_get r.links k ≡ Some l → Goes m l
        goes k l at = of_item (Goes m) r.links k l (all_go t r e) at
