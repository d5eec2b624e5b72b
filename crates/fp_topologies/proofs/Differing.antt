-- Of each number the first: no number stands twice.
use Rattle.std.proofs.Common.{◌≡◌, ℕ, ◌<◌, ◌≤◌, Bool, true, false, not, cond, ◌&&◌, ◌||◌, ◌==◌, List, [], ◌∷◌, ◌++◌, flat_map, length, Option, Some, slice_get, refl, sym, ap, subst, ◌∙◌, arith}
use Rattle.std.specs.List.{filter, list_any}
use Rattle.std.proofs.lemmas.Option.{slice_get_within}
use Rattle.fp_base.proofs.Bools.{both, join, neither, not_true}
use Rattle.fp_base.proofs.Spots.{item_below}
use Rattle.fp_tables.specs.Lists.{apart}
use Rattle.fp_tables.specs.Names.{numbers_differ}
use Rattle.fp_tables.specs.declared.component.Component.{Component}
use Rattle.fp_tables.specs.declared.kind.PortDef.{PortDef}
use Rattle.fp_tables.specs.declared.topology.Instance.{Instance}
use Rattle.fp_tables.specs.declared.topology.Topology.{Topology}
use Rattle.fp_written_parts.specs.declared.topology.WrittenTopology.{WrittenTopology}
use Rattle.fp_topologies.specs.Held.{instances_of, public_at}
use Rattle.fp_topologies.specs.Imports.{first_of_each}
use Rattle.fp_topologies.specs.Laws.{HaveClosures}
use Rattle.fp_topologies.specs.Resolved.{AreTopologies}

none_left : (n : ℕ) (xs : List ℕ) → list_any (λ m. n == m) (filter (λ m. not (n == m)) xs) ≡ false
none_left n [] = refl
none_left n (x ∷ xs) = go (n == x) refl (none_left n xs)
  where
    go : (b : Bool) → (n == x) ≡ b → list_any (λ m. n == m) (filter (λ m. not (n == m)) xs) ≡ false → list_any (λ m. n == m) (cond (not (n == x)) (x ∷ filter (λ m. not (n == m)) xs) (filter (λ m. not (n == m)) xs)) ≡ false
    go true is rest = ap (λ b. list_any (λ m. n == m) (cond (not b) (x ∷ filter (λ m. not (n == m)) xs) (filter (λ m. not (n == m)) xs))) is ∙ rest
    go false is rest =
        ap (λ b. list_any (λ m. n == m) (cond (not b) (x ∷ filter (λ m. not (n == m)) xs) (filter (λ m. not (n == m)) xs))) is
        ∙ ap (λ b. b || list_any (λ m. n == m) (filter (λ m. not (n == m)) xs)) is ∙ rest

fewer : (q p : ℕ → Bool) (xs : List ℕ) → list_any q xs ≡ false → list_any q (filter p xs) ≡ false
fewer q p [] h = refl
fewer q p (x ∷ xs) h = let n = neither (q x) (list_any q xs) h in go (p x) n.0 (fewer q p xs n.1)
  where
    go : (b : Bool) → q x ≡ false → list_any q (filter p xs) ≡ false → list_any q (cond b (x ∷ filter p xs) (filter p xs)) ≡ false
    go true first rest = ap (λ b. b || list_any q (filter p xs)) first ∙ rest
    go false first rest = rest

apart_filter : (test : ℕ → ℕ → Bool) (p : ℕ → Bool) (xs : List ℕ) → apart test xs ≡ true → apart test (filter p xs) ≡ true
apart_filter test p [] h = refl
apart_filter test p (x ∷ xs) h = let n = both (not (list_any (test x) xs)) (apart test xs) h in go (p x) (not_true (list_any (test x) xs) n.0) (apart_filter test p xs n.1)
  where
    go : (b : Bool) → list_any (test x) xs ≡ false → apart test (filter p xs) ≡ true → apart test (cond b (x ∷ filter p xs) (filter p xs)) ≡ true
    go true first rest = join (not (list_any (test x) (filter p xs))) (apart test (filter p xs)) (ap not (fewer (test x) p xs first)) rest
    go false first rest = rest

pub firsts_differ : (ns : List ℕ) → numbers_differ (first_of_each ns) ≡ true
firsts_differ [] = refl
firsts_differ (n ∷ ns) =
    join (not (list_any (λ m. n == m) (filter (λ m. not (n == m)) (first_of_each ns)))) (apart (λ m k. m == k) (filter (λ m. not (n == m)) (first_of_each ns))) (ap not (none_left n (first_of_each ns)))
    (apart_filter (λ m k. m == k) (λ m. not (n == m)) (first_of_each ns) (firsts_differ ns))

pub all_differ : (ds : List PortDef) (cs : List Component) (is : List Instance) (ts : List WrittenTopology) (rs : List Topology) → HaveClosures ts → AreTopologies ds cs is ts rs
    → (t : ℕ) (r : Topology) → slice_get rs t ≡ Some r → numbers_differ r.instances ≡ true
all_differ ds cs is ts rs have a t r e =
    let n = a.each in
    let k = a.are.each in
    let low = slice_get_within rs t r e in
    let c = have a.closures a.closed t (omega arith) in
    let o = item_below ts t (omega arith) in
    let j = item_below a.joined t (omega arith) in
    ap numbers_differ ((a.resolved.of t o.0 c.0 j.0 r o.1 c.1 j.1 e).instances ∙ (a.are.of t o.0 c.0 j.0 o.1 c.1 j.1).instances) ∙ firsts_differ (flat_map (public_at ts) c.0 ++ instances_of o.0.instances)
