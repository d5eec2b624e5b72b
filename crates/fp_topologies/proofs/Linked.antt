-- Imports on a cycle are vertices on a cycle.
use Rattle.std.proofs.Common.{◌≡◌, ◌∙◌, ◌⊎◌, inl, inr, ℕ, zero, suc, ◌+◌, ◌<◌, ◌≤◌, Bool, true, false, List, [], ◌∷◌, ◌++◌, drop, length, slice_get, Option, Some, None, refl, sym, ap, subst, arith}
use Rattle.std.specs.Prelude.{unwrap_or}
use Rattle.std.proofs.lemmas.List.{length-append}
use Rattle.std.proofs.lemmas.Option.{slice_get_within}
use Rattle.fp_base.specs.Least.{InSome, IsLeast}
use Rattle.fp_base.specs.declared.refusal.Refusal.{Refusal}
use Rattle.fp_base.proofs.Calculus.{least_same}
use Rattle.fp_base.proofs.Lists.{get_front, one_item}
use Rattle.fp_base.proofs.Options.{one_some, same_some}
use Rattle.fp_base.proofs.Spots.{item_below}
use Rattle.fp_base.proofs.Mapped.{map_get, get_mapped, many_mapped}
use Rattle.fp_base.proofs.Numbers.{numbers_at, numbers_get}
use Rattle.fp_base.specs.Numbers.{numbers_from}
use Rattle.fp_graph.specs.Chains.{AreFlags, IsOnCycle, LeadsThrough, one, more}
use Rattle.fp_graph.specs.Rows.{IsListed}
use Rattle.fp_graph.proofs.Places.{get_drop, get_joined, get_right}
use Rattle.fp_graph.proofs.Leading.{leads_join}
use Rattle.fp_written_parts.specs.declared.topology.ImportedTopology.{ImportedTopology}
use Rattle.fp_written_parts.specs.declared.topology.WrittenTopology.{WrittenTopology}
use Rattle.fp_topologies.specs.declared.links.Link.{Link}
use Rattle.fp_topologies.specs.Flagged.{FlaggedLink}
use Rattle.fp_topologies.specs.Imports.{Imports, ImportsBroken, ImportsLie, Reaches}
use Rattle.fp_topologies.specs.Links.{link_by, links_from, links_in, rows_from, targets_of}

-- ---- links are imports

record IsLink (v : ℕ) (is : List ImportedTopology) (l : Link) : Type 0 where
  k : ℕ
  here : slice_get is k ≡ Some l.written
  importer : l.importer ≡ v

link_in : (v : ℕ) (is : List ImportedTopology) (j : ℕ) (l : Link) → slice_get (links_in v is) j ≡ Some l → IsLink v is l
link_in v is j l e =
    let t = get_mapped (link_by v) is j l e in
    record { k = j; here = t.1 ∙ ap (λ (x : Link). Some x.written) t.2; importer = sym (ap (λ (x : Link). x.importer) t.2) }

record LinkStands (v : ℕ) (ts : List WrittenTopology) (l : Link) : Type 0 where
  a : ℕ
  written : WrittenTopology
  here : slice_get ts a ≡ Some written
  k : ℕ
  member : slice_get written.imports k ≡ Some l.written
  importer : l.importer ≡ v + a

link_stands : (v : ℕ) (ts : List WrittenTopology) (j : ℕ) (l : Link) → slice_get (links_from v ts) j ≡ Some l → LinkStands v ts l
link_stands v [] j l e = absurd (cc)
link_stands v (o ∷ ts) j l e = go (get_joined (links_in v o.imports) (links_from (suc v) ts) l j e) (λ k h. link_stands (suc v) ts k l h)
  where
    go : (slice_get (links_in v o.imports) j ≡ Some l) ⊎ ((k : ℕ) × (j ≡ length (links_in v o.imports) + k) × (slice_get (links_from (suc v) ts) k ≡ Some l))
        → ((k : ℕ) → slice_get (links_from (suc v) ts) k ≡ Some l → LinkStands (suc v) ts l) → LinkStands v (o ∷ ts) l
    go (inl h) next =
        let i = link_in v o.imports j l h in
        let e = i.importer in
        record { a = zero; written = o; here = refl; k = i.k; member = i.here; importer = omega arith }
    go (inr t) next =
        let s = next t.0 t.2 in
        let e = s.importer in
        record { a = suc s.a; written = s.written; here = s.here; k = s.k; member = s.member; importer = omega arith }

stands_link : (v n : ℕ) (ts : List WrittenTopology) (a : ℕ) (o : WrittenTopology) (k : ℕ) (i : ImportedTopology) → n ≡ v + a → slice_get ts a ≡ Some o
    → slice_get o.imports k ≡ Some i → (j : ℕ) × (slice_get (links_from v ts) j ≡ Some (record { importer = n; written = i }))
stands_link v n [] a o k i is e m = absurd (cc)
stands_link v n (g ∷ ts) zero o k i is e m =
    let here : slice_get g.imports k ≡ Some i = subst (λ (x : WrittenTopology). slice_get x.imports k ≡ Some i) (sym (same_some e)) m in
    let own : n ≡ v = omega arith in
    let link : slice_get (links_in v g.imports) k ≡ Some (record { importer = n; written = i }) = subst (λ (w : ℕ). slice_get (links_in v g.imports) k ≡ Some (link_by w i)) (sym own) (map_get (link_by v) g.imports k i here) in
    (k, get_front (links_in v g.imports) (links_from (suc v) ts) k (record { importer = n; written = i }) link)
stands_link v n (g ∷ ts) (suc a) o k i is e m =
    let t = stands_link (suc v) n ts a o k i (omega arith) e m in
    (length (links_in v g.imports) + t.0, get_right (links_in v g.imports) (links_from (suc v) ts) (record { importer = n; written = i }) (length (links_in v g.imports) + t.0) t.0 refl t.1)

-- ---- their vertices

record IsNumberOf (first v : ℕ) (ts : List WrittenTopology) (a t : ℕ) : Type 0 where
  j : ℕ
  link : Link
  here : slice_get (links_from v ts) j ≡ Some link
  number : t ≡ first + j
  importer : link.importer ≡ v + a

rows_down : (first v : ℕ) (ts : List WrittenTopology) (a k t : ℕ) (row : List ℕ) → slice_get (rows_from first v ts) a ≡ Some row → slice_get row k ≡ Some t → IsNumberOf first v ts a t
rows_down first v [] a k t row e h = absurd (cc)
rows_down first v (o ∷ ts) zero k t row e h =
    let own = links_in v o.imports in
    let n = numbers_at first (length own) k t (subst (λ (xs : List ℕ). slice_get xs k ≡ Some t) (sym (same_some e)) h) in
    let l = item_below own k n.1 in
    let i = link_in v o.imports k l.0 l.1 in
    let is = i.importer in
    record { j = k; link = l.0; here = get_front own (links_from (suc v) ts) k l.0 l.1; number = n.0; importer = omega arith }
rows_down first v (o ∷ ts) (suc a) k t row e h =
    let own = links_in v o.imports in
    let r = rows_down (first + length own) (suc v) ts a k t row e h in
    let is = r.importer in
    let number = r.number in
    record { j = length own + r.j; link = r.link; here = get_right own (links_from (suc v) ts) r.link (length own + r.j) r.j refl r.here; number = omega arith; importer = omega arith }

record IsRowOf (first v : ℕ) (ts : List WrittenTopology) (l : Link) (t : ℕ) : Type 0 where
  a : ℕ
  importer : l.importer ≡ v + a
  row : List ℕ
  here : slice_get (rows_from first v ts) a ≡ Some row
  k : ℕ
  target : slice_get row k ≡ Some t

rows_up : (first v : ℕ) (ts : List WrittenTopology) (j t : ℕ) (l : Link) → slice_get (links_from v ts) j ≡ Some l → t ≡ first + j → IsRowOf first v ts l t
rows_up first v [] j t l e is = absurd (cc)
rows_up first v (o ∷ ts) j t l e is =
    go (get_joined (links_in v o.imports) (links_from (suc v) ts) l j e) (λ k h s. rows_up (first + length (links_in v o.imports)) (suc v) ts k t l h s)
  where
    go : (slice_get (links_in v o.imports) j ≡ Some l) ⊎ ((k : ℕ) × (j ≡ length (links_in v o.imports) + k) × (slice_get (links_from (suc v) ts) k ≡ Some l))
        → ((k : ℕ) → slice_get (links_from (suc v) ts) k ≡ Some l → t ≡ first + length (links_in v o.imports) + k → IsRowOf (first + length (links_in v o.imports)) (suc v) ts l t)
        → IsRowOf first v (o ∷ ts) l t
    go (inl h) next =
        let i = link_in v o.imports j l h in
        let e = i.importer in
        record {
          a = zero;
          importer = omega arith;
          row = numbers_from first (length (links_in v o.imports));
          here = refl;
          k = j;
          target = numbers_get first (length (links_in v o.imports)) j t (slice_get_within (links_in v o.imports) j l h) is;
        }
    go (inr s) next =
        let d = s.1 in
        let r = next s.0 s.2 (omega arith) in
        let e = r.importer in
        record { a = suc r.a; importer = omega arith; row = r.row; here = r.here; k = r.k; target = r.target }

as_many_rows : (first v : ℕ) (ts : List WrittenTopology) → length (rows_from first v ts) ≡ length ts
as_many_rows first v [] = refl
as_many_rows first v (o ∷ ts) = ap suc (as_many_rows (first + length (links_in v o.imports)) (suc v) ts)

-- ---- the graph

module _ (ts : List WrittenTopology) (within : ImportsLie ts) where
  abbrev n : ℕ
  n = length ts

  abbrev links : List Link
  links = links_from 0 ts

  abbrev front : List (List ℕ)
  front = rows_from (length ts) 0 ts

  abbrev rows : List (List ℕ)
  rows = front ++ targets_of links

  many : length rows ≡ n + length links
  many =
      length-append front (targets_of links) ∙ ap (λ (m : ℕ). m + length (targets_of links)) (as_many_rows (length ts) 0 ts)
      ∙ ap (λ (m : ℕ). length ts + m) (many_mapped (λ (l : Link). l.written.topology ∷ []) links)

  importer_within : (j : ℕ) (l : Link) → slice_get links j ≡ Some l → l.importer < n
  importer_within j l e =
      let s = link_stands 0 ts j l e in
      let low = slice_get_within ts s.a s.written s.here in
      let is = s.importer in
      omega arith

  imported_within : (j : ℕ) (l : Link) → slice_get links j ≡ Some l → l.written.topology < n
  imported_within j l e = let s = link_stands 0 ts j l e in within s.a s.written s.k l.written s.here s.member

  imports_of : (j : ℕ) (l : Link) → slice_get links j ≡ Some l → Imports ts l.importer l.written.topology
  imports_of j l e =
      let s = link_stands 0 ts j l e in
      let is : s.a ≡ l.importer = let i = s.importer in omega arith in
      record { written = s.written; here = subst (λ (m : ℕ). slice_get ts m ≡ Some s.written) is s.here; k = s.k; import_ = l.written; member = s.member; of = refl }

  record Out (a b : ℕ) : Type 0 where
    j : ℕ
    link : Link
    here : slice_get links j ≡ Some link
    from : link.importer ≡ a
    number : b ≡ n + j

  record In (a b : ℕ) : Type 0 where
    j : ℕ
    link : Link
    here : slice_get links j ≡ Some link
    number : a ≡ n + j
    to : link.written.topology ≡ b

  steps : (a b : ℕ) → IsListed rows a b → Out a b ⊎ In a b
  steps a b s = go (get_joined front (targets_of links) s.row a s.here)
    where
      go : (slice_get front a ≡ Some s.row) ⊎ ((k : ℕ) × (a ≡ length front + k) × (slice_get (targets_of links) k ≡ Some s.row)) → Out a b ⊎ In a b
      go (inl h) =
          let r = rows_down (length ts) 0 ts a s.k b s.row h s.target in
          let is = r.importer in
          inl (record { j = r.j; link = r.link; here = r.here; from = omega arith; number = r.number })
      go (inr t) =
          let m = get_mapped (λ (l : Link). l.written.topology ∷ []) links t.0 s.row t.2 in
          let many_front = as_many_rows (length ts) 0 ts in
          let is = t.1 in
          inr
          (record {
            j = t.0;
            link = m.0;
            here = m.1;
            number = omega arith;
            to = one_item s.k (subst (λ (xs : List ℕ). slice_get xs s.k ≡ Some b) (sym m.2) s.target);
          })

  out_listed : (j : ℕ) (l : Link) → slice_get links j ≡ Some l → IsListed rows l.importer (n + j)
  out_listed j l e =
      let r = rows_up (length ts) 0 ts j (n + j) l e refl in
      let is : r.a ≡ l.importer = let i = r.importer in omega arith in
      let low = slice_get_within links j l e in
      record {
        row = r.row;
        here = get_front front (targets_of links) l.importer r.row (subst (λ (m : ℕ). slice_get front m ≡ Some r.row) is r.here);
        k = r.k;
        target = r.target;
        within = subst (λ (m : ℕ). n + j < m) (sym many) (omega arith);
      }

  in_listed : (j : ℕ) (l : Link) → slice_get links j ≡ Some l → IsListed rows (n + j) l.written.topology
  in_listed j l e =
      let low = imported_within j l e in
      let all = many in
      record {
        row = l.written.topology ∷ [];
        here =
            get_right front (targets_of links) (l.written.topology ∷ []) (n + j) j (ap (λ (m : ℕ). m + j) (sym (as_many_rows (length ts) 0 ts)))
            (map_get (λ (x : Link). x.written.topology ∷ []) links j l e);
        k = zero;
        target = refl;
        within = subst (λ (m : ℕ). l.written.topology < m) (sym many) (omega arith);
      }

  -- ---- ways

  lifted_step : (v w : ℕ) → Imports ts v w → LeadsThrough (IsListed rows) v w
  lifted_step v w i =
      let t = stands_link 0 v ts v i.written i.k i.import_ (omega arith) i.here i.member in
      let l : Link = record { importer = v; written = i.import_ } in
      subst (λ (x : ℕ). LeadsThrough (IsListed rows) v x) i.of (more (one (out_listed t.0 l t.1)) (in_listed t.0 l t.1))

  lifted : {v w : ℕ} → LeadsThrough (Imports ts) v w → LeadsThrough (IsListed rows) v w
  lifted (one {from = v} {to = w} i) = lifted_step v w i
  lifted (more {between = v} {to = w} p i) = leads_join (lifted p) (lifted_step v w i)

  reaches_on : {a b c : ℕ} → Reaches ts a b → Imports ts b c → Reaches ts a c
  reaches_on {c = c} (inl e) i = inr (one (subst (λ (x : ℕ). Imports ts x c) (sym e) i))
  reaches_on (inr p) i = inr (more p i)

  -- what a way from an import leads to is reached by what it imports
  record Comes (from x : ℕ) : Type 0 where
    topology : x < n → Reaches ts from x
    link : (j : ℕ) (l : Link) → slice_get links j ≡ Some l → x ≡ n + j → Reaches ts from l.importer

  comes_first : (j : ℕ) (l : Link) (x : ℕ) → slice_get links j ≡ Some l → Out (n + j) x ⊎ In (n + j) x → Comes l.written.topology x
  comes_first j l x e (inl s) = let low = importer_within s.j s.link s.here in let is = s.from in absurd (omega arith)
  comes_first j l x e (inr s) =
      let number = s.number in
      let at : s.j ≡ j = omega arith in
      let same : s.link ≡ l = one_some (slice_get links j) s.link l (subst (λ (m : ℕ). slice_get links m ≡ Some s.link) at s.here) e in
      let to : l.written.topology ≡ x = ap (λ (y : Link). y.written.topology) (sym same) ∙ s.to in
      let low = imported_within j l e in
      record { topology = λ h. inl to; link = λ k m h is. absurd (omega arith) }

  comes_next : (from b x : ℕ) → Comes from b → Out b x ⊎ In b x → Comes from x
  comes_next from b x c (inl s) =
      let number = s.number in
      let low : b < n = let w = importer_within s.j s.link s.here in let is = s.from in omega arith in
      record {
        topology = λ h. absurd (omega arith);
        link = λ k m h is.
            let at : k ≡ s.j = omega arith in
            let same : m ≡ s.link = one_some (slice_get links s.j) m s.link (subst (λ (i : ℕ). slice_get links i ≡ Some m) at h) s.here in
            subst (Reaches ts from) (sym (ap (λ (y : Link). y.importer) same ∙ s.from)) (c.topology low);
      }
  comes_next from b x c (inr s) =
      let low : x < n = subst (λ (m : ℕ). m < n) s.to (imported_within s.j s.link s.here) in
      record {
        topology = λ h. subst (Reaches ts from) s.to (reaches_on (c.link s.j s.link s.here s.number) (imports_of s.j s.link s.here));
        link = λ k m h is. absurd (omega arith);
      }

  comes : (j : ℕ) (l : Link) → slice_get links j ≡ Some l → {a x : ℕ} → a ≡ n + j → LeadsThrough (IsListed rows) a x → Comes l.written.topology x
  comes j l e is (one {from = a} {to = x} s) = comes_first j l x e (steps (n + j) x (subst (λ (m : ℕ). IsListed rows m x) is s))
  comes j l e is (more {between = b} {to = x} p s) = comes_next l.written.topology b x (comes j l e is p) (steps b x s)

  on_cycle : (j : ℕ) (l : Link) → slice_get links j ≡ Some l → IsOnCycle (IsListed rows) (n + j) → Reaches ts l.written.topology l.importer
  on_cycle j l e c = (comes j l e refl c).link j l e refl

  cycle_on : (j : ℕ) (l : Link) → slice_get links j ≡ Some l → Reaches ts l.written.topology l.importer → IsOnCycle (IsListed rows) (n + j)
  cycle_on j l e r = more (go r) (out_listed j l e)
    where
      go : Reaches ts l.written.topology l.importer → LeadsThrough (IsListed rows) (n + j) l.importer
      go (inl same) = subst (LeadsThrough (IsListed rows) (n + j)) same (one (in_listed j l e))
      go (inr p) = leads_join (one (in_listed j l e)) (lifted p)

  -- ---- flags

  module _ (cyclic : List Bool) (flagged : AreFlags (length rows) (IsOnCycle (IsListed rows)) cyclic) where
    pub enough : length ts ≤ length cyclic
    enough = let all = many in let each = flagged.each in omega arith

    held : (o : Option Bool) → unwrap_or o false ≡ true → o ≡ Some true
    held None h = absurd (cc)
    held (Some b) h = ap Some h

    to_broken : (f : Refusal) → InSome (FlaggedLink (drop n cyclic)) links f → ImportsBroken ts f
    to_broken f t =
        let j = t.0 in
        let l = t.1 in
        let here = t.2 in
        let at : slice_get cyclic (n + j) ≡ Some true = sym (get_drop cyclic n j (n + j) refl) ∙ held (slice_get (drop n cyclic) j) t.3.1 in
        let s = link_stands 0 ts j l here in
        let is : s.a ≡ l.importer = let i = s.importer in omega arith in
        record {
          importer = l.importer;
          written = s.written;
          here = subst (λ (m : ℕ). slice_get ts m ≡ Some s.written) is s.here;
          k = s.k;
          import_ = l.written;
          member = s.member;
          back = on_cycle j l here (flagged.exact (n + j) true at);
          is = t.3.0;
        }

    yes : (b : Bool) (v : ℕ) → slice_get cyclic v ≡ Some b → IsOnCycle (IsListed rows) v → b ≡ true
    yes true v e c = refl
    yes false v e c = absurd (flagged.exact v false e c)

    from_broken : (f : Refusal) → ImportsBroken ts f → InSome (FlaggedLink (drop n cyclic)) links f
    from_broken f c =
        let t = stands_link 0 c.importer ts c.importer c.written c.k c.import_ (omega arith) c.here c.member in
        let l : Link = record { importer = c.importer; written = c.import_ } in
        let low : n + t.0 < length cyclic = let all = many in let each = flagged.each in let w = slice_get_within links t.0 l t.1 in omega arith in
        let b = item_below cyclic (n + t.0) low in
        let on = yes b.0 (n + t.0) b.1 (cycle_on t.0 l t.1 c.back) in
        (t.0, l, t.1, (c.is, ap (λ (o : Option Bool). unwrap_or o false) (get_drop cyclic n t.0 (n + t.0) refl ∙ b.1) ∙ on))

    pub least_broken : (o : Option Refusal) → IsLeast (InSome (FlaggedLink (drop n cyclic)) links) o → IsLeast (ImportsBroken ts) o
    least_broken o l = least_same to_broken from_broken l
