-- Vertices that get numbers, and rows that get targets.
use Rattle.std.proofs.Common.{◌≡◌, ◌≢◌, ◌∙◌, ◌⊎◌, inl, inr, ℕ, ◌+◌, ◌<◌, Bool, true, false, cond, List, [], ◌∷◌, ◌++◌, length, slice_get, Some, None, refl, sym, ap, subst, arith, length-append}
use Rattle.std.specs.declared.cmp.Ordering.{Ordering}
use Rattle.std.specs.BTreeMap.{BTreeMap, is_at}
use Rattle.fp_graph.specs.Visits.{Among}
use Rattle.fp_base.proofs.Lists.{get_front, get_last}
use Rattle.fp_base.proofs.Options.{one_some, same_some}
use Rattle.fp_base.proofs.Spots.{item_below, get_push, same_or_other}
use Rattle.fp_reach.specs.Rings.{Tells, Step, IsTarget, IsNumbered, Numbers, IsLinked, number_in}
use Rattle.fp_reach.proofs.Amid.{among_left, among_right, among_either}

-- ---- one vertex more

target_kept : (rows : List (List ℕ)) (row : List ℕ) (a b : ℕ) → IsTarget rows a b → IsTarget (rows ++ row ∷ []) a b
target_kept rows row a b t = record { row = t.row; here = get_front rows (row ∷ []) a t.row t.here; k = t.k; target = t.target }

target_before : (rows : List (List ℕ)) (a b : ℕ) → IsTarget (rows ++ [] ∷ []) a b → IsTarget rows a b
target_before rows a b t = go (get_push rows [] t.row a t.here)
  where
    go : (slice_get rows a ≡ Some t.row) ⊎ ((a ≡ length rows) × ([] ≡ t.row)) → IsTarget rows a b
    go (inl h) = record { row = t.row; here = h; k = t.k; target = t.target }
    go (inr h) = let none : slice_get [] t.k ≡ Some b = subst (λ (xs : List ℕ). slice_get xs t.k ≡ Some b) (sym h.1) t.target in absurd (cc)

module _ {K : Type 0} (cmp : K → K → Ordering) where
  -- of a vertex that has its number
  pub numbered_before : (x : K) (n : ℕ) (numbers : BTreeMap K ℕ) (rows : List (List ℕ)) → number_in cmp numbers x ≡ Some n → Numbers cmp x n numbers numbers rows rows
  numbered_before x n numbers rows e = record { here = e; kept = λ tells y k h. h; same = λ tells edges g. g }

  module _ (x : K) (n : ℕ) (before after : BTreeMap K ℕ) (rows : List (List ℕ)) (free : number_in cmp before x ≡ None) (at : n ≡ length rows)
      (updates : (q : K) → number_in cmp after q ≡ cond (is_at (cmp x) q) (Some n) (number_in cmp before q)) (here : number_in cmp after x ≡ Some n) (tells : Tells cmp) where
    kept_by : (y : K) (k : ℕ) (b : Bool) → is_at (cmp x) y ≡ b → number_in cmp before y ≡ Some k → number_in cmp after y ≡ Some k
    kept_by y k true is e = let same : x ≡ y = tells x y is in let none : number_in cmp before y ≡ None = subst (λ (z : K). number_in cmp before z ≡ None) same free in absurd (cc)
    kept_by y k false is e = updates y ∙ ap (λ (b : Bool). cond b (Some n) (number_in cmp before y)) is ∙ e

    fresh_kept : (y : K) (k : ℕ) → number_in cmp before y ≡ Some k → number_in cmp after y ≡ Some k
    fresh_kept y k e = kept_by y k (is_at (cmp x) y) refl e

    from_by : (y : K) (k : ℕ) (b : Bool) → is_at (cmp x) y ≡ b → number_in cmp after y ≡ Some k → (number_in cmp before y ≡ Some k) ⊎ ((x ≡ y) × (k ≡ length rows))
    from_by y k true is e = inr (tells x y is, sym (same_some (sym (updates y ∙ ap (λ (b : Bool). cond b (Some n) (number_in cmp before y)) is) ∙ e)) ∙ at)
    from_by y k false is e = inl (sym (updates y ∙ ap (λ (b : Bool). cond b (Some n) (number_in cmp before y)) is) ∙ e)

    fresh_from : (y : K) (k : ℕ) → number_in cmp after y ≡ Some k → (number_in cmp before y ≡ Some k) ⊎ ((x ≡ y) × (k ≡ length rows))
    fresh_from y k e = from_by y k (is_at (cmp x) y) refl e

    more : length (rows ++ [] ∷ []) ≡ length rows + 1
    more = length-append rows ([] ∷ [])

    module _ (edges : List (K × K)) (g : IsNumbered cmp edges before rows) where
      within_by : (y : K) (k : ℕ) → (number_in cmp before y ≡ Some k) ⊎ ((x ≡ y) × (k ≡ length rows)) → k < length (rows ++ [] ∷ [])
      within_by y k (inl e) = let low = g.within y k e in let m = more in omega arith
      within_by y k (inr e) = let m = more in let same = e.1 in omega arith

      one_by : (y z : K) (k : ℕ) → (number_in cmp before y ≡ Some k) ⊎ ((x ≡ y) × (k ≡ length rows)) → (number_in cmp before z ≡ Some k) ⊎ ((x ≡ z) × (k ≡ length rows)) → y ≡ z
      one_by y z k (inl d) (inl e) = g.one y z k d e
      one_by y z k (inl d) (inr e) = let low = g.within y k d in let same = e.1 in absurd (omega arith)
      one_by y z k (inr d) (inl e) = let low = g.within z k e in let same = d.1 in absurd (omega arith)
      one_by y z k (inr d) (inr e) = sym d.0 ∙ e.0

      fresh_numbered : IsNumbered cmp edges after (rows ++ [] ∷ [])
      fresh_numbered = record {
        within = λ y k e. within_by y k (fresh_from y k e);
        one = λ y z k d e. one_by y z k (fresh_from y k d) (fresh_from z k e);
        listed = λ y z s. let t = g.listed y z s in (t.0, t.1, fresh_kept y t.0 t.2, fresh_kept z t.1 t.3, target_kept rows [] t.0 t.1 t.4);
        stands = λ a b l. let t = g.stands a b (target_before rows a b l) in (t.0, t.1, fresh_kept t.0 a t.2, fresh_kept t.1 b t.3, t.4);
      }

  -- of one that gets the next number
  pub numbered_now : (x : K) (n : ℕ) (before after : BTreeMap K ℕ) (rows rows_after : List (List ℕ)) → number_in cmp before x ≡ None → n ≡ length rows
      → ((q : K) → number_in cmp after q ≡ cond (is_at (cmp x) q) (Some n) (number_in cmp before q)) → number_in cmp after x ≡ Some n → rows_after ≡ rows ++ [] ∷ []
      → Numbers cmp x n before after rows rows_after
  numbered_now x n before after rows rows_after free at updates here is = record {
    here = here;
    kept = λ tells y k e. fresh_kept x n before after rows free at updates here tells y k e;
    same = λ tells edges g. subst (λ (r : List (List ℕ)). IsNumbered cmp edges after r) (sym is) (fresh_numbered x n before after rows free at updates here tells edges g);
  }

-- ---- one target more

module _ (a b : ℕ) (rows after : List (List ℕ)) (linked : IsLinked a b rows after) where
  linked_by : (p q : ℕ) → (p ≡ a) ⊎ (p ≢ a) → IsTarget rows p q → IsTarget after p q
  linked_by p q (inl same) t =
      let at_a : slice_get rows a ≡ Some t.row = subst (λ (n : ℕ). slice_get rows n ≡ Some t.row) same t.here in
      record {
        row = t.row ++ b ∷ [];
        here = subst (λ (n : ℕ). slice_get after n ≡ Some (t.row ++ b ∷ [])) (sym same) (linked.here t.row at_a);
        k = t.k;
        target = get_front t.row (b ∷ []) t.k q t.target;
      }
  linked_by p q (inr other) t = record { row = t.row; here = linked.others p other ∙ t.here; k = t.k; target = t.target }

  linked_kept : (p q : ℕ) → IsTarget rows p q → IsTarget after p q
  linked_kept p q t = linked_by p q (same_or_other p a) t

  linked_here : a < length rows → IsTarget after a b
  linked_here low =
      let old = item_below rows a low in
      record { row = old.0 ++ b ∷ []; here = linked.here old.0 old.1; k = length old.0; target = get_last old.0 b }

  linked_at : (q : ℕ) → a < length rows → IsTarget after a q → IsTarget rows a q ⊎ (b ≡ q)
  linked_at q low t =
      let old = item_below rows a low in
      let same : old.0 ++ b ∷ [] ≡ t.row = one_some (slice_get after a) (old.0 ++ b ∷ []) t.row (linked.here old.0 old.1) t.here in
      go old.0 old.1 (get_push old.0 b q t.k (subst (λ (xs : List ℕ). slice_get xs t.k ≡ Some q) (sym same) t.target))
    where
      go : (old : List ℕ) → slice_get rows a ≡ Some old → (slice_get old t.k ≡ Some q) ⊎ ((t.k ≡ length old) × (b ≡ q)) → IsTarget rows a q ⊎ (b ≡ q)
      go old here (inl h) = inl (record { row = old; here = here; k = t.k; target = h })
      go old here (inr h) = inr h.1

  linked_before : (p q : ℕ) → a < length rows → (p ≡ a) ⊎ (p ≢ a) → IsTarget after p q → IsTarget rows p q ⊎ ((a ≡ p) × (b ≡ q))
  linked_before p q low (inl same) t = go (linked_at q low (subst (λ (n : ℕ). IsTarget after n q) same t))
    where
      go : IsTarget rows a q ⊎ (b ≡ q) → IsTarget rows p q ⊎ ((a ≡ p) × (b ≡ q))
      go (inl h) = inl (subst (λ (n : ℕ). IsTarget rows n q) (sym same) h)
      go (inr h) = inr (sym same, h)
  linked_before p q low (inr other) t = inl (record { row = t.row; here = sym (linked.others p other) ∙ t.here; k = t.k; target = t.target })

  module _ {K : Type 0} (cmp : K → K → Ordering) (edges : List (K × K)) (numbers : BTreeMap K ℕ) (x y : K) (g : IsNumbered cmp edges numbers rows)
      (at_x : number_in cmp numbers x ≡ Some a) (at_y : number_in cmp numbers y ≡ Some b) where
    listed_by : (u v : K) → Step edges u v ⊎ Among {A = K × K} ((x, y) ∷ []) (u, v) → (p q : ℕ) × (number_in cmp numbers u ≡ Some p) × (number_in cmp numbers v ≡ Some q) × IsTarget after p q
    listed_by u v (inl s) = let t = g.listed u v s in (t.0, t.1, t.2, t.3, linked_kept t.0 t.1 t.4)
    listed_by u v (inr (inl e)) = (
      a,
      b,
      subst (λ (z : K). number_in cmp numbers z ≡ Some a) (ap (λ (w : K × K). w.0) e) at_x,
      subst (λ (z : K). number_in cmp numbers z ≡ Some b) (ap (λ (w : K × K). w.1) e) at_y,
      linked_here (g.within x a at_x),
    )
    listed_by u v (inr (inr h)) = absurd h

    stands_by : (p q : ℕ) → IsTarget rows p q ⊎ ((a ≡ p) × (b ≡ q)) → (u v : K) × (number_in cmp numbers u ≡ Some p) × (number_in cmp numbers v ≡ Some q) × Step (edges ++ (x, y) ∷ []) u v
    stands_by p q (inl t) = let s = g.stands p q t in (s.0, s.1, s.2, s.3, among_left edges ((x, y) ∷ []) (s.0, s.1) s.4)
    stands_by p q (inr e) = (
      x,
      y,
      at_x ∙ ap Some e.0,
      at_y ∙ ap Some e.1,
      among_right edges ((x, y) ∷ []) (x, y) (inl refl),
    )

    pub one_edge_more : IsNumbered cmp (edges ++ (x, y) ∷ []) numbers after
    one_edge_more = record {
      within = λ z n e. let low = g.within z n e in let each = linked.each in omega arith;
      one = g.one;
      listed = λ u v s. listed_by u v (among_either edges ((x, y) ∷ []) (u, v) s);
      stands = λ p q t. stands_by p q (linked_before p q (g.within x a at_x) (same_or_other p a) t);
    }

-- an edge whose ends get their numbers one after the other
pub edge_added : {K : Type 0} (cmp : K → K → Ordering) (x y : K) (a b : ℕ) (m0 m1 m2 : BTreeMap K ℕ) (r0 r1 r2 r3 : List (List ℕ)) → Numbers cmp x a m0 m1 r0 r1 → Numbers cmp y b m1 m2 r1 r2
    → IsLinked a b r2 r3 → Tells cmp → (edges : List (K × K)) → IsNumbered cmp edges m0 r0 → IsNumbered cmp (edges ++ (x, y) ∷ []) m2 r3
edge_added cmp x y a b m0 m1 m2 r0 r1 r2 r3 first second linked tells edges g =
    one_edge_more a b r2 r3 linked cmp edges m2 x y (second.same tells edges (first.same tells edges g)) (second.kept tells x a first.here) second.here
