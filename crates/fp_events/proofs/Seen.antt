-- Histories agree with traces where each entry stands with the stamp of its actor that was seen.
use Rattle.std.proofs.Common.{◌≡◌, ℕ, suc, max, ◌<◌, Bool, true, false, List, [], ◌∷◌, ◌++◌, map, filter, eqb, refl, sym, ap, ap₂, subst, ◌∙◌, arith}
use Rattle.fp_events.specs.System.{System}
use Rattle.fp_events.specs.SystemRun.{projection, with_before, IsTimed, IsSeen, Agree, at, by, last_or, Rises}
use Rattle.fp_events.proofs.Turns.{projection-split}
use Rattle.fp_events.proofs.Sorting.{Rises-filter}
use Rattle.fp_events.proofs.Agreement.{Rises-member}

pub filter-map : {X Y : Type 0} (f : X → Y) (p : Y → Bool) → (xs : List X) → filter p (map f xs) ≡ map f (filter (λ x. p (f x)) xs)
filter-map f p [] = refl
filter-map {X} {Y} f p (x ∷ xs) = go (p (f x)) refl (filter-map f p xs)
  where
    go : (b : Bool) → p (f x) ≡ b → filter p (map f xs) ≡ map f (filter (λ x. p (f x)) xs) → filter p (map f (x ∷ xs)) ≡ map f (filter (λ x. p (f x)) (x ∷ xs))
    go true is h = rw is (ap (λ l. f x ∷ l) h)
    go false is h = rw is h

-- where the images have an entry, the list has one that gives it
map_at : {X Y : Type 0} (f : X → Y) (xs : List X) (before : List Y) (e : Y) (rest : List Y) → map f xs ≡ before ++ e ∷ rest
    → (early : List X) × (x : X) × (late : List X) × (xs ≡ early ++ x ∷ late) × (map f early ≡ before) × (f x ≡ e)
map_at f [] [] e rest h = absurd (cc)
map_at f [] (b ∷ before) e rest h = absurd (cc)
map_at f (x ∷ xs) [] e rest h = ([], x, xs, refl, refl, cc)
map_at f (x ∷ xs) (b ∷ before) e rest h =
    let first : f x ≡ b = cc in
    let p = map_at f xs before e rest (cc) in
    (x ∷ p.0, p.1, p.2, ap (λ l. x ∷ l) p.3, ap₂ ◌∷◌ first p.4, p.5)

module _ {E : Type 0} (stamp : E → ℕ) where
  with_before-entries : (n : ℕ) (es : List E) → map (λ (p : E × ℕ). p.0) (with_before stamp n es) ≡ es
  with_before-entries n [] = refl
  with_before-entries n (e ∷ es) = ap (λ l. e ∷ l) (with_before-entries (stamp e) es)

  with_before-split : (n : ℕ) (before : List E) (e : E) (rest : List E)
      → with_before stamp n (before ++ e ∷ rest) ≡ with_before stamp n before ++ (e, last_or stamp n before) ∷ with_before stamp (stamp e) rest
  with_before-split n [] e rest = refl
  with_before-split n (b ∷ before) e rest = ap (λ l. (b, n) ∷ l) (with_before-split (stamp b) before e rest)

  with_before-rises : (n m : ℕ) (es : List E) → Rises stamp m es → Rises (λ (p : E × ℕ). stamp p.0) m (with_before stamp n es)
  with_before-rises n m [] h = tt
  with_before-rises n m (e ∷ es) h = (h.0, with_before-rises (stamp e) (stamp e) es h.1)

  timed_at : (n : ℕ) (before : List (E × ℕ)) (p : E × ℕ) (rest : List (E × ℕ)) → IsTimed stamp n (before ++ p ∷ rest)
      → stamp p.0 ≡ suc (max (last_or stamp n (map (λ (p : E × ℕ). p.0) before)) p.1)
  timed_at n [] p rest h = h.0
  timed_at n (b ∷ before) p rest h = timed_at (stamp b.0) before p rest h.1

  -- in a rising list entries with one stamp are one
  Rises-unique : (n : ℕ) (before : List E) (d : E) (rest early : List E) (e : E) (late : List E)
      → Rises stamp n (before ++ d ∷ rest) → before ++ d ∷ rest ≡ early ++ e ∷ late → stamp d ≡ stamp e → d ≡ e
  Rises-unique n [] d rest [] e late h same is = cc
  Rises-unique n [] d rest (x ∷ early) e late h same is =
      let tail : rest ≡ early ++ e ∷ late = cc in
      let above : stamp d < stamp e = Rises-member stamp early (stamp d) e late (subst (Rises stamp (stamp d)) tail h.1) in
      absurd (omega arith)
  Rises-unique n (b ∷ before) d rest [] e late h same is =
      let head : b ≡ e = cc in
      let above : stamp b < stamp d = Rises-member stamp before (stamp b) d rest h.1 in
      absurd (omega (arith, ap stamp head))
  Rises-unique n (b ∷ before) d rest (x ∷ early) e late h same is = Rises-unique (stamp b) before d rest early e late h.1 (cc) is

module _ {S A Q E : Type 0} (y : System S A Q E) (held : ℕ → List (E × ℕ)) (traces : ℕ → List E) (seen : IsSeen y held traces) where
  abbrev entry : E × ℕ → E
  entry p = p.0

  seen_entries : (i a : ℕ) → by y a (map entry (held i)) ≡ at y i (traces a)
  seen_entries i a =
      filter-map entry (λ e. eqb (y.actor e) a) (held i)
      ∙ ap (map entry) (seen.left i a)
      ∙ sym (filter-map entry (λ e. eqb (y.instance e) i) (with_before y.stamp 0 (traces a)))
      ∙ ap (at y i) (with_before-entries y.stamp 0 (traces a))

  -- the stamp that was seen is the one before the entry in its trace
  seen_before : (e : E) (early : List (E × ℕ)) (p : E × ℕ) (late : List (E × ℕ)) (before rest : List E) → Rises y.stamp 0 (traces (y.actor e)) → p.0 ≡ e
      → held (y.instance e) ≡ early ++ p ∷ late → traces (y.actor e) ≡ before ++ e ∷ rest → p.1 ≡ last_or y.stamp 0 before
  seen_before e early p late before rest rises is here mine =
      ap (λ (p : E × ℕ). p.1)
      (Rises-unique (λ (p : E × ℕ). y.stamp p.0) 0 mine_before p mine_rest its_before (e, last_or y.stamp 0 before) its_rest
      (subst (Rises (λ (p : E × ℕ). y.stamp p.0) 0) (sym (seen.left (y.instance e) (y.actor e)) ∙ left_here)
      (Rises-filter (λ (p : E × ℕ). y.stamp p.0) (λ p. eqb (y.instance p.0) (y.instance e)) (with_before y.stamp 0 (traces (y.actor e))) 0
      (with_before-rises y.stamp 0 0 (traces (y.actor e)) rises)))
      (sym left_here ∙ seen.left (y.instance e) (y.actor e) ∙ left_mine)
      (ap y.stamp is))
    where
      mine_before : List (E × ℕ)
      mine_before = projection (λ p. y.actor p.0) (y.actor e) early

      mine_rest : List (E × ℕ)
      mine_rest = projection (λ p. y.actor p.0) (y.actor e) late

      its_before : List (E × ℕ)
      its_before = projection (λ p. y.instance p.0) (y.instance e) (with_before y.stamp 0 before)

      its_rest : List (E × ℕ)
      its_rest = projection (λ p. y.instance p.0) (y.instance e) (with_before y.stamp (y.stamp e) rest)

      left_here : projection (λ p. y.actor p.0) (y.actor e) (held (y.instance e)) ≡ mine_before ++ p ∷ mine_rest
      left_here =
          ap (projection (λ p. y.actor p.0) (y.actor e)) here
          ∙ subst (λ d. projection (λ p. y.actor p.0) (y.actor d) (early ++ p ∷ late) ≡ projection (λ p. y.actor p.0) (y.actor d) early ++ p ∷ projection (λ p. y.actor p.0) (y.actor d) late) is
          (projection-split (λ (p : E × ℕ). y.actor p.0) early p late)

      left_mine : projection (λ p. y.instance p.0) (y.instance e) (with_before y.stamp 0 (traces (y.actor e))) ≡ its_before ++ (e, last_or y.stamp 0 before) ∷ its_rest
      left_mine =
          ap (λ l. projection (λ p. y.instance p.0) (y.instance e) (with_before y.stamp 0 l)) mine
          ∙ ap (projection (λ p. y.instance p.0) (y.instance e)) (with_before-split y.stamp 0 before e rest)
          ∙ projection-split (λ (p : E × ℕ). y.instance p.0) (with_before y.stamp 0 before) (e, last_or y.stamp 0 before) (with_before y.stamp (y.stamp e) rest)

  pub seen_agree : ((a : ℕ) → Rises y.stamp 0 (traces a)) → Agree y (λ i. map entry (held i)) traces
  seen_agree rises = record {
    entries = seen_entries;
    stamps = λ e earlier later before rest here mine.
        let p = map_at entry (held (y.instance e)) earlier e later here in
        let stamp = timed_at y.stamp 0 p.0 p.1 p.2 (subst (IsTimed y.stamp 0) p.3 (seen.timed (y.instance e))) in
        sym (ap y.stamp p.5) ∙ stamp
        ∙ ap₂ (λ m n. suc (max m n)) (ap (last_or y.stamp 0) p.4)
        (seen_before e p.0 p.1 p.2 before rest (rises (y.actor e)) p.5 p.3 mine);
  }
