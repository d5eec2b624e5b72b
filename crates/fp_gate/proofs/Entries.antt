-- The entries of one pass, in a history that has got more, and in one that is made of other items.
use Rattle.std.proofs.Common.{◌≡◌, ◌≢◌, ℕ, Bool, true, false, List, [], ◌∷◌, ◌++◌, map, filter, sym, refl, ap, ◌∙◌, eqb, eq-eqb, cond, ne_eqb, append-nil}
use Rattle.fp_gate.specs.declared.booked.Entry.{Entry}
use Rattle.fp_gate.specs.Entries.{entries_of}

module _ {I : Type 0} where
  pub entries_of-append : (k : ℕ) (a b : List (Entry I)) → entries_of k (a ++ b) ≡ entries_of k a ++ entries_of k b
  entries_of-append k [] b = refl
  entries_of-append k (e ∷ es) b = go (entries_of-append k es b) (eqb e.by k)
    where
      go : entries_of k (es ++ b) ≡ entries_of k es ++ entries_of k b → (t : Bool) → cond t (e ∷ entries_of k (es ++ b)) (entries_of k (es ++ b)) ≡ cond t (e ∷ entries_of k es) (entries_of k es) ++ entries_of k b
      go same true = ap (λ (z : List (Entry I)). e ∷ z) same
      go same false = same

  -- the entries after the first ones are all of the pass p
  abbrev pub AllBy : ℕ → List (Entry I) → Type 0
  AllBy p es = (k : ℕ) → k ≢ p → entries_of k es ≡ []

  pub none_by : (p : ℕ) → AllBy p []
  none_by p k ne = refl

  pub one_by : (e : Entry I) → AllBy e.by (e ∷ [])
  one_by e k ne = ap (λ (t : Bool). cond t (e ∷ []) []) (ne_eqb e.by k (λ z. ne (sym z)))

  pub own_one : (e : Entry I) (p : ℕ) → e.by ≡ p → entries_of p (e ∷ []) ≡ e ∷ []
  own_one e p is = ap (λ (t : Bool). cond t (e ∷ []) []) (eq-eqb e.by p is)

  -- the entries of another pass stay
  pub same_entries : (p k : ℕ) (a b : List (Entry I)) → AllBy p b → k ≢ p → entries_of k (a ++ b) ≡ entries_of k a
  same_entries p k a b by ne = entries_of-append k a b ∙ (ap (λ (z : List (Entry I)). entries_of k a ++ z) (by k ne) ∙ append-nil (entries_of k a))

-- of a history made item by item the entries of a pass are made of the items whose entries are the pass's
pub entries_of-map : {I X : Type 0} (k : ℕ) (f : X → Entry I) (xs : List X) → entries_of k (map f xs) ≡ map f (filter (λ x. eqb (f x).by k) xs)
entries_of-map k f [] = refl
entries_of-map {I} {X} k f (x ∷ xs) = go (eqb (f x).by k) refl (entries_of-map k f xs)
  where
    go : (t : Bool) → eqb (f x).by k ≡ t → entries_of k (map f xs) ≡ map f (filter (λ x. eqb (f x).by k) xs)
        → entries_of k (map f (x ∷ xs)) ≡ map f (filter (λ x. eqb (f x).by k) (x ∷ xs))
    go true is same = rw is (ap (λ (l : List (Entry I)). f x ∷ l) same)
    go false is same = rw is same
