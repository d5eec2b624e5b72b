-- Lists that are listed for numbers, of which one is found by its number.
use Rattle.std.proofs.Common.{◌≡◌, ◌≢◌, ℕ, zero, suc, Bool, true, false, cond, ◌||◌, ◌⊎◌, inl, inr, List, [], ◌∷◌, map, length, Some, slice_get, refl, sym, ap, subst, arith, eqb}
use Rattle.std.proofs.lemmas.Bool.Decides.{eqb_tells, nat_tests}
use Rattle.fp_events.specs.SystemRun.{row_of}
use Rattle.fp_tables.specs.Lists.{is_in}

-- where a number stands among the numbers, its list stands among the lists
pub row_found : {E : Type 0} (ns : List ℕ) (rows : List (List E)) (i : ℕ) → is_in i ns ≡ true → length rows ≡ length ns
    → (k : ℕ) × (slice_get ns k ≡ Some i) × (slice_get rows k ≡ Some (row_of ns rows i))
row_found [] rows i there long = absurd (cc)
row_found (n ∷ ns) [] i there long = absurd (omega (arith, long))
row_found (n ∷ ns) (es ∷ rows) i there long =
    let flip : eqb n i ≡ eqb i n = grind (arith, nat_tests) in
    go (eqb_tells i n) (subst (λ (b : Bool). (b || is_in i ns) ≡ true) flip there) (λ h. row_found ns rows i h (omega (arith, long)))
  where
    go : ((eqb i n ≡ true) × (i ≡ n)) ⊎ ((eqb i n ≡ false) × (i ≢ n)) → (eqb i n || is_in i ns) ≡ true
        → (is_in i ns ≡ true → (k : ℕ) × (slice_get ns k ≡ Some i) × (slice_get rows k ≡ Some (row_of ns rows i)))
        → (k : ℕ) × (slice_get (n ∷ ns) k ≡ Some i) × (slice_get (es ∷ rows) k ≡ Some (cond (eqb i n) es (row_of ns rows i)))
    go (inl is) there again = (zero, ap Some (sym is.1), rw is.0 refl)
    go (inr is) there again =
        let r = again (rw is.0 at there) in
        (suc r.0, r.1, rw is.0 r.2)

-- of lists whose items are mapped the one of a number is that one with its items mapped
pub row_of-mapped : {X Y : Type 0} (f : X → Y) (ns : List ℕ) (rows : List (List X)) (i : ℕ) → row_of ns (map (λ xs. map f xs) rows) i ≡ map f (row_of ns rows i)
row_of-mapped f [] rows i = refl
row_of-mapped f (n ∷ ns) [] i = refl
row_of-mapped {X} {Y} f (n ∷ ns) (xs ∷ rows) i = go (eqb i n) (row_of-mapped f ns rows i)
  where
    go : (b : Bool) → row_of ns (map (λ xs. map f xs) rows) i ≡ map f (row_of ns rows i)
        → cond b (map f xs) (row_of ns (map (λ xs. map f xs) rows) i) ≡ map f (cond b xs (row_of ns rows i))
    go true again = refl
    go false again = again
