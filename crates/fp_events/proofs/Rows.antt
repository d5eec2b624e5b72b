-- Rows of entries, each with a number of its own.
use Rattle.std.proofs.Common.{◌≡◌, ℕ, ◌≤◌, List, length, ◌⊎◌, inl, inr, [], ◌∷◌, ◌++◌, eqb, true, false, refl, sym, ap, ap₂, ◌∙◌, ◌≢◌, arith, eq-eqb, append-nil, subst}
use Rattle.std.specs.List.{AllByRecursion, IsDistinct}
use Rattle.std.proofs.lemmas.Bool.Decides.{eqb_tells}
use Rattle.std.proofs.lemmas.List.Elements.{filter-append}
use Rattle.fp_events.specs.System.{System, Laws}
use Rattle.fp_events.specs.SystemRun.{InTurn, InstanceStep, row_of, joined, projection}
use Rattle.fp_events.proofs.Turns.{projection-here, projection-other}

-- the entries have this number
pub record Owned {E : Type 0} (number : E → ℕ) (n : ℕ) (es : List E) : Type 0 where
  pub own : projection number n es ≡ es
  pub other : (k : ℕ) → n ≢ k → projection number k es ≡ []

absent_row : {E : Type 0} (n : ℕ) (ns : List ℕ) (rows : List (List E)) → AllByRecursion (λ m. eqb n m ≡ false) ns → row_of ns rows n ≡ []
absent_row n [] rows h = refl
absent_row n (m ∷ ns) [] h = refl
absent_row n (m ∷ ns) (es ∷ rows) h = rw h.0 (absent_row n ns rows h.1)

first_row : {E : Type 0} (n : ℕ) (ns : List ℕ) (es : List E) (rows : List (List E)) → row_of (n ∷ ns) (es ∷ rows) n ≡ es
first_row n ns es rows = rw (eq-eqb n n refl) refl

later_row : {E : Type 0} (n i : ℕ) (ns : List ℕ) (es : List E) (rows : List (List E)) → eqb i n ≡ false → row_of (n ∷ ns) (es ∷ rows) i ≡ row_of ns rows i
later_row n i ns es rows h = rw h refl

module _ {E : Type 0} (number : E → ℕ) where
  none_owned : (k : ℕ) → Owned number k []
  none_owned k = record { own = refl; other = λ j differ. refl }

  -- a row more before those of other numbers
  module _ (n : ℕ) (ns : List ℕ) (es : List E) (rows : List (List E)) (apart : AllByRecursion (λ m. eqb n m ≡ false) ns)
      (owned : (i : ℕ) → Owned number i (row_of (n ∷ ns) (es ∷ rows) i)) where
    later_owned : (k : ℕ) → Owned number k (row_of ns rows k)
    later_owned k = by_test (eqb_tells k n)
      where
        by_test : ((eqb k n ≡ true) × (k ≡ n)) ⊎ ((eqb k n ≡ false) × (k ≢ n)) → Owned number k (row_of ns rows k)
        by_test (inl is) = subst (Owned number k) (sym (ap (row_of ns rows) is.1 ∙ absent_row n ns rows apart)) (none_owned k)
        by_test (inr is) = subst (Owned number k) (later_row n k ns es rows is.0) (owned k)

    one_row_more : ((i : ℕ) → projection number i (joined rows) ≡ row_of ns rows i) → (i : ℕ) → projection number i (es ++ joined rows) ≡ row_of (n ∷ ns) (es ∷ rows) i
    one_row_more rest i = filter-append (λ e. eqb (number e) i) es (joined rows) ∙ by_test (eqb_tells i n)
      where
        mine : Owned number n es
        mine = subst (Owned number n) (first_row n ns es rows) (owned n)

        by_test : ((eqb i n ≡ true) × (i ≡ n)) ⊎ ((eqb i n ≡ false) × (i ≢ n)) → projection number i es ++ projection number i (joined rows) ≡ row_of (n ∷ ns) (es ∷ rows) i
        by_test (inl is) =
            ap₂ ◌++◌ (ap (λ k. projection number k es) is.1 ∙ mine.own) (rest i ∙ ap (row_of ns rows) is.1 ∙ absent_row n ns rows apart)
            ∙ append-nil es ∙ sym (ap (row_of (n ∷ ns) (es ∷ rows)) is.1 ∙ first_row n ns es rows)
        by_test (inr is) = ap₂ ◌++◌ (mine.other i (λ same. is.1 (sym same))) (rest i) ∙ sym (later_row n i ns es rows is.0)

  -- rows of distinct numbers, joined: the entries of a number are its row
  pub row_of_joined : (ns : List ℕ) (rows : List (List E)) → length rows ≤ length ns → IsDistinct eqb ns
      → ((i : ℕ) → Owned number i (row_of ns rows i)) → (i : ℕ) → projection number i (joined rows) ≡ row_of ns rows i
  unfolding IsDistinct
  row_of_joined [] [] few distinct owned i = refl
  row_of_joined [] (es ∷ rows) few distinct owned i = absurd (omega (arith, few))
  row_of_joined (n ∷ ns) [] few distinct owned i = refl
  row_of_joined (n ∷ ns) (es ∷ rows) few distinct owned i =
      one_row_more n ns es rows distinct.0 owned (row_of_joined ns rows (omega (arith, few)) distinct.1 (later_owned n ns es rows distinct.0 owned)) i

module _ {S A Q E : Type 0} (y : System S A Q E) (laws : Laws y) where
  -- each entry of a history has its instance
  pub kept_owned : (i : ℕ) (es : List E) (s t : S) → InTurn (InstanceStep y i) s es t → Owned y.instance i es
  kept_owned i [] s t h = record { own = refl; other = λ k differ. refl }
  kept_owned i (e ∷ es) s t h =
      let given = laws.gives _ _ _ _ _ _ _ h.1.part in
      let rest = kept_owned i es h.0 t h.2 in
      record {
        own = projection-here y.instance i e es given.instance ∙ ap (λ l. e ∷ l) rest.own;
        other = λ k differ. projection-other y.instance k e es (λ is. differ (sym given.instance ∙ is)) ∙ rest.other k differ;
      }
