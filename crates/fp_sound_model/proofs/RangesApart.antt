-- The ranges of ids that instances take.
use Rattle.std.proofs.Common.{◌≡◌, ℕ, suc, ◌+◌, ◌<◌, ◌≤◌, Bool, true, false, not, ◌&&◌, ◌||◌, leb, List, [], ◌∷◌, ◌++◌, map, length, take, get_or, Option, None, Some, refl, sym, ap, ◌∙◌, arith, append-nil}
use Rattle.std.specs.List.{list_any, filter_map, cons_option}
use Rattle.std.specs.List.Sorted.{IsPermutation, IsNonDecreasingBy}
use Rattle.std.proofs.lemmas.List.{take_more}
use Rattle.std.proofs.lemmas.List.Elements.{filter_map-append}
use Rattle.std.proofs.lemmas.List.Sorted.{IsPermutation-sym}
use Rattle.std.proofs.lemmas.Map.Keys.{IsDistinct-IsPermutation}
use Rattle.std.proofs.lemmas.Bool.Decides.{nat_tests, same_from_decides}
use Rattle.fp_tables.specs.Lists.{apart}
use Rattle.fp_tables.specs.Instances.{overlap}
use Rattle.fp_sound_model.specs.IdRanges.{ends_of, rise_above}
use Rattle.fp_tables.proofs.Differing.{apart-Decides, apart-map}

-- ---- what an optional value adds to a list

module _ {X Y : Type 0} (h : X → Option Y) (xs : List X) (i : ℕ) (x : X) (lt : i < length xs) (e : x ≡ get_or xs i x) where
  grown : filter_map h (take (i + 1) xs) ≡ filter_map h (take i xs) ++ filter_map h (x ∷ [])
  grown =
      ap (filter_map h) (take_more xs i x lt) ∙ filter_map-append h (take i xs) (get_or xs i x ∷ []) ∙ ap (λ y. filter_map h (take i xs) ++ filter_map h (y ∷ [])) (sym e)

  pub one_more : (y : Y) → Some y ≡ h x → filter_map h (take (i + 1) xs) ≡ filter_map h (take i xs) ++ y ∷ []
  one_more y s = grown ∙ rw (sym s) refl

  pub none_more : None ≡ h x → filter_map h (take (i + 1) xs) ≡ filter_map h (take i xs)
  none_more s = grown ∙ rw (sym s) (append-nil (filter_map h (take i xs)))

-- ---- ranges in order

abbrev meet : ℕ × ℕ → ℕ × ℕ → Bool
meet q r = overlap (Some (ends_of q)) (Some (ends_of r))

meets_alike : (q r : ℕ × ℕ) → meet q r ≡ meet r q
meets_alike q r = grind (arith, nat_tests)

-- no list of ranges that begin above one meets it
above : (q r : ℕ × ℕ) → q.0 + q.1 < r.0 → meet q r ≡ false
above q r lt = grind (arith, nat_tests)

abbrev Ascend : List (ℕ × ℕ) → Type 0
Ascend = IsNonDecreasingBy (λ (r : ℕ × ℕ). r.0)

rest_ascend : (r : ℕ × ℕ) (rs : List (ℕ × ℕ)) → Ascend (r ∷ rs) → Ascend rs
rest_ascend r rs h = λ i j d ij lt. h (suc i) (suc j) d (omega arith) (omega arith)

next_above : (q r : ℕ × ℕ) (rs : List (ℕ × ℕ)) → Ascend (q ∷ r ∷ rs) → q.0 ≤ r.0
next_above q r rs h = h 0 1 q (omega arith) (omega arith)

none_meet : (p q : ℕ × ℕ) (rs : List (ℕ × ℕ)) → Ascend (q ∷ rs) → p.0 + p.1 < q.0 → list_any (meet p) rs ≡ false
none_meet p q [] h lt = refl
none_meet p q (r ∷ rs) h lt =
    let on : q.0 ≤ r.0 = next_above q r rs h in
    rw (above p r (omega arith)) (none_meet p r rs (rest_ascend q (r ∷ rs) h) (omega arith))

rise_apart : (q : ℕ × ℕ) (rs : List (ℕ × ℕ)) → Ascend (q ∷ rs) → rise_above (Some (q.0 + q.1)) rs ≡ (not (list_any (meet q) rs) && apart meet rs)
rise_apart q [] h = refl
rise_apart q (r ∷ rs) h = go (rise_apart r rs (rest_ascend q (r ∷ rs) h)) (leb r.0 (q.0 + q.1)) refl
  where
    on : q.0 ≤ r.0
    on = next_above q r rs h

    later : Ascend (r ∷ rs)
    later = rest_ascend q (r ∷ rs) h

    go : rise_above (Some (r.0 + r.1)) rs ≡ (not (list_any (meet r) rs) && apart meet rs) → (b : Bool) → leb r.0 (q.0 + q.1) ≡ b → (not (leb r.0 (q.0 + q.1)) && rise_above (Some (r.0 + r.1)) rs) ≡ (not (meet q r || list_any (meet q) rs) && apart meet (r ∷ rs))
    go rest true e =
        let first : q.0 ≤ r.0 = on in
        let met : meet q r ≡ true = grind (arith, nat_tests) in
        rw (met, e) refl
    go rest false e =
        let lt : q.0 + q.1 < r.0 = grind (arith, nat_tests) in
        rw (above q r lt, none_meet q r rs later lt, e) rest

pub ascending_apart : (rs : List (ℕ × ℕ)) → Ascend rs → rise_above None rs ≡ apart meet rs
ascending_apart [] h = refl
ascending_apart (r ∷ rs) h = rise_apart r rs h

pub moved_apart : (qs rs : List (ℕ × ℕ)) → IsPermutation qs rs → apart meet rs ≡ apart meet qs
moved_apart qs rs moved =
    let before = apart-Decides meet qs in
    let after = apart-Decides meet rs in
    same_from_decides _ _ after (
      λ h. IsDistinct-IsPermutation meet meets_alike qs rs moved (before.0 h),
      λ h. before.1 (IsDistinct-IsPermutation meet meets_alike rs qs (IsPermutation-sym qs rs moved) h),
    )

-- ---- instances without ids

abbrev both_meet : ℕ × ℕ → ℕ × ℕ → Bool
both_meet q r = overlap (Some q) (Some r)

module _ {X : Type 0} (h : X → Option (ℕ × ℕ)) where
  none_meets : (xs : List X) → list_any (overlap None) (map h xs) ≡ false
  none_meets [] = refl
  none_meets (x ∷ xs) = none_meets xs

  some_meets : (q : ℕ × ℕ) (xs : List X) → list_any (overlap (Some q)) (map h xs) ≡ list_any (both_meet q) (filter_map h xs)
  some_meets q [] = refl
  some_meets q (x ∷ xs) = go (some_meets q xs) (h x)
    where
      go : list_any (overlap (Some q)) (map h xs) ≡ list_any (both_meet q) (filter_map h xs) → (o : Option (ℕ × ℕ)) → (overlap (Some q) o || list_any (overlap (Some q)) (map h xs)) ≡ list_any (both_meet q) (cons_option o (filter_map h xs))
      go rest None = rest
      go rest (Some r) = ap (λ b. both_meet q r || b) rest

  somes_apart : (xs : List X) → apart overlap (map h xs) ≡ apart both_meet (filter_map h xs)
  somes_apart [] = refl
  somes_apart (x ∷ xs) = go (somes_apart xs) (h x)
    where
      go : apart overlap (map h xs) ≡ apart both_meet (filter_map h xs) → (o : Option (ℕ × ℕ)) → (not (list_any (overlap o) (map h xs)) && apart overlap (map h xs)) ≡ apart both_meet (cons_option o (filter_map h xs))
      go rest None = rw (none_meets xs) rest
      go rest (Some q) = rw (some_meets q xs, rest) refl

  pub sorted_apart : (xs : List X) (rs sorted : List (ℕ × ℕ)) → map ends_of rs ≡ filter_map h xs → IsPermutation rs sorted → Ascend sorted → rise_above None sorted ≡ apart overlap (map h xs)
  sorted_apart xs rs sorted same moved ascend =
      ascending_apart sorted ascend ∙ moved_apart rs sorted moved ∙ apart-map meet both_meet ends_of (λ q r. refl) rs ∙ ap (apart both_meet) same ∙ sym (somes_apart xs)
