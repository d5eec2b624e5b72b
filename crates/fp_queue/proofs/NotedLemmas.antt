-- Which lanes are noted as in use.
use Rattle.std.proofs.Common.{◌≡◌, ◌≢◌, ℕ, ◌+◌, ◌<◌, cond, min, nat_eq, nat_lt, List, ◌∷◌, length, get_or, set, refl, sym, ap, subst, ◌∙◌, arith, ⊎_elim}
use Rattle.std.specs.List.{All, count_by}
use Rattle.std.specs.List.Sorted.{IsPermutation}
use Rattle.std.specs.declared.collections.VecDeque.{VecDeque}
use Rattle.std.specs.declared.alloc.Global.{Global}
use Rattle.std.proofs.lemmas.Bool.{cond_both, cases_eq, eq-eqb, ne_eqb}
use Rattle.std.proofs.lemmas.List.{get_or-set_same, get_or-set_other, length-set}
use Rattle.std.proofs.lemmas.List.Sums.{sum_by-set}
use Rattle.std.proofs.lemmas.List.Sorted.{sum_by-IsPermutation, length_permutation, All-permutation}
use Rattle.std.proofs.lemmas.List.Elements.{All-cons, All-tail}
use Rattle.fp_queue.specs.Lanes.{is_in_use, AreNoted}
use Rattle.fp_queue.proofs.CountLemmas.{count_by-cons, count_by-misses, used}

-- 1 at the number, and else 0
abbrev at_one : ℕ → ℕ → ℕ → ℕ
at_one at k n = cond (nat_eq at k) n 0

at_own : (at n : ℕ) → at_one at at n ≡ n
at_own at n = rw (eq-eqb at at refl) refl

at_other : (at k n : ℕ) → k ≢ at → at_one at k n ≡ 0
at_other at k n ne = rw (ne_eqb at k (λ e. ne (sym e))) refl

module _ {M : Type 0} where
  total_set : (lanes : List (VecDeque M Global)) (at : ℕ) (d lane : VecDeque M Global) → at < length lanes
      → count_by is_in_use (set lanes at lane) + min 1 (length (get_or lanes at d).items) ≡ count_by is_in_use lanes + min 1 (length lane.items)
  total_set lanes at d lane h =
      let e = sum_by-set (λ (l : VecDeque M Global). cond (is_in_use l) 1 0) lanes at lane d h in
      let f = used (length (get_or lanes at d).items) in let g = used (length lane.items) in
      omega arith

  -- one lane changes, and what is noted changes with it
  note_step : (lanes : List (VecDeque M Global)) (noted now : List ℕ) (at : ℕ) (d lane : VecDeque M Global) → AreNoted lanes noted → at < length lanes
      → ((k : ℕ) → count_by (λ j. nat_eq j k) now + at_one at k (min 1 (length (get_or lanes at d).items)) ≡ count_by (λ j. nat_eq j k) noted + at_one at k (min 1 (length lane.items)))
      → length now + min 1 (length (get_or lanes at d).items) ≡ length noted + min 1 (length lane.items)
      → All (λ i. i < length lanes) now
      → AreNoted (set lanes at lane) now
  note_step lanes noted now at d lane a h counts lengths within = record {
    each = λ i e below.
        let l : i < length lanes = subst (λ n. i < n) (length-set lanes at lane) below in
        ⊎_elim
        (λ own. let c = counts at in let was = a.each at d h in let x = at_own at (min 1 (length (get_or lanes at d).items)) in let y = at_own at (min 1 (length lane.items)) in
        let z : count_by (λ j. nat_eq j at) now ≡ min 1 (length lane.items) = omega arith in
        subst (λ n. count_by (λ j. nat_eq j n) now ≡ min 1 (length (get_or (set lanes at lane) n e).items)) (sym own) (z ∙ ap (λ (v : VecDeque M Global). min 1 (length v.items)) (sym (get_or-set_same lanes at lane e h))))
        (λ ne. let c = counts i in let was = a.each i e l in let x = at_other at i (min 1 (length (get_or lanes at d).items)) ne in let y = at_other at i (min 1 (length lane.items)) ne in
        let z : count_by (λ j. nat_eq j i) now ≡ min 1 (length (get_or lanes i e).items) = omega arith in
        z ∙ ap (λ (v : VecDeque M Global). min 1 (length v.items)) (sym (get_or-set_other lanes at i lane e ne)))
        (cases_eq i at);
    within = subst (λ n. All (λ i. i < n) now) (sym (length-set lanes at lane)) within;
    total = let t = total_set lanes at d lane h in let w = a.total in omega arith;
  }

  -- the lane stays in use, or out of use
  pub note_kept : (lanes : List (VecDeque M Global)) (noted : List ℕ) (at : ℕ) (d lane : VecDeque M Global) → AreNoted lanes noted → at < length lanes
      → min 1 (length (get_or lanes at d).items) ≡ min 1 (length lane.items) → AreNoted (set lanes at lane) noted
  note_kept lanes noted at d lane a h e =
      note_step lanes noted noted at d lane a h (λ k. ap (λ n. count_by (λ j. nat_eq j k) noted + at_one at k n) e) (ap (λ n. length noted + n) e) a.within

  -- the lane comes into use, and its number is noted
  pub note_added : (lanes : List (VecDeque M Global)) (noted now : List ℕ) (at : ℕ) (d lane : VecDeque M Global) → AreNoted lanes noted → at < length lanes
      → length (get_or lanes at d).items ≡ 0 → 0 < length lane.items → IsPermutation (at ∷ noted) now → AreNoted (set lanes at lane) now
  note_added lanes noted now at d lane a h was is moved =
      let e : min 1 (length (get_or lanes at d).items) ≡ 0 = omega arith in let f : min 1 (length lane.items) ≡ 1 = omega arith in
      note_step lanes noted now at d lane a h
      (λ k. let c = sum_by-IsPermutation (λ j. cond (nat_eq j k) 1 0) (at ∷ noted) now moved in let b = count_by-cons (λ j. nat_eq j k) at noted in
      rw (e, f) (let x : at_one at k 0 ≡ 0 = cond_both (nat_eq at k) 0 0 (λ n. n ≡ 0) (λ _. refl) (λ _. refl) in omega arith))
      (let c = length_permutation (at ∷ noted) now moved in omega arith)
      (All-permutation (λ i. i < length lanes) (at ∷ noted) now moved (All-cons (λ i. i < length lanes) at noted h a.within))

  -- the lane falls out of use, and its number goes
  pub note_dropped : (lanes : List (VecDeque M Global)) (noted now : List ℕ) (at : ℕ) (d lane : VecDeque M Global) → AreNoted lanes noted → at < length lanes
      → 0 < length (get_or lanes at d).items → length lane.items ≡ 0 → IsPermutation noted (at ∷ now) → AreNoted (set lanes at lane) now
  note_dropped lanes noted now at d lane a h was is moved =
      let e : min 1 (length (get_or lanes at d).items) ≡ 1 = omega arith in let f : min 1 (length lane.items) ≡ 0 = omega arith in
      note_step lanes noted now at d lane a h
      (λ k. let c = sum_by-IsPermutation (λ j. cond (nat_eq j k) 1 0) noted (at ∷ now) moved in let b = count_by-cons (λ j. nat_eq j k) at now in
      rw (e, f) (let x : at_one at k 0 ≡ 0 = cond_both (nat_eq at k) 0 0 (λ n. n ≡ 0) (λ _. refl) (λ _. refl) in omega arith))
      (let c = length_permutation noted (at ∷ now) moved in omega arith)
      (All-tail (λ i. i < length lanes) at now (All-permutation (λ i. i < length lanes) noted (at ∷ now) moved a.within))

  -- there is room to note a lane that is out of use
  pub room_to_note : (lanes : List (VecDeque M Global)) (noted : List ℕ) (at : ℕ) (d : VecDeque M Global) → AreNoted lanes noted → at < length lanes → length (get_or lanes at d).items ≡ 0 → length noted < length lanes
  room_to_note lanes noted at d a h e =
      let c = count_by-misses is_in_use lanes at d h (ap (λ n. nat_lt 0 n) e) in let t = a.total in omega arith
