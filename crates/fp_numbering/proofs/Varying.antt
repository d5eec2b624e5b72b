-- When the numbers written at the ends of a pair differ.
use Rattle.std.proofs.Common.{◌≡◌, ◌∙◌, ap, refl, sym, subst, ℕ, zero, suc, ◌<◌, inl, inr, Bool, true, false, not, ◌&&◌, cond, List, [], ◌∷◌, take, Option, None, Some, slice_get, arith}
use Rattle.std.specs.Prelude.{ℤ, ◌≢◌}
use Rattle.std.specs.List.{list_any, list_all}
use Rattle.std.specs.Ordering.{int_eq}
use Rattle.std.proofs.lemmas.Cmp.{int_eq_equiv}
use Rattle.fp_base.specs.declared.refusal.Refusal.{Refusal}
use Rattle.fp_base.specs.declared.rule.Rule.TheVariants.{MatchNumbersDiffer}
use Rattle.fp_base.specs.Least.{IsLeast, broken_at}
use Rattle.fp_base.proofs.Calculus.{least_if, least_along, least_same}
use Rattle.fp_base.proofs.Bools.{join, not_true}
use Rattle.fp_numbering.specs.declared.tips.Tip.{Tip}
use Rattle.fp_numbering.specs.declared.looks.Look.{Look}
use Rattle.fp_numbering.specs.Ends.{written_number}
use Rattle.fp_numbering.specs.Pairs.{has, pairs, is_whole}
use Rattle.fp_numbering.specs.Broken.{AreDifferent}
use Rattle.fp_numbering.specs.Origins.{AreLanes}
use Rattle.fp_numbering.specs.Looks.{look_of, AreLooks, key_of, is_in, is_lone_in, said_in, noted, differ_part, differs_by}
use Rattle.fp_numbering.proofs.Unique.{both_left, both_right}
use Rattle.fp_numbering.proofs.Joining.{Member}
use Rattle.fp_numbering.proofs.Keying.{of_contains}
use Rattle.fp_numbering.proofs.Setwise.{int_same}
use Rattle.fp_numbering.proofs.Sourcing.{member_contains}
use Rattle.fp_numbering.proofs.Classing.{of_mapped, to_mapped, picked, pick, look_same, end_matched, a_pair, has_in, lone_is}

-- ---- lists

pub taken_at : {A : Type 0} (xs : List A) (k j : ℕ) (x : A) → slice_get (take k xs) j ≡ Some x → (j < k) × (slice_get xs j ≡ Some x)
taken_at [] zero j x e = cc
taken_at [] (suc k) j x e = cc
taken_at (y ∷ xs) zero j x e = cc
taken_at (y ∷ xs) (suc k) zero x e = (omega arith, e)
taken_at (y ∷ xs) (suc k) (suc j) x e = let r = taken_at xs k j x e in let l = r.0 in (omega arith, r.1)

pub at_taken : {A : Type 0} (xs : List A) (k j : ℕ) (x : A) → j < k → slice_get xs j ≡ Some x → slice_get (take k xs) j ≡ Some x
at_taken [] k j x l e = cc
at_taken (y ∷ xs) zero j x l e = absurd (omega arith)
at_taken (y ∷ xs) (suc k) zero x l e = e
at_taken (y ∷ xs) (suc k) (suc j) x l e = at_taken xs k j x (omega arith) e

-- ---- numbers that differ

not_same : (y z : ℤ) → int_eq y z ≡ false → y ≡ z → ⊥
not_same y z e s = cc (sym e ∙ subst (λ (x : ℤ). int_eq y x ≡ true) s (int_eq_equiv.refl y))

pub one_fails : (z : ℤ) (zs : List ℤ) → list_all (int_eq z) zs ≡ false → (y : ℤ) × Member y zs × (z ≡ y → ⊥)
one_fails z [] h = cc
one_fails z (x ∷ zs) h = part (int_eq z x) refl h (one_fails z zs)
  where
    part : (b : Bool) → int_eq z x ≡ b → (b && list_all (int_eq z) zs) ≡ false → (list_all (int_eq z) zs ≡ false → (y : ℤ) × Member y zs × (z ≡ y → ⊥)) → (y : ℤ) × Member y (x ∷ zs) × (z ≡ y → ⊥)
    part true e f rest = let r = rest f in (r.0, inr r.1, r.2)
    part false e f rest = (x, inl refl, not_same z x e)

all_are : (x : ℤ) (xs : List ℤ) → list_all (int_eq x) xs ≡ true → (y : ℤ) → Member y xs → y ≡ x
all_are x [] h y m = absurd m
all_are x (w ∷ xs) h y (inl e) = sym e ∙ sym (int_same x w (both_left (int_eq x w) (list_all (int_eq x) xs) h))
all_are x (w ∷ xs) h y (inr m) = all_are x xs (both_right (int_eq x w) (list_all (int_eq x) xs) h) y m

from_not_false : (b : Bool) → not b ≡ false → b ≡ true
from_not_false true e = refl
from_not_false false e = cc

alike : (zs : List ℤ) (y z : ℤ) → Member y zs → differ_part (Some z) (noted zs) ≡ false → y ≡ z
alike [] y z m e = absurd m
alike (x ∷ xs) y z m e =
    let h = from_not_false (list_all (int_eq x) xs && int_eq x z) e in
    let a = both_left (list_all (int_eq x) xs) (int_eq x z) h in
    let b = int_same x z (both_right (list_all (int_eq x) xs) (int_eq x z) h) in
    elim m [ inl s ↦ sym s ∙ b | inr n ↦ all_are x xs a y n ∙ b ]

some_differs : (zs : List ℤ) (z : ℤ) → differ_part (Some z) (noted zs) ≡ true → (y : ℤ) × Member y zs × (y ≡ z → ⊥)
some_differs [] z e = cc
some_differs (x ∷ xs) z e = part (int_eq x z) (list_all (int_eq x) xs) refl refl (not_true (list_all (int_eq x) xs && int_eq x z) e)
  where
    part : (b c : Bool) → int_eq x z ≡ b → list_all (int_eq x) xs ≡ c → (c && b) ≡ false → (y : ℤ) × Member y (x ∷ xs) × (y ≡ z → ⊥)
    part false c d f h = (x, inl refl, not_same x z d)
    part true true d f h = cc
    part true false d f h = let r = one_fails x xs f in (r.0, inr r.1, λ s. r.2 (int_same x z d ∙ sym s))

module _ (matches : ℕ → List (ℕ × ℕ)) (ts : List Tip) (label : ℕ → ℕ → ℕ) (lanes : AreLanes matches ts label) (ls : List Look) (looks : AreLooks matches ts label ls) (k : ℕ) (t : Tip) (at : slice_get ts k ≡ Some t) where
  abbrev look : Look
  look = look_of matches ts label k t

  abbrev test : Bool
  test = differs_by look (list_any (is_lone_in (key_of look)) ls) (noted (said_in (key_of look) (take k ls)))

  to_test : (f : Refusal) → AreDifferent matches ts k t f → (f ≡ broken_at MatchNumbersDiffer t.at) × (test ≡ true)
  to_test f h =
      let g = h.0 in
      let j = h.1 in
      let s = h.2 in
      let y = h.3 in
      let z = h.4 in
      let m = of_contains (pairs matches ts) g h.5.0 h.5.1 h.5.2 in
      let here = end_matched matches ts g k t m h.8 at in
      let lone = lone_is matches ts label lanes ls looks k t at here g m h.8 true h.6 in
      let inside : is_in (key_of look) (look_of matches ts label j s) ≡ true = sym (has_in matches ts label lanes ls looks k t at here g m h.8 h.6 j s h.10) ∙ h.7 in
      let member : Member y (said_in (key_of look) (take k ls)) =
      to_mapped (λ (l : Look). cond (is_in (key_of look) l) l.said None) (take k ls) j (look_of matches ts label j s) y (at_taken ls k j _ h.9 (looks.of j s h.10)) (pick (is_in (key_of look) (look_of matches ts label j s)) (written_number s) y inside h.11) in
      let front : (look.matched && not (list_any (is_lone_in (key_of look)) ls)) ≡ true = join look.matched (not (list_any (is_lone_in (key_of look)) ls)) here (ap (λ (b : Bool). not b) lone) in (
        h.14,
        join (look.matched && not (list_any (is_lone_in (key_of look)) ls)) (differ_part (written_number t) (noted (said_in (key_of look) (take k ls)))) front
            (ap (λ (o : Option ℤ). differ_part o (noted (said_in (key_of look) (take k ls)))) h.12 ∙ differ (differ_part (Some z) (noted (said_in (key_of look) (take k ls)))) refl member h.13),
      )
    where
      differ : {y z : ℤ} (b : Bool) → differ_part (Some z) (noted (said_in (key_of look) (take k ls))) ≡ b → Member y (said_in (key_of look) (take k ls)) → (y ≢ z) → differ_part (Some z) (noted (said_in (key_of look) (take k ls))) ≡ true
      differ true e m n = e
      differ {y = y} {z = z} false e m n = absurd (n (alike (said_in (key_of look) (take k ls)) y z m e))

  from_test : (f : Refusal) → (f ≡ broken_at MatchNumbersDiffer t.at) × (test ≡ true) → AreDifferent matches ts k t f
  from_test f h = by (written_number t) refl (both_right (look.matched && not (list_any (is_lone_in (key_of look)) ls)) (differ_part (written_number t) (noted (said_in (key_of look) (take k ls)))) h.1)
    where
      front : (look.matched && not (list_any (is_lone_in (key_of look)) ls)) ≡ true
      front = both_left (look.matched && not (list_any (is_lone_in (key_of look)) ls)) (differ_part (written_number t) (noted (said_in (key_of look) (take k ls)))) h.1

      here : look.matched ≡ true
      here = both_left look.matched (not (list_any (is_lone_in (key_of look)) ls)) front

      not_lone : list_any (is_lone_in (key_of look)) ls ≡ false
      not_lone = not_true (list_any (is_lone_in (key_of look)) ls) (both_right look.matched (not (list_any (is_lone_in (key_of look)) ls)) front)

      whole : (g : List ℕ) → Member g (pairs matches ts) → has g k ≡ true → (w : Bool) → is_whole matches ts g ≡ w → is_whole matches ts g ≡ true
      whole g m e true w = w
      whole g m e false w = cc (sym not_lone ∙ lone_is matches ts label lanes ls looks k t at here g m e false w)

      by : (o : Option ℤ) → written_number t ≡ o → differ_part o (noted (said_in (key_of look) (take k ls))) ≡ true → AreDifferent matches ts k t f
      by None e d = cc
      by (Some z) e d =
          let p = a_pair matches ts k t at here in
          let g = p.0 in
          let w = whole g p.2 p.3 (is_whole matches ts g) refl in
          let r = some_differs (said_in (key_of look) (take k ls)) z d in
          let y = r.0 in
          let a = of_mapped (λ (l : Look). cond (is_in (key_of look) l) l.said None) (take k ls) y r.1 in
          let j = a.0 in
          let b = taken_at ls k j a.1 a.2 in
          let x = look_same matches ts label lanes ls looks j a.1 b.1 in
          let s = x.0 in
          let c = picked (is_in (key_of look) (look_of matches ts label j s)) (written_number s) y (subst (λ (l : Look). cond (is_in (key_of look) l) l.said None ≡ Some y) x.2 a.3) in
          (g, j, s, y, z, member_contains (pairs matches ts) g p.2, w, has_in matches ts label lanes ls looks k t at here g p.2 p.3 w j s x.1 ∙ c.0, p.3, b.0, x.1, c.1, e, r.2, h.0)

  pub differ_least : (b : Bool) (o : Option Refusal) → b ≡ test → o ≡ cond b (Some (broken_at MatchNumbersDiffer t.at)) None → IsLeast (AreDifferent matches ts k t) o
  differ_least b o is e =
      least_along (sym e)
      (least_same (λ f h. from_test f h) (λ f h. to_test f h)
      (least_if {Q = test ≡ true} b (broken_at MatchNumbersDiffer t.at) (λ h. sym is ∙ h) (λ h r. cc (sym h ∙ is ∙ r))))
