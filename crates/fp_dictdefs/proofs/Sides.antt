-- The limits of a channel, one after another.
use Rattle.std.proofs.Common.{◌≡◌, ℕ, ◌+◌, ◌≤◌, ◌⊎◌, inl, inr, Bool, true, false, cond, not, ◌||◌, MatchBool, List, length, slice_get, Option, Some, None, is_eq, refl, sym, ap, subst, ◌∙◌, arith}
use Rattle.fp_base.specs.declared.refusal.Refusal.{Refusal}
use Rattle.fp_base.specs.declared.rule.Rule.TheVariants.{BadLimits}
use Rattle.fp_base.specs.Least.{broken_at, InFirst, InSome, IsLeast, lesser_of}
use Rattle.fp_base.proofs.Calculus.{least_flag, least_along}
use Rattle.fp_base.proofs.Elements.{least_first_none, least_next, least_of_all}
use Rattle.fp_base.proofs.Options.{same_some}
use Rattle.fp_base.proofs.Numbers.{pos_same}
use Rattle.fp_tree.specs.declared.dictionary.Color.{Color}
use Rattle.fp_tree.specs.declared.dictionary.Color.TheVariants.{Yellow, Orange, Red}
use Rattle.fp_written_parts.specs.declared.dictionary.WrittenLimit.{WrittenLimit}
use Rattle.fp_dictdefs.specs.Broken.{BrokenAt, Side, side_of}
use Rattle.fp_dictdefs.specs.Repeated.{HasPart, IsRepeated}
use Rattle.fp_dictdefs.specs.Tested.{Long, color_number, key_of, limit_key, long_cmp, side_number}
use Rattle.fp_dictdefs.proofs.Pairs.{long_itself, longs_equal}
use Rattle.fp_dictdefs.proofs.Noting.{AreNoted, flag_same, noted_none, noted_next, repeat_told}

-- ---- a key tells a side and a color

pub colors_same : (a b : Color) → color_number a ≡ color_number b → a ≡ b
colors_same Yellow Yellow e = refl
colors_same Yellow Orange e = absurd (omega (arith, e))
colors_same Yellow Red e = absurd (omega (arith, e))
colors_same Orange Yellow e = absurd (omega (arith, e))
colors_same Orange Orange e = refl
colors_same Orange Red e = absurd (omega (arith, e))
colors_same Red Yellow e = absurd (omega (arith, e))
colors_same Red Orange e = absurd (omega (arith, e))
colors_same Red Red e = refl

highs_same : (a b : Bool) → side_number a ≡ side_number b → a ≡ b
highs_same true true e = refl
highs_same true false e = absurd (omega (arith, e))
highs_same false true e = absurd (omega (arith, e))
highs_same false false e = refl

same_side : (a b : Bool) (c d : Color) → a ≡ b → c ≡ d → ◌≡◌ {A = Side} (a, c) (b, d)
same_side a b c d e f = subst (λ (x : Bool). ◌≡◌ {A = Side} (a, c) (x, d)) e (subst (λ (y : Color). ◌≡◌ {A = Side} (a, c) (a, y)) f refl)

sides_same : (l m : WrittenLimit) → limit_key l ≡ limit_key m → side_of l ≡ side_of m
sides_same l m e =
    same_side l.high m.high l.color m.color (highs_same l.high m.high (ap (λ (p : Long). p.1) e))
    (colors_same l.color m.color (pos_same (color_number l.color) (color_number m.color) (ap (λ (p : Long). p.0) e)))

either_flag : (R : Type 0) (again fits : Bool) → MatchBool again R (R → ⊥) → MatchBool (again || not fits) ((fits ≡ false) ⊎ R) ((fits ≡ false) ⊎ R → ⊥)
either_flag R true fits h = inr h
either_flag R false true h = none
  where
    none : (◌≡◌ {A = Bool} true false) ⊎ R → ⊥
    none (inl e) = cc
    none (inr r) = h r
either_flag R false false h = inl refl

module _ (fits : Bool) (limits : List WrittenLimit) where
  to_sides : (k : ℕ) → IsRepeated (HasPart limit_key limits) k → IsRepeated (HasPart side_of limits) k
  to_sides k (q, e, l, there, here) = (side_of here.0, e, l, (there.0, there.1, sides_same there.0 here.0 (there.2 ∙ sym here.2)), (here.0, here.1, refl))

  to_keys : (k : ℕ) → IsRepeated (HasPart side_of limits) k → IsRepeated (HasPart limit_key limits) k
  to_keys k (q, e, l, there, here) = (limit_key here.0, e, l, (there.0, there.1, ap key_of (there.2 ∙ sym here.2)), (here.0, here.1, refl))

  abbrev pub LimitAt : ℕ → WrittenLimit → Refusal → Type 0
  LimitAt k l = BrokenAt BadLimits l.at ((fits ≡ false) ⊎ IsRepeated (HasPart side_of limits) k)

  pub record LimitsFirst (k : ℕ) (first : Option Refusal) (had : Long → Bool) : Type 0 where
    pub least : IsLeast (InFirst k LimitAt limits) first
    pub noted : AreNoted (HasPart limit_key limits) k had

  pub limits_none : (had : Long → Bool) → ((q : Long) → had q ≡ false) → LimitsFirst 0 None had
  limits_none had none = record { least = least_first_none LimitAt limits; noted = noted_none (HasPart limit_key limits) had none }

  limits_next : (k : ℕ) (x : WrittenLimit) (first more fault : Option Refusal) (had later : Long → Bool) → slice_get limits k ≡ Some x → more ≡ lesser_of first fault
      → fault ≡ cond (had (limit_key x) || not fits) (Some (broken_at BadLimits x.at)) None → ((q : Long) → later q ≡ (had q || is_eq (long_cmp (limit_key x) q)))
      → LimitsFirst k first had → LimitsFirst (k + 1) more later
  limits_next k x first more fault had later at is found adds before = record {
    least = least_next LimitAt limits k x first more fault at is (least_along (sym found) (least_flag ((fits ≡ false) ⊎ IsRepeated (HasPart side_of limits) k) (had (limit_key x) || not fits) (broken_at BadLimits x.at) flag)) before.least;
    noted = noted_next (HasPart limit_key limits) k had later (λ q. is_eq (long_cmp (limit_key x) q)) adds tells told before.noted;
  }
    where
      only : (p : Long) → HasPart limit_key limits k p → p ≡ limit_key x
      only p t = sym t.2 ∙ ap limit_key (same_some (sym t.1 ∙ at))

      tells : (q : Long) → is_eq (long_cmp (limit_key x) q) ≡ true → HasPart limit_key limits k q
      tells q e = (x, at, longs_equal (limit_key x) q e)

      told : (q : Long) → HasPart limit_key limits k q → is_eq (long_cmp (limit_key x) q) ≡ true
      told q t = subst (λ (r : Long). is_eq (long_cmp (limit_key x) r) ≡ true) (sym (only q t)) (long_itself (limit_key x))

      again : MatchBool (had (limit_key x)) (IsRepeated (HasPart side_of limits) k) (IsRepeated (HasPart side_of limits) k → ⊥)
      again =
          flag_same (IsRepeated (HasPart limit_key limits) k) (IsRepeated (HasPart side_of limits) k) (to_sides k) (to_keys k) (had (limit_key x))
          (repeat_told (HasPart limit_key limits) k (limit_key x) had (x, at, refl) only before.noted (had (limit_key x)) refl)

      flag : MatchBool (had (limit_key x) || not fits) ((fits ≡ false) ⊎ IsRepeated (HasPart side_of limits) k) ((fits ≡ false) ⊎ IsRepeated (HasPart side_of limits) k → ⊥)
      flag = either_flag (IsRepeated (HasPart side_of limits) k) (had (limit_key x)) fits again

  -- the same by what each step of the loop tells
  pub limits_step : (k : ℕ) (x : WrittenLimit) (first more fault : Option Refusal) (had later : Long → Bool) (again : Bool) (key : Long) → slice_get limits k ≡ Some x
      → more ≡ lesser_of first fault → fault ≡ cond (again || not fits) (Some (broken_at BadLimits x.at)) None → again ≡ had key → key ≡ limit_key x
      → ((q : Long) → later q ≡ (had q || is_eq (long_cmp key q))) → LimitsFirst k first had → LimitsFirst (k + 1) more later
  limits_step k x first more fault had later again key at is found seen keyed adds before =
      limits_next k x first more fault had later at is
      (found ∙ ap (λ (b : Bool). cond (b || not fits) (Some (broken_at BadLimits x.at)) None) (seen ∙ ap had keyed))
      (λ q. adds q ∙ ap (λ (p : Long). had q || is_eq (long_cmp p q)) keyed) before

  pub limits_all : (k : ℕ) (first : Option Refusal) (had : Long → Bool) → length limits ≤ k → LimitsFirst k first had → IsLeast (InSome LimitAt limits) first
  limits_all k first had past h = least_of_all LimitAt limits k first past h.least
