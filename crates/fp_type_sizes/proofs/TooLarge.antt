-- Types that are too large, from the table of sizes.
use Rattle.std.proofs.Common.{◌≡◌, ℕ, ◌<◌, ◌≤◌, ◌⊎◌, inl, inr, Bool, true, false, not, cond, List, [], ◌∷◌, Option, Some, None, refl, sym, ◌∙◌, subst}
use Rattle.std.specs.Prelude.{MatchBool}
use Rattle.fp_base.specs.declared.place.Place.{Place}
use Rattle.fp_base.specs.declared.refusal.Refusal.{Refusal}
use Rattle.fp_base.specs.declared.rule.Rule.TheVariants.{ValueTooLarge}
use Rattle.fp_tables.specs.declared.kind.Kind.{Kind}
use Rattle.fp_tables.specs.declared.kind.Kind.TheVariants as kind
use Rattle.fp_base.specs.Least.{broken_at, IsLeast}
use Rattle.fp_base.proofs.Calculus.{least_flag, least_along}
use Rattle.fp_type_sizes.specs.declared.written.WrittenType.{WrittenType}
use Rattle.fp_type_sizes.specs.declared.written.TypeExtent.{TypeExtent}
use Rattle.fp_type_sizes.specs.Sizes.{IsTooLarge}
use Rattle.fp_type_sizes.specs.Found.{AreExtents}
use Rattle.fp_type_sizes.specs.Sized.{kind_extent, is_few, is_large_if}
use Rattle.fp_type_sizes.specs.Large.{IsTypeLarge}
use Rattle.fp_type_sizes.proofs.NoCycle.{apart}
use Rattle.fp_type_sizes.proofs.Counted.{kind_holds, kind_only}
use Rattle.fp_type_sizes.proofs.Limits.{is_sound, misses_none, few_of, of_few}
use Rattle.fp_base.proofs.Spots.{before_or_not}
use Rattle.fp_base.proofs.Options.{no_some}

module _ (ws : List WrittenType) (table : List (Option TypeExtent)) (are : AreExtents ws table) (k : Kind) where
  flag_of : (x : TypeExtent) (b : Bool) → is_few x.size ≡ b → kind_extent table k ≡ Some x → MatchBool (not b) (IsTooLarge ws k) (IsTooLarge ws k → ⊥)
  flag_of x true few is =
      let p = kind_holds ws table k x (is_sound ws table are) is in
      let f = few_of ws table are p.leaves p.levels x.size p.size few in
      λ large. apart (p.leaves, p.levels, p.measures, f.0, f.1) large
  flag_of x false few is =
      let p = kind_holds ws table k x (is_sound ws table are) is in
      (p.leaves, p.levels, p.measures, more p.leaves p.levels (λ l h. let e : true ≡ false = sym (of_few ws table are p.leaves p.levels x.size p.size l h) ∙ few in cc))
    where
      more : (a b : ℕ) → (a ≤ 65536 → b ≤ 64 → ⊥) → (65536 < a) ⊎ (64 < b)
      more a b not_both = go (before_or_not 65536 a)
        where
          go : (65536 < a) ⊎ (a ≤ 65536) → (65536 < a) ⊎ (64 < b)
          go (inl h) = inl h
          go (inr h) = over (before_or_not 64 b)
            where
              over : (64 < b) ⊎ (b ≤ 64) → (65536 < a) ⊎ (64 < b)
              over (inl g) = inr g
              over (inr g) = absurd (not_both h g)

  flag_from : (o : Option TypeExtent) → kind_extent table k ≡ o → MatchBool (is_large_if o) (IsTooLarge ws k) (IsTooLarge ws k → ⊥)
  flag_from None is = λ large. let x = kind_only ws table k large.0 large.1 (misses_none ws table are (k ∷ [])) large.2 in no_some (sym is ∙ x.1)
  flag_from (Some x) is = flag_of x (is_few x.size) refl is

  pub large_flag : (b : Bool) → b ≡ is_large_if (kind_extent table k) → MatchBool b (IsTooLarge ws k) (IsTooLarge ws k → ⊥)
  large_flag b e = subst (λ (x : Bool). MatchBool x (IsTooLarge ws k) (IsTooLarge ws k → ⊥)) (sym e) (flag_from (kind_extent table k) refl)

pub large_least : (ws : List WrittenType) (table : List (Option TypeExtent)) (are : AreExtents ws table) (i : ℕ) (place : Place) (b : Bool) (o : Option Refusal)
    → b ≡ is_large_if (kind_extent table (kind.Named i)) → o ≡ cond b (Some (broken_at ValueTooLarge place)) None → IsLeast (IsTypeLarge ws i place) o
large_least ws table are i place b o e d = least_along (sym d) (least_flag (IsTooLarge ws (kind.Named i)) b (broken_at ValueTooLarge place) (large_flag ws table are (kind.Named i) b e))
