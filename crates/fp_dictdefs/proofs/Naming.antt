-- The least that has the name of an earlier one.
use Rattle.std.proofs.Common.{◌≡◌, true, cond, ◌||◌, ℕ, ◌+◌, ◌≤◌, List, [], length, slice_get, Option, Some, None, refl, sym, ap, ◌∙◌, BTreeSet, bytes_eq}
use Rattle.std.proofs.lemmas.Slice.Eq.{bytes_eq-Decides}
use denote.Ref.{Bor}
use Rattle.fp_base.proofs.Calculus.{least_flag, least_along}
use Rattle.fp_base.proofs.Elements.{least_first_none, least_first_next, least_in_one, least_of_all}
use Rattle.fp_base.proofs.Options.{same_some}
use Rattle.fp_base.proofs.KeySets.{no_name}
use Rattle.fp_base.specs.NameSets.{has_name}
use Rattle.fp_base.specs.Least.{broken_at, InFirst, InSome, IsLeast, lesser_of}
use Rattle.fp_base.specs.declared.place.Place.{Place}
use Rattle.fp_base.specs.declared.refusal.Refusal.{Refusal}
use Rattle.fp_base.specs.declared.rule.Rule.{Rule}
use Rattle.fp_dictdefs.specs.Broken.{BrokenAt}
use Rattle.fp_dictdefs.specs.Repeated.{HasPart, IsRepeated}
use Rattle.fp_dictdefs.proofs.Noting.{AreNoted, noted_none, noted_next, repeat_told}

-- ---- names of elements

module _ {A : Type 0} (rule : Rule) (name_of : A → List ℕ) (place_of : A → Place) (xs : List A) where
  abbrev RepeatsAt : ℕ → A → Refusal → Type 0
  RepeatsAt k x = BrokenAt rule (place_of x) (IsRepeated (HasPart name_of xs) k)

  -- of the first so many
  pub record NamesFirst (k : ℕ) (first : Option Refusal) (seen : BTreeSet (Bor (List ℕ))) : Type 0 where
    pub least : IsLeast (InFirst k RepeatsAt xs) first
    pub noted : AreNoted (HasPart name_of xs) k (has_name seen)

  pub names_none : (seen : BTreeSet (Bor (List ℕ))) → seen.keys ≡ [] → NamesFirst 0 None seen
  names_none seen empty = record { least = least_first_none RepeatsAt xs; noted = noted_none (HasPart name_of xs) (has_name seen) (no_name seen empty) }

  pub names_next : (k : ℕ) (x : A) (first more fault : Option Refusal) (old new : BTreeSet (Bor (List ℕ))) → slice_get xs k ≡ Some x → more ≡ lesser_of first fault
      → fault ≡ cond (has_name old (name_of x)) (Some (broken_at rule (place_of x))) None
      → ((q : List ℕ) → has_name new q ≡ (has_name old q || bytes_eq q (name_of x))) → NamesFirst k first old → NamesFirst (k + 1) more new
  names_next k x first more fault old new at is found adds before = record {
    least =
        least_along (sym is)
        (least_first_next RepeatsAt xs k first fault before.least
        (least_in_one RepeatsAt xs k x fault at
        (least_along (sym found)
        (least_flag (IsRepeated (HasPart name_of xs) k) (has_name old (name_of x)) (broken_at rule (place_of x))
        (repeat_told (HasPart name_of xs) k (name_of x) (has_name old) (x, at, refl) only before.noted (has_name old (name_of x)) refl)))));
    noted = noted_next (HasPart name_of xs) k (has_name old) (has_name new) (λ q. bytes_eq q (name_of x)) adds tells told before.noted;
  }
    where
      only : (p : List ℕ) → HasPart name_of xs k p → p ≡ name_of x
      only p t = sym t.2 ∙ ap name_of (same_some (sym t.1 ∙ at))

      tells : (q : List ℕ) → bytes_eq q (name_of x) ≡ true → HasPart name_of xs k q
      tells q e = (x, at, sym ((bytes_eq-Decides q (name_of x)).0 e))

      told : (q : List ℕ) → HasPart name_of xs k q → bytes_eq q (name_of x) ≡ true
      told q t = (bytes_eq-Decides q (name_of x)).1 (only q t)

  pub names_all : (k : ℕ) (first : Option Refusal) (seen : BTreeSet (Bor (List ℕ))) → length xs ≤ k → NamesFirst k first seen → IsLeast (InSome RepeatsAt xs) first
  names_all k first seen past h = least_of_all RepeatsAt xs k first past h.least
