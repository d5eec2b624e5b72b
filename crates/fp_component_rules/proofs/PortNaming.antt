-- The least parameter that has the name of an earlier one.
use Rattle.std.proofs.Common.{◌≡◌, Bool, true, false, cond, ◌||◌, MatchBool, ◌⊎◌, inl, inr, ℕ, ◌+◌, ◌<◌, ◌≤◌, List, [], length, slice_get, Option, Some, None, refl, sym, ap, subst, ◌∙◌, arith, BTreeSet, bytes_eq}
use Rattle.std.proofs.lemmas.Slice.Eq.{bytes_eq-Decides}
use denote.Ref.{Bor}
use Rattle.fp_base.proofs.Bools.{or_cases, or_left, or_right, not_both}
use Rattle.fp_base.proofs.Calculus.{least_flag, least_along}
use Rattle.fp_base.proofs.Elements.{least_first_none, least_next, least_of_all}
use Rattle.fp_base.proofs.Options.{same_some}
use Rattle.fp_base.proofs.Spots.{below_or_at}
use Rattle.fp_base.proofs.KeySets.{no_name}
use Rattle.fp_base.specs.NameSets.{has_name}
use Rattle.fp_base.specs.Least.{broken_at, InFirst, IsLeast, lesser_of}
use Rattle.fp_base.specs.declared.refusal.Refusal.{Refusal}
use Rattle.fp_base.specs.declared.rule.Rule.TheVariants.{ParameterRepeated}
use Rattle.fp_written_parts.specs.declared.port.WrittenFormal.{WrittenFormal}
use Rattle.fp_component_rules.specs.PortBroken.{HasName, IsRepeated, RepeatedAt, RepeatedFormals}

-- ---- names of parameters

module _ (ps : List WrittenFormal) where
  -- what was seen is what the first so many have
  pub record AreSeen (n : ℕ) (had : List ℕ → Bool) : Type 0 where
    pub to : (q : List ℕ) → had q ≡ true → (k : ℕ) × (k < n) × HasName ps k q
    pub from : (k : ℕ) (q : List ℕ) → k < n → HasName ps k q → had q ≡ true

  seen_none : (had : List ℕ → Bool) → ((q : List ℕ) → had q ≡ false) → AreSeen 0 had
  seen_none had none = record { to = λ q e. not_both e (none q); from = λ k q l h. absurd (omega arith) }

  seen_next : (n : ℕ) (had later is : List ℕ → Bool) → ((q : List ℕ) → later q ≡ (had q || is q)) → ((q : List ℕ) → is q ≡ true → HasName ps n q)
      → ((q : List ℕ) → HasName ps n q → is q ≡ true) → AreSeen n had → AreSeen (n + 1) later
  seen_next n had later is adds tells told seen = record {
    to = λ q e. found q (or_cases (had q) (is q) (sym (adds q) ∙ e));
    from = λ k q l h. adds q ∙ there k q h (below_or_at k n l);
  }
    where
      found : (q : List ℕ) → (had q ≡ true) ⊎ (is q ≡ true) → (k : ℕ) × (k < n + 1) × HasName ps k q
      found q (inl e) = let t = seen.to q e in let l = t.1 in (t.0, omega arith, t.2)
      found q (inr e) = (n, omega arith, tells q e)

      there : (k : ℕ) (q : List ℕ) → HasName ps k q → (k < n) ⊎ (k ≡ n) → (had q || is q) ≡ true
      there k q h (inl l) = or_left (had q) (is q) (seen.from k q l h)
      there k q h (inr s) = or_right (had q) (is q) (told q (subst (λ (i : ℕ). HasName ps i q) s h))

  -- the name of the next one is repeated exactly where it was seen
  repeat_told : (n : ℕ) (q : List ℕ) (had : List ℕ → Bool) → HasName ps n q → ((p : List ℕ) → HasName ps n p → p ≡ q) → AreSeen n had → (b : Bool) → had q ≡ b
      → MatchBool b (IsRepeated ps n) (IsRepeated ps n → ⊥)
  repeat_told n q had here only seen true e = let t = seen.to q e in (q, t.0, t.1, t.2, here)
  repeat_told n q had here only seen false e = λ r. not_both (seen.from r.1 q r.2 (subst (λ (p : List ℕ). HasName ps r.1 p) (only r.0 r.4) r.3)) e

  -- of the first so many
  pub record NamesFirst (k : ℕ) (first : Option Refusal) (seen : BTreeSet (Bor (List ℕ))) : Type 0 where
    pub least : IsLeast (InFirst k (RepeatedAt ps) ps) first
    pub seen_are : AreSeen k (has_name seen)

  pub names_none : (seen : BTreeSet (Bor (List ℕ))) → seen.keys ≡ [] → NamesFirst 0 None seen
  names_none seen empty = record { least = least_first_none (RepeatedAt ps) ps; seen_are = seen_none (has_name seen) (no_name seen empty) }

  pub names_next : (k : ℕ) (x : WrittenFormal) (first more fault : Option Refusal) (old new : BTreeSet (Bor (List ℕ))) → slice_get ps k ≡ Some x → more ≡ lesser_of first fault
      → fault ≡ cond (has_name old x.name) (Some (broken_at ParameterRepeated x.at)) None
      → ((q : List ℕ) → has_name new q ≡ (has_name old q || bytes_eq q x.name)) → NamesFirst k first old → NamesFirst (k + 1) more new
  names_next k x first more fault old new at is found adds before = record {
    least =
        least_next (RepeatedAt ps) ps k x first more fault at is
        (least_along (sym found)
        (least_flag (IsRepeated ps k) (has_name old x.name) (broken_at ParameterRepeated x.at)
        (repeat_told k x.name (has_name old) (x, at, refl) only before.seen_are (has_name old x.name) refl)))
        before.least;
    seen_are = seen_next k (has_name old) (has_name new) (λ q. bytes_eq q x.name) adds tells told before.seen_are;
  }
    where
      only : (p : List ℕ) → HasName ps k p → p ≡ x.name
      only p t = sym t.2 ∙ ap (λ (y : WrittenFormal). y.name) (same_some (sym t.1 ∙ at))

      tells : (q : List ℕ) → bytes_eq q x.name ≡ true → HasName ps k q
      tells q e = (x, at, sym ((bytes_eq-Decides q x.name).0 e))

      told : (q : List ℕ) → HasName ps k q → bytes_eq q x.name ≡ true
      told q t = (bytes_eq-Decides q x.name).1 (only q t)

  pub names_all : (k : ℕ) (first : Option Refusal) (seen : BTreeSet (Bor (List ℕ))) → length ps ≤ k → NamesFirst k first seen → IsLeast (RepeatedFormals ps) first
  names_all k first seen past h = least_of_all (RepeatedAt ps) ps k first past h.least
