-- The least name that stands among those before it.
use Rattle.std.proofs.Common.{◌≡◌, Bool, true, false, cond, ◌||◌, ℕ, ◌+◌, ◌<◌, ◌≤◌, ◌⊎◌, inl, inr, List, [], length, slice_get, Option, Some, None, refl, sym, ap, ◌∙◌, arith, BTreeSet, bytes_eq}
use Rattle.std.proofs.lemmas.Slice.Eq.{bytes_eq-Decides}
use denote.Ref.{Bor}
use Rattle.fp_base.proofs.Bools.{or_cases, or_left, or_right, not_both}
use Rattle.fp_base.proofs.Calculus.{least_none, least_only, least_along}
use Rattle.fp_base.proofs.Elements.{least_first_none, least_first_next, least_in_one, least_of_all}
use Rattle.fp_base.proofs.Options.{same_some}
use Rattle.fp_base.proofs.Spots.{below_or_at}
use Rattle.fp_base.proofs.KeySets.{no_name}
use Rattle.fp_base.specs.NameSets.{has_name}
use Rattle.fp_base.specs.Least.{broken_at, InFirst, InSome, IsLeast, lesser_of}
use Rattle.fp_base.specs.declared.refusal.Refusal.{Refusal}
use Rattle.fp_base.specs.declared.rule.Rule.TheVariants.{BadMember}
use Rattle.fp_tree.specs.declared.name.Name.{Name}
use Rattle.fp_type_forms.specs.Broken.{RepeatsName}
use Rattle.fp_type_forms.specs.Tested.{name_fault}

-- ---- names of elements

module _ {A : Type 0} (name_of : A → Name) (xs : List A) where
  -- one of the first so many has the name
  pub record HasName (k : ℕ) (q : List ℕ) : Type 0 where
    pub index : ℕ
    pub item : A
    pub below : index < k
    pub here : slice_get xs index ≡ Some item
    pub same : (name_of item).text ≡ q

  pub record HasNoted (k : ℕ) (seen : BTreeSet (Bor (List ℕ))) : Type 0 where
    pub to : (q : List ℕ) → has_name seen q ≡ true → HasName k q
    pub from : (q : List ℕ) → HasName k q → has_name seen q ≡ true

  name_tested : (k : ℕ) (x : A) (seen : BTreeSet (Bor (List ℕ))) → HasNoted k seen → (b : Bool) → has_name seen (name_of x).text ≡ b
      → IsLeast (RepeatsName name_of xs k x) (name_fault b (name_of x).at.first)
  name_tested k x seen has true is =
      let e = has.to (name_of x).text is in
      least_only (broken_at BadMember (name_of x).at.first) (refl, e.index, e.item, e.below, e.here, e.same) (λ f t. t.0)
  name_tested k x seen has false is =
      least_none (λ f t. not_both (has.from (name_of x).text (record { index = t.1; item = t.2; below = t.3; here = t.4; same = t.5 })) is)

  more_noted : (k : ℕ) (x : A) (old new : BTreeSet (Bor (List ℕ))) → slice_get xs k ≡ Some x
      → ((q : List ℕ) → has_name new q ≡ (has_name old q || bytes_eq q (name_of x).text)) → HasNoted k old → HasNoted (k + 1) new
  more_noted k x old new at adds has = record {
    to = λ q h. earlier q (or_cases (has_name old q) (bytes_eq q (name_of x).text) (sym (adds q) ∙ h));
    from = λ q e. adds q ∙ there q e (below_or_at e.index k e.below);
  }
    where
      earlier : (q : List ℕ) → (has_name old q ≡ true) ⊎ (bytes_eq q (name_of x).text ≡ true) → HasName (k + 1) q
      earlier q (inl h) = let e = has.to q h in let low = e.below in record { index = e.index; item = e.item; below = omega arith; here = e.here; same = e.same }
      earlier q (inr h) = record { index = k; item = x; below = omega arith; here = at; same = sym ((bytes_eq-Decides q (name_of x).text).0 h) }

      there : (q : List ℕ) (e : HasName (k + 1) q) → (e.index < k) ⊎ (e.index ≡ k) → (has_name old q || bytes_eq q (name_of x).text) ≡ true
      there q e (inl low) =
          or_left (has_name old q) (bytes_eq q (name_of x).text) (has.from q (record { index = e.index; item = e.item; below = low; here = e.here; same = e.same }))
      there q e (inr last) =
          let one : Some e.item ≡ Some x = sym e.here ∙ ap (slice_get xs) last ∙ at in
          or_right (has_name old q) (bytes_eq q (name_of x).text)
          ((bytes_eq-Decides q (name_of x).text).1 (sym e.same ∙ ap (λ (y : A). (name_of y).text) (same_some one)))

  abbrev pub NamesFirst : ℕ → Option Refusal → BTreeSet (Bor (List ℕ)) → Type 0
  NamesFirst k first seen = IsLeast (InFirst k (RepeatsName name_of xs) xs) first × HasNoted k seen

  pub names_none : (seen : BTreeSet (Bor (List ℕ))) → seen.keys ≡ [] → NamesFirst 0 None seen
  names_none seen empty = (
    least_first_none (RepeatsName name_of xs) xs,
    record { to = λ q h. not_both h (no_name seen empty q); from = λ q e. let low = e.below in absurd (omega arith) },
  )

  pub names_next : (k : ℕ) (x : A) (first more one : Option Refusal) (old new : BTreeSet (Bor (List ℕ))) → slice_get xs k ≡ Some x → more ≡ lesser_of first one
      → one ≡ name_fault (has_name old (name_of x).text) (name_of x).at.first
      → ((q : List ℕ) → has_name new q ≡ (has_name old q || bytes_eq q (name_of x).text)) → NamesFirst k first old → NamesFirst (k + 1) more new
  names_next k x first more one old new at is found adds before = (
    least_along (sym is)
        (least_first_next (RepeatsName name_of xs) xs k first one before.0
        (least_in_one (RepeatsName name_of xs) xs k x one at (least_along (sym found) (name_tested k x old before.1 (has_name old (name_of x).text) refl)))),
    more_noted k x old new at adds before.1,
  )

  pub names_all : (k : ℕ) (first : Option Refusal) (seen : BTreeSet (Bor (List ℕ))) → length xs ≤ k → NamesFirst k first seen
      → IsLeast (InSome (RepeatsName name_of xs) xs) first
  names_all k first seen past h = least_of_all (RepeatsName name_of xs) xs k first past h.0
