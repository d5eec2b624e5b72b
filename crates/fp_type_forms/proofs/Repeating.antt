-- The least constant of an enumeration with the number of an earlier one.
use Rattle.std.proofs.Common.{◌≡◌, Bool, true, false, cond, ◌||◌, ℕ, ◌+◌, ◌<◌, ◌≤◌, ◌⊎◌, inl, inr, ℤ, List, [], ◌∷◌, ◌++◌, length, take, slice_get, Option, Some, None, refl, sym, ap, ◌∙◌, subst, arith, BTreeSet}
use Rattle.std.specs.BTreeSet.{contains_by}
use Rattle.std.specs.Ordering.{int_cmp}
use Rattle.std.proofs.lemmas.Bool.Decides.{Decides-int_eq}
use Rattle.std.proofs.lemmas.List.{take_all}
use Rattle.fp_base.proofs.Bools.{or_cases, or_left, or_right, not_both}
use Rattle.fp_base.proofs.Calculus.{least_none, least_only, least_along}
use Rattle.fp_base.proofs.Elements.{least_first_none, least_first_next, least_in_one, least_of_all}
use Rattle.fp_base.proofs.Options.{same_some, no_some}
use Rattle.fp_base.proofs.Spots.{below_or_at}
use Rattle.fp_base.specs.Least.{broken_at, InFirst, InSome, IsLeast, lesser_of}
use Rattle.fp_base.specs.declared.refusal.Refusal.{Refusal}
use Rattle.fp_base.specs.declared.rule.Rule.TheVariants.{EnumValueRepeated}
use Rattle.fp_base.specs.declared.value.Value.{Value}
use Rattle.fp_tree.specs.declared.source.Source.{Source}
use Rattle.fp_tree.specs.declared.definition.Enum.{Enum}
use Rattle.fp_tree.specs.declared.part.EnumConst.{EnumConst}
use Rattle.fp_meaning.specs.declared.item.Item.{Item}
use Rattle.fp_meaning.specs.declared.item.Item.TheVariants as item
use Rattle.fp_meaning.specs.Names.{Path}
use Rattle.fp_meaning.specs.Sites.{entry}
use Rattle.fp_type_forms.specs.declared.resolving.Resolution.{Resolution}
use Rattle.fp_type_forms.specs.Broken.{IsRepeated, is_number, repeat_of}
use Rattle.fp_type_forms.specs.Written.{ConstantIs, IsOnly}
use Rattle.fp_type_forms.specs.Resolved.{Takes}
use Rattle.fp_type_forms.proofs.Taking.{items_from, items_next, taken_as, taken_nothing, taken_then}

module _ (source : Source) (scope : Path) (d : Enum) where
  -- one of the first so many has the number
  pub record Earlier (k : ℕ) (q : ℤ) : Type 0 where
    pub index : ℕ
    pub constant : EnumConst
    pub below : index < k
    pub here : slice_get d.constants index ≡ Some constant
    pub number : ConstantIs source scope d index constant.value q

  pub record HasSeen (k : ℕ) (seen : BTreeSet ℤ) : Type 0 where
    pub to : (q : ℤ) → contains_by (int_cmp q) seen ≡ true → Earlier k q
    pub from : (q : ℤ) → Earlier k q → contains_by (int_cmp q) seen ≡ true

  repeat_tested : (k : ℕ) (c : EnumConst) (n : ℤ) (seen : BTreeSet ℤ) → IsOnly (ConstantIs source scope d k c.value) (Some n) → HasSeen k seen
      → (b : Bool) → contains_by (int_cmp n) seen ≡ b → IsLeast (IsRepeated source scope d k c) (cond b (Some (broken_at EnumValueRepeated c.name.at.first)) None)
  repeat_tested k c n seen only has true is =
      let e = has.to n is in
      least_only (broken_at EnumValueRepeated c.name.at.first) (refl, n, only.holds n refl, e.index, e.constant, e.below, e.here, e.number) (λ f t. t.0)
  repeat_tested k c n seen only has false is = least_none (λ f t.
      let same : n ≡ t.1 = same_some (only.only t.1 t.2) in
      not_both (has.from n (record { index = t.3; constant = t.4; below = t.5; here = t.6; number = subst (λ (z : ℤ). ConstantIs source scope d t.3 t.4.value z) (sym same) t.7 })) is)

  least_repeat : (k : ℕ) (c : EnumConst) (o : Option ℤ) (seen : BTreeSet ℤ) → IsOnly (ConstantIs source scope d k c.value) o → HasSeen k seen
      → IsLeast (IsRepeated source scope d k c) (repeat_of c.name.at.first seen o)
  least_repeat k c None seen only has = least_none (λ f t. no_some (only.only t.1 t.2))
  least_repeat k c (Some n) seen only has = repeat_tested k c n seen only has (contains_by (int_cmp n) seen) refl

  number_seen : (o : Option ℤ) (q : ℤ) → is_number q o ≡ true → o ≡ Some q
  number_seen None q h = not_both h refl
  number_seen (Some n) q h = ap (λ (z : ℤ). Some z) (sym ((Decides-int_eq q n).0 h))

  seen_number : (o : Option ℤ) (q : ℤ) → o ≡ Some q → is_number q o ≡ true
  seen_number None q h = no_some h
  seen_number (Some n) q h = (Decides-int_eq q n).1 (sym (same_some h))

  more_seen : (k : ℕ) (c : EnumConst) (o : Option ℤ) (old new : BTreeSet ℤ) → slice_get d.constants k ≡ Some c → IsOnly (ConstantIs source scope d k c.value) o
      → ((q : ℤ) → contains_by (int_cmp q) new ≡ (contains_by (int_cmp q) old || is_number q o)) → HasSeen k old → HasSeen (k + 1) new
  more_seen k c o old new at only adds has = record {
    to = λ q h. earlier q (or_cases (contains_by (int_cmp q) old) (is_number q o) (sym (adds q) ∙ h));
    from = λ q e. adds q ∙ there q e (below_or_at e.index k e.below);
  }
    where
      earlier : (q : ℤ) → (contains_by (int_cmp q) old ≡ true) ⊎ (is_number q o ≡ true) → Earlier (k + 1) q
      earlier q (inl h) = let e = has.to q h in let low = e.below in record { index = e.index; constant = e.constant; below = omega arith; here = e.here; number = e.number }
      earlier q (inr h) = record { index = k; constant = c; below = omega arith; here = at; number = only.holds q (number_seen o q h) }

      there : (q : ℤ) (e : Earlier (k + 1) q) → (e.index < k) ⊎ (e.index ≡ k) → (contains_by (int_cmp q) old || is_number q o) ≡ true
      there q e (inl low) =
          or_left (contains_by (int_cmp q) old) (is_number q o) (has.from q (record { index = e.index; constant = e.constant; below = low; here = e.here; number = e.number }))
      there q e (inr same) =
          let one : Some e.constant ≡ Some c = sym e.here ∙ ap (slice_get d.constants) same ∙ at in
          or_right (contains_by (int_cmp q) old) (is_number q o)
          (seen_number o q (only.only q (subst (λ (x : EnumConst). ConstantIs source scope d k x.value q) (same_some one) (subst (λ (i : ℕ). ConstantIs source scope d i e.constant.value q) same e.number))))

  module _ (marks : List (Option Value)) (rs : List Resolution) where
    abbrev g : ℕ → EnumConst → List Item
    g n x = item.Enumerated (entry scope d n x) ∷ []

    abbrev pub RepeatFirst : ℕ → ℕ → ℕ → Option Refusal → BTreeSet ℤ → Type 0
    RepeatFirst k a b first seen =
        Takes source marks rs (items_from g 0 (take k d.constants)) a b (IsLeast (InFirst k (IsRepeated source scope d) d.constants) first × HasSeen k seen)

    pub repeat_none : (a : ℕ) (seen : BTreeSet ℤ) → ((q : ℤ) → contains_by (int_cmp q) seen ≡ false) → RepeatFirst 0 a a None seen
    repeat_none a seen empty =
        taken_nothing source marks rs a (
          least_first_none (IsRepeated source scope d) d.constants,
          record { to = λ q h. not_both h (empty q); from = λ q e. let low = e.below in absurd (omega arith) },
        )

    pub repeat_next : (k : ℕ) (c : EnumConst) (a b e : ℕ) (first more one : Option Refusal) (o : Option ℤ) (old new : BTreeSet ℤ) → slice_get d.constants k ≡ Some c
        → more ≡ lesser_of first one → one ≡ repeat_of c.name.at.first old o → ((q : ℤ) → contains_by (int_cmp q) new ≡ (contains_by (int_cmp q) old || is_number q o))
        → RepeatFirst k a b first old → Takes source marks rs (g k c) b e (IsOnly (ConstantIs source scope d k c.value) o) → RepeatFirst (k + 1) a e more new
    repeat_next k c a b e first more one o old new at is found adds before here =
        subst (λ (l : List Item). Takes source marks rs l a e (IsLeast (InFirst (k + 1) (IsRepeated source scope d) d.constants) more × HasSeen (k + 1) new)) (sym (items_next g d.constants k c at))
        (taken_as source marks rs (items_from g 0 (take k d.constants) ++ g k c) a e
        (λ t. (
          least_along (sym is)
              (least_first_next (IsRepeated source scope d) d.constants k first one t.0.0
              (least_in_one (IsRepeated source scope d) d.constants k c one at (least_along (sym found) (least_repeat k c o old t.1 t.0.1)))),
          more_seen k c o old new at t.1 adds t.0.1,
        ))
        (taken_then source marks rs (items_from g 0 (take k d.constants)) (g k c) a b e before here))

    pub repeat_all : (k a b : ℕ) (first : Option Refusal) (seen : BTreeSet ℤ) → length d.constants ≤ k → RepeatFirst k a b first seen
        → Takes source marks rs (items_from g 0 d.constants) a b (IsLeast (InSome (IsRepeated source scope d) d.constants) first)
    repeat_all k a b first seen past h =
        taken_as source marks rs (items_from g 0 d.constants) a b (λ t. least_of_all (IsRepeated source scope d) d.constants k first past t.0)
        (subst (λ (l : List EnumConst). Takes source marks rs (items_from g 0 l) a b (IsLeast (InFirst k (IsRepeated source scope d) d.constants) first × HasSeen k seen)) (take_all k d.constants past) h)
