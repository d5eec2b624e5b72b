-- The constants of items, one item after another.
use Rattle.std.proofs.Common.{◌≡◌, ℕ, ◌+◌, ◌≤◌, List, [], ◌∷◌, ◌++◌, length, flat_map, take, slice_get, Option, Some, None, refl, sym, ap, subst, ◌∙◌, arith, length-append}
use Rattle.std.specs.Prelude.{Result, Ok, Err, IfOk}
use Rattle.std.proofs.lemmas.List.{append-nil, take_all}
use Rattle.std.proofs.lemmas.Grind.{flat_map-append}
use Rattle.std.proofs.lemmas.Option.{none-some, slice_get_within}
use Rattle.std.specs.Option.{option_flatten}
use Rattle.fp_base.proofs.Lists.{take_next}
use Rattle.fp_base.proofs.Options.{same_some}
use Rattle.fp_base.proofs.Numbers.{none_behind}
use Rattle.fp_base.specs.declared.value.Value.{Value}
use Rattle.fp_tree.specs.declared.source.Source.{Source}
use Rattle.fp_tree.specs.declared.definition.Constant.{Constant as Written}
use Rattle.fp_tables.specs.declared.kind.Constant.{Constant}
use Rattle.fp_meaning.specs.declared.item.Item.{Item}
use Rattle.fp_meaning.specs.Names.{Path}
use Rattle.fp_meaning.specs.Origins.{Placed, placed, expressions_of}
use Rattle.fp_meaning.specs.Values.{opened, Val}
use Rattle.fp_type_forms.proofs.Only.{all_joined}
use Rattle.fp_model.specs.declared.constants.ConstantsFound.{ConstantsFound}
use Rattle.fp_model.specs.Defined.{AreConstants, IsConstant}
use Rattle.fp_model.specs.Definitions.{ConstantHere, constant_here, constants_of}
use Rattle.fp_model.specs.Given.{Adds, AddsIf, AddsItem, Counts, StandFrom, constant_with, value_at}
use Rattle.fp_model.proofs.Standing.{item_stands}

pub if_ok_both : {A E : Type 0} (r : Result A E) (P Q R : A → Type 0) → ((x : A) → P x → Q x → R x) → IfOk r P → IfOk r Q → IfOk r R
if_ok_both (Ok x) P Q R to h k = to x h k
if_ok_both (Err e) P Q R to h k = tt

module _ (values : List (Option Value)) where
  adds_none : (source : Source) (ps : List Placed) (before after : ConstantsFound) → after.constants ≡ before.constants → after.next ≡ before.next + length ps → Adds source ps [] before after
  adds_none source ps before after same next = record {
    constants = λ gs are.
        subst (λ (hs : List ConstantHere). AreConstants source hs after.constants) (sym (append-nil gs)) (subst (λ (cs : List Constant). AreConstants source gs cs) (sym same) are);
    next = next;
  }

  pub nothing_more : (before : ConstantsFound) → AddsIf values [] [] before before
  nothing_more before source stand = adds_none source [] before before refl (none_behind before.next)

  -- past the value of an expression that is no constant's
  pub past_one : (p : Placed) (before after : ConstantsFound) → after.constants ≡ before.constants → Counts (length values) before.next after.next → AddsIf values (p ∷ []) [] before after
  past_one p before after same counts source stand = adds_none source (p ∷ []) before after same (counts (slice_get_within values before.next _ stand.0.1))

  module _ (scope : Path) (d : Written) where
    pub one_more : (v : Value) (before after : ConstantsFound) → value_at values before.next ≡ Some v → after.constants ≡ before.constants ++ constant_with scope d v ∷ []
        → Counts (length values) before.next after.next → AddsIf values (placed scope d.value ∷ []) (constant_here scope d ∷ []) before after
    one_more v before after at adds counts source stand =
        let same : stand.0.0 ≡ v = same_some (sym (ap option_flatten stand.0.1) ∙ at) in
        let is : IsConstant source (constant_here scope d) (constant_with scope d v) = record { name = refl; value = subst (λ (w : Value). Val source scope (opened d.value) w) same stand.0.2; note = refl } in
        record {
          constants = λ gs are.
              subst (λ (cs : List Constant). AreConstants source (gs ++ constant_here scope d ∷ []) cs) (sym adds)
              (all_joined (IsConstant source) 0 0 gs (constant_here scope d ∷ []) before.constants (constant_with scope d v ∷ []) are (is, tt));
          next = counts (slice_get_within values before.next _ stand.0.1);
        }

    pub never_missing : (before after : ConstantsFound) → value_at values before.next ≡ None → AddsIf values (placed scope d.value ∷ []) (constant_here scope d ∷ []) before after
    never_missing before after none source stand = absurd (none-some stand.0.0 (sym none ∙ ap option_flatten stand.0.1))

-- of the first items
abbrev pub FoundFirst : List (Option Value) → List Item → ℕ → ConstantsFound → Type 0
FoundFirst values is k found =
    (source : Source) → StandFrom source values (flat_map expressions_of is) 0
    → AreConstants source (flat_map constants_of (take k is)) found.constants × (found.next ≡ length (flat_map expressions_of (take k is)))

module _ (values : List (Option Value)) (is : List Item) where
  pub found_none : (found : ConstantsFound) → found ≡ record { constants = []; next = 0 } → FoundFirst values is 0 found
  found_none found e source stand =
      subst (λ (f : ConstantsFound). AreConstants source [] f.constants × (f.next ≡ 0)) (sym e) (tt, refl)

  pub found_next : (k : ℕ) (i : Item) (before after : ConstantsFound) → slice_get is k ≡ Some i → FoundFirst values is k before → AddsItem values i before after → FoundFirst values is (k + 1) after
  found_next k i before after at so_far adds source stand =
      let first = so_far source stand in
      let there : StandFrom source values (expressions_of i) (0 + length (flat_map expressions_of (take k is))) = item_stands source values is k i 0 at stand in
      let number = first.1 in
      let same : 0 + length (flat_map expressions_of (take k is)) ≡ before.next = omega (arith, number) in
      let added = adds source (subst (λ (n : ℕ). StandFrom source values (expressions_of i) n) same there) in
      let constants : flat_map constants_of (take k is ++ i ∷ []) ≡ flat_map constants_of (take k is) ++ constants_of i =
      flat_map-append constants_of (take k is) (i ∷ []) ∙ ap (λ (hs : List ConstantHere). flat_map constants_of (take k is) ++ hs) (append-nil (constants_of i)) in
      let expressions : flat_map expressions_of (take k is ++ i ∷ []) ≡ flat_map expressions_of (take k is) ++ expressions_of i =
      flat_map-append expressions_of (take k is) (i ∷ []) ∙ ap (λ (ps : List Placed). flat_map expressions_of (take k is) ++ ps) (append-nil (expressions_of i)) in
      let long = length-append (flat_map expressions_of (take k is)) (expressions_of i) in
      let whole : length (flat_map expressions_of (take k is ++ i ∷ [])) ≡ length (flat_map expressions_of (take k is) ++ expressions_of i) = ap length expressions in
      let next = added.next in
      subst (λ (xs : List Item). AreConstants source (flat_map constants_of xs) after.constants × (after.next ≡ length (flat_map expressions_of xs))) (sym (take_next is k i at)) (
        subst (λ (hs : List ConstantHere). AreConstants source hs after.constants) (sym constants) (added.constants (flat_map constants_of (take k is)) first.0),
        omega (arith, next, number, whole, long),
      )

  pub found_all : (k : ℕ) (found : ConstantsFound) → length is ≤ k → FoundFirst values is k found
      → (source : Source) → StandFrom source values (flat_map expressions_of is) 0 → AreConstants source (flat_map constants_of is) found.constants
  found_all k found past first source stand = subst (λ (xs : List Item). AreConstants source (flat_map constants_of xs) found.constants) (take_all k is past) (first source stand).0
