-- A channel that is resolved from one which breaks no rule: its limits are of integers, of colors that differ, and are values of its type.
use Rattle.std.proofs.Common.{◌≡◌, inl, inr, ℕ, zero, Bool, true, false, not, cond, ◌||◌, ◌==◌, List, [], ◌∷◌, length, map, Option, Some, None, refl, sym, ap, ap₂, ◌∙◌}
use Rattle.std.specs.Prelude.{nat_le, nat_lt, slice_get}
use Rattle.std.specs.List.{filter, list_all}
use Rattle.fp_base.specs.Least.{IsUnbroken, broken_at}
use Rattle.fp_base.specs.declared.rule.Rule.TheVariants.{BadLimits}
use Rattle.fp_base.specs.declared.value.Value.{Value}
use Rattle.fp_base.proofs.Bools.{or_right}
use Rattle.fp_base.proofs.Options.{same_some}
use Rattle.fp_base.proofs.Numbers.{same_number}
use Rattle.fp_tables.specs.Machines.{target}
use Rattle.fp_tables.specs.Names.{numbers_differ}
use Rattle.fp_tables.specs.Types.{has_kind, is_integer, is_integer_kind}
use Rattle.fp_tables.specs.declared.kind.TypeDef.{TypeDef}
use Rattle.fp_tables.specs.declared.component.Limit.{Limit}
use Rattle.fp_tree.specs.declared.dictionary.Color.{Color}
use Rattle.fp_tree.specs.declared.dictionary.Color.TheVariants.{Yellow, Orange, Red}
use Rattle.fp_written_parts.specs.declared.dictionary.WrittenChannel.{WrittenChannel}
use Rattle.fp_written_parts.specs.declared.dictionary.WrittenLimit.{WrittenLimit}
use Rattle.fp_dictdefs.specs.Broken.{BrokenLimits, side_of}
use Rattle.fp_dictdefs.specs.Tested.{color_number}
use Rattle.fp_dictdefs.proofs.Sides.{colors_same}
use Rattle.fp_components.specs.Resolved.{AreEach, IsLimit}
use Rattle.fp_sound_parts.specs.Ready.{LimitsFit}
use Rattle.fp_sound_parts.proofs.ComponentEach.{all_beside, apart_beside, beside}
use Rattle.fp_sound_parts.proofs.Single.{integer_type}
use Rattle.fp_sound_parts.proofs.Lists.{both_and, both_back, chosen_apart, filtered}

-- ---- colors

color_within : (c : Color) → nat_lt (color_number c) 3 ≡ true
color_within Yellow = refl
color_within Orange = refl
color_within Red = refl

-- ---- limits on one side

chosen : {A : Type 0} (b : Bool) (x y : A) → cond b (Some x) None ≡ Some y → (b ≡ true) × (x ≡ y)
chosen true x y e = (refl, same_some e)
chosen false x y e = absurd (cc)

abbrev one_side : (Bool → Bool) → Limit → Option ℕ
one_side on l = cond (on l.high) (Some l.color) None

-- both are on the side, and of one color
both_chosen : (on : Bool → Bool) (x y : Limit) → both_and (λ m n. m == n) (one_side on x) (one_side on y) ≡ true → (on x.high ≡ true) × (on y.high ≡ true) × (x.color ≡ y.color)
both_chosen on x y h =
    let t = both_back (λ m n. m == n) (one_side on x) (one_side on y) h in
    let a = chosen (on x.high) x.color t.0 t.2 in
    let b = chosen (on y.high) y.color t.1 t.3 in
    (a.0, b.0, a.1 ∙ same_number t.0 t.1 t.4 ∙ sym b.1)

-- ---- a channel

module _ (types : List TypeDef) (t : WrittenChannel) (limits : List Limit) (each : AreEach (λ (at : ℕ). IsLimit) t.limits limits) where
  pub limits_lie : list_all (λ (l : Limit). nat_lt l.color 3) limits ≡ true
  limits_lie =
      all_beside (λ (at : ℕ). IsLimit) t.limits limits each (λ (l : Limit). nat_lt l.color 3)
      (λ k l d e is. ap (λ n. nat_lt n 3) is.color ∙ color_within l.color)

  pub limits_have_kind : LimitsFit types t → list_all (λ (l : Limit). has_kind types t.kind l.value) limits ≡ true
  limits_have_kind fit =
      all_beside (λ (at : ℕ). IsLimit) t.limits limits each (λ (l : Limit). has_kind types t.kind l.value)
      (λ k l d e is. ap (λ (v : Value). has_kind types t.kind v) is.value.2 ∙ fit k l is.value.0 e is.value.1)

  module _ (unbroken : IsUnbroken (BrokenLimits types t.kind t.limits)) where
    fits : (k : ℕ) (l : WrittenLimit) → slice_get t.limits k ≡ Some l → is_integer_kind (target types t.kind) ≡ true
    fits k l e = go (is_integer_kind (target types t.kind)) refl
      where
        go : (b : Bool) → is_integer_kind (target types t.kind) ≡ b → is_integer_kind (target types t.kind) ≡ true
        go true is = is
        go false is = absurd (unbroken (broken_at BadLimits l.at) (k, l, e, (refl, inl is)))

    pub no_limit_or_integer : (nat_le (length limits) 0 || is_integer types t.kind) ≡ true
    no_limit_or_integer = go limits refl
      where
        go : (ls : List Limit) → limits ≡ ls → (nat_le (length limits) 0 || is_integer types t.kind) ≡ true
        go [] same = ap (λ (ls : List Limit). nat_le (length ls) 0 || is_integer types t.kind) same
        go (l ∷ ls) same =
            let first = beside (λ (at : ℕ). IsLimit) t.limits limits each zero l (ap (λ (xs : List Limit). slice_get xs zero) same) in
            or_right (nat_le (length limits) 0) (is_integer types t.kind) (integer_type types t.kind (fits zero first.0 first.1))

    side_apart : (on : Bool → Bool) → ((a b : Bool) → on a ≡ true → on b ≡ true → a ≡ b) → numbers_differ (map (λ (l : Limit). l.color) (filter (λ (l : Limit). on l.high) limits)) ≡ true
    side_apart on one =
        ap numbers_differ (filtered (λ (l : Limit). on l.high) (λ (l : Limit). l.color) limits)
        ∙ chosen_apart (λ m n. m == n) (one_side on) limits
        (apart_beside (λ (at : ℕ). IsLimit) t.limits limits each (λ x y. both_and (λ m n. m == n) (one_side on x) (one_side on y) ≡ true)
        (λ j k a b x y low d e i l same.
        let s = both_chosen on x y same in
        let high : a.high ≡ b.high = sym i.high ∙ one x.high y.high s.0 s.1 ∙ l.high in
        let color : a.color ≡ b.color = colors_same a.color b.color (sym i.color ∙ s.2 ∙ l.color) in
        let side : side_of a ≡ side_of b = ap₂ (λ (h : Bool) (c : Color). (h, c)) high color in
        unbroken (broken_at BadLimits b.at) (k, b, e, (refl, inr (side_of b, j, low, (a, d, side), (b, e, refl))))))

    pub colors_apart : numbers_differ (map (λ (l : Limit). l.color) (filter (λ (l : Limit). l.high) limits)) ≡ true
    colors_apart = side_apart (λ b. b) (λ a b e f. e ∙ sym f)

    not_apart : (a b : Bool) → not a ≡ true → not b ≡ true → a ≡ b
    not_apart false false e f = refl
    not_apart false true e f = absurd (cc)
    not_apart true b e f = absurd (cc)

    pub other_colors_apart : numbers_differ (map (λ (l : Limit). l.color) (filter (λ (l : Limit). not l.high) limits)) ≡ true
    other_colors_apart = side_apart not not_apart
