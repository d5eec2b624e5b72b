-- Values of a type are no larger than the type is by its form.
use Rattle.std.proofs.Common.{◌≡◌, ℕ, zero, suc, ◌+◌, ◌*◌, ◌≤◌, max, true, ◌&&◌, List, ◌∷◌, Option, Some, None, refl, sym, ap, ◌∙◌, subst, arith}
use Rattle.std.specs.Prelude.{ℤ, nat_le}
use Rattle.std.specs.List.{list_all}
use Rattle.std.specs.Str.{bytes_eq}
use Rattle.std.proofs.lemmas.Bool.Decides.{nat_tests}
use Rattle.fp_base.proofs.Bools.{both, join}
use Rattle.fp_base.proofs.Numbers.{suc_times}
use Rattle.fp_base.specs.declared.value.Value.{Value, Int, Bool as Truth, Text, Enumerated, Array', Struct', Opaque, Row_of-Value, more_of-Value, end_of-Value}
use Rattle.fp_base.specs.declared.value.Value.TheBlock as block
use Rattle.fp_tables.specs.Lists.{if_some}
use Rattle.fp_tables.specs.Components.{is_from_1_to}
use Rattle.fp_tables.specs.Types as shapes
use Rattle.fp_tables.specs.Types.{Shape, has, items_have, parts_have, shape, member_shape, of_form, leaves, items_leaves, parts_leaves, levels, items_levels, parts_levels, is_of_size}
use Rattle.fp_tables.specs.declared.kind.Kind.{Kind}
use Rattle.fp_tables.specs.declared.kind.Kind.TheVariants as kind
use Rattle.fp_tables.specs.declared.kind.Form.{Form}
use Rattle.fp_tables.specs.declared.kind.Form.TheVariants as form
use Rattle.fp_tables.specs.declared.kind.Field.{Field}
use Rattle.fp_tables.specs.declared.kind.Constant.{Constant}
use Rattle.fp_tables.specs.declared.kind.TypeDef.{TypeDef}
use Rattle.fp_tables.proofs.Aliases.{shape_of_form}
use Rattle.fp_type_sizes.specs.declared.written.WrittenType.{WrittenType}
use Rattle.fp_type_sizes.specs.Sizes.{IsPlain, HasForm, IsOfSize, Measures, plain, named, MeasuresForm, abstract_, alias, array, struct, enum, MeasuresFields, no_field, field, MeasuresMember, one, many}
use Rattle.fp_types.specs.Converting.{member_target, Converts}
use Rattle.fp_types.specs.WellWritten.{AreWellWritten, AllGiven}
use Rattle.fp_types.proofs.AllGiven.{form_in, no_self}
use Rattle.fp_types.proofs.Opening.{result_of_size}
use Rattle.fp_types.proofs.HasKind.{shape_of, sized_shape, converted_has_kind}

-- no more leaves and levels
pub record IsBounded (v : Value) (a b : ℕ) : Type 0 where
  pub few : leaves v ≤ a
  pub low : levels v ≤ b

leaf_bounded : (v : Value) → leaves v ≡ 1 → levels v ≡ 1 → IsBounded v 1 1
leaf_bounded v e d = record { few = omega arith; low = omega arith }

some_times : (n a : ℕ) → 1 ≤ n → 1 ≤ a → 1 ≤ n * a
some_times zero a p q = absurd (omega arith)
some_times (suc n) a p q = subst (λ (x : ℕ). 1 ≤ x) (sym (suc_times n a)) (more a (n * a) q)
  where
    more : (x y : ℕ) → 1 ≤ x → 1 ≤ x + y
    more x y h = omega arith

from_one : (n : ℕ) → is_from_1_to 256 n ≡ true → 1 ≤ n
from_one n e = let p = both (nat_le 1 n) (nat_le n 256) e in is p.0
  where
    is : nat_le 1 n ≡ true → 1 ≤ n
    is h = grind (arith, nat_tests)

module _ (types : List TypeDef) where
  items_bounded : (s : Shape) (a b : ℕ) → ((v : Value) → has types s v ≡ true → IsBounded v a b) → (size : ℕ) {m : _} (vs : Row_of-Value m) → items_have types size s vs ≡ true
      → (items_leaves vs ≤ size * a) × (items_levels vs ≤ b)
  items_bounded s a b each zero end_of-Value h = (omega arith, omega arith)
  items_bounded s a b each (suc size) (more_of-Value v vs) h =
      let p = both (has types s v) (items_have types size s vs) h in
      let here = each v p.0 in
      let rest = items_bounded s a b each size vs p.1 in
      (subst (λ (x : ℕ). leaves v + items_leaves vs ≤ x) (sym (suc_times size a)) (sum _ _ _ _ here.few rest.0), most _ _ _ here.low rest.1)
    where
      sum : (x y p q : ℕ) → x ≤ p → y ≤ q → x + y ≤ p + q
      sum x y p q h g = omega arith

      most : (x y p : ℕ) → x ≤ p → y ≤ p → max x y ≤ p
      most x y p h g = omega arith
  items_bounded s a b each (suc size) end_of-Value h = absurd (cc)
  items_bounded s a b each zero (more_of-Value v vs) h = absurd (cc)

  array_bounded : (k : Kind) (size a b : ℕ) → 1 ≤ size → 1 ≤ a → ((v : Value) → has types (shape types k) v ≡ true → IsBounded v a b) → (w : Value) → has types (shapes.array size k) w ≡ true
      → IsBounded w (size * a) (1 + b)
  array_bounded k size a b p q each (Array' m vs) h =
      let r = items_bounded (shape types k) a b each size vs h in
      let some = some_times size a p q in
      record { few = most _ _ some r.0; low = more _ _ r.1 }
    where
      most : (x y : ℕ) → 1 ≤ y → x ≤ y → max 1 x ≤ y
      most x y h g = omega arith

      more : (x y : ℕ) → x ≤ y → suc x ≤ 1 + y
      more x y h = omega arith
  array_bounded k size a b p q each (Int n) h = absurd (cc)
  array_bounded k size a b p q each (Truth x) h = absurd (cc)
  array_bounded k size a b p q each (Text t) h = absurd (cc)
  array_bounded k size a b p q each (Enumerated e c n) h = absurd (cc)
  array_bounded k size a b p q each (Struct' m ps) h = absurd (cc)
  array_bounded k size a b p q each Opaque h = absurd (cc)

  integer_bounded : (low high : ℤ) (w : Value) → has types (shapes.integer low high) w ≡ true → IsBounded w 1 1
  integer_bounded low high (Int n) h = leaf_bounded (Int n) refl refl
  integer_bounded low high (Truth x) h = absurd (cc)
  integer_bounded low high (Text t) h = absurd (cc)
  integer_bounded low high (Enumerated e c n) h = absurd (cc)
  integer_bounded low high (Array' m vs) h = absurd (cc)
  integer_bounded low high (Struct' m ps) h = absurd (cc)
  integer_bounded low high Opaque h = absurd (cc)

  plain_bounded : (k : Kind) → IsPlain k → (w : Value) → has types (shape types k) w ≡ true → IsBounded w 1 1
  plain_bounded (kind.Named i) p w h = absurd p
  plain_bounded kind.Bool p w h = of_truth w h
    where
      of_truth : (w : Value) → has types shapes.truth w ≡ true → IsBounded w 1 1
      of_truth (Truth x) h = leaf_bounded (Truth x) refl refl
      of_truth (Int n) h = absurd (cc)
      of_truth (Text t) h = absurd (cc)
      of_truth (Enumerated e c n) h = absurd (cc)
      of_truth (Array' m vs) h = absurd (cc)
      of_truth (Struct' m ps) h = absurd (cc)
      of_truth Opaque h = absurd (cc)
  plain_bounded (kind.Str size) p w h = of_words w h
    where
      of_words : (w : Value) → has types shapes.words w ≡ true → IsBounded w 1 1
      of_words (Text t) h = leaf_bounded (Text t) refl refl
      of_words (Int n) h = absurd (cc)
      of_words (Truth x) h = absurd (cc)
      of_words (Enumerated e c n) h = absurd (cc)
      of_words (Array' m vs) h = absurd (cc)
      of_words (Struct' m ps) h = absurd (cc)
      of_words Opaque h = absurd (cc)
  plain_bounded kind.U8 p w h = integer_bounded _ _ w h
  plain_bounded kind.U16 p w h = integer_bounded _ _ w h
  plain_bounded kind.U32 p w h = integer_bounded _ _ w h
  plain_bounded kind.U64 p w h = integer_bounded _ _ w h
  plain_bounded kind.I8 p w h = integer_bounded _ _ w h
  plain_bounded kind.I16 p w h = integer_bounded _ _ w h
  plain_bounded kind.I32 p w h = integer_bounded _ _ w h
  plain_bounded kind.I64 p w h = integer_bounded _ _ w h

  -- what is left of a struct's members
  parts_first : (f : Field) (fs : List Field) (n : List ℕ) (v : Value) {m : _} (ps : block.Row_of-MemberValue m) → parts_have types (f ∷ fs) (block.more_of-MemberValue n v ps) ≡ true
      → (has types (member_shape types f) v ≡ true) × (parts_have types fs ps ≡ true)
  parts_first f fs n v ps h =
      let p = both (bytes_eq n f.name && has types (member_shape types f) v) (parts_have types fs ps) h in
      ((both (bytes_eq n f.name) (has types (member_shape types f) v) p.0).1, p.1)

module _ (ws : List WrittenType) (types : List TypeDef) (well : AreWellWritten ws) (are : AllGiven ws types) where
  array_size : (i : ℕ) (size : ℕ) (k : Kind) (format : Option (List ℕ)) → HasForm ws i (form.Array size k format) → 1 ≤ size
  array_size i size k format h = from_one size (well.arrays_are_of_size i (form.Array size k format) h)

  abbrev AreSizes : List Field → Type 0
  AreSizes fields = list_all (λ (f : Field). if_some (is_from_1_to 256) f.size) fields ≡ true

  abbrev IsSizeIf : Option ℕ → Type 0
  IsSizeIf None = Unit {0}
  IsSizeIf (Some n) = 1 ≤ n

  size_if : (o : Option ℕ) → if_some (is_from_1_to 256) o ≡ true → IsSizeIf o
  size_if None e = tt
  size_if (Some n) e = from_one n e

  mutual
    some_leaves : {k : Kind} {a b : ℕ} → Measures ws k a b → 1 ≤ a
    some_leaves (plain p) = omega arith
    some_leaves (named {i = i} h m) = some_form_leaves i h m

    some_form_leaves : (i : ℕ) {f : Form} {a b : ℕ} → HasForm ws i f → MeasuresForm ws f a b → 1 ≤ a
    some_form_leaves i h abstract_ = omega arith
    some_form_leaves i h (alias m) = some_leaves m
    some_form_leaves i h (array {size = size} {a = a} {k = k} {format = format} m) = some_times size a (array_size i size k format h) (some_leaves m)
    some_form_leaves i h (struct m) = omega arith
    some_form_leaves i h (enum g m) = omega arith

  shape_in : (i : ℕ) (f : Form) → HasForm ws i f → shape types (kind.Named i) ≡ of_form (shape types) f
  shape_in i f h = shape_of_form types (no_self ws types are) i f (form_in ws types are i f h)

  opaque_bounded : (w : Value) → has types shapes.opaque w ≡ true → IsBounded w 1 1
  opaque_bounded Opaque h = leaf_bounded Opaque refl refl
  opaque_bounded (Int n) h = absurd (cc)
  opaque_bounded (Truth x) h = absurd (cc)
  opaque_bounded (Text t) h = absurd (cc)
  opaque_bounded (Enumerated e c n) h = absurd (cc)
  opaque_bounded (Array' m vs) h = absurd (cc)
  opaque_bounded (Struct' m ps) h = absurd (cc)

  constants_bounded : (cs : List Constant) (w : Value) → has types (shapes.constants cs) w ≡ true → IsBounded w 1 1
  constants_bounded cs (Enumerated e c n) h = leaf_bounded (Enumerated e c n) refl refl
  constants_bounded cs (Int n) h = absurd (cc)
  constants_bounded cs (Truth x) h = absurd (cc)
  constants_bounded cs (Text t) h = absurd (cc)
  constants_bounded cs Opaque h = absurd (cc)
  constants_bounded cs (Array' m vs) h = absurd (cc)
  constants_bounded cs (Struct' m ps) h = absurd (cc)

  mutual
    pub bounded : {k : Kind} {a b : ℕ} → Measures ws k a b → (w : Value) → has types (shape types k) w ≡ true → IsBounded w a b
    bounded (plain {k = k} p) w h = plain_bounded types k p w h
    bounded (named {i = i} {f = f} g m) w h = form_bounded i g m w (ap (λ (s : Shape). has types s w) (sym (shape_in i f g)) ∙ h)

    form_bounded : (i : ℕ) {f : Form} {a b : ℕ} → HasForm ws i f → MeasuresForm ws f a b → (w : Value) → has types (of_form (shape types) f) w ≡ true → IsBounded w a b
    form_bounded i g abstract_ w h = opaque_bounded w h
    form_bounded i g (alias m) w h = bounded m w h
    form_bounded i g (array {size = size} {a = a} {b = b} {k = k} {format = format} m) w h =
        array_bounded types k size a b (array_size i size k format g) (some_leaves m) (λ v e. bounded m v e) w h
    form_bounded i g (struct {fields = fields} m) (Struct' n ps) h =
        let p = fields_bounded m (well.arrays_are_of_size i (form.Struct fields) g) ps h in
        record { few = most _ _ p.0; low = more _ _ p.1 }
      where
        most : (x y : ℕ) → x ≤ y → max 1 x ≤ max 1 y
        most x y h = omega arith

        more : (x y : ℕ) → x ≤ y → suc x ≤ 1 + y
        more x y h = omega arith
    form_bounded i g (struct m) (Int n) h = absurd (cc)
    form_bounded i g (struct m) (Truth x) h = absurd (cc)
    form_bounded i g (struct m) (Text t) h = absurd (cc)
    form_bounded i g (struct m) (Enumerated e c n) h = absurd (cc)
    form_bounded i g (struct m) (Array' n vs) h = absurd (cc)
    form_bounded i g (struct m) Opaque h = absurd (cc)
    form_bounded i g (enum {cs = cs} p m) w h = constants_bounded cs w h

    fields_bounded : {fs : List Field} {a b : ℕ} → MeasuresFields ws fs a b → AreSizes fs → {n : _} (ps : block.Row_of-MemberValue n) → parts_have types fs ps ≡ true → (parts_leaves ps ≤ a) × (parts_levels ps ≤ b)
    fields_bounded no_field s block.end_of-MemberValue h = (omega arith, omega arith)
    fields_bounded no_field s (block.more_of-MemberValue n v ps) h = absurd (cc)
    fields_bounded (field m ms) s block.end_of-MemberValue h = absurd (cc)
    fields_bounded (field {f = f} {fs = fs} m ms) s (block.more_of-MemberValue n v ps) h =
        let p = parts_first types f fs n v ps h in
        let q = both (if_some (is_from_1_to 256) f.size) (list_all (λ (x : Field). if_some (is_from_1_to 256) x.size) fs) s in
        let here = member_bounded m (size_if f.size q.0) v (ap (λ (t : Shape). has types t v) (sym (sized_shape types f f.size refl)) ∙ p.0) in
        let rest = fields_bounded ms q.1 ps p.1 in
        (sum _ _ _ _ here.few rest.0, most _ _ _ _ here.low rest.1)
      where
        sum : (x y p q : ℕ) → x ≤ p → y ≤ q → x + y ≤ p + q
        sum x y p q h g = omega arith

        most : (x y p q : ℕ) → x ≤ p → y ≤ q → max x y ≤ max p q
        most x y p q h g = omega arith

    member_bounded : {s : Option ℕ} {k : Kind} {a b : ℕ} → MeasuresMember ws s k a b → IsSizeIf s → (w : Value) → has types (shape_of types (member_target s k)) w ≡ true → IsBounded w a b
    member_bounded (one m) s w h = bounded m w h
    member_bounded (many {size = size} {a = a} {b = b} {k = k} m) s w h = array_bounded types k size a b s (some_leaves m) (λ v e. bounded m v e) w h

  pub kind_is_of_size : (k : Kind) (w : Value) → IsOfSize ws k → has types (shape types k) w ≡ true → is_of_size w ≡ true
  kind_is_of_size k w s h =
      let p = bounded s.2 w h in
      join (nat_le (leaves w) 65536) (nat_le (levels w) 64) (at_most (leaves w) s.0 65536 p.few s.3) (at_most (levels w) s.1 64 p.low s.4)
    where
      at_most : (x y n : ℕ) → x ≤ y → y ≤ n → nat_le x n ≡ true
      at_most x y n h g = grind (arith, nat_tests)

  pub converted_is_of_size : (v : Value) (k : Kind) (w : Value) → Converts ws v k w → is_of_size w ≡ true
  converted_is_of_size v k w h = kind_is_of_size k w (result_of_size h) (converted_has_kind ws types well are v k w h)
