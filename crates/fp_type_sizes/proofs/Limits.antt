-- Whether types are too large, from the table of sizes; and what a type uses has a size where it has one.
use Rattle.std.proofs.Common.{◌≡◌, ℕ, zero, suc, ◌+◌, ◌<◌, ◌≤◌, Bool, true, false, List, [], ◌∷◌, map, Option, Some, None, refl, sym, ap, ◌∙◌, subst, slice_get, length, arith}
use Rattle.std.proofs.lemmas.Bool.Decides.{nat_tests}
use Rattle.std.proofs.lemmas.Option.{slice_get_within}
use Rattle.std.specs.Prelude.{min, nat_lt, ◌&&◌}
use Rattle.fp_base.proofs.Options.{same_some, no_some}
use Rattle.fp_base.proofs.Bools.{both}
use Rattle.fp_base.proofs.Numbers.{below_told}
use Rattle.fp_tables.specs.Types.{kinds_in}
use Rattle.fp_tables.specs.declared.kind.Kind.{Kind}
use Rattle.fp_tables.specs.declared.kind.Kind.TheVariants as kind
use Rattle.fp_tables.specs.declared.kind.Form.{Form}
use Rattle.fp_tables.specs.declared.kind.Form.TheVariants as form
use Rattle.fp_tables.specs.declared.kind.Field.{Field}
use Rattle.fp_type_sizes.specs.declared.written.WrittenType.{WrittenType}
use Rattle.fp_type_sizes.specs.declared.written.Size.{Size}
use Rattle.fp_type_sizes.specs.declared.written.TypeExtent.{TypeExtent}
use Rattle.fp_type_sizes.specs.Sizes.{HasForm, IsOfSize, Measures, plain, named, MeasuresForm, abstract_, alias, array, struct, enum, MeasuresFields, no_field, field, MeasuresMember, one, many}
use Rattle.fp_type_sizes.specs.Found.{UsesType, IsSize, AreExtents}
use Rattle.fp_type_sizes.specs.Sized.{kind_extent, is_few, is_few_if, AreSoundExtents, MissesNone}
use Rattle.fp_type_sizes.proofs.OneSize.{one_form, one_size}
use Rattle.fp_type_sizes.proofs.Counted.{kind_holds, kind_only, formed}
use Rattle.fp_base.proofs.Spots.{item_below}

-- ---- at least one level

mutual
  pub some_levels : {ws : List WrittenType} {k : Kind} {a b : ℕ} → Measures ws k a b → 1 ≤ b
  some_levels (plain h) = omega arith
  some_levels (named h m) = some_form_levels m

  some_form_levels : {ws : List WrittenType} {f : Form} {a b : ℕ} → MeasuresForm ws f a b → 1 ≤ b
  some_form_levels abstract_ = omega arith
  some_form_levels (alias m) = some_levels m
  some_form_levels (array m) = omega arith
  some_form_levels (struct m) = omega arith
  some_form_levels (enum h m) = omega arith

pub form_measured : {ws : List WrittenType} {i : ℕ} {f : Form} {a b : ℕ} → HasForm ws i f → Measures ws (kind.Named i) a b → MeasuresForm ws f a b
form_measured {ws = ws} {a = a} {b = b} h (named g m) = subst (λ (y : Form). MeasuresForm ws y a b) (one_form g h) m
form_measured h (plain p) = absurd p

pub of_struct : {ws : List WrittenType} {fields : List Field} {a b : ℕ} → MeasuresForm ws (form.Struct fields) a b → (c : ℕ) × (d : ℕ) × MeasuresFields ws fields c d × (b ≡ 1 + d)
of_struct (struct n) = (_, _, n, refl)

pub of_alias : {ws : List WrittenType} {k : Kind} {a b : ℕ} → MeasuresForm ws (form.Alias k) a b → Measures ws k a b
of_alias (alias m) = m

-- ---- what a form that has a size uses has one

abbrev pub HasSize : List WrittenType → Kind → Type 0
HasSize ws k = (a : ℕ) × (b : ℕ) × Measures ws k a b

single : {ws : List WrittenType} {k l : Kind} (n : ℕ) → slice_get (k ∷ []) n ≡ Some l → HasSize ws k → HasSize ws l
single {ws = ws} zero e m = subst (λ (x : Kind). HasSize ws x) (same_some e) m
single (suc n) e m = no_some e

member_sized : {ws : List WrittenType} {o : Option ℕ} {k : Kind} {a b : ℕ} → MeasuresMember ws o k a b → HasSize ws k
member_sized (one m) = (_, _, m)
member_sized (many m) = (_, _, m)

fields_sized : {ws : List WrittenType} {fs : List Field} {a b : ℕ} {l : Kind} (n : ℕ) → MeasuresFields ws fs a b → slice_get (map (λ (f : Field). f.kind) fs) n ≡ Some l → HasSize ws l
fields_sized n no_field e = no_some e
fields_sized {ws = ws} zero (field m ms) e = subst (λ (x : Kind). HasSize ws x) (same_some e) (member_sized m)
fields_sized (suc n) (field m ms) e = fields_sized n ms e

form_sized : {ws : List WrittenType} {f : Form} {a b : ℕ} {l : Kind} (n : ℕ) → MeasuresForm ws f a b → slice_get (kinds_in f) n ≡ Some l → HasSize ws l
form_sized n abstract_ e = no_some e
form_sized n (alias m) e = single n e (_, _, m)
form_sized n (array m) e = single n e (_, _, m)
form_sized n (struct m) e = fields_sized n m e
form_sized n (enum h m) e = single n e (_, _, m)

pub used_sized : {ws : List WrittenType} {v m : ℕ} → HasSize ws (kind.Named v) → UsesType ws v m → HasSize ws (kind.Named m)
used_sized s u = form_sized u.at (form_measured u.form s.2) u.used

-- ---- from the table of sizes

module _ (ws : List WrittenType) where
  nat_lt_true : (a b : ℕ) → nat_lt a b ≡ true → a < b
  nat_lt_true a b e = grind (arith, nat_tests)

  module _ (table : List (Option TypeExtent)) (are : AreExtents ws table) where
    pub is_sound : AreSoundExtents ws table
    is_sound i x e = (are.at i (Some x) e).holds x refl

    pub misses_none : (ks : List Kind) → MissesNone ws table ks
    misses_none ks n j a b e m =
        let f = formed ws j a b m in
        let lt : j < length table = subst (λ (x : ℕ). j < x) (sym are.each) (slice_get_within ws j f.1.written f.1.here) in
        let o = item_below table j lt in
        let x = (are.at j o.0 o.1).only a b m in
        (x.0, o.1 ∙ ap (λ (y : Option TypeExtent). Some y) x.1)

    pub few_of : (a b : ℕ) (s : Size) → IsSize a b s → is_few s ≡ true → (a ≤ 65536) × (b ≤ 64)
    few_of a b s is few =
        let halves = both (nat_lt s.leaves 65537) (nat_lt s.levels 65) few in
        (low_leaves a s.leaves is.leaves (nat_lt_true s.leaves 65537 halves.0), low_levels b s.levels is.levels (nat_lt_true s.levels 65 halves.1))
      where
        low_leaves : (m x : ℕ) → x ≡ min m 65537 → x < 65537 → m ≤ 65536
        low_leaves m x e l = omega arith

        low_levels : (m x : ℕ) → x ≡ min m 65 → x < 65 → m ≤ 64
        low_levels m x e l = omega arith

    pub of_few : (a b : ℕ) (s : Size) → IsSize a b s → a ≤ 65536 → b ≤ 64 → is_few s ≡ true
    of_few a b s is l h = let d = is.leaves in let e = is.levels in rw (below_told s.leaves 65537 (omega arith), below_told s.levels 65 (omega arith)) refl

  few_from : (table : List (Option TypeExtent)) (are : AreExtents ws table) (k : Kind) (o : Option TypeExtent) → kind_extent table k ≡ o → is_few_if o ≡ true → IsOfSize ws k
  few_from table are k None is e = absurd (cc)
  few_from table are k (Some x) is e =
      let p = kind_holds ws table k x (is_sound table are) is in
      let f = few_of table are p.leaves p.levels x.size p.size e in
      (p.leaves, p.levels, p.measures, f.0, f.1)

  pub is_sized : (table : List (Option TypeExtent)) (are : AreExtents ws table) (k : Kind) → is_few_if (kind_extent table k) ≡ true → IsOfSize ws k
  is_sized table are k e = few_from table are k (kind_extent table k) refl e

  pub sized_is : (table : List (Option TypeExtent)) (are : AreExtents ws table) (k : Kind) → IsOfSize ws k → is_few_if (kind_extent table k) ≡ true
  sized_is table are k s =
      let x = kind_only ws table k s.0 s.1 (misses_none table are (k ∷ [])) s.2 in
      let p = kind_holds ws table k x.0 (is_sound table are) x.1 in
      let same = one_size p.measures s.2 in
      ap is_few_if x.1 ∙ of_few table are p.leaves p.levels x.0.size p.size (at_most same.leaves s.3) (at_most same.levels s.4)
    where
      at_most : {m n most : ℕ} → m ≡ n → n ≤ most → m ≤ most
      at_most e d = omega arith
