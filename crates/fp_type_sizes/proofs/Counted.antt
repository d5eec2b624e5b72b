-- Sizes that are found from those that were found before.
use Rattle.std.proofs.Common.{◌≡◌, ◌≢◌, ℕ, zero, suc, ◌+◌, ◌*◌, ◌<◌, ◌≤◌, ◌⊎◌, inl, inr, Bool, true, false, cond, List, [], ◌∷◌, length, map, set, drop, get_or, Option, Some, None, refl, sym, ap, ◌∙◌, subst, slice_get, arith, length-set}
use Rattle.std.specs.Prelude.{ℤ, min, max, option_map}
use Rattle.std.proofs.lemmas.List.{at_drop_more}
use Rattle.std.proofs.lemmas.Option.{slice_get_within, slice_get_read}
use Rattle.fp_base.proofs.Options.{same_some, no_some}
use Rattle.fp_tables.specs.Types as types
use Rattle.fp_tables.specs.Types.{kinds_in, is_integer_kind}
use Rattle.fp_tables.specs.declared.kind.Kind.{Kind}
use Rattle.fp_tables.specs.declared.kind.Kind.TheVariants as kind
use Rattle.fp_tables.specs.declared.kind.Form.{Form}
use Rattle.fp_tables.specs.declared.kind.Form.TheVariants as form
use Rattle.fp_tables.specs.declared.kind.Field.{Field}
use Rattle.fp_tables.specs.declared.kind.Constant.{Constant}
use Rattle.fp_type_sizes.specs.declared.written.WrittenType.{WrittenType}
use Rattle.fp_type_sizes.specs.declared.written.Size.{Size}
use Rattle.fp_type_sizes.specs.declared.written.TypeExtent.{TypeExtent}
use Rattle.fp_type_sizes.specs.Sizes.{IsPlain, HasForm, IsAlias, IsInteger, EndsAs, at_plain, at_form, behind_alias, Measures, plain, named, MeasuresForm, abstract_, alias, array, struct, enum, MeasuresFields, no_field, field, MeasuresMember, one, many}
use Rattle.fp_type_sizes.specs.Found.{IsTypeOrder, IsSize, IsExtent, AreExtents}
use Rattle.fp_type_sizes.specs.Sized.{joined, leaf, kind_extent, ends_in_integer, times, beside, within, with_end, size_in, member_size, AreSoundExtents, MissesNone, MissesNoUse, FindsSize, FindsExtent, SizedFirst}
use Rattle.fp_type_sizes.proofs.OneSize.{one_form}
use Rattle.fp_base.proofs.Spots.{get_set_same, get_set_other, same_or_other, before_or_not}
use Rattle.fp_base.proofs.Numbers.{suc_times}

-- ---- numbers that stop

times_small : (n a : ℕ) → a ≤ 65537 → min (n * min a 65537) 65537 ≡ min (n * a) 65537
times_small n a h = ap (λ (x : ℕ). min (n * x) 65537) (omega arith)

times_large : (n a : ℕ) → 65537 ≤ a → min (n * min a 65537) 65537 ≡ min (n * a) 65537
times_large zero a h = let e : 0 * min a 65537 ≡ 0 * a = omega arith in ap (λ (x : ℕ). min x 65537) e
times_large (suc n) a h = ap (λ (x : ℕ). min (suc n * x) 65537) small ∙ both (suc n * 65537) (suc n * a) (n * a) (n * 65537) (suc_times n a) (suc_times n 65537)
  where
    small : min a 65537 ≡ 65537
    small = omega arith

    both : (x y p q : ℕ) → y ≡ a + p → x ≡ 65537 + q → min x 65537 ≡ min y 65537
    both x y p q e d = omega arith

times_stops : (n a : ℕ) → min (n * min a 65537) 65537 ≡ min (n * a) 65537
times_stops n a = go (before_or_not a 65537)
  where
    go : (a < 65537) ⊎ (65537 ≤ a) → min (n * min a 65537) 65537 ≡ min (n * a) 65537
    go (inl h) = times_small n a (omega arith)
    go (inr h) = times_large n a h

times_is : (n a b : ℕ) (s : Size) → IsSize a b s → IsSize (n * a) (1 + b) (times n s)
times_is n a b s is = record {
  leaves = ap (λ (x : ℕ). min (n * x) 65537) is.leaves ∙ times_stops n a;
  levels = levels_of b s.levels is.levels;
}
  where
    levels_of : (m x : ℕ) → x ≡ min m 65 → min (x + 1) 65 ≡ min (1 + m) 65
    levels_of m x e = omega arith

beside_is : (a b c d : ℕ) (s t : Size) → IsSize a b s → IsSize c d t → IsSize (a + c) (max b d) (beside s t)
beside_is a b c d s t is js = record {
  leaves = leaves_of a c s.leaves t.leaves is.leaves js.leaves;
  levels = levels_of b d s.levels t.levels is.levels js.levels;
}
  where
    leaves_of : (m n x y : ℕ) → x ≡ min m 65537 → y ≡ min n 65537 → min (x + y) 65537 ≡ min (m + n) 65537
    leaves_of m n x y e h = omega arith

    levels_of : (m n x y : ℕ) → x ≡ min m 65 → y ≡ min n 65 → max x y ≡ min (max m n) 65
    levels_of m n x y e h = omega arith

within_is : (a b : ℕ) (s : Size) → IsSize a b s → IsSize (max 1 a) (1 + b) (within s)
within_is a b s is = record {
  leaves = leaves_of a s.leaves is.leaves;
  levels = levels_of b s.levels is.levels;
}
  where
    leaves_of : (m x : ℕ) → x ≡ min m 65537 → max 1 x ≡ min (max 1 m) 65537
    leaves_of m x e = omega arith

    levels_of : (m x : ℕ) → x ≡ min m 65 → min (x + 1) 65 ≡ min (1 + m) 65
    levels_of m x e = omega arith

leaf_size : IsSize 1 1 (record { leaves = 1; levels = 1 })
leaf_size = record { leaves = refl; levels = refl }

-- ---- a type by itself

pub one_end : {ws : List WrittenType} {k d e : Kind} → EndsAs ws k d → EndsAs ws k e → d ≡ e
one_end (at_plain h) (at_plain g) = refl
one_end (at_plain h) (at_form f n) = absurd h
one_end (at_plain h) (behind_alias f r) = absurd h
one_end (at_form f n) (at_plain h) = absurd h
one_end (behind_alias f r) (at_plain h) = absurd h
one_end (at_form f n) (at_form g m) = refl
one_end (at_form f n) (behind_alias g r) = absurd (n (subst IsAlias (one_form g f) tt))
one_end (behind_alias g r) (at_form f n) = absurd (n (subst IsAlias (one_form g f) tt))
one_end {ws = ws} (behind_alias f r) (behind_alias {e = e} g q) = one_end r (subst (λ (k : Kind). EndsAs ws k e) (same_target (one_form g f)) q)
  where
    same_target : {k l : Kind} → form.Alias k ≡ form.Alias l → k ≡ l
    same_target e = cc

leaf_is : (ws : List WrittenType) (k : Kind) (x : TypeExtent) → IsPlain k → leaf k ≡ x → IsExtent ws k x
leaf_is ws k x p e = subst (λ (y : TypeExtent). IsExtent ws k y) e (record { leaves = 1; levels = 1; measures = plain p; size = leaf_size; ends = at_plain p })

module _ (ws : List WrittenType) (table : List (Option TypeExtent)) where
  named_holds : (i : ℕ) (o : Option (Option TypeExtent)) (x : TypeExtent) → AreSoundExtents ws table → slice_get table i ≡ o → joined o ≡ Some x → IsExtent ws (kind.Named i) x
  named_holds i None x sound is e = no_some e
  named_holds i (Some o) x sound is e = sound i x (is ∙ ap (λ (y : Option TypeExtent). Some y) e)

  pub kind_holds : (k : Kind) (x : TypeExtent) → AreSoundExtents ws table → kind_extent table k ≡ Some x → IsExtent ws k x
  kind_holds kind.U8 x sound e = leaf_is ws kind.U8 x tt (same_some e)
  kind_holds kind.U16 x sound e = leaf_is ws kind.U16 x tt (same_some e)
  kind_holds kind.U32 x sound e = leaf_is ws kind.U32 x tt (same_some e)
  kind_holds kind.U64 x sound e = leaf_is ws kind.U64 x tt (same_some e)
  kind_holds kind.I8 x sound e = leaf_is ws kind.I8 x tt (same_some e)
  kind_holds kind.I16 x sound e = leaf_is ws kind.I16 x tt (same_some e)
  kind_holds kind.I32 x sound e = leaf_is ws kind.I32 x tt (same_some e)
  kind_holds kind.I64 x sound e = leaf_is ws kind.I64 x tt (same_some e)
  kind_holds kind.Bool x sound e = leaf_is ws kind.Bool x tt (same_some e)
  kind_holds (kind.Str size) x sound e = leaf_is ws (kind.Str size) x tt (same_some e)
  kind_holds (kind.Named i) x sound e = named_holds i (slice_get table i) x sound refl e

  -- the table misses no size of the type
  abbrev pub MissesNot : Kind → Type 0
  MissesNot k = MissesNone ws table (k ∷ [])

  pub full_at : (ks : List Kind) (n : ℕ) (k : Kind) → slice_get ks n ≡ Some k → MissesNone ws table ks → MissesNot k
  full_at ks n k is full zero j a b e m = full n j a b (is ∙ e) m
  full_at ks n k is full (suc l) j a b e m = no_some e

  pub kind_only : (k : Kind) (a b : ℕ) → MissesNot k → Measures ws k a b → (x : TypeExtent) × (kind_extent table k ≡ Some x)
  kind_only kind.U8 a b full m = (leaf kind.U8, refl)
  kind_only kind.U16 a b full m = (leaf kind.U16, refl)
  kind_only kind.U32 a b full m = (leaf kind.U32, refl)
  kind_only kind.U64 a b full m = (leaf kind.U64, refl)
  kind_only kind.I8 a b full m = (leaf kind.I8, refl)
  kind_only kind.I16 a b full m = (leaf kind.I16, refl)
  kind_only kind.I32 a b full m = (leaf kind.I32, refl)
  kind_only kind.I64 a b full m = (leaf kind.I64, refl)
  kind_only kind.Bool a b full m = (leaf kind.Bool, refl)
  kind_only (kind.Str size) a b full m = (leaf (kind.Str size), refl)
  kind_only (kind.Named i) a b full m = let p = full 0 i a b refl m in (p.0, ap joined p.1)

  pub kind_found : (k : Kind) → AreSoundExtents ws table → FindsExtent (MissesNot k) ws k (kind_extent table k)
  kind_found k sound = record { holds = λ x e. kind_holds k x sound e; only = λ full a b m. kind_only k a b full m }

  size_holds : (k : Kind) (o : Option TypeExtent) (s : Size) → AreSoundExtents ws table → kind_extent table k ≡ o → size_in o ≡ Some s → (a : ℕ) × (b : ℕ) × Measures ws k a b × IsSize a b s
  size_holds k None s sound is e = no_some e
  size_holds k (Some x) s sound is e =
      let found = kind_holds k x sound is in
      (found.leaves, found.levels, found.measures, subst (λ (t : Size). IsSize found.leaves found.levels t) (same_some e) found.size)

  pub size_found : (k : Kind) → AreSoundExtents ws table → FindsSize (MissesNot k) (Measures ws k) (size_in (kind_extent table k))
  size_found k sound = record {
    holds = λ s e. size_holds k (kind_extent table k) s sound refl e;
    only = λ full a b m. let p = kind_only k a b full m in (p.0.size, ap size_in p.1);
  }

-- ---- integer types

abbrev Range : Kind → Type 0
Range k = (low : ℤ) × (high : ℤ) × (types.shape [] k ≡ types.integer low high)

integer_end : (k : Kind) → is_integer_kind k ≡ true → Range k
integer_end kind.U8 e = (_, _, refl)
integer_end kind.U16 e = (_, _, refl)
integer_end kind.U32 e = (_, _, refl)
integer_end kind.U64 e = (_, _, refl)
integer_end kind.I8 e = (_, _, refl)
integer_end kind.I16 e = (_, _, refl)
integer_end kind.I32 e = (_, _, refl)
integer_end kind.I64 e = (_, _, refl)
integer_end kind.Bool e = absurd (cc)
integer_end (kind.Str size) e = absurd (cc)
integer_end (kind.Named i) e = absurd (cc)

pub end_integer : (k : Kind) (low high : ℤ) → types.shape [] k ≡ types.integer low high → is_integer_kind k ≡ true
end_integer kind.U8 low high e = refl
end_integer kind.U16 low high e = refl
end_integer kind.U32 low high e = refl
end_integer kind.U64 low high e = refl
end_integer kind.I8 low high e = refl
end_integer kind.I16 low high e = refl
end_integer kind.I32 low high e = refl
end_integer kind.I64 low high e = refl
end_integer kind.Bool low high e = absurd (cc)
end_integer (kind.Str size) low high e = absurd (cc)
end_integer (kind.Named i) low high e = absurd (cc)

-- ---- members

module _ {full : Type 0} {ws : List WrittenType} {k : Kind} where
  pub find_one : (o : Option Size) → FindsSize full (Measures ws k) o → FindsSize full (MeasuresMember ws None k) o
  find_one o f = record {
    holds = λ s e. let p = f.holds s e in (p.0, p.1, one p.2, p.3);
    only = λ all a b m. only_one a b m all;
  }
    where
      only_one : (a b : ℕ) → MeasuresMember ws None k a b → full → (s : Size) × (o ≡ Some s)
      only_one a b (one m) all = f.only all _ _ m

  many_holds : (n : ℕ) (o : Option Size) (s : Size) → FindsSize full (Measures ws k) o → option_map (times n) o ≡ Some s → (a : ℕ) × (b : ℕ) × MeasuresMember ws (Some n) k a b × IsSize a b s
  many_holds n None s f e = no_some e
  many_holds n (Some t) s f e =
      let p = f.holds t refl in
      (n * p.0, 1 + p.1, many p.2, subst (λ (x : Size). IsSize (n * p.0) (1 + p.1) x) (same_some e) (times_is n p.0 p.1 t p.3))

  many_only : (n : ℕ) (o : Option Size) → FindsSize full (Measures ws k) o → full → (a b : ℕ) → MeasuresMember ws (Some n) k a b → (s : Size) × (option_map (times n) o ≡ Some s)
  many_only n o f all a b (many m) = let p = f.only all _ _ m in (times n p.0, ap (λ (x : Option Size). option_map (times n) x) p.1)

  pub find_many : (n : ℕ) (o : Option Size) → FindsSize full (Measures ws k) o → FindsSize full (MeasuresMember ws (Some n) k) (option_map (times n) o)
  find_many n o f = record { holds = λ s e. many_holds n o s f e; only = λ all a b m. many_only n o f all a b m }

pub member_found : (ws : List WrittenType) (table : List (Option TypeExtent)) (size : Option ℕ) (k : Kind) → AreSoundExtents ws table
    → FindsSize (MissesNone ws table (k ∷ [])) (MeasuresMember ws size k) (member_size size (size_in (kind_extent table k)))
member_found ws table None k sound = find_one _ (size_found ws table k sound)
member_found ws table (Some n) k sound = find_many n _ (size_found ws table k sound)

-- ---- the members of a struct, one after another

-- what was summed up, before what is left
pub record IsRunning (ws : List WrittenType) (fields rest : List Field) (sum : Size) : Type 0 where
  pub leaves : ℕ
  pub levels : ℕ
  pub size : IsSize leaves levels sum
  pub forth : (c d : ℕ) → MeasuresFields ws rest c d → MeasuresFields ws fields (leaves + c) (max levels d)
  pub back : (a b : ℕ) → MeasuresFields ws fields a b → (c : ℕ) × (d : ℕ) × MeasuresFields ws rest c d

moved_fields : {ws : List WrittenType} {fs : List Field} {a b c d : ℕ} → a ≡ c → b ≡ d → MeasuresFields ws fs a b → MeasuresFields ws fs c d
moved_fields {ws = ws} {fs = fs} {b = b} {c = c} e h m = subst (λ (y : ℕ). MeasuresFields ws fs c y) h (subst (λ (x : ℕ). MeasuresFields ws fs x b) e m)

pub running_first : (ws : List WrittenType) (fields : List Field) (sum : Size) → sum ≡ record { leaves = 0; levels = 0 } → IsRunning ws fields fields sum
running_first ws fields sum is = subst (λ (s : Size). IsRunning ws fields fields s) (sym is) (record {
  leaves = 0;
  levels = 0;
  size = record { leaves = refl; levels = refl };
  forth = λ c d m. moved_fields (omega arith) (omega arith) m;
  back = λ a b m. (a, b, m);
})

taken : {ws : List WrittenType} {rest : List Field} {f : Field} (a b : ℕ) → MeasuresFields ws (f ∷ rest) a b
    → (x : ℕ) × (y : ℕ) × (c : ℕ) × (d : ℕ) × MeasuresMember ws f.size f.kind x y × MeasuresFields ws rest c d
taken a b (field m ms) = (_, _, _, _, m, ms)

module _ {ws : List WrittenType} {fields rest : List Field} {f : Field} {sum : Size} where
  pub running_next : (x y : ℕ) (s : Size) → IsRunning ws fields (f ∷ rest) sum → MeasuresMember ws f.size f.kind x y → IsSize x y s → IsRunning ws fields rest (beside sum s)
  running_next x y s run m is = record {
    leaves = run.leaves + x;
    levels = max run.levels y;
    size = beside_is run.leaves run.levels x y sum s run.size is;
    forth = λ c d ms. moved_fields (omega arith) (omega arith) (run.forth (x + c) (max y d) (field m ms));
    back = λ a b ms. let p = run.back a b ms in let q = taken p.0 p.1 p.2 in (q.2, q.3, q.5);
  }

  pub running_none : (full : Type 0) → IsRunning ws fields (f ∷ rest) sum → FindsSize full (MeasuresMember ws f.size f.kind) None → full → (a b : ℕ) → MeasuresFields ws fields a b → ⊥
  running_none full run found all a b ms =
      let p = run.back a b ms in
      let q = taken p.0 p.1 p.2 in
      let r = found.only all q.0 q.1 q.4 in
      no_some r.1

pub running_last : {ws : List WrittenType} {fields : List Field} {sum : Size} (full : Type 0) → IsRunning ws fields [] sum → FindsSize full (MeasuresFields ws fields) (Some sum)
running_last {ws = ws} {fields = fields} {sum = sum} full run = record {
  holds = λ s e. (run.leaves, run.levels, moved_fields (omega arith) (omega arith) (run.forth 0 0 no_field), subst (λ (t : Size). IsSize run.leaves run.levels t) (same_some e) run.size);
  only = λ all a b m. (sum, refl);
}

-- ---- forms

module _ (ws : List WrittenType) (i : ℕ) where
  struct_holds : (full : Type 0) (fields : List Field) (o : Option Size) (x : TypeExtent) → HasForm ws i (form.Struct fields) → FindsSize full (MeasuresFields ws fields) o
      → option_map (with_end (kind.Named i)) (option_map within o) ≡ Some x → IsExtent ws (kind.Named i) x
  struct_holds full fields None x h f e = no_some e
  struct_holds full fields (Some s) x h f e =
      let p = f.holds s refl in
      subst (λ (y : TypeExtent). IsExtent ws (kind.Named i) y) (same_some e) (record {
        leaves = max 1 p.0;
        levels = 1 + p.1;
        measures = named h (struct p.2);
        size = within_is p.0 p.1 s p.3;
        ends = at_form h (λ n. n);
      })

  struct_only : (full : Type 0) (fields : List Field) (o : Option Size) → HasForm ws i (form.Struct fields) → FindsSize full (MeasuresFields ws fields) o
      → full → (f : Form) (a b : ℕ) → f ≡ form.Struct fields → MeasuresForm ws f a b → (x : TypeExtent) × (option_map (with_end (kind.Named i)) (option_map within o) ≡ Some x)
  struct_only full fields o h f all g a b e m =
      let n = members (subst (λ (y : Form). MeasuresForm ws y a b) e m) in
      let p = f.only all n.0 n.1 n.2 in
      (with_end (kind.Named i) (within p.0), ap (λ (y : Option Size). option_map (with_end (kind.Named i)) (option_map within y)) p.1)
    where
      members : {c d : ℕ} → MeasuresForm ws (form.Struct fields) c d → (x : ℕ) × (y : ℕ) × MeasuresFields ws fields x y
      members (struct n) = (_, _, n)

  form_measured : (f : Form) (a b : ℕ) → HasForm ws i f → Measures ws (kind.Named i) a b → MeasuresForm ws f a b
  form_measured f a b h (named g m) = subst (λ (y : Form). MeasuresForm ws y a b) (one_form g h) m
  form_measured f a b h (plain p) = absurd p

  pub struct_found : (full : Type 0) (fields : List Field) (o : Option Size) → HasForm ws i (form.Struct fields) → FindsSize full (MeasuresFields ws fields) o
      → FindsExtent full ws (kind.Named i) (option_map (with_end (kind.Named i)) (option_map within o))
  struct_found full fields o h f = record {
    holds = λ x e. struct_holds full fields o x h f e;
    only = λ all a b m. struct_only full fields o h f all (form.Struct fields) a b refl (form_measured (form.Struct fields) a b h m);
  }

  array_holds : (full : Type 0) (n : ℕ) (k : Kind) (format : Option (List ℕ)) (o : Option Size) (x : TypeExtent) → HasForm ws i (form.Array n k format) → FindsSize full (Measures ws k) o
      → option_map (with_end (kind.Named i)) (option_map (times n) o) ≡ Some x → IsExtent ws (kind.Named i) x
  array_holds full n k format None x h f e = no_some e
  array_holds full n k format (Some s) x h f e =
      let p = f.holds s refl in
      subst (λ (y : TypeExtent). IsExtent ws (kind.Named i) y) (same_some e) (record {
        leaves = n * p.0;
        levels = 1 + p.1;
        measures = named h (array p.2);
        size = times_is n p.0 p.1 s p.3;
        ends = at_form h (λ n. n);
      })

  of_array : {n : ℕ} {k : Kind} {format : Option (List ℕ)} {c d : ℕ} → MeasuresForm ws (form.Array n k format) c d → (x : ℕ) × (y : ℕ) × Measures ws k x y
  of_array (array n) = (_, _, n)

  pub array_found : (full : Type 0) (n : ℕ) (k : Kind) (format : Option (List ℕ)) (o : Option Size) → HasForm ws i (form.Array n k format) → FindsSize full (Measures ws k) o
      → FindsExtent full ws (kind.Named i) (option_map (with_end (kind.Named i)) (option_map (times n) o))
  array_found full n k format o h f = record {
    holds = λ x e. array_holds full n k format o x h f e;
    only = λ all a b m.
        let q = of_array (form_measured (form.Array n k format) a b h m) in
        let p = f.only all q.0 q.1 q.2 in
        (with_end (kind.Named i) (times n p.0), ap (λ (y : Option Size). option_map (with_end (kind.Named i)) (option_map (times n) y)) p.1);
  }

  of_alias : {k : Kind} {c d : ℕ} → MeasuresForm ws (form.Alias k) c d → Measures ws k c d
  of_alias (alias m) = m

  pub alias_found : (full : Type 0) (k : Kind) (o : Option TypeExtent) → HasForm ws i (form.Alias k) → FindsExtent full ws k o → FindsExtent full ws (kind.Named i) o
  alias_found full k o h f = record {
    holds = λ x e. let p = f.holds x e in record { leaves = p.leaves; levels = p.levels; measures = named h (alias p.measures); size = p.size; ends = behind_alias h p.ends };
    only = λ all a b m. f.only all a b (of_alias (form_measured (form.Alias k) a b h m));
  }

  leaf_here : (f : Form) (x : TypeExtent) → HasForm ws i f → MeasuresForm ws f 1 1 → ¬ IsAlias f → leaf (kind.Named i) ≡ x → IsExtent ws (kind.Named i) x
  leaf_here f x h m n e = subst (λ (y : TypeExtent). IsExtent ws (kind.Named i) y) e (record { leaves = 1; levels = 1; measures = named h m; size = leaf_size; ends = at_form h n })

  pub abstract_found : (full : Type 0) → HasForm ws i form.Abstract → FindsExtent full ws (kind.Named i) (Some (leaf (kind.Named i)))
  abstract_found full h = record {
    holds = λ x e. leaf_here form.Abstract x h abstract_ (λ n. n) (same_some e);
    only = λ all a b m. (leaf (kind.Named i), refl);
  }

  of_enum : {k : Kind} {cs : List Constant} {c d : ℕ} → MeasuresForm ws (form.Enum k cs) c d → (low : ℤ) × (high : ℤ) × (x : ℕ) × (y : ℕ) × IsInteger ws k low high × Measures ws k x y
  of_enum (enum h m) = (_, _, _, _, h, m)

  enum_holds : (full : Type 0) (k : Kind) (cs : List Constant) (o : Option TypeExtent) (x : TypeExtent) → HasForm ws i (form.Enum k cs) → FindsExtent full ws k o
      → cond (ends_in_integer o) (Some (leaf (kind.Named i))) None ≡ Some x → IsExtent ws (kind.Named i) x
  enum_holds full k cs None x h f e = no_some e
  enum_holds full k cs (Some y) x h f e = go (is_integer_kind y.end) refl e
    where
      go : (b : Bool) → is_integer_kind y.end ≡ b → cond b (Some (leaf (kind.Named i))) None ≡ Some x → IsExtent ws (kind.Named i) x
      go false is e = no_some e
      go true is e =
          let p = f.holds y refl in
          let range = integer_end y.end is in
          leaf_here (form.Enum k cs) x h (enum (y.end, p.ends, range.2) p.measures) (λ n. n) (same_some e)

  pub enum_found : (full : Type 0) (k : Kind) (cs : List Constant) (o : Option TypeExtent) → HasForm ws i (form.Enum k cs) → FindsExtent full ws k o
      → FindsExtent full ws (kind.Named i) (cond (ends_in_integer o) (Some (leaf (kind.Named i))) None)
  enum_found full k cs o h f = record {
    holds = λ x e. enum_holds full k cs o x h f e;
    only = λ all a b m.
        let q = of_enum (form_measured (form.Enum k cs) a b h m) in
        let p = f.only all q.2 q.3 q.5 in
        let same = one_end (f.holds p.0 p.1).ends q.4.1 in
        let is : ends_in_integer o ≡ true = ap ends_in_integer p.1 ∙ ap is_integer_kind same ∙ end_integer q.4.0 q.0 q.1 q.4.2 in
        (leaf (kind.Named i), ap (λ (y : Bool). cond y (Some (leaf (kind.Named i))) None) is);
  }

-- what is found of a form
abbrev pub FormFinds : List (Option TypeExtent) → ℕ → Form → Option TypeExtent → Type 0
FormFinds table i f o = (ws : List WrittenType) → HasForm ws i f → AreSoundExtents ws table → FindsExtent (MissesNone ws table (kinds_in f)) ws (kind.Named i) o

module _ (table : List (Option TypeExtent)) (i : ℕ) where
  pub abstract_arm : FormFinds table i form.Abstract (Some (leaf (kind.Named i)))
  abstract_arm ws h sound = abstract_found ws i _ h

  pub alias_arm : (k : Kind) → FormFinds table i (form.Alias k) (kind_extent table k)
  alias_arm k ws h sound = alias_found ws i _ k _ h (kind_found ws table k sound)

  pub array_arm : (n : ℕ) (k : Kind) (format : Option (List ℕ)) → FormFinds table i (form.Array n k format) (option_map (with_end (kind.Named i)) (option_map (times n) (size_in (kind_extent table k))))
  array_arm n k format ws h sound = array_found ws i _ n k format _ h (size_found ws table k sound)

  pub struct_arm : (fields : List Field) (o : Option Size)
      → ((ws : List WrittenType) → AreSoundExtents ws table → FindsSize (MissesNone ws table (map (λ (f : Field). f.kind) fields)) (MeasuresFields ws fields) o)
      → FormFinds table i (form.Struct fields) (option_map (with_end (kind.Named i)) (option_map within o))
  struct_arm fields o f ws h sound = struct_found ws i _ fields o h (f ws sound)

  pub struct_arm_of : (fields xs : List Field) (o : Option Size) → xs ≡ fields
      → ((ws : List WrittenType) → AreSoundExtents ws table → FindsSize (MissesNone ws table (map (λ (f : Field). f.kind) xs)) (MeasuresFields ws xs) o)
      → FormFinds table i (form.Struct fields) (option_map (with_end (kind.Named i)) (option_map within o))
  struct_arm_of fields xs o e f = subst (λ (l : List Field). FormFinds table i (form.Struct l) (option_map (with_end (kind.Named i)) (option_map within o))) e (struct_arm xs o f)

  pub enum_arm : (k : Kind) (cs : List Constant) → FormFinds table i (form.Enum k cs) (cond (ends_in_integer (kind_extent table k)) (Some (leaf (kind.Named i))) None)
  enum_arm k cs ws h sound = enum_found ws i _ k cs _ h (kind_found ws table k sound)

  pub arm : (f g : Form) (o p : Option TypeExtent) → f ≡ g → o ≡ p → FormFinds table i g p → FormFinds table i f o
  arm f g o p e d h = subst (λ (x : Form). FormFinds table i x o) (sym e) (subst (λ (x : Option TypeExtent). FormFinds table i g x) (sym d) h)

-- ---- the pass

pub formed : (ws : List WrittenType) (i a b : ℕ) → Measures ws (kind.Named i) a b → (f : Form) × HasForm ws i f
formed ws i a b (named h m) = (_, h)
formed ws i a b (plain p) = absurd p

module _ (ws : List WrittenType) (table : List (Option TypeExtent)) (i : ℕ) where
  uses_full : (f : Form) → HasForm ws i f → MissesNoUse ws table i → MissesNone ws table (kinds_in f)
  uses_full f h full n j a b e m = full j a b (record { shape = f; form = h; at = n; used = e }) m

  pub from_form : (f : Form) (o : Option TypeExtent) → HasForm ws i f → AreSoundExtents ws table → FormFinds table i f o → FindsExtent (MissesNoUse ws table i) ws (kind.Named i) o
  from_form f o h sound found = let p = found ws h sound in record { holds = p.holds; only = λ full a b m. p.only (uses_full f h full) a b m }

  pub no_form : ((f : Form) → HasForm ws i f → ⊥) → FindsExtent (MissesNoUse ws table i) ws (kind.Named i) None
  no_form none = record { holds = λ x e. no_some e; only = λ full a b m. let p = formed ws i a b m in absurd (none p.0 p.1) }

pub no_form_of : (ws : List WrittenType) (i : ℕ) (w : WrittenType) → slice_get ws i ≡ Some w → w.form ≡ None → (f : Form) → HasForm ws i f → ⊥
no_form_of ws i w is none f h =
    let same : w ≡ h.written = same_some (sym is ∙ h.here) in
    no_some (sym none ∙ ap (λ (x : WrittenType). x.form) same ∙ h.form)

pub no_form_past : (ws : List WrittenType) (i : ℕ) → slice_get ws i ≡ None → (f : Form) → HasForm ws i f → ⊥
no_form_past ws i none f h = no_some (sym none ∙ h.here)

pub sized_first : (ws : List WrittenType) (order : List ℕ) (table : List (Option TypeExtent)) → length table ≡ length ws → AreSoundExtents ws table → SizedFirst ws order 0 table
sized_first ws order table each sound = record { each = each; sound = sound; done = λ j v a b lt e m. absurd (omega arith) }

module _ (ws : List WrittenType) (order : List ℕ) (ordered : IsTypeOrder ws order) (table : List (Option TypeExtent)) (k v : ℕ) (o : Option TypeExtent) where
  full_here : SizedFirst ws order k table → slice_get order k ≡ Some v → (a b : ℕ) → Measures ws (kind.Named v) a b → MissesNoUse ws table v
  full_here first is a b m w c d uses n =
      let p = ordered.behind k v w a b is m uses in
      first.done p.0 w c d p.1 p.2 n

  pub sized_next : SizedFirst ws order k table → slice_get order k ≡ Some v → FindsExtent (MissesNoUse ws table v) ws (kind.Named v) o → SizedFirst ws order (k + 1) (set table v o)
  sized_next first is found = record {
    each = length-set table v o ∙ first.each;
    sound = λ i x e. sound_at i x (same_or_other i v) e;
    done = λ j u a b lt e m. done_at j u a b lt e m (same_or_other u v);
  }
    where
      here : slice_get (set table v o) v ≡ Some o
      here = get_set_same table v o (let lt = ordered.within k v is in let each = first.each in omega arith)

      sound_same : (x : TypeExtent) → slice_get (set table v o) v ≡ Some (Some x) → IsExtent ws (kind.Named v) x
      sound_same x e = found.holds x (same_some (sym here ∙ e))

      sound_at : (i : ℕ) (x : TypeExtent) → (i ≡ v) ⊎ (i ≢ v) → slice_get (set table v o) i ≡ Some (Some x) → IsExtent ws (kind.Named i) x
      sound_at i x (inl same) e =
          subst (λ (n : ℕ). IsExtent ws (kind.Named n) x) (sym same) (sound_same x (subst (λ (n : ℕ). slice_get (set table v o) n ≡ Some (Some x)) same e))
      sound_at i x (inr other) e = first.sound i x (sym (get_set_other table v i o other) ∙ e)

      done_same : (a b : ℕ) → Measures ws (kind.Named v) a b → (x : TypeExtent) × (slice_get (set table v o) v ≡ Some (Some x))
      done_same a b m = let p = found.only (full_here first is a b m) a b m in (p.0, here ∙ ap (λ (y : Option TypeExtent). Some y) p.1)

      earlier : (j u : ℕ) → j < k + 1 → slice_get order j ≡ Some u → u ≢ v → j < k
      earlier j u lt e other = go (same_or_other j k)
        where
          go : (j ≡ k) ⊎ (j ≢ k) → j < k
          go (inl same) = absurd (other (same_some (sym e ∙ ap (λ (n : ℕ). slice_get order n) same ∙ is)))
          go (inr n) = omega arith

      done_at : (j u a b : ℕ) → j < k + 1 → slice_get order j ≡ Some u → Measures ws (kind.Named u) a b → (u ≡ v) ⊎ (u ≢ v) → (x : TypeExtent) × (slice_get (set table v o) u ≡ Some (Some x))
      done_at j u a b lt e m (inl same) =
          let p = done_same a b (subst (λ (n : ℕ). Measures ws (kind.Named n) a b) same m) in
          (p.0, ap (λ (n : ℕ). slice_get (set table v o) n) same ∙ p.1)
      done_at j u a b lt e m (inr other) =
          let p = first.done j u a b (earlier j u lt e other) e m in
          (p.0, get_set_other table v u o other ∙ p.1)

pub sized_all : (ws : List WrittenType) (order : List ℕ) (table : List (Option TypeExtent)) (k : ℕ) → IsTypeOrder ws order → length order ≤ k → SizedFirst ws order k table → AreExtents ws table
sized_all ws order table k ordered all first = record {
  each = first.each;
  at = λ i o is. record {
    holds = λ x e. first.sound i x (is ∙ ap (λ (y : Option TypeExtent). Some y) e);
    only = λ a b m.
        let lt : i < length ws = subst (λ (n : ℕ). i < n) first.each (slice_get_within table i o is) in
        let p = ordered.all i lt in
        let below : p.0 < length order = slice_get_within order p.0 i p.1 in
        let q = first.done p.0 i a b (omega arith) p.1 m in
        (q.0, same_some (sym is ∙ q.1));
  };
}

-- ---- steps of a loop

pub left_of : (fields : List Field) (i : ℕ) (f : Field) → i < length fields → f ≡ get_or fields i f → drop i fields ≡ f ∷ drop (i + 1) fields
left_of fields i f lt is = at_drop_more (λ (xs : List Field). xs) fields i f lt ∙ ap (λ (x : Field). x ∷ drop (i + 1) fields) (sym is)

pub field_kind : (fields : List Field) (i : ℕ) (f : Field) → i < length fields → f ≡ get_or fields i f → slice_get (map (λ (x : Field). x.kind) fields) i ≡ Some f.kind
field_kind fields i f lt is = mapped fields i f (slice_get_read fields (length fields) i f refl lt is)
  where
    mapped : (xs : List Field) (n : ℕ) (x : Field) → slice_get xs n ≡ Some x → slice_get (map (λ (y : Field). y.kind) xs) n ≡ Some x.kind
    mapped [] n x e = no_some e
    mapped (y ∷ ys) zero x e = ap (λ (z : Field). Some z.kind) (same_some e)
    mapped (y ∷ ys) (suc n) x e = mapped ys n x e

pub at_size : (full : Type 0) (P : ℕ → ℕ → Type 0) (o : Option Size) {p : Option Size} → o ≡ p → FindsSize full P o → FindsSize full P p
at_size full P o e f = subst (λ (x : Option Size). FindsSize full P x) e f

pub none_found : (full : Type 0) (P : ℕ → ℕ → Type 0) → (full → (a b : ℕ) → P a b → ⊥) → FindsSize full P None
none_found full P never = record { holds = λ s e. no_some e; only = λ all a b m. absurd (never all a b m) }
