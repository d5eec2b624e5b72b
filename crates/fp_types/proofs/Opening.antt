-- What a type is for every value, and that no level is enough for none.
use Rattle.std.proofs.Common.{◌≡◌, ℕ, suc, ◌+◌, ◌-◌, ◌*◌, ◌≤◌, Bool, true, false, cond, List, [], ◌∷◌, map, Option, Some, None, refl, sym, ap, ◌∙◌, subst, slice_get, arith}
use Rattle.fp_base.specs.declared.value.Value.{Value}
use Rattle.fp_base.proofs.Options.{no_some}
use Rattle.fp_tables.specs.Types.{kinds_in}
use Rattle.fp_tables.specs.declared.kind.Kind.{Kind}
use Rattle.fp_tables.specs.declared.kind.Kind.TheVariants as kind
use Rattle.fp_tables.specs.declared.kind.Form.{Form}
use Rattle.fp_tables.specs.declared.kind.Form.TheVariants as form
use Rattle.fp_tables.specs.declared.kind.Field.{Field}
use Rattle.fp_type_sizes.specs.declared.written.WrittenType.{WrittenType}
use Rattle.fp_type_sizes.specs.declared.written.TypeExtent.{TypeExtent}
use Rattle.fp_types.specs.declared.target.Rest.{Rest}
use Rattle.fp_types.specs.declared.target.Rest.TheVariants.{OfStruct}
use Rattle.fp_type_sizes.specs.Sizes.{IsPlain, HasForm, IsAlias, IsOfSize, EndsAs, at_plain, at_form, behind_alias, Measures, plain, named, alias, array, MeasuresFields, no_field, field, MeasuresMember, one, many}
use Rattle.fp_types.specs.Converting.{Opened, Target, of_kind, form_target, plain_target, Becomes, in_plain, in_named}
use Rattle.fp_type_sizes.specs.Found.{IsExtent, AreExtents}
use Rattle.fp_type_sizes.specs.Sized.{kind_extent, is_few}
use Rattle.fp_types.specs.Making.{StandsIn, itself, further, HasDefaultsIn, Suffices, SufficesEach, SufficesIn, OpensTo, IsTargetOf}
use Rattle.fp_types.specs.Read.{form_if, written_if, form_of_written, end_target}
use Rattle.fp_type_sizes.proofs.OneSize.{one_form, one_size}
use Rattle.fp_type_sizes.proofs.Counted.{kind_holds, kind_only}
use Rattle.fp_type_sizes.proofs.Limits.{few_of, of_few, form_measured, of_struct, of_alias, some_levels, is_sound, misses_none}

pub measured : {ws : List WrittenType} {v : Opened} {k : Kind} {w : Value} → Becomes ws v (of_kind k) w → (a : ℕ) × (b : ℕ) × Measures ws k a b
measured (in_plain p h) = (1, 1, plain p)
measured (in_named f s h) = (s.0, s.1, s.2)

pub no_levels : (ws : List WrittenType) (k : Kind) {v : Opened} {w : Value} → ((a b : ℕ) → Measures ws k a b → b ≤ 0) → Becomes ws v (of_kind k) w → ⊥
no_levels ws k none h = let m = measured h in let low = none m.0 m.1 m.2 in let some = some_levels m.2 in omega arith

-- ---- what stands inside

module _ {ws : List WrittenType} {i : ℕ} {f : Form} (h : HasForm ws i f) where
  pub inside_of : (at : ℕ) {k : Kind} {j : ℕ} → slice_get (kinds_in f) at ≡ Some k → StandsIn ws k j → StandsIn ws (kind.Named i) j
  inside_of at e itself = further (record { shape = f; form = h; at = at; used = e }) itself
  inside_of at e (further u ins) = further (record { shape = f; form = h; at = at; used = e }) (further u ins)

  pub knows_of : (defaults : List (Option Value)) (at : ℕ) (k : Kind) → slice_get (kinds_in f) at ≡ Some k → HasDefaultsIn ws defaults (kind.Named i) → HasDefaultsIn ws defaults k
  knows_of defaults at k e knows j ins = knows j (inside_of at e ins)

member_levels : {ws : List WrittenType} {o : Option ℕ} {k : Kind} {x y a b : ℕ} → MeasuresMember ws o k x y → Measures ws k a b → b ≤ y
member_levels {y = y} {b = b} (one m) n = let same = (one_size m n).levels in omega arith
member_levels (many m) n = let same = (one_size m n).levels in omega arith

pub each_full : {ws : List WrittenType} (defaults : List (Option Value)) {fields : List Field} {c d : ℕ} (m : ℕ) → MeasuresFields ws fields c d → d ≤ m
    → ((at : ℕ) (k : Kind) → slice_get (map (λ (f : Field). f.kind) fields) at ≡ Some k → HasDefaultsIn ws defaults k) → SufficesEach ws defaults m fields
each_full defaults m no_field h knows = tt
each_full {ws = ws} defaults m (field {f = f} {b = b} {d = d} n ns) h knows =
    let low : b ≤ m = omega arith in
    let rest : d ≤ m = omega arith in
    let here : Suffices ws defaults m f.kind = record { enough = λ x y k. let l = member_levels n k in omega arith; knows = knows 0 f.kind refl } in
    (here, each_full defaults m ns rest (λ at k e. knows (suc at) k e))

module _ (ws : List WrittenType) where
  form_inside : (defaults : List (Option Value)) (n i : ℕ) (f : Form) → HasForm ws i f → ¬ IsAlias f → IsOfSize ws (kind.Named i) → Suffices ws defaults n (kind.Named i)
      → SufficesIn ws defaults (n - 1) (form_target (OfStruct i) f)
  form_inside defaults n i form.Abstract h not size full = tt
  form_inside defaults n i (form.Alias k) h not size full = absurd (not tt)
  form_inside defaults n i (form.Array m k format) h not size full = record {
    enough = λ a b meas. let l = full.enough (m * a) (1 + b) (named h (array meas)) in omega arith;
    knows = knows_of h defaults 0 k refl full.knows;
  }
  form_inside defaults n i (form.Struct fields) h not size full =
      let p = of_struct (form_measured h size.2) in
      let l = full.enough size.0 size.1 size.2 in
      let low = lower p.1 size.1 n p.3 l in
      (each_full defaults (n - 1) p.2 low (λ at k e. knows_of h defaults at k e full.knows), full.knows i itself)
    where
      lower : (d b m : ℕ) → b ≡ 1 + d → b ≤ m → d ≤ m - 1
      lower d b m e l = omega arith
  form_inside defaults n i (form.Enum k cs) h not size full = tt

  plain_inside : (defaults : List (Option Value)) (n : ℕ) (k : Kind) → IsPlain k → SufficesIn ws defaults n (plain_target k)
  plain_inside defaults n kind.U8 p = tt
  plain_inside defaults n kind.U16 p = tt
  plain_inside defaults n kind.U32 p = tt
  plain_inside defaults n kind.U64 p = tt
  plain_inside defaults n kind.I8 p = tt
  plain_inside defaults n kind.I16 p = tt
  plain_inside defaults n kind.I32 p = tt
  plain_inside defaults n kind.I64 p = tt
  plain_inside defaults n kind.Bool p = tt
  plain_inside defaults n (kind.Str size) p = tt
  plain_inside defaults n (kind.Named i) p = absurd p

  pub plain_end : (k : Kind) → IsPlain k → end_target ws k ≡ Some (plain_target k)
  plain_end kind.U8 p = refl
  plain_end kind.U16 p = refl
  plain_end kind.U32 p = refl
  plain_end kind.U64 p = refl
  plain_end kind.I8 p = refl
  plain_end kind.I16 p = refl
  plain_end kind.I32 p = refl
  plain_end kind.I64 p = refl
  plain_end kind.Bool p = refl
  plain_end (kind.Str size) p = refl
  plain_end (kind.Named i) p = absurd p

  form_end : (r : Rest) (f : Form) → ¬ IsAlias f → form_if r f ≡ Some (form_target r f)
  form_end r form.Abstract not = refl
  form_end r (form.Alias k) not = absurd (not tt)
  form_end r (form.Array m k format) not = refl
  form_end r (form.Struct fields) not = refl
  form_end r (form.Enum k cs) not = refl

  pub named_end : (i : ℕ) (f : Form) → HasForm ws i f → ¬ IsAlias f → end_target ws (kind.Named i) ≡ Some (form_target (OfStruct i) f)
  named_end i f h not = ap (λ (o : Option WrittenType). written_if (OfStruct i) (form_of_written o)) h.here ∙ ap (λ (o : Option Form). written_if (OfStruct i) o) h.form ∙ form_end (OfStruct i) f not

  plain_down : (k : Kind) → IsPlain k → (v : Opened) (w : Value) → Becomes ws v (of_kind k) w → Becomes ws v (plain_target k) w
  plain_down k p v w (in_plain q b) = b
  plain_down k p v w (in_named f s b) = absurd p

  named_down : (i : ℕ) (f : Form) → HasForm ws i f → (v : Opened) (w : Value) → Becomes ws v (of_kind (kind.Named i)) w → Becomes ws v (form_target (OfStruct i) f) w
  named_down i f h v w (in_plain q b) = absurd q
  named_down i f h v w (in_named g s b) = subst (λ (x : Form). Becomes ws v (form_target (OfStruct i) x) w) (one_form g h) b

  end_found : (k e : Kind) → EndsAs ws k e → IsOfSize ws k → (t : Target) × (end_target ws e ≡ Some t) × OpensTo ws k t
  end_found k e (at_plain p) size = (
    plain_target k,
    plain_end k p,
    record {
      up = λ v w b. in_plain p b;
      down = λ v w b. plain_down k p v w b;
      inside = λ defaults n full. plain_inside defaults (n - 1) k p;
    },
  )
  end_found k e (at_form {i = i} {f = f} h not) size = (
    form_target (OfStruct i) f,
    named_end i f h not,
    record {
      up = λ v w b. in_named h size b;
      down = λ v w b. named_down i f h v w b;
      inside = λ defaults n full. form_inside defaults n i f h not size full;
    },
  )
  end_found k e (behind_alias {i = i} {k = l} h r) size =
      let inner : IsOfSize ws l = (size.0, size.1, of_alias (form_measured h size.2), size.3, size.4) in
      let p = end_found l e r inner in (
        p.0,
        p.1,
        record {
          up = λ v w b. in_named h size (p.2.up v w b);
          down = λ v w b. p.2.down v w (named_down i (form.Alias l) h v w b);
          inside = λ defaults n full. p.2.inside defaults n (record { enough = λ a b m. full.enough a b (named h (alias m)); knows = knows_of h defaults 0 l refl full.knows });
        },
      )

  -- ---- from the table of sizes

  module _ (table : List (Option TypeExtent)) (are : AreExtents ws table) where
    size_of_result : (k : Kind) (v : Opened) (w : Value) → Becomes ws v (of_kind k) w → IsOfSize ws k
    size_of_result k v w (in_plain p b) = (1, 1, plain p, omega arith, omega arith)
    size_of_result k v w (in_named f s b) = s

    if_few : (k : Kind) (x : TypeExtent) (b : Bool) → is_few x.size ≡ b → IsExtent ws k x → IsTargetOf ws k (cond b (end_target ws x.end) None)
    if_few k x false is found = λ v w b.
        let size = size_of_result k v w b in
        let same = one_size found.measures size.2 in
        let l : found.leaves ≤ 65536 = at_most same.leaves size.3 in
        let h : found.levels ≤ 64 = at_most same.levels size.4 in
        let few : true ≡ false = sym (of_few ws table are found.leaves found.levels x.size found.size l h) ∙ is in
        cc
      where
        at_most : {m n most : ℕ} → m ≡ n → n ≤ most → m ≤ most
        at_most e d = omega arith
    if_few k x true is found =
        let f = few_of ws table are found.leaves found.levels x.size found.size is in
        let p = end_found k x.end found.ends (found.leaves, found.levels, found.measures, f.0, f.1) in
        subst (λ (o : Option Target). IsTargetOf ws k o) (sym p.1) p.2

    pub target_found : (k : Kind) (x : TypeExtent) → kind_extent table k ≡ Some x → IsTargetOf ws k (cond (is_few x.size) (end_target ws x.end) None)
    target_found k x e = if_few k x (is_few x.size) refl (kind_holds ws table k x (is_sound ws table are) e)

    pub target_unfound : (k : Kind) → kind_extent table k ≡ None → IsTargetOf ws k None
    target_unfound k e = λ v w b. let m = measured b in let x = kind_only ws table k m.0 m.1 (misses_none ws table are (k ∷ [])) m.2 in no_some (sym e ∙ x.1)

pub is_target : (ws : List WrittenType) (k : Kind) (o p : Option Target) → o ≡ p → IsTargetOf ws k p → IsTargetOf ws k o
is_target ws k o p e h = subst (λ (x : Option Target). IsTargetOf ws k x) (sym e) h

pub result_of_size : {ws : List WrittenType} {k : Kind} {v : Opened} {w : Value} → Becomes ws v (of_kind k) w → IsOfSize ws k
result_of_size (in_plain p b) = (1, 1, plain p, omega arith, omega arith)
result_of_size (in_named f s b) = s
