-- What is written of types that break no rule is well written, where each type is given.
use Rattle.std.proofs.Common.{◌≡◌, ℕ, suc, ◌+◌, ◌<◌, ◌≤◌, inl, inr, Bool, true, false, not, ◌&&◌, ℤ, int_le, List, [], ◌∷◌, ◌++◌, map, Option, Some, None, slice_get, refl, sym, ap, ◌∙◌, subst, arith}
use Rattle.std.specs.List.{list_all, list_any}
use Rattle.std.specs.Prelude.{nat_le}
use Rattle.std.specs.Str.{bytes_eq}
use Rattle.std.proofs.lemmas.Bool.Decides.{nat_tests}
use Rattle.std.proofs.lemmas.Option.{slice_get-map, slice_get_within}
use Rattle.fp_base.proofs.Lists.{same_joined}
use Rattle.fp_base.proofs.Mapped.{get_mapped}
use Rattle.fp_base.proofs.Bools.{join}
use Rattle.fp_base.proofs.Options.{mapped_some}
use Rattle.fp_base.proofs.Spots.{item_below}
use Rattle.fp_base.proofs.Bytes.{same_bytes}
use Rattle.fp_base.proofs.Passing.{any_found}
use Rattle.fp_base.specs.declared.refusal.Refusal.{Refusal}
use Rattle.fp_base.specs.declared.rule.Rule.TheVariants.{BadMember, OutsideType}
use Rattle.fp_base.specs.declared.value.Value.{Value, Enumerated}
use Rattle.fp_base.specs.Least.{broken_at, IsUnbroken}
use Rattle.fp_tree.specs.declared.source.Source.{Source}
use Rattle.fp_tree.specs.declared.definition.Def.{Def}
use Rattle.fp_tree.specs.declared.definition.Def.TheVariants as def
use Rattle.fp_tree.specs.declared.definition.Enum.{Enum}
use Rattle.fp_tree.specs.declared.definition.Struct.{Struct}
use Rattle.fp_tree.specs.declared.expression.Expr.{Expr}
use Rattle.fp_tree.specs.declared.name.Name.{Name}
use Rattle.fp_tree.specs.declared.part.EnumConst.{EnumConst}
use Rattle.fp_tree.specs.declared.part.Field.{Field as Member}
use Rattle.fp_tables.specs.Components.{is_from_1_to}
use Rattle.fp_tables.specs.Lists.{if_some}
use Rattle.fp_tables.specs.Names.{texts_differ}
use Rattle.fp_tables.specs.Sound.{form_differs, form_is_of_size}
use Rattle.fp_tables.specs.declared.kind.Kind.{Kind}
use Rattle.fp_tables.specs.declared.kind.Kind.TheVariants as kind
use Rattle.fp_tables.specs.declared.kind.Form.{Form}
use Rattle.fp_tables.specs.declared.kind.Form.TheVariants as form
use Rattle.fp_tables.specs.declared.kind.Field.{Field}
use Rattle.fp_tables.specs.declared.kind.Constant.{Constant}
use Rattle.fp_tables.specs.declared.kind.TypeDef.{TypeDef}
use Rattle.fp_meaning.specs.Broken.{BrokenByDefinitions}
use Rattle.fp_meaning.specs.Names.{Path, name_of}
use Rattle.fp_meaning.specs.Values.{dotted}
use Rattle.fp_type_sizes.specs.declared.written.WrittenType.{WrittenType}
use Rattle.fp_type_sizes.specs.Sizes.{HasForm, IsInteger, IsOfSize, MeasuresForm, enum}
use Rattle.fp_type_sizes.proofs.Limits.{form_measured}
use Rattle.fp_type_forms.specs.Broken.{BrokenByEnum, HasRange, RepeatsMember, constant_place}
use Rattle.fp_type_forms.specs.Written.{AllAt, EnumeratedIs, FieldIs, FormIs, IsWritten, ReprIs, SizeIs, TypeHere, types}
use Rattle.fp_types.specs.Converting.{DefaultIs, IsWithin}
use Rattle.fp_types.specs.WellWritten.{AreWellWritten, HasOwnConstants, IsOwnConstant}
use Rattle.fp_source_types.specs.Broken.{TypesBroken, TypesBrokenBy}
use Rattle.fp_source_types.specs.Typed.{AreTypesOf}
use Rattle.fp_source_types.proofs.Named.{constants_differ, enumeration_listed, sited}
use Rattle.fp_source_types.proofs.Related.{related_at}

-- ---- texts that differ

pub differ : (ns : List (List ℕ)) → ((i j : ℕ) (n : List ℕ) → i < j → slice_get ns i ≡ Some n → slice_get ns j ≡ Some n → ⊥) → texts_differ ns ≡ true
differ [] apart = refl
differ (n ∷ ns) apart =
    join (not (list_any (bytes_eq n) ns)) (texts_differ ns) (none (list_any (bytes_eq n) ns) refl) (differ ns (λ i j m low e f. apart (suc i) (suc j) m (omega arith) e f))
  where
    none : (b : Bool) → list_any (bytes_eq n) ns ≡ b → not (list_any (bytes_eq n) ns) ≡ true
    none false e = ap not e
    none true e =
        let p = any_found (bytes_eq n) ns e in
        absurd (apart 0 (suc p.0) n (omega arith) refl (p.2 ∙ ap (λ (m : List ℕ). Some m) (sym (same_bytes n p.1 p.3))))

-- ---- sizes

most : (n : ℕ) → 1 ≤ n → n ≤ 256 → is_from_1_to 256 n ≡ true
most n low high = join (nat_le 1 n) (nat_le n 256) (grind (arith, nat_tests)) (grind (arith, nat_tests))

module _ (source : Source) (scope : Path) where
  size_within : (o : Option Expr) (size : Option ℕ) → SizeIs source scope o size → if_some (is_from_1_to 256) size ≡ true
  size_within None size is = ap (if_some (is_from_1_to 256)) is
  size_within (Some e) size (n, at, is) = ap (if_some (is_from_1_to 256)) is ∙ most n at.least at.greatest

  fields_within : (k : ℕ) (fs : List Member) (xs : List Field) → AllAt (λ position. FieldIs source scope) k fs xs → list_all (λ (f : Field). if_some (is_from_1_to 256) f.size) xs ≡ true
  fields_within k [] [] all = refl
  fields_within k [] (x ∷ xs) all = absurd all
  fields_within k (f ∷ fs) [] all = absurd all
  fields_within k (f ∷ fs) (x ∷ xs) (h, all) =
      join (if_some (is_from_1_to 256) x.size) (list_all (λ (g : Field). if_some (is_from_1_to 256) g.size) xs)
      (ap (λ (g : Field). if_some (is_from_1_to 256) g.size) h.4 ∙ size_within f.size h.0 h.2) (fields_within (suc k) fs xs all)

  form_within : (d : Def) (f : Form) → FormIs source scope d f → form_is_of_size f ≡ true
  form_within (def.Abstract d) f is = ap form_is_of_size is
  form_within (def.Alias d) f is = ap form_is_of_size is.2
  form_within (def.Array d) f is = ap form_is_of_size is.4 ∙ most is.0 is.2.least is.2.greatest
  form_within (def.Struct d) f is = ap form_is_of_size is.2 ∙ fields_within 0 d.fields is.0 is.1
  form_within (def.Enum d) f is = ap form_is_of_size is.4
  form_within (def.Constant d) f is = absurd is
  form_within (def.Port d) f is = absurd is

  -- ---- names of members and constants

  field_names : (k : ℕ) (fs : List Member) (xs : List Field) → AllAt (λ position. FieldIs source scope) k fs xs → map (λ (x : Field). x.name) xs ≡ map (λ (f : Member). f.name.text) fs
  field_names k [] [] all = refl
  field_names k [] (x ∷ xs) all = absurd all
  field_names k (f ∷ fs) [] all = absurd all
  field_names k (f ∷ fs) (x ∷ xs) (h, all) = same_joined (ap (λ (g : Field). g.name) h.4) (field_names (suc k) fs xs all)

  constant_names : (d : Enum) (k : ℕ) (cs : List EnumConst) (xs : List Constant) → AllAt (EnumeratedIs source scope d) k cs xs
      → map (λ (x : Constant). x.name) xs ≡ map (λ (c : EnumConst). c.name.text) cs
  constant_names d k [] [] all = refl
  constant_names d k [] (x ∷ xs) all = absurd all
  constant_names d k (c ∷ cs) [] all = absurd all
  constant_names d k (c ∷ cs) (x ∷ xs) (h, all) = same_joined (ap (λ (y : Constant). y.name) h.2) (constant_names d (suc k) cs xs all)

  members_apart : (d : Struct) → ((g : Refusal) → RepeatsMember (def.Struct d) g → ⊥) → texts_differ (map (λ (f : Member). f.name.text) d.fields) ≡ true
  members_apart d none =
      let names = map (λ (f : Member). f.name.text) d.fields in
      differ names (λ i j n low e f.
      let y = get_mapped (λ (m : Member). m.name.text) d.fields i n e in
      let x = get_mapped (λ (m : Member). m.name.text) d.fields j n f in
      none (broken_at BadMember x.0.name.at.first) (j, x.0, x.1, (refl, i, y.0, low, y.1, y.2 ∙ sym x.2)))

  constants_apart : (d : Enum) → ((i j : ℕ) (b c : EnumConst) → i < j → slice_get d.constants i ≡ Some b → slice_get d.constants j ≡ Some c → b.name.text ≡ c.name.text → ⊥)
      → texts_differ (map (λ (c : EnumConst). c.name.text) d.constants) ≡ true
  constants_apart d apart =
      differ (map (λ (c : EnumConst). c.name.text) d.constants) (λ i j n low e f.
      let b = get_mapped (λ (c : EnumConst). c.name.text) d.constants i n e in
      let c = get_mapped (λ (c : EnumConst). c.name.text) d.constants j n f in
      apart i j b.0 c.0 low b.1 c.1 (b.2 ∙ sym c.2))

  -- what makes the members of a definition differ
  abbrev Apart : Def → Type 0
  Apart (def.Enum d) = (i j : ℕ) (b c : EnumConst) → i < j → slice_get d.constants i ≡ Some b → slice_get d.constants j ≡ Some c → b.name.text ≡ c.name.text → ⊥
  Apart _ = Unit {0}

  form_apart : (d : Def) (f : Form) → FormIs source scope d f → ((g : Refusal) → RepeatsMember d g → ⊥) → Apart d → form_differs f ≡ true
  form_apart (def.Abstract d) f is none apart = ap form_differs is
  form_apart (def.Alias d) f is none apart = ap form_differs is.2
  form_apart (def.Array d) f is none apart = ap form_differs is.4
  form_apart (def.Struct d) f is none apart = ap form_differs is.2 ∙ ap texts_differ (field_names 0 d.fields is.0 is.1) ∙ members_apart d none
  form_apart (def.Enum d) f is none apart = ap form_differs is.4 ∙ ap texts_differ (constant_names d 0 d.constants is.1 is.3) ∙ constants_apart d apart
  form_apart (def.Constant d) f is none apart = absurd is
  form_apart (def.Port d) f is none apart = absurd is

  -- ---- constants

  module _ (ws : List WrittenType) where
    range_of : (d : Enum) (low high : ℤ) (k : Kind) → ReprIs source scope d.repr k → IsInteger ws k low high → HasRange source scope ws d low high
    range_of d low high k repr of_kind = (k, repr, of_kind)

    own_constant : (d : Enum) (name : List ℕ) (k : Kind) (low high : ℤ) → name ≡ dotted (scope ++ d.name.text ∷ []) → ReprIs source scope d.repr k → IsInteger ws k low high
        → ((g : Refusal) → BrokenByEnum source scope ws (def.Enum d) g → ⊥) → (j : ℕ) (b : EnumConst) (c : Constant) → slice_get d.constants j ≡ Some b
        → EnumeratedIs source scope d j b c → IsOwnConstant ws name k c
    own_constant d name k low high named repr of_kind none j b c at is =
        record {
          number = is.0;
          value =
              ap (λ (x : Constant). x.value) is.2
              ∙ ap (λ (n : List ℕ). Enumerated n b.name.text is.0) (sym named)
              ∙ ap (λ (n : List ℕ). Enumerated name n is.0) (sym (ap (λ (x : Constant). x.name) is.2));
          low = low;
          high = high;
          integer = of_kind;
          within = go (int_le low is.0 && int_le is.0 high) refl;
        }
      where
        go : (t : Bool) → (int_le low is.0 && int_le is.0 high) ≡ t → IsWithin low high is.0
        go true e = e
        go false e = absurd (none (broken_at OutsideType (constant_place b)) (inr (j, b, at, (refl, low, high, is.0, range_of d low high k repr of_kind, is.1, e))))

of_enum : {ws : List WrittenType} {k : Kind} {cs : List Constant} {a b : ℕ} → MeasuresForm ws (form.Enum k cs) a b → (low : ℤ) × (high : ℤ) × IsInteger ws k low high
of_enum (enum {low = low} {high = high} h m) = (low, high, h)

module _ (source : Source) (given : List TypeDef) (once : IsUnbroken (BrokenByDefinitions source)) (unbroken : IsUnbroken (TypesBroken source))
    (of : AreTypesOf source (map (λ (d : TypeDef). Some d) given))
    (size : (ws : List WrittenType) (i : ℕ) (v : Value) → DefaultIs ws (kind.Named i) v → IsOfSize ws (kind.Named i)) where
  nothing : (g : Refusal) → TypesBrokenBy source of.written g → ⊥
  nothing g b = unbroken g (record { written = of.written; are = of.are; broken = b })

  here : (i : ℕ) (w : WrittenType) → slice_get of.written i ≡ Some w → (t : TypeHere) × (slice_get (types source) i ≡ Some t) × IsWritten source t w
  here i w e = related_at (λ position. IsWritten source) 0 (types source) of.written i i w (omega arith) of.are e

  no_repeat : (i : ℕ) (t : TypeHere) → slice_get (types source) i ≡ Some t → (g : Refusal) → RepeatsMember t.definition g → ⊥
  no_repeat i t e g b = nothing g (inr (inl (inr (inr (inr (i, t, e, inl b))))))

  no_enum : (i : ℕ) (t : TypeHere) → slice_get (types source) i ≡ Some t → (g : Refusal) → BrokenByEnum source t.scope of.written t.definition g → ⊥
  no_enum i t e g b = nothing g (inr (inl (inr (inr (inr (i, t, e, inr b))))))

  apart : (i : ℕ) (t : TypeHere) (d : Def) → slice_get (types source) i ≡ Some t → t.definition ≡ d → Apart source t.scope d
  apart i t (def.Enum d) e is = constants_differ source once t.scope d (enumeration_listed source t d i e is)
  apart i t (def.Abstract d) e is = tt
  apart i t (def.Alias d) e is = tt
  apart i t (def.Array d) e is = tt
  apart i t (def.Struct d) e is = tt
  apart i t (def.Constant d) e is = tt
  apart i t (def.Port d) e is = tt

  -- the integer type of an enumeration that is given
  integer : (i : ℕ) (k : Kind) (cs : List Constant) → HasForm of.written i (form.Enum k cs) → (low : ℤ) × (high : ℤ) × IsInteger of.written k low high
  integer i k cs h =
      let below = slice_get_within of.written i h.written h.here in
      let o = item_below (map (λ (d : TypeDef). Some d) given) i (subst (λ (n : ℕ). i < n) (sym of.types.each) below) in
      let d = mapped_some (λ (x : TypeDef). Some x) (slice_get given i) o.0 (sym (slice_get-map (λ (x : TypeDef). Some x) given i) ∙ o.1) in
      let is = (of.types.at i o.0 o.1).holds d.0 (sym d.2) in
      let s = size of.written i d.0.default is.1 in
      of_enum (form_measured h s.2)

  own : (i : ℕ) (t : TypeHere) (w : WrittenType) (f : Form) (d : Def) → slice_get of.written i ≡ Some w → w.form ≡ Some f → slice_get (types source) i ≡ Some t
      → IsWritten source t w → t.definition ≡ d → FormIs source t.scope d f → HasOwnConstants of.written w.name f
  own i t w f (def.Abstract d) at formed there is same has = subst (λ (x : Form). HasOwnConstants of.written w.name x) (sym has) tt
  own i t w f (def.Alias d) at formed there is same has = subst (λ (x : Form). HasOwnConstants of.written w.name x) (sym has.2) tt
  own i t w f (def.Array d) at formed there is same has = subst (λ (x : Form). HasOwnConstants of.written w.name x) (sym has.4) tt
  own i t w f (def.Struct d) at formed there is same has = subst (λ (x : Form). HasOwnConstants of.written w.name x) (sym has.2) tt
  own i t w f (def.Constant d) at formed there is same has = absurd has
  own i t w f (def.Port d) at formed there is same has = absurd has
  own i t w f (def.Enum d) at formed there is same has =
      subst (λ (x : Form). HasOwnConstants of.written w.name x) (sym has.4) (λ j c e.
      let n = integer i has.0 has.1 (record { written = w; here = at; form = formed ∙ ap (λ (x : Form). Some x) has.4 }) in
      let b = related_at (EnumeratedIs source t.scope d) 0 d.constants has.1 j j c (omega arith) has.3 e in
      own_constant source t.scope of.written d w.name has.0 n.0 n.1 (named d same) has.2 n.2
      (λ g broken. no_enum i t there g (subst (λ (x : Def). BrokenByEnum source t.scope of.written x g) (sym same) broken)) j b.0 c b.1 b.2)
    where
      named : (d : Enum) → t.definition ≡ def.Enum d → w.name ≡ dotted (t.scope ++ d.name.text ∷ [])
      named d same =
          let s = sited source t i there in
          let name : t.name ≡ d.name = s.name ∙ ap name_of (sym s.definition ∙ same) in
          is.name ∙ ap (λ (n : Name). dotted (t.scope ++ n.text ∷ [])) name

  pub well_written : AreWellWritten of.written
  well_written = record {
    members_differ = λ i f h.
        let t = here i h.written h.here in
        form_apart source t.0.scope t.0.definition f (t.2.form.holds f h.form) (no_repeat i t.0 t.1) (apart i t.0 t.0.definition t.1 refl);
    arrays_are_of_size = λ i f h. let t = here i h.written h.here in form_within source t.0.scope t.0.definition f (t.2.form.holds f h.form);
    constants_are_own = λ i w f at formed.
        let t = here i w at in
        own i t.0 w f t.0.definition at formed t.1 t.2 refl (t.2.form.holds f formed);
  }
