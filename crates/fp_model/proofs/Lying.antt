-- The types that a given type names are among the given ones.
use Rattle.std.proofs.Common.{◌≡◌, ℕ, Bool, true, List, length, map, Option, Some, slice_get, refl, sym, ap, subst, ◌∙◌}
use Rattle.std.specs.Prelude.{option_map}
use Rattle.std.specs.List.{list_all}
use Rattle.std.proofs.lemmas.List.{length-map}
use Rattle.std.proofs.lemmas.Option.{slice_get-map, slice_get_within}
use Rattle.fp_base.proofs.Bools.{join}
use Rattle.fp_base.proofs.Numbers.{below_told}
use Rattle.fp_base.proofs.Passing.{all_items}
use Rattle.fp_base.specs.declared.value.Value.{Value}
use Rattle.fp_tree.specs.declared.source.Source.{Source}
use Rattle.fp_tables.specs.Positions.{form_lies, kind_lies}
use Rattle.fp_tables.specs.declared.kind.Field.{Field}
use Rattle.fp_tables.specs.declared.kind.Form.{Form}
use Rattle.fp_tables.specs.declared.kind.Kind.{Kind}
use Rattle.fp_tables.specs.declared.kind.Kind.TheVariants as kind
use Rattle.fp_tables.specs.declared.kind.TypeDef.{TypeDef}
use Rattle.fp_type_sizes.specs.declared.written.WrittenType.{WrittenType}
use Rattle.fp_type_sizes.specs.Sizes.{IsPlain, IsOfSize, Measures, plain, named, MeasuresForm, abstract_, alias, array, struct, enum, MeasuresFields, no_field, field, MeasuresMember, one, many}
use Rattle.fp_type_sizes.proofs.Limits.{form_measured}
use Rattle.fp_types.specs.Converting.{DefaultIs}
use Rattle.fp_source_types.specs.Typed.{AreTypesOf}

module _ (ws : List WrittenType) where
  plain_lies : (k : Kind) → IsPlain k → kind_lies (length ws) k ≡ true
  plain_lies (kind.Named i) p = absurd p
  plain_lies kind.U8 p = refl
  plain_lies kind.U16 p = refl
  plain_lies kind.U32 p = refl
  plain_lies kind.U64 p = refl
  plain_lies kind.I8 p = refl
  plain_lies kind.I16 p = refl
  plain_lies kind.I32 p = refl
  plain_lies kind.I64 p = refl
  plain_lies kind.Bool p = refl
  plain_lies (kind.Str size) p = refl

  kind_measured : {k : Kind} {a b : ℕ} → Measures ws k a b → kind_lies (length ws) k ≡ true
  kind_measured (plain {k = k} p) = plain_lies k p
  kind_measured (named {i = i} h m) = below_told i (length ws) (slice_get_within ws i h.written h.here)

  member_measured : {s : Option ℕ} {k : Kind} {a b : ℕ} → MeasuresMember ws s k a b → kind_lies (length ws) k ≡ true
  member_measured (one m) = kind_measured m
  member_measured (many m) = kind_measured m

  fields_measured : {fs : List Field} {a b : ℕ} → MeasuresFields ws fs a b → list_all (λ (f : Field). kind_lies (length ws) f.kind) fs ≡ true
  fields_measured no_field = refl
  fields_measured (field {f = f} {fs = fs} m ms) =
      join (kind_lies (length ws) f.kind) (list_all (λ (x : Field). kind_lies (length ws) x.kind) fs) (member_measured m) (fields_measured ms)

  form_lies_where : {f : Form} {a b : ℕ} → MeasuresForm ws f a b → form_lies (length ws) f ≡ true
  form_lies_where abstract_ = refl
  form_lies_where (alias m) = kind_measured m
  form_lies_where (array m) = kind_measured m
  form_lies_where (struct ms) = fields_measured ms
  form_lies_where (enum h m) = kind_measured m

pub same_length : (source : Source) (types : List TypeDef) (of : AreTypesOf source (map (λ (d : TypeDef). Some d) types)) → length of.written ≡ length types
same_length source types of = sym of.types.each ∙ length-map types (λ (d : TypeDef). Some d)

module _ (source : Source) (types : List TypeDef) (of : AreTypesOf source (map (λ (d : TypeDef). Some d) types))
    (size : (ws : List WrittenType) (i : ℕ) (v : Value) → DefaultIs ws (kind.Named i) v → IsOfSize ws (kind.Named i)) where
  one_lies : (i : ℕ) (d : TypeDef) → slice_get types i ≡ Some d → form_lies (length types) d.form ≡ true
  one_lies i d e =
      let there : slice_get (map (λ (x : TypeDef). Some x) types) i ≡ Some (Some d) = slice_get-map (λ (x : TypeDef). Some x) types i ∙ ap (option_map (λ (x : TypeDef). Some x)) e in
      let is = (of.types.at i (Some d) there).holds d refl in
      let s = size of.written i d.default is.1 in
      subst (λ (n : ℕ). form_lies n d.form ≡ true) (same_length source types of) (form_lies_where of.written (form_measured is.0 s.2))

  pub types_lie : list_all (λ (d : TypeDef). form_lies (length types) d.form) types ≡ true
  types_lie = all_items (λ (d : TypeDef). form_lies (length types) d.form) types one_lies
