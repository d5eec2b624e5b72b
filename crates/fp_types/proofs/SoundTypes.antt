-- Types that are given of a well written list are sound.
use Rattle.std.proofs.Common.{◌≡◌, ℕ, Bool, true, ◌&&◌, List, [], Some, None, slice_get, refl, sym, ap, ◌∙◌, subst}
use Rattle.std.specs.Prelude.{ℤ}
use Rattle.std.specs.Str.{bytes_eq}
use Rattle.fp_base.proofs.Bools.{join}
use Rattle.fp_base.proofs.Passing.{all_items}
use Rattle.fp_base.proofs.Bytes.{bytes_itself}
use Rattle.fp_base.specs.declared.value.Value.{Value, Int}
use Rattle.fp_tables.specs.Sound.{form_differs, form_is_of_size}
use Rattle.fp_tables.specs.Types as shapes
use Rattle.fp_tables.specs.Types.{Shape, has, has_kind, shape, of_form, is_constant_of, form_has_values, type_has_values, is_of_size}
use Rattle.fp_tables.specs.declared.kind.Kind.{Kind}
use Rattle.fp_tables.specs.declared.kind.Kind.TheVariants as kind
use Rattle.fp_tables.specs.declared.kind.Form.{Form}
use Rattle.fp_tables.specs.declared.kind.Form.TheVariants as form
use Rattle.fp_tables.specs.declared.kind.Constant.{Constant}
use Rattle.fp_tables.specs.declared.kind.TypeDef.{TypeDef}
use Rattle.fp_tables.proofs.Aliases.{shape_of_form}
use Rattle.fp_type_sizes.specs.declared.written.WrittenType.{WrittenType}
use Rattle.fp_type_sizes.specs.Sizes.{EndsAs, at_plain, at_form, behind_alias, IsInteger}
use Rattle.fp_types.specs.declared.target.Rest.TheVariants.{OfMembers}
use Rattle.fp_types.specs.WellWritten.{AreWellWritten, AllGiven, AreSoundTypes, IsOwnConstant, HasOwnConstants}
use Rattle.fp_types.proofs.AllGiven.{given_at, named_at, form_in, no_self}
use Rattle.fp_types.proofs.Passed.{default_of_size}
use Rattle.fp_types.proofs.HasKind.{named_shape, default_has_kind}
use Rattle.fp_types.proofs.Bounded.{kind_is_of_size}

plain_integer : (types : List TypeDef) (e : Kind) (low high : ℤ) → shape [] e ≡ shapes.integer low high → shape types e ≡ shapes.integer low high
plain_integer types kind.U8 low high is = is
plain_integer types kind.U16 low high is = is
plain_integer types kind.U32 low high is = is
plain_integer types kind.U64 low high is = is
plain_integer types kind.I8 low high is = is
plain_integer types kind.I16 low high is = is
plain_integer types kind.I32 low high is = is
plain_integer types kind.I64 low high is = is
plain_integer types kind.Bool low high is = absurd (cc)
plain_integer types (kind.Str size) low high is = absurd (cc)
plain_integer types (kind.Named i) low high is = absurd (cc)

module _ (ws : List WrittenType) (types : List TypeDef) (well : AreWellWritten ws) (are : AllGiven ws types) where
  ends_shape : {k e : Kind} → EndsAs ws k e → shape types k ≡ shape types e
  ends_shape (at_plain p) = refl
  ends_shape (at_form h not) = refl
  ends_shape (behind_alias {i = i} {k = k} h r) = named_shape ws types well are OfMembers i (form.Alias k) h ∙ ends_shape r

  integer_shape : (k : Kind) (low high : ℤ) → IsInteger ws k low high → shape types k ≡ shapes.integer low high
  integer_shape k low high (e, ends, is) = ends_shape ends ∙ plain_integer types e low high is

  constant_of : (name : List ℕ) (repr : Kind) (c : Constant) → IsOwnConstant ws name repr c → is_constant_of types name repr c ≡ true
  constant_of name repr c own =
      ap (λ (v : Value). is_constant_of types name repr (record { name = c.name; value = v; note = c.note })) own.value
      ∙ join (bytes_eq name name && bytes_eq c.name c.name) (has_kind types repr (Int own.number)) (join (bytes_eq name name) (bytes_eq c.name c.name) (bytes_itself name) (bytes_itself c.name))
      (ap (λ (s : Shape). has types s (Int own.number)) (integer_shape repr own.low own.high own.integer) ∙ own.within)

  form_values : (name : List ℕ) (f : Form) → HasOwnConstants ws name f → form_has_values types name f ≡ true
  form_values name form.Abstract own = refl
  form_values name (form.Alias k) own = refl
  form_values name (form.Array size k format) own = refl
  form_values name (form.Struct fields) own = refl
  form_values name (form.Enum repr cs) own = all_items (is_constant_of types name repr) cs (λ j c e. constant_of name repr c (own j c e))

  values_at : (i : ℕ) (d : TypeDef) → slice_get types i ≡ Some d → type_has_values types d ≡ true
  values_at i d e =
      let g = given_at ws types are i d e in
      let name = named_at ws types are i d g.0.written e g.0.here in
      let own = well.constants_are_own i g.0.written d.form g.0.here g.0.form in
      join (form_has_values types d.name d.form) (has types (of_form (shape types) d.form) d.default)
      (form_values d.name d.form (subst (λ (n : List ℕ). HasOwnConstants ws n d.form) (sym name) own))
      (ap (λ (s : Shape). has types s d.default) (sym (shape_of_form types (no_self ws types are) i d.form (form_in ws types are i d.form g.0))) ∙ default_has_kind ws types well are (kind.Named i) d.default g.1)

  size_at : (i : ℕ) (d : TypeDef) → slice_get types i ≡ Some d → is_of_size d.default ≡ true
  size_at i d e =
      let g = given_at ws types are i d e in
      kind_is_of_size ws types well are (kind.Named i) d.default (default_of_size ws i d.default g.1) (default_has_kind ws types well are (kind.Named i) d.default g.1)

  pub sound_types : AreSoundTypes types
  sound_types = record {
    no_type_uses_itself = no_self ws types are;
    types_have_their_values = all_items (type_has_values types) types values_at;
    members_differ = all_items (λ (d : TypeDef). form_differs d.form) types (λ i d e. well.members_differ i d.form (given_at ws types are i d e).0);
    arrays_are_of_size = all_items (λ (d : TypeDef). form_is_of_size d.form) types (λ i d e. well.arrays_are_of_size i d.form (given_at ws types are i d e).0);
    defaults_are_of_size = all_items (λ (d : TypeDef). is_of_size d.default) types size_at;
  }
