-- What is written of types that are given and sound is well written.
use Rattle.std.proofs.Common.{◌≡◌, ℕ, zero, suc, true, false, ◌&&◌, ℤ, List, length, slice_get, Option, Some, None, refl, sym, ap, subst, ◌∙◌}
use Rattle.std.specs.Str.{bytes_eq}
use Rattle.std.proofs.lemmas.Slice.Eq.{bytes_eq-Decides}
use Rattle.fp_base.proofs.Bools.{both}
use Rattle.fp_base.proofs.Lists.{all_get}
use Rattle.fp_base.specs.declared.value.Value.{Value, Int, Bool as Truth, Text, Enumerated, Array', Struct', Opaque}
use Rattle.fp_tables.specs.Sound.{form_differs, form_is_of_size}
use Rattle.fp_tables.specs.Types.{form_has_values, has, has_kind, is_constant_of, of_form, shape, shape_by, type_has_values}
use Rattle.fp_tables.specs.declared.kind.Kind.{Kind}
use Rattle.fp_tables.specs.declared.kind.Kind.TheVariants as kind
use Rattle.fp_tables.specs.declared.kind.Form.{Form}
use Rattle.fp_tables.specs.declared.kind.Form.TheVariants as form
use Rattle.fp_tables.specs.declared.kind.Constant.{Constant}
use Rattle.fp_tables.specs.declared.kind.TypeDef.{TypeDef}
use Rattle.fp_type_sizes.specs.declared.written.WrittenType.{WrittenType}
use Rattle.fp_type_sizes.specs.Sizes.{HasForm, IsInteger, at_plain, behind_alias}
use Rattle.fp_types.specs.Converting.{IsWithin}
use Rattle.fp_types.specs.WellWritten.{AllGiven, AreSoundTypes, AreWellWritten, HasOwnConstants, IsOwnConstant}
use Rattle.fp_types.proofs.AllGiven.{given_at, named_at, type_there}

-- a type has the number, and is an integer type
pub record HasNumber (ws : List WrittenType) (k : Kind) (n : ℤ) : Type 0 where
  pub low : ℤ
  pub high : ℤ
  pub integer : IsInteger ws k low high
  pub within : IsWithin low high n

-- behind an alias
aliased : (ws : List WrittenType) (i : ℕ) (k : Kind) (n : ℤ) → HasForm ws i (form.Alias k) → HasNumber ws k n → HasNumber ws (kind.Named i) n
aliased ws i k n h x = record { low = x.low; high = x.high; integer = (x.integer.0, behind_alias h x.integer.1, x.integer.2); within = x.within }

module _ (ws : List WrittenType) (types : List TypeDef) (given : AllGiven ws types) where
  -- ---- integer types, by the numbers that they have

  module _ (n : ℕ) (i : ℕ) (x : ℤ) where
    none_at : slice_get types i ≡ None → has types (shape_by types (suc n) (kind.Named i)) (Int x) ≡ false
    none_at at = rw at refl

    some_at : (d : TypeDef) → slice_get types i ≡ Some d → has types (shape_by types (suc n) (kind.Named i)) (Int x) ≡ has types (of_form (shape_by types n) d.form) (Int x)
    some_at d at = rw at refl

    -- by the form that is given of the type
    number_of : ((k : Kind) → has types (shape_by types n k) (Int x) ≡ true → HasNumber ws k x) → (o : Option TypeDef) → slice_get types i ≡ o
        → has types (shape_by types (suc n) (kind.Named i)) (Int x) ≡ true → HasNumber ws (kind.Named i) x
    number_of rest None at h = let no_value : false ≡ true = sym (none_at at) ∙ h in absurd (cc)
    number_of rest (Some d) at h = go d.form refl (sym (some_at d at) ∙ h)
      where
        go : (f : Form) → d.form ≡ f → has types (of_form (shape_by types n) f) (Int x) ≡ true → HasNumber ws (kind.Named i) x
        go (form.Alias k) is e = aliased ws i k x (subst (λ (f : Form). HasForm ws i f) is (given_at ws types given i d at).0) (rest k e)
        go form.Abstract is e = absurd (cc)
        go (form.Array size element format) is e = absurd (cc)
        go (form.Struct fields) is e = absurd (cc)
        go (form.Enum repr constants) is e = absurd (cc)

  number_in : (n : ℕ) (x : ℤ) (k : Kind) → has types (shape_by types n k) (Int x) ≡ true → HasNumber ws k x
  number_in n x kind.U8 h = record { low = _; high = _; integer = (kind.U8, at_plain tt, refl); within = h }
  number_in n x kind.U16 h = record { low = _; high = _; integer = (kind.U16, at_plain tt, refl); within = h }
  number_in n x kind.U32 h = record { low = _; high = _; integer = (kind.U32, at_plain tt, refl); within = h }
  number_in n x kind.U64 h = record { low = _; high = _; integer = (kind.U64, at_plain tt, refl); within = h }
  number_in n x kind.I8 h = record { low = _; high = _; integer = (kind.I8, at_plain tt, refl); within = h }
  number_in n x kind.I16 h = record { low = _; high = _; integer = (kind.I16, at_plain tt, refl); within = h }
  number_in n x kind.I32 h = record { low = _; high = _; integer = (kind.I32, at_plain tt, refl); within = h }
  number_in n x kind.I64 h = record { low = _; high = _; integer = (kind.I64, at_plain tt, refl); within = h }
  number_in n x kind.Bool h = absurd (cc)
  number_in n x (kind.Str size) h = absurd (cc)
  number_in zero x (kind.Named i) h = absurd (cc)
  number_in (suc n) x (kind.Named i) h = number_of n i x (number_in n x) (slice_get types i) refl h

  -- ---- constants

  own_constant : (name : List ℕ) (repr : Kind) (c : Constant) (e m : List ℕ) (n : ℤ) → c.value ≡ Enumerated e m n → (bytes_eq e name && bytes_eq m c.name && has_kind types repr (Int n)) ≡ true
      → IsOwnConstant ws name repr c
  own_constant name repr c e m n is h =
      let halves = both (bytes_eq e name && bytes_eq m c.name) (has_kind types repr (Int n)) h in
      let names = both (bytes_eq e name) (bytes_eq m c.name) halves.0 in
      let of : e ≡ name = (bytes_eq-Decides e name).0 names.0 in
      let named : m ≡ c.name = (bytes_eq-Decides m c.name).0 names.1 in
      let number = number_in (suc (length types)) n repr halves.1 in
      record {
        number = n;
        value = is ∙ ap (λ (x : List ℕ). Enumerated x m n) of ∙ ap (λ (x : List ℕ). Enumerated name x n) named;
        low = number.low;
        high = number.high;
        integer = number.integer;
        within = number.within;
      }

  constant_of : (name : List ℕ) (repr : Kind) (c : Constant) → is_constant_of types name repr c ≡ true → IsOwnConstant ws name repr c
  constant_of name repr c h = go c.value refl h
    where
      go : (v : Value) → c.value ≡ v → is_constant_of types name repr (record { name = c.name; value = v; note = c.note }) ≡ true → IsOwnConstant ws name repr c
      go (Enumerated e m n) is h = own_constant name repr c e m n is h
      go (Int n) is h = absurd (cc)
      go (Truth b) is h = absurd (cc)
      go (Text t) is h = absurd (cc)
      go (Array' m vs) is h = absurd (cc)
      go (Struct' m ps) is h = absurd (cc)
      go Opaque is h = absurd (cc)

  constants_of : (name : List ℕ) (f : Form) → form_has_values types name f ≡ true → HasOwnConstants ws name f
  constants_of name (form.Enum repr cs) h = λ j c at. constant_of name repr c (all_get (is_constant_of types name repr) cs j c h at)
  constants_of name form.Abstract h = tt
  constants_of name (form.Alias k) h = tt
  constants_of name (form.Array size element format) h = tt
  constants_of name (form.Struct fields) h = tt

  -- ---- the types

  module _ (sound : AreSoundTypes types) where
    own : (i : ℕ) (w : WrittenType) (f : Form) → slice_get ws i ≡ Some w → w.form ≡ Some f → HasOwnConstants ws w.name f
    own i w f at formed =
        let d = type_there ws types given i f (record { written = w; here = at; form = formed }) in
        let passes = all_get (type_has_values types) types i d.0 sound.types_have_their_values d.1 in
        let values = both (form_has_values types d.0.name d.0.form) (has types (of_form (shape types) d.0.form) d.0.default) passes in
        subst (λ (n : List ℕ). HasOwnConstants ws n f) (named_at ws types given i d.0 w d.1 at) (subst (λ (x : Form). HasOwnConstants ws d.0.name x) d.2 (constants_of d.0.name d.0.form values.0))

    pub sound_well : AreWellWritten ws
    sound_well = record {
      members_differ = λ i f h.
          let d = type_there ws types given i f h in ap form_differs (sym d.2) ∙ all_get (λ (x : TypeDef). form_differs x.form) types i d.0 sound.members_differ d.1;
      arrays_are_of_size = λ i f h.
          let d = type_there ws types given i f h in ap form_is_of_size (sym d.2) ∙ all_get (λ (x : TypeDef). form_is_of_size x.form) types i d.0 sound.arrays_are_of_size d.1;
      constants_are_own = own;
    }
