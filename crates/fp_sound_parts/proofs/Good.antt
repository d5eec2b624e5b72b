-- What values become in the types of a source, and the defaults of types, are values of the types and of size.
use Rattle.std.proofs.Common.{◌≡◌, ℕ, true, false, pos, List, [], slice_get, Option, Some, refl, sym, ap, subst, ◌∙◌}
use Rattle.std.specs.Prelude.{option_map}
use Rattle.fp_base.proofs.Bools.{both}
use Rattle.fp_base.proofs.Lists.{all_get}
use Rattle.fp_base.specs.declared.value.Value.{Value, Int, Bool as Truth, Text}
use Rattle.fp_tree.specs.declared.source.Source.{Source}
use Rattle.fp_tables.specs.Types.{Shape, form_at, form_has_values, has, has_kind, is_of_size, of_form, shape, type_has_values}
use Rattle.fp_tables.specs.declared.kind.Kind.{Kind}
use Rattle.fp_tables.specs.declared.kind.Kind.TheVariants as kind
use Rattle.fp_tables.specs.declared.kind.Form.{Form}
use Rattle.fp_tables.specs.declared.kind.TypeDef.{TypeDef}
use Rattle.fp_tables.proofs.Aliases.{shape_of_form}
use Rattle.fp_type_sizes.specs.declared.written.WrittenType.{WrittenType}
use Rattle.fp_type_sizes.specs.Sizes.{HasForm}
use Rattle.fp_types.specs.Converting.{Converts, DefaultIs, empty, plainly, untrue, zero}
use Rattle.fp_types.specs.WellWritten.{AllGiven, AreSoundTypes, AreWellWritten}
use Rattle.fp_types.proofs.AllGiven.{given_at, type_there}
use Rattle.fp_type_forms.specs.declared.resolving.Resolution.{Resolution}
use Rattle.fp_type_forms.proofs.OneForm.{one_list}
use Rattle.fp_source_parts.specs.Valued.{IsValued}
use Rattle.fp_sound_parts.specs.Ready.{IsGood}
use Rattle.fp_sound_parts.proofs.Well.{sound_well}

-- the laws on types that are cited here
abbrev pub ConvertedHasKind : Type 0
ConvertedHasKind =
    (ws : List WrittenType) (types : List TypeDef) (value : Value) (kind : Kind) (made : Value) → AreWellWritten ws → AllGiven ws types → Converts ws value kind made
    → has_kind types kind made ≡ true

abbrev pub ConvertedIsOfSize : Type 0
ConvertedIsOfSize =
    (ws : List WrittenType) (types : List TypeDef) (value : Value) (kind : Kind) (made : Value) → AreWellWritten ws → AllGiven ws types → Converts ws value kind made
    → is_of_size made ≡ true

abbrev pub OneDefault : Type 0
OneDefault = (ws : List WrittenType) (k : Kind) (a b : Value) → DefaultIs ws k a → DefaultIs ws k b → a ≡ b

abbrev pub DefaultHasForm : Type 0
DefaultHasForm = (ws : List WrittenType) (i : ℕ) (v : Value) → DefaultIs ws (kind.Named i) v → (f : Form) × HasForm ws i f

-- what is written of the types is the list of which these are given
pub all_given : (source : Source) (values : List (Option Value)) (resolutions : List Resolution) (ws : List WrittenType) (types : List TypeDef) → IsValued source values resolutions ws types
    → AllGiven ws types
all_given source values resolutions ws types valued =
    subst (λ (l : List WrittenType). AllGiven l types) (one_list source valued.given.written ws valued.given.are valued.written) valued.given.types

-- the default of a type of the list is one of its values, and of size
type_is_good : (types : List TypeDef) → AreSoundTypes types → (i : ℕ) (d : TypeDef) → slice_get types i ≡ Some d → IsGood types (kind.Named i) d.default
type_is_good types sound i d at =
    let passes : type_has_values types d ≡ true = all_get (type_has_values types) types i d sound.types_have_their_values at in
    let values = both (form_has_values types d.name d.form) (has types (of_form (shape types) d.form) d.default) passes in
    let here : form_at types i ≡ Some d.form = ap (option_map (λ (x : TypeDef). x.form)) at in (
      ap (λ (s : Shape). has types s d.default) (shape_of_form types sound.no_type_uses_itself i d.form here) ∙ values.1,
      all_get (λ (x : TypeDef). is_of_size x.default) types i d sound.defaults_are_of_size at,
    )

good_at : (types : List TypeDef) (k : Kind) (made w : Value) → made ≡ w → IsGood types k w → IsGood types k made
good_at types k made w same good = subst (λ (v : Value). IsGood types k v) (sym same) good

module _ (ws : List WrittenType) (types : List TypeDef) (given : AllGiven ws types) (sound : AreSoundTypes types) where
  pub converted_good : ConvertedHasKind → ConvertedIsOfSize → (v : Value) (k : Kind) (made : Value) → Converts ws v k made → IsGood types k made
  converted_good has_its_kind is_small v k made h =
      let well = sound_well ws types given sound in
      (has_its_kind ws types v k made well given h, is_small ws types v k made well given h)

  module _ (one : OneDefault) (has_form : DefaultHasForm) where
    named_good : (i : ℕ) (made : Value) → DefaultIs ws (kind.Named i) made → IsGood types (kind.Named i) made
    named_good i made h =
        let f = has_form ws i made h in
        let d = type_there ws types given i f.0 f.1 in
        good_at types (kind.Named i) made d.0.default (one ws (kind.Named i) made d.0.default h (given_at ws types given i d.0 d.1).1) (type_is_good types sound i d.0 d.1)

    pub defaults_good : (k : Kind) (made : Value) → DefaultIs ws k made → IsGood types k made
    defaults_good kind.U8 made h = good_at types kind.U8 made (Int (pos 0)) (one ws kind.U8 made _ h (plainly tt zero)) (refl, refl)
    defaults_good kind.U16 made h = good_at types kind.U16 made (Int (pos 0)) (one ws kind.U16 made _ h (plainly tt zero)) (refl, refl)
    defaults_good kind.U32 made h = good_at types kind.U32 made (Int (pos 0)) (one ws kind.U32 made _ h (plainly tt zero)) (refl, refl)
    defaults_good kind.U64 made h = good_at types kind.U64 made (Int (pos 0)) (one ws kind.U64 made _ h (plainly tt zero)) (refl, refl)
    defaults_good kind.I8 made h = good_at types kind.I8 made (Int (pos 0)) (one ws kind.I8 made _ h (plainly tt zero)) (refl, refl)
    defaults_good kind.I16 made h = good_at types kind.I16 made (Int (pos 0)) (one ws kind.I16 made _ h (plainly tt zero)) (refl, refl)
    defaults_good kind.I32 made h = good_at types kind.I32 made (Int (pos 0)) (one ws kind.I32 made _ h (plainly tt zero)) (refl, refl)
    defaults_good kind.I64 made h = good_at types kind.I64 made (Int (pos 0)) (one ws kind.I64 made _ h (plainly tt zero)) (refl, refl)
    defaults_good kind.Bool made h = good_at types kind.Bool made (Truth false) (one ws kind.Bool made _ h (plainly tt untrue)) (refl, refl)
    defaults_good (kind.Str size) made h = good_at types (kind.Str size) made (Text []) (one ws (kind.Str size) made _ h (plainly tt empty)) (refl, refl)
    defaults_good (kind.Named i) made h = named_good i made h
