-- Formats that break no rule are readable.
use Rattle.std.proofs.Common.{◌≡◌, ℕ, inl, inr, Bool, true, false, ◌||◌, ◌==◌, List, length, slice_get, Option, Some, None, refl}
use Rattle.std.proofs.lemmas.Bool.{false_from_ne_true}
use Rattle.std.specs.List.{list_any}
use Rattle.fp_base.specs.declared.place.Place.{Place}
use Rattle.fp_base.specs.declared.rule.Rule.TheVariants.{FieldCount, FieldKind, LoneBrace}
use Rattle.fp_base.specs.Least.{broken_at, IsUnbroken}
use Rattle.fp_base.specs.declared.value.Value.{Int}
use Rattle.fp_base.proofs.Numbers.{same_number}
use Rattle.fp_tree.specs.declared.name.Str.{Str}
use Rattle.fp_tree.specs.declared.definition.Def.{Def}
use Rattle.fp_tree.specs.declared.definition.Def.TheVariants as def
use Rattle.fp_tree.specs.declared.type_name.TypeName.{TypeName}
use Rattle.fp_tree.specs.declared.part.Formal.{Formal}
use Rattle.fp_tree.specs.declared.component.Part.{Part}
use Rattle.fp_tree.specs.declared.component.Part.TheVariants as part
use Rattle.fp_tree.specs.declared.dictionary.Event.{Event}
use Rattle.fp_meaning.specs.declared.item.Item.{Item}
use Rattle.fp_meaning.specs.declared.item.Item.TheVariants as item
use Rattle.fp_meaning.specs.Layout.{component_scope}
use Rattle.fp_meaning.specs.Names.{Path}
use Rattle.fp_meaning.specs.Sites.{ModelDef, component, instance, interface, machine, topology}
use Rattle.fp_type_formats.specs.Broken.{BrokenByDefinition, BrokenByEvent, BrokenByFields, BrokenByFormat, BrokenByFormats, BrokenByModelDef, BrokenByPart, PrintsNoInteger}
use Rattle.fp_type_formats.specs.Elements.{Element, IsReading, fields_of, is_lone, is_malformed, is_other, prints_number}
use Rattle.fp_type_formats.specs.Integers.{NamesNoInteger}
use Rattle.fp_type_formats.specs.Readable.{AreReadable, HasReadable, HasReadablePart, HasReadableParts, IsReadable, IsReadableEvent, IsReadableIf}
use Rattle.fp_type_formats.proofs.Existing.{other_number, reading_of}
use Rattle.fp_type_formats.proofs.Pieced.{IsClean, agree_all, fits_one, format_of, pieces_of}

module _ (text : List ℕ) (place : Place) (values : ℕ) (Unfit : ℕ → Type 0) (unbroken : IsUnbroken (BrokenByFields text place values Unfit)) (es : List Element) (read : IsReading es text) where
  is_clean : IsClean es
  is_clean = (
    false_from_ne_true (list_any is_other es) (λ e. unbroken (broken_at FieldKind place) (inr (inl (refl, (es, read, inl e))))),
    false_from_ne_true (list_any is_lone es) (λ e. unbroken (broken_at LoneBrace place) (inr (inr (refl, (es, read, e))))),
  )

  well_formed : is_malformed es ≡ false
  well_formed = go (list_any is_other es) (list_any is_lone es) is_clean.0 is_clean.1
    where
      go : (a b : Bool) → a ≡ false → b ≡ false → (a || b) ≡ false
      go a b e f = rw (e, f) refl

  as_many_fields : length (fields_of es) ≡ values
  as_many_fields = go (length (fields_of es) == values) refl
    where
      go : (b : Bool) → (length (fields_of es) == values) ≡ b → length (fields_of es) ≡ values
      go true e = same_number (length (fields_of es)) values e
      go false e = absurd (unbroken (broken_at FieldCount place) (inl (refl, (es, read, well_formed, other_number (length (fields_of es)) values e))))

  none_unfit : (k : ℕ) (w : List ℕ) → slice_get (fields_of es) k ≡ Some w → prints_number w ≡ true → Unfit k → ⊥
  none_unfit k w at p u = unbroken (broken_at FieldKind place) (inr (inl (refl, (es, read, inr (k, w, at, p, u)))))

module _ (is : List Item) where
  readable : (scope : Path) (t : TypeName) (s : Str) → IsUnbroken (BrokenByFormat is scope t (Some s)) → IsReadable is scope t s
  readable scope t s h =
      let r = reading_of s.text in
      let clean = is_clean s.text s.at.first 1 (λ k. NamesNoInteger is 256 scope t.form) h r.0 r.1 in
      let one = as_many_fields s.text s.at.first 1 (λ k. NamesNoInteger is 256 scope t.form) h r.0 r.1 in
      record {
        parts = pieces_of r.0;
        format = format_of r.0 s.text r.1 clean;
        integers = λ n. fits_one (Int n) r.0 clean one (inr refl);
        others = λ u v. fits_one v r.0 clean one (inl (λ k w at p. none_unfit s.text s.at.first 1 (λ j. NamesNoInteger is 256 scope t.form) h r.0 r.1 k w at p u));
      }

  readable_event : (scope : Path) (e : Event) → IsUnbroken (BrokenByEvent is scope e) → IsReadableEvent is scope e
  readable_event scope e h =
      let text = e.format.text in
      let place = e.format.at.first in
      let r = reading_of text in
      let clean = is_clean text place (length e.formals) (PrintsNoInteger is scope e.formals) h r.0 r.1 in
      let many = as_many_fields text place (length e.formals) (PrintsNoInteger is scope e.formals) h r.0 r.1 in
      record {
        parts = pieces_of r.0;
        format = format_of r.0 text r.1 clean;
        parameters = agree_all (λ (x : Formal). NamesNoInteger is 256 scope x.of.form) r.0 e.formals clean many
            (λ k w x at p there u. none_unfit text place (length e.formals) (PrintsNoInteger is scope e.formals) h r.0 r.1 k w at p (x, there, u));
      }

  readable_if : (scope : Path) (t : TypeName) (o : Option Str) → IsUnbroken (BrokenByFormat is scope t o) → IsReadableIf is scope t o
  readable_if scope t None h = tt
  readable_if scope t (Some s) h = readable scope t s h

  has_readable : (scope : Path) (d : Def) → IsUnbroken (BrokenByDefinition is scope d) → HasReadable is scope d
  has_readable scope (def.Array d) h = readable_if scope d.element d.format h
  has_readable scope (def.Struct d) h = λ k m at. readable_if scope m.of m.format (λ f b. h f (k, m, at, b))
  has_readable scope (def.Constant d) h = tt
  has_readable scope (def.Abstract d) h = tt
  has_readable scope (def.Alias d) h = tt
  has_readable scope (def.Enum d) h = tt
  has_readable scope (def.Port d) h = tt

  readable_part : (scope : Path) (p : Part) → IsUnbroken (BrokenByPart is scope p) → HasReadablePart is scope p
  readable_part scope (part.Event e) h = readable_event scope e h
  readable_part scope (part.Channel c) h = readable_if scope c.of c.format h
  readable_part scope p h = tt

  readable_parts : (scope : Path) (d : ModelDef) → IsUnbroken (BrokenByModelDef is scope d) → HasReadableParts is scope d
  readable_parts scope (component c) h = λ k p at. readable_part (component_scope scope c) p (λ f b. h f (k, p, at, b))
  readable_parts scope (machine d) h = tt
  readable_parts scope (interface d) h = tt
  readable_parts scope (instance d) h = tt
  readable_parts scope (topology d) h = tt

  readable_item : (k : ℕ) (i : Item) → slice_get is k ≡ Some i → IsUnbroken (BrokenByFormats is) → AreReadable is i
  readable_item k (item.Defined s) at h = has_readable s.scope s.definition (λ f b. h f (k, item.Defined s, at, b))
  readable_item k (item.Enumerated e) at h = tt
  readable_item k (item.Declared d) at h = readable_parts d.scope d.definition (λ f b. h f (k, item.Declared d, at, b))
  readable_item k (item.Used since n) at h = tt
  readable_item k (item.Written since p) at h = tt

  pub are_readable : IsUnbroken (BrokenByFormats is) → (k : ℕ) (i : Item) → slice_get is k ≡ Some i → AreReadable is i
  are_readable h k i at = readable_item k i at h
