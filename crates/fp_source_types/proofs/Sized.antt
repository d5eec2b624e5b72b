-- Where a source breaks no rule of constants and of types, each of its types has a form, a size and a default.
use Rattle.std.proofs.Common.{◌≡◌, ℕ, suc, ◌+◌, ◌<◌, ◌≤◌, ◌⊎◌, inl, inr, List, [], ◌∷◌, length, map, flat_map, take, slice_get, Option, Some, None, option_map, refl, sym, ap, subst, ◌∙◌, arith}
use Rattle.std.proofs.lemmas.Option.{slice_get-map}
use Rattle.fp_base.proofs.Spots.{before_or_not, item_below}
use Rattle.fp_base.specs.declared.place.Place.{Place}
use Rattle.fp_base.specs.declared.rule.Rule.TheVariants.{ValueTooLarge}
use Rattle.fp_base.specs.declared.value.Value.{Value}
use Rattle.fp_base.specs.Least.{broken_at, IsUnbroken}
use Rattle.fp_consts.proofs.Tabled.{flat_at}
use Rattle.fp_consts.proofs.Valued.{the_head}
use Rattle.fp_tree.specs.declared.source.Source.{Source}
use Rattle.fp_tree.specs.declared.definition.Def.{Def}
use Rattle.fp_tree.specs.declared.definition.Def.TheVariants as def
use Rattle.fp_tree.specs.declared.expression.Expr.{Expr}
use Rattle.fp_tables.specs.declared.kind.Kind.{Kind}
use Rattle.fp_tables.specs.declared.kind.Kind.TheVariants as kind
use Rattle.fp_tables.specs.declared.kind.Form.TheVariants as form
use Rattle.fp_tables.specs.declared.kind.Constant.{Constant}
use Rattle.fp_tree.specs.declared.part.EnumConst.{EnumConst}
use Rattle.fp_meaning.specs.declared.group.Group.TheVariants as group
use Rattle.fp_meaning.specs.declared.item.Item.{Item}
use Rattle.fp_meaning.specs.declared.item.Item.TheVariants as item
use Rattle.fp_meaning.specs.declared.names.Definition.{Definition}
use Rattle.fp_meaning.specs.ConstantFaults.{ConstantsBroken}
use Rattle.fp_meaning.specs.Layout.{items, part_items}
use Rattle.fp_meaning.specs.Meaning.{AreMeanings}
use Rattle.fp_meaning.specs.Names.{Path, defined, definitions, definitions_of, group_of, mentions, name_of}
use Rattle.fp_meaning.specs.Sites.{Site}
use Rattle.fp_meaning.specs.Uses.{Uses}
use Rattle.fp_type_sizes.specs.declared.written.WrittenType.{WrittenType}
use Rattle.fp_type_sizes.specs.declared.written.Own.{Own}
use Rattle.fp_type_sizes.specs.declared.written.Own.TheVariants as own
use Rattle.fp_type_sizes.specs.Sizes.{IsOfSize, IsTooLarge, Measures, named}
use Rattle.fp_type_sizes.proofs.Limits.{HasSize}
use Rattle.fp_type_forms.specs.Broken.{BrokenByEnum}
use Rattle.fp_type_forms.specs.Written.{AllAt, AreWritten, EnumeratedIs, FormIs, IsWritten, OwnIs, TypeHere, types, types_before, types_of}
use Rattle.fp_type_forms.proofs.Following.{items_whole}
use Rattle.fp_types.specs.Converting.{HasOwn}
use Rattle.fp_types.specs.Faults.{IsBadDefault}
use Rattle.fp_types.specs.Unbroken.{AreUnbroken}
use Rattle.fp_source_types.specs.Broken.{TypesBrokenBy}
use Rattle.fp_source_types.specs.Listed.{EnumsHaveConstants, HasConstants}
use Rattle.fp_source_types.specs.Places.{default_place, name_place}
use Rattle.fp_source_types.proofs.Deep.{IsOf, by_uses}
use Rattle.fp_source_types.proofs.Counting.{no_type, type_of, types_at, before_one}
use Rattle.fp_source_types.proofs.Defined.{FormSized, default_valued, formed}
use Rattle.fp_source_types.proofs.Expressed.{Valued}
use Rattle.fp_source_types.proofs.Meant.{Stands, all_stand, defines_none}
use Rattle.fp_source_types.proofs.Named.{sited}
use Rattle.fp_source_types.proofs.Numbered.{are_numbered}
use Rattle.fp_source_types.proofs.Standing.{AllFrom, IsItem, all_drop, all_front, before, item_of}
use Rattle.fp_source_types.proofs.Related.{related_at, related_to}

not_value : group.Value ≡ group.Kind → ⊥
not_value e = cc

-- an enumeration without constants is written without constants
no_constants : (source : Source) (scope : Path) (d : Def) (k : Kind) → FormIs source scope d (form.Enum k []) → HasConstants d → ⊥
no_constants source scope (def.Abstract d) k is has = cc
no_constants source scope (def.Alias d) k is has = let e : form.Enum k [] ≡ form.Alias is.0 = is.2 in cc
no_constants source scope (def.Array d) k is has = let e : form.Enum k [] ≡ form.Array is.0 is.1 _ = is.4 in cc
no_constants source scope (def.Struct d) k is has = let e : form.Enum k [] ≡ form.Struct is.0 = is.2 in cc
no_constants source scope (def.Enum d) k is has = has (none_related 0 d.constants is.1 (same_constants is.4) is.3)
  where
    same_constants : {a b : Kind} {xs ys : List Constant} → form.Enum a xs ≡ form.Enum b ys → xs ≡ ys
    same_constants e = cc

    none_related : (n : ℕ) (cs : List EnumConst) (xs : List Constant) → [] ≡ xs → AllAt (EnumeratedIs source scope d) n cs xs → cs ≡ []
    none_related n [] xs e all = refl
    none_related n (c ∷ cs) [] e all = absurd all
    none_related n (c ∷ cs) (x ∷ xs) e all = absurd (cc)
no_constants source scope (def.Constant d) k is has = is
no_constants source scope (def.Port d) k is has = is

module _ (source : Source) (meanings : List ℕ) (meant : AreMeanings (definitions source) (mentions source) meanings) (constants : IsUnbroken (ConstantsBroken source))
    (ws : List WrittenType) (are : AreWritten source ws) (sound : IsUnbroken (TypesBrokenBy source ws)) where
  stand : AllFrom (Stands source) 0 (items source)
  stand = all_stand source meanings meant constants (are_numbered source (λ f b. sound f (inr (inl (inl b)))))

  parts_stand : (p : ℕ) (s : Site) → slice_get (items source) p ≡ Some (item.Defined s) → AllFrom (Stands source) (before (items source) p + 1) (part_items s.scope s.definition)
  parts_stand p s at =
      let w = items_whole source p s at in
      let b = before (items source) p + 1 in
      all_front (Stands source) (part_items s.scope s.definition) w.0 b
      (subst (λ (l : List Item). AllFrom (Stands source) b l) w.1 (all_drop (Stands source) (items source) (suc p) 0 b (before_one (items source) p (item.Defined s) at) stand))

  -- ---- sizes

  abbrev Sizes : ℕ → Type 0
  Sizes n = HasSize ws (kind.Named (types_before (definitions source) n))

  abbrev UsedSizes : ℕ → Type 0
  UsedSizes u = (m : ℕ) → Uses (items source) u m → IsOf (items source) group.Kind m → Sizes m

  site_formed : (p : ℕ) (s : Site) → slice_get (items source) p ≡ Some (item.Defined s) → (is : group_of s.definition ≡ group.Kind) → UsedSizes (before (items source) p)
      → (i : ℕ) → slice_get (types source) i ≡ Some (type_of s.scope s.definition is).type → FormSized source s.scope ws s.definition
  site_formed p s at is used i there =
      let t = type_of s.scope s.definition is in
      formed source s.scope ws (before (items source) p) used s.definition is (parts_stand p s at) (λ f b. sound f (inr (inl (inl (p, item.Defined s, at, b)))))
      (λ f b. sound f (inr (inl (inr (inr (inr (
        i,
        t.type,
        there,
        inr
            (subst (λ (x : Path). BrokenByEnum source x ws t.type.definition f) (sym t.in_scope) (subst (λ (x : Def). BrokenByEnum source s.scope ws x f) (sym t.of_definition) b)),
      )))))))

  site_sized : (p : ℕ) (s : Site) → slice_get (items source) p ≡ Some (item.Defined s) → group_of s.definition ≡ group.Kind → UsedSizes (before (items source) p) → Sizes (before (items source) p)
  site_sized p s at is used =
      let t = type_of s.scope s.definition is in
      let i = length (flat_map types_of (take p (items source))) + 0 in
      let there : slice_get (types source) i ≡ Some t.type = flat_at types_of (items source) p (item.Defined s) 0 t.type at (ap (λ (l : List TypeHere). slice_get l 0) t.here) in
      let w = related_to (λ position. IsWritten source) 0 (types source) ws i i t.type (omega arith) are there in
      let f = site_formed p s at is used i there in
      let has : FormIs source t.type.scope t.type.definition f.0 =
      subst (λ (x : Path). FormIs source x t.type.definition f.0) (sym t.in_scope) (subst (λ (x : Def). FormIs source s.scope x f.0) (sym t.of_definition) f.1) in
      let number : i ≡ types_before (definitions source) (before (items source) p) = plus_none _ ∙ sym (types_at (items source) p) in
      (f.2.0, f.2.1, subst (λ (n : ℕ). Measures ws (kind.Named n) f.2.0 f.2.1) number (named (record { written = w.0; here = w.1; form = w.2.form.only f.0 has }) f.2.2))
    where
      plus_none : (n : ℕ) → n + 0 ≡ n
      plus_none n = omega arith

  number_sized : (n : ℕ) → IsOf (items source) group.Kind n → Sizes n
  number_sized = by_uses (items source) group.Kind (λ f b. sound f (inl b)) Sizes (λ n of used. let t = item_of (items source) n of.0 of.1 in step n of.0 of.2 used t t.found refl)
    where
      step : (n : ℕ) (d : Definition) → d.group ≡ group.Kind → UsedSizes n → (t : IsItem (items source) n d) (i : Item) → t.found ≡ i → Sizes n
      step n d of used t (item.Defined s) is =
          let same : defined (group_of s.definition) s.scope (name_of s.definition) ≡ d = the_head (ap definitions_of (sym is) ∙ t.defines) in
          let kind_is : group_of s.definition ≡ group.Kind = ap (λ (x : Definition). x.group) same ∙ of in
          subst Sizes (sym t.number) (site_sized t.at s (t.here ∙ ap (λ (x : Item). Some x) is) kind_is (subst UsedSizes t.number used))
      step n d of used t (item.Enumerated e) is = absurd (not_value (ap (λ (x : Definition). x.group) (the_head (ap definitions_of (sym is) ∙ t.defines)) ∙ of))
      step n d of used t (item.Declared x) is = absurd (no_type x.definition (ap (λ (y : Definition). y.group) (the_head (ap definitions_of (sym is) ∙ t.defines)) ∙ of))
      step n d of used t (item.Used since x) is = absurd (defines_none (ap definitions_of (sym is) ∙ t.defines))
      step n d of used t (item.Written since x) is = absurd (defines_none (ap definitions_of (sym is) ∙ t.defines))

  -- ---- all types

  here : (i : ℕ) (w : WrittenType) → slice_get ws i ≡ Some w → (t : TypeHere) × (slice_get (types source) i ≡ Some t) × IsWritten source t w
  here i w e = related_at (λ position. IsWritten source) 0 (types source) ws i i w (omega arith) are e

  type_sized : (i : ℕ) (t : TypeHere) → slice_get (types source) i ≡ Some t → HasSize ws (kind.Named i)
  type_sized i t there =
      let s = sited source t i there in
      let d = defined (group_of s.site.definition) s.site.scope (name_of s.site.definition) in
      let at : slice_get (definitions source) (before (items source) s.at + 0) ≡ Some d = flat_at definitions_of (items source) s.at (item.Defined s.site) 0 d s.here refl in
      subst (λ (n : ℕ). HasSize ws (kind.Named n)) (types_at (items source) s.at ∙ sym s.number)
      (number_sized (before (items source) s.at) (d, subst (λ (n : ℕ). slice_get (definitions source) n ≡ Some d) (plus_none _) at, s.group))
    where
      plus_none : (n : ℕ) → n + 0 ≡ n
      plus_none n = omega arith

  of_size : (i : ℕ) → i < length ws → IsOfSize ws (kind.Named i)
  of_size i low =
      let w = item_below ws i low in
      let t = here i w.0 w.1 in
      let m = type_sized i t.0 t.1 in
      let place : slice_get (map name_place (types source)) i ≡ Some (name_place t.0) = slice_get-map name_place (types source) i ∙ ap (option_map name_place) t.1 in
      (m.0, m.1, m.2, few 65536 m.0 (λ more. too_large i (name_place t.0) place (m.0, m.1, m.2, inl more)), few 64 m.1 (λ more. too_large i (name_place t.0) place (m.0, m.1, m.2, inr more)))
    where
      few : (most n : ℕ) → (most < n → ⊥) → n ≤ most
      few most n never = go (before_or_not most n)
        where
          go : (most < n) ⊎ (n ≤ most) → n ≤ most
          go (inl h) = absurd (never h)
          go (inr h) = h

      too_large : (i : ℕ) (place : Place) → slice_get (map name_place (types source)) i ≡ Some place → IsTooLarge ws (kind.Named i) → ⊥
      too_large i place at large = sound (broken_at ValueTooLarge place) (inr (inr (inl (i, place, at, (refl, large)))))

  valued : (i : ℕ) → HasOwn ws i own.NoValue → ⊥
  valued i h =
      let t = here i h.written h.here in
      let s = sited source t.0 i t.1 in
      no_value t.0.scope t.0.default (subst (λ (o : Own). OwnIs source t.0.scope t.0.default o) h.own t.2.default)
      (λ e is.
      subst (λ (x : Path). Valued source x e) (sym s.scope)
      (default_valued source s.site.scope (before (items source) s.at + 1) s.site.definition e (sym s.default ∙ is) (parts_stand s.at s.site s.here)))
    where
      no_value : (scope : Path) (o : Option Expr) → OwnIs source scope o own.NoValue → ((e : Expr) → o ≡ Some e → Valued source scope e) → ⊥
      no_value scope None never value = never
      no_value scope (Some e) never value = let v = value e refl in never v.0 v.1

  fit : (i : ℕ) → i < length ws → (place : Place) × IsUnbroken (IsBadDefault ws i place)
  fit i low =
      let w = item_below ws i low in
      let t = here i w.0 w.1 in
      let place : slice_get (map default_place (types source)) i ≡ Some (default_place t.0) = slice_get-map default_place (types source) i ∙ ap (option_map default_place) t.1 in
      (default_place t.0, λ f bad. sound f (inr (inr (inr (i, default_place t.0, place, bad)))))

  pub types_unbroken : EnumsHaveConstants source → AreUnbroken ws
  types_unbroken has_constants = record {
    of_size = of_size;
    valued = valued;
    fit = fit;
    listed = λ i k h.
        let t = here i h.written h.here in
        no_constants source t.0.scope t.0.definition k (t.2.form.holds (form.Enum k []) h.form) (has_constants i t.0 t.1);
  }
