-- What types break is broken at places of their source.
use Rattle.std.proofs.Common.{◌≡◌, ℕ, List, ◌++◌, flat_map, map, Option, Some, None, inl, inr, subst}
use Rattle.std.specs.Prelude.{slice_get}
use Rattle.std.specs.List.{AllByRecursion as Each}
use Rattle.fp_base.specs.declared.place.Place.{Place}
use Rattle.fp_base.specs.declared.refusal.Refusal.{Refusal}
use Rattle.fp_base.specs.declared.rule.Rule.{Rule}
use Rattle.fp_base.proofs.Lists.{each_before, each_behind, each_flat, each_mapped, each_weaker, of_item}
use Rattle.fp_tree.specs.declared.source.Source.{Source}
use Rattle.fp_tree.specs.declared.expression.Expr.{Expr}
use Rattle.fp_tree.specs.declared.type_name.TypeName.{TypeName}
use Rattle.fp_tree.specs.declared.type_name.TypeForm.{TypeForm}
use Rattle.fp_tree.specs.declared.type_name.TypeForm.TheVariants as type
use Rattle.fp_tree.specs.declared.part.EnumConst.{EnumConst}
use Rattle.fp_tree.specs.declared.part.Field.{Field}
use Rattle.fp_tree.specs.declared.part.Formal.{Formal}
use Rattle.fp_tree.specs.declared.definition.Def.{Def}
use Rattle.fp_tree.specs.declared.definition.Def.TheVariants as def
use Rattle.fp_tree.specs.declared.definition.Enum.{Enum}
use Rattle.fp_meaning.specs.declared.item.Item.{Item}
use Rattle.fp_meaning.specs.declared.item.Item.TheVariants as item
use Rattle.fp_meaning.specs.Layout.{items}
use Rattle.fp_meaning.specs.Names.{Path}
use Rattle.fp_meaning.specs.Origins.{expressions}
use Rattle.fp_meaning.specs.Sites.{in_optional}
use Rattle.fp_type_sizes.specs.declared.written.WrittenType.{WrittenType}
use Rattle.fp_type_forms.specs.Broken.{BrokenByEnum, BrokenByForm, BrokenByItem, BrokenByMember, BrokenByName, BrokenByParts, BrokenBySize, BrokenByType, ByOptional, FormsBroken, IsNoNumber, RepeatsByDefinition, RepeatsByItem, RepeatsMember, constant_place, written_place}
use Rattle.fp_type_forms.specs.Written.{TypeHere, types, types_of}
use Rattle.fp_types.specs.Faults.{Misfits, by_member, by_range, by_shape}
use Rattle.fp_types.specs.Converting.{Opened, Target}
use Rattle.fp_source_types.specs.Broken.{TypesBroken, TypesBrokenBy}
use Rattle.fp_source_types.specs.Places.{behind_default, default_place, name_place}
use Rattle.fp_places.specs.Places.{places_in_constant, places_in_definition, places_in_expression, places_in_field, places_in_formal, places_in_format, places_in_type, places_in_type_form}
use Rattle.fp_places.proofs.Expressions.{StandIn}
use Rattle.fp_places.proofs.Definitions.{StandOf}
use Rattle.fp_source_laws.proofs.Constants.{PlacedIn, all_expressions, chains_placed}
use Rattle.fp_source_laws.proofs.Expressions.{first_of, repeats_placed}
use Rattle.fp_source_laws.proofs.Parted.{same_place, split}

module _ (G : Place → Type 0) where
  abbrev At : Refusal → Type 0
  At f = G f.place

  repr_of : (d : Enum) → Each G (in_optional places_in_type d.repr ++ flat_map places_in_constant d.constants ++ in_optional places_in_expression d.default) → Each G (in_optional places_in_type d.repr)
  repr_of d h =
      each_before G (in_optional places_in_type d.repr) (flat_map places_in_constant d.constants)
      (each_before G (in_optional places_in_type d.repr ++ flat_map places_in_constant d.constants) (in_optional places_in_expression d.default) h)

  constants_of : (d : Enum) → Each G (in_optional places_in_type d.repr ++ flat_map places_in_constant d.constants ++ in_optional places_in_expression d.default)
      → Each (λ (c : EnumConst). Each G (places_in_constant c)) d.constants
  constants_of d h =
      split G places_in_constant d.constants
      (each_behind G (in_optional places_in_type d.repr) (flat_map places_in_constant d.constants)
      (each_before G (in_optional places_in_type d.repr ++ flat_map places_in_constant d.constants) (in_optional places_in_expression d.default) h))

  module _ (source : Source) (scope : Path) where
    size_placed : (rule : Rule) (most : ℕ) (e : Expr) (f : Refusal) → StandIn G e → BrokenBySize source scope rule most e f → At f
    size_placed rule most e f h (inl b) = same_place G f _ b.0 (first_of G e h)
    size_placed rule most e f h (inr b) = same_place G f _ b.0 (first_of G e h)

    optional_size : (rule : Rule) (most : ℕ) (o : Option Expr) (f : Refusal) → Each G (in_optional places_in_expression o) → ByOptional (BrokenBySize source scope rule most) o f → At f
    optional_size rule most None f h b = absurd b
    optional_size rule most (Some e) f h b = size_placed rule most e f h b

    form_placed : (place : Place) (t : TypeForm) (f : Refusal) → G place → Each G (places_in_type_form t) → BrokenByForm source scope place t f → At f
    form_placed place type.F32 f g h b = same_place G f _ b g
    form_placed place type.F64 f g h b = same_place G f _ b g
    form_placed place (type.Text size) f g h b = optional_size _ 65535 size f h b
    form_placed place type.U8 f g h b = absurd b
    form_placed place type.U16 f g h b = absurd b
    form_placed place type.U32 f g h b = absurd b
    form_placed place type.U64 f g h b = absurd b
    form_placed place type.I8 f g h b = absurd b
    form_placed place type.I16 f g h b = absurd b
    form_placed place type.I32 f g h b = absurd b
    form_placed place type.I64 f g h b = absurd b
    form_placed place type.Bool f g h b = absurd b
    form_placed place (type.Use name) f g h b = absurd b

    pub name_placed : (t : TypeName) (f : Refusal) → Each G (places_in_type t) → BrokenByName source scope t f → At f
    name_placed t f h b = form_placed t.at.first t.form f h.0 h.1 b

    optional_name : (o : Option TypeName) (f : Refusal) → Each G (in_optional places_in_type o) → ByOptional (BrokenByName source scope) o f → At f
    optional_name None f h b = absurd b
    optional_name (Some t) f h b = name_placed t f h b

    member_placed : (m : Field) (f : Refusal) → Each G (places_in_field m) → BrokenByMember source scope m f → At f
    member_placed m f h (inl b) =
        optional_size _ 256 m.size f (each_before G (in_optional places_in_expression m.size) (places_in_type m.of)
        (each_before G (in_optional places_in_expression m.size ++ places_in_type m.of) (in_optional places_in_format m.format) h.1)) b
    member_placed m f h (inr b) =
        name_placed m.of f (each_behind G (in_optional places_in_expression m.size) (places_in_type m.of)
        (each_before G (in_optional places_in_expression m.size ++ places_in_type m.of) (in_optional places_in_format m.format) h.1)) b

    number_placed : (o : Option Expr) (f : Refusal) → Each G (in_optional places_in_expression o) → ByOptional (IsNoNumber source scope) o f → At f
    number_placed None f h b = absurd b
    number_placed (Some e) f h b = same_place G f _ b.0 (first_of G e h)

    -- by the parts of a definition
    parts_placed : (d : Def) (f : Refusal) → Each G (places_in_definition d) → BrokenByParts source scope d f → At f
    parts_placed (def.Constant d) f h b = absurd b
    parts_placed (def.Abstract d) f h b = absurd b
    parts_placed (def.Alias d) f h b = name_placed d.target f h.1 b
    parts_placed (def.Array d) f h b =
        let three = each_before G (places_in_expression d.size ++ places_in_type d.element ++ in_optional places_in_expression d.default) (in_optional places_in_format d.format) h.1 in
        let two = each_before G (places_in_expression d.size ++ places_in_type d.element) (in_optional places_in_expression d.default) three in
        elim b [
          | inl c ↦ size_placed _ 256 d.size f (each_before G (places_in_expression d.size) (places_in_type d.element) two) c
          | inr c ↦ name_placed d.element f (each_behind G (places_in_expression d.size) (places_in_type d.element) two) c
        ]
    parts_placed (def.Struct d) f h (k, m, at, b) =
        let all = split G places_in_field d.fields (each_before G (flat_map places_in_field d.fields) (in_optional places_in_expression d.default) h.1) in
        member_placed m f (of_item (λ (x : Field). Each G (places_in_field x)) d.fields k m all at) b
    parts_placed (def.Enum d) f h (inl b) = optional_name d.repr f (repr_of d h.1) b
    parts_placed (def.Enum d) f h (inr (inl (k, c, at, b))) =
        let here : Each G (places_in_constant c) = of_item (λ (x : EnumConst). Each G (places_in_constant x)) d.constants k c (constants_of d h.1) at in
        number_placed c.value f here.1 b
    parts_placed (def.Enum d) f h (inr (inr b)) = same_place G f _ b.0 h.0
    parts_placed (def.Port d) f h (inl (k, p, at, b)) =
        let all = split G places_in_formal d.formals (each_before G (flat_map places_in_formal d.formals) (in_optional places_in_type d.result) h.1) in
        let here : Each G (places_in_formal p) = of_item (λ (x : Formal). Each G (places_in_formal x)) d.formals k p all at in
        name_placed p.of f here.1 b
    parts_placed (def.Port d) f h (inr b) = optional_name d.result f (each_behind G (flat_map places_in_formal d.formals) (in_optional places_in_type d.result) h.1) b

    -- at the name of a constant whose number an earlier one has
    numbers_placed : (d : Def) (f : Refusal) → Each G (places_in_definition d) → RepeatsByDefinition source scope d f → At f
    numbers_placed (def.Constant d) f h b = absurd b
    numbers_placed (def.Abstract d) f h b = absurd b
    numbers_placed (def.Alias d) f h b = absurd b
    numbers_placed (def.Array d) f h b = absurd b
    numbers_placed (def.Struct d) f h b = absurd b
    numbers_placed (def.Enum d) f h (k, c, at, b) =
        let here : Each G (places_in_constant c) = of_item (λ (x : EnumConst). Each G (places_in_constant x)) d.constants k c (constants_of d h.1) at in
        same_place G f _ b.0 here.0
    numbers_placed (def.Port d) f h b = absurd b

    constant_placed : (c : EnumConst) → Each G (places_in_constant c) → G (constant_place c)
    constant_placed c h = written c.value h.1
      where
        written : (o : Option Expr) → Each G (in_optional places_in_expression o) → G (written_place c.name.at.first o)
        written None k = h.0
        written (Some e) k = first_of G e k

    repr_placed : (o : Option TypeName) (t : TypeName) → o ≡ Some t → Each G (in_optional places_in_type o) → G t.at.first
    repr_placed o t is h = let h' : Each G (places_in_type t) = subst (λ (x : Option TypeName). Each G (in_optional places_in_type x)) is h in h'.0

    enum_placed : (ws : List WrittenType) (d : Def) (f : Refusal) → Each G (places_in_definition d) → BrokenByEnum source scope ws d f → At f
    enum_placed ws (def.Constant d) f h b = absurd b
    enum_placed ws (def.Abstract d) f h b = absurd b
    enum_placed ws (def.Alias d) f h b = absurd b
    enum_placed ws (def.Array d) f h b = absurd b
    enum_placed ws (def.Struct d) f h b = absurd b
    enum_placed ws (def.Enum d) f h (inl (t, is, e, bad)) = same_place G f _ e (repr_placed d.repr t is (repr_of d h.1))
    enum_placed ws (def.Enum d) f h (inr (k, c, at, b)) =
        same_place G f _ b.0 (constant_placed c (of_item (λ (x : EnumConst). Each G (places_in_constant x)) d.constants k c (constants_of d h.1) at))
    enum_placed ws (def.Port d) f h b = absurd b

  repeats_member : (d : Def) (f : Refusal) → Each G (places_in_definition d) → RepeatsMember d f → At f
  repeats_member (def.Constant d) f h b = absurd b
  repeats_member (def.Abstract d) f h b = absurd b
  repeats_member (def.Alias d) f h b = absurd b
  repeats_member (def.Array d) f h b = absurd b
  repeats_member (def.Struct d) f h (k, m, at, b) =
      let all = split G places_in_field d.fields (each_before G (flat_map places_in_field d.fields) (in_optional places_in_expression d.default) h.1) in
      let here : Each G (places_in_field m) = of_item (λ (x : Field). Each G (places_in_field x)) d.fields k m all at in
      same_place G f _ b.0 here.0
  repeats_member (def.Enum d) f h b = absurd b
  repeats_member (def.Port d) f h b = absurd b

  pub misfit_placed : (ws : List WrittenType) (place : Place) (v : Opened) (t : Target) (f : Refusal) → G place → Misfits ws place v t f → At f
  misfit_placed ws place v t f g (by_member m) = g
  misfit_placed ws place v t f g (by_range n m) = g
  misfit_placed ws place v t f g (by_shape n m o) = g

  -- ---- the types of items

  -- all places of a type
  record TypePlaced (t : TypeHere) : Type 0 where
    name : G t.name.at.first
    definition : Each G (places_in_definition t.definition)
    default : Each G (in_optional places_in_expression t.default)

  types_placed : (i : Item) → StandOf G i → Each TypePlaced (types_of i)
  types_placed (item.Defined s) h = of_definition s.definition h
    where
      of_definition : (d : Def) → Each G (places_in_definition d) → Each TypePlaced (types_of (item.Defined (record { scope = s.scope; definition = d })))
      of_definition (def.Constant d) k = tt
      of_definition (def.Abstract d) k = (record { name = k.0; definition = k; default = tt }, tt)
      of_definition (def.Alias d) k = (record { name = k.0; definition = k; default = tt }, tt)
      of_definition (def.Array d) k = (
        record {
          name = k.0;
          definition = k;
          default = each_behind G (places_in_expression d.size ++ places_in_type d.element) (in_optional places_in_expression d.default)
              (each_before G (places_in_expression d.size ++ places_in_type d.element ++ in_optional places_in_expression d.default) (in_optional places_in_format d.format) k.1);
        },
        tt,
      )
      of_definition (def.Struct d) k =
          (record { name = k.0; definition = k; default = each_behind G (flat_map places_in_field d.fields) (in_optional places_in_expression d.default) k.1 }, tt)
      of_definition (def.Enum d) k = (
        record {
          name = k.0;
          definition = k;
          default = each_behind G (in_optional places_in_type d.repr ++ flat_map places_in_constant d.constants) (in_optional places_in_expression d.default) k.1;
        },
        tt,
      )
      of_definition (def.Port d) k = tt
  types_placed (item.Enumerated e) h = tt
  types_placed (item.Declared d) h = tt
  types_placed (item.Used since n) h = tt
  types_placed (item.Written since p) h = tt

  default_stands : (t : TypeHere) → TypePlaced t → G (default_place t)
  default_stands t h = go t.default h.default
    where
      go : (o : Option Expr) → Each G (in_optional places_in_expression o) → G (behind_default t.name.at.first o)
      go None k = h.name
      go (Some e) k = first_of G e k

  module _ (source : Source) (all : Each (StandOf G) (items source)) where
    item_of : (k : ℕ) (i : Item) → slice_get (items source) k ≡ Some i → StandOf G i
    item_of k i at = of_item (StandOf G) (items source) k i all at

    all_types : Each TypePlaced (types source)
    all_types = each_flat TypePlaced types_of (items source) (each_weaker (StandOf G) (λ i. Each TypePlaced (types_of i)) types_placed (items source) all)

    by_item : (i : Item) (f : Refusal) → StandOf G i → BrokenByItem source i f → At f
    by_item (item.Defined s) f h b = parts_placed source s.scope s.definition f h b
    by_item (item.Enumerated e) f h b = absurd b
    by_item (item.Declared d) f h b = absurd b
    by_item (item.Used since n) f h b = absurd b
    by_item (item.Written since p) f h b = absurd b

    by_numbers : (i : Item) (f : Refusal) → StandOf G i → RepeatsByItem source i f → At f
    by_numbers (item.Defined s) f h b = numbers_placed source s.scope s.definition f h b
    by_numbers (item.Enumerated e) f h b = absurd b
    by_numbers (item.Declared d) f h b = absurd b
    by_numbers (item.Used since n) f h b = absurd b
    by_numbers (item.Written since p) f h b = absurd b

    by_type : (ws : List WrittenType) (t : TypeHere) (f : Refusal) → TypePlaced t → BrokenByType source ws t f → At f
    by_type ws t f h (inl b) = repeats_member t.definition f h.definition b
    by_type ws t f h (inr b) = enum_placed source t.scope ws t.definition f h.definition b

    forms_placed : (ws : List WrittenType) (f : Refusal) → FormsBroken source ws f → At f
    forms_placed ws f (inl (k, i, at, b)) = by_item i f (item_of k i at) b
    forms_placed ws f (inr (inl (k, i, at, b))) = by_numbers i f (item_of k i at) b
    forms_placed ws f (inr (inr (inl (k, p, at, b)))) = repeats_placed G p.expression f (of_item (PlacedIn G) (expressions source) k p (all_expressions G source all) at) b
    forms_placed ws f (inr (inr (inr (k, t, at, b)))) = by_type ws t f (of_item TypePlaced (types source) k t all_types at) b

    pub types_broken : (f : Refusal) → TypesBroken source f → At f
    types_broken f b = go b.broken
      where
        go : TypesBrokenBy source b.written f → At f
        go (inl c) = chains_placed G source all _ f c
        go (inr (inl c)) = forms_placed b.written f c
        go (inr (inr (inl (k, place, at, c)))) =
            same_place G f _ c.0 (of_item G (map name_place (types source)) k place (each_mapped G name_place (types source) (each_weaker TypePlaced (λ t. G (name_place t)) (λ t h. h.name) (types source) all_types)) at)
        go (inr (inr (inr (k, place, at, c)))) =
            misfit_placed b.written place _ _ f
            (of_item G (map default_place (types source)) k place (each_mapped G default_place (types source) (each_weaker TypePlaced (λ t. G (default_place t)) default_stands (types source) all_types)) at) c.misfits
