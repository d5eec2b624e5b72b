-- The places in a definition are such where tokens begin, and so are those of its items.
use Rattle.std.proofs.Common.{ℕ, suc, Bool, true, false, cond, ◌==◌, List, [], ◌∷◌, ◌++◌, flat_map, Option, Some, None}
use Rattle.std.specs.List.{AllByRecursion as Each}
use Rattle.fp_base.specs.declared.place.Place.{Place}
use Rattle.fp_base.specs.declared.place.Span.{Span}
use Rattle.fp_lexer.specs.Words.{reserved}
use Rattle.fp_lexer.specs.declared.token.Word.{Word}
use Rattle.fp_lexer.specs.declared.token.Word.TheVariants as word
use Rattle.fp_lexer.specs.declared.token.Token.{Token}
use Rattle.fp_tree.specs.declared.name.Name.{Name}
use Rattle.fp_tree.specs.declared.name.Str.{Str}
use Rattle.fp_tree.specs.declared.expression.Expr.{Expr}
use Rattle.fp_tree.specs.declared.type_name.TypeName.{TypeName}
use Rattle.fp_tree.specs.declared.type_name.TypeForm.{TypeForm}
use Rattle.fp_tree.specs.declared.type_name.TypeForm.TheVariants as type
use Rattle.fp_tree.specs.declared.part.Field.{Field}
use Rattle.fp_tree.specs.declared.part.EnumConst.{EnumConst}
use Rattle.fp_tree.specs.declared.part.Formal.{Formal}
use Rattle.fp_tree.specs.declared.definition.Def.{Def}
use Rattle.fp_tree.specs.declared.definition.Def.TheVariants as def
use Rattle.fp_tree.specs.declared.definition.Enum.{Enum}
use Rattle.fp_meaning.specs.declared.item.Item.{Item}
use Rattle.fp_meaning.specs.Sites.{Path, in_optional}
use Rattle.fp_meaning.specs.Layout.{constant_items, expression_items, field_items, formal_items, items_in, type_form_items, type_items}
use Rattle.fp_parse_pieces.specs.Kinds.{k_open, k_close, k_open_bracket, k_close_bracket, k_open_brace, k_close_brace, k_equals}
use Rattle.fp_parse_pieces.specs.Lists.{commas, or_none}
use Rattle.fp_parse_defs.specs.Definitions.{k_arrow, k_colon, k_array, k_constant, k_default, k_enum, k_format, k_port, k_size, k_string_word, k_struct, k_type, unsigned_form, signed_form, other_form, plain, type_begins, expr_goes_on, made_string, string_type, made_use, used_type, type_body, type_name, default_part, format_part, sized, made_constant, constant, made_type, abstract_or_alias, made_array, array, made_field, field, with_field, fields, made_struct, structure, made_enum_const, enum_const, with_enum_const, enum_consts, made_enum, enumeration, made_formal, formal, with_formal, formal_list, formals_part, made_port, port, definition, noted_definition}
use Rattle.fp_base.proofs.Lists.{InOption, each_append, each_before, each_behind, each_flat, each_push}
use Rattle.fp_places.proofs.Preserving.{gives_anything, gives_map, gives_seq, gives_alt, gives_optional, gives_seal, gives_after, gives_before}
use Rattle.fp_places.proofs.Lists.{each_or_none, gives_some_of}
use Rattle.fp_places.specs.Places.{places_in_expression, places_in_type_form, places_in_type, places_in_format, places_in_field, places_in_constant, places_in_formal, places_in_definition, places_of}
use Rattle.fp_places.proofs.Tokens.{Yields, one_of_yields, at_yields, name_yields, string_yields, qual_yields, optional_stands}
use Rattle.fp_places.proofs.Expressions.{StandIn, expression_yields}

module _ (G : Place → Type 0) where
  -- all places in a type, in a definition, with any annotation, and in what an item stands for
  abbrev pub StandInType : TypeName → Type 0
  StandInType t = Each G (places_in_type t)

  abbrev pub StandNoted : Def → Type 0
  StandNoted d = (note : List ℕ) → Each G (places_in_definition (noted_definition d note))

  abbrev pub StandOf : Item → Type 0
  StandOf i = Each G (places_of i)

  -- types by reserved words have no place but their own
  either_none : (b : Bool) (f g : TypeForm) → Each G (places_in_type_form f) → Each G (places_in_type_form g) → Each G (places_in_type_form (cond b f g))
  either_none true f g h k = h
  either_none false f g h k = k

  unsigned_none : (w : Word) → Each G (places_in_type_form (unsigned_form w))
  unsigned_none (word.Reserved r) = either_none (r == reserved "U8") _ _ tt (either_none (r == reserved "U16") _ _ tt (either_none (r == reserved "U32") _ _ tt tt))
  unsigned_none _ = tt

  signed_none : (w : Word) → Each G (places_in_type_form (signed_form w))
  signed_none (word.Reserved r) = either_none (r == reserved "I8") _ _ tt (either_none (r == reserved "I16") _ _ tt (either_none (r == reserved "I32") _ _ tt tt))
  signed_none _ = tt

  other_none : (w : Word) → Each G (places_in_type_form (other_form w))
  other_none (word.Reserved r) = either_none (r == reserved "F32") _ _ tt (either_none (r == reserved "F64") _ _ tt tt)
  other_none _ = tt

  plain_yields : Yields G plain StandInType
  plain_yields =
      gives_alt (gives_map StandInType (λ (t : Token). record { form = unsigned_form t.what; at = t.at }) (λ t h. (h, unsigned_none t.what)) (one_of_yields G _))
      (gives_alt (gives_map StandInType (λ (t : Token). record { form = signed_form t.what; at = t.at }) (λ t h. (h, signed_none t.what)) (one_of_yields G _))
      (gives_map StandInType (λ (t : Token). record { form = other_form t.what; at = t.at }) (λ t h. (h, other_none t.what)) (one_of_yields G _)))

  optional_expression : (o : Option Expr) → InOption (StandIn G) o → Each G (in_optional places_in_expression o)
  optional_expression o h = optional_stands G places_in_expression o h

  optional_type : (o : Option TypeName) → InOption StandInType o → Each G (in_optional places_in_type o)
  optional_type o h = optional_stands G places_in_type o h

  optional_format : (o : Option Str) → InOption (λ (s : Str). G s.at.first) o → Each G (in_optional places_in_format o)
  optional_format None h = tt
  optional_format (Some s) h = (h, tt)

  abbrev StandInField : Field → Type 0
  StandInField f = Each G (places_in_field f)

  abbrev StandInConstant : EnumConst → Type 0
  StandInConstant c = Each G (places_in_constant c)

  abbrev StandInFormal : Formal → Type 0
  StandInFormal f = Each G (places_in_formal f)

  module _ (depth : ℕ) where
    string_stands : (p : Span × Option Expr) → G p.0.first × InOption (StandIn G) p.1 → StandInType (made_string p)
    string_stands p h = (h.0, optional_expression p.1 h.1)

    string_type_yields : Yields G (string_type depth) StandInType
    string_type_yields = gives_map StandInType made_string string_stands (gives_seq (at_yields G k_string_word) (gives_optional (gives_after k_size (expression_yields G depth))))

    used_yields : Yields G used_type StandInType
    used_yields = gives_map StandInType made_use (λ q h. (h, tt)) (qual_yields G)

    pub type_yields : Yields G (type_name depth) StandInType
    type_yields = gives_seal {a = type_body depth} type_begins (k_size ∷ expr_goes_on) (gives_alt plain_yields (gives_alt string_type_yields used_yields))

    default_yields : Yields G (default_part depth) (InOption (StandIn G))
    default_yields = gives_optional (gives_after k_default (expression_yields G depth))

    format_yields : Yields G format_part (InOption (λ (s : Str). G s.at.first))
    format_yields = gives_optional (gives_after k_format (string_yields G))

    sized_yields : Yields G (sized depth) (StandIn G)
    sized_yields = gives_before k_close_bracket (expression_yields G depth)

    constant_stands : (p : Span × (Name × Expr)) → G p.0.first × (G p.1.0.at.first × StandIn G p.1.1) → StandNoted (made_constant p)
    constant_stands (at, (name, value)) h note = (h.1.0, h.1.1)

    constant_yields : Yields G (constant depth) StandNoted
    constant_yields = gives_map StandNoted made_constant constant_stands (gives_seq (at_yields G k_constant) (gives_seq (name_yields G) (gives_after k_equals (expression_yields G depth))))

    type_stands : (p : Span × (Name × Option TypeName)) → G p.0.first × (G p.1.0.at.first × InOption StandInType p.1.1) → StandNoted (made_type p)
    type_stands (at, (name, None)) h note = (h.1.0, tt)
    type_stands (at, (name, Some target)) h note = (h.1.0, h.1.1)

    alias_yields : Yields G (abstract_or_alias depth) StandNoted
    alias_yields = gives_map StandNoted made_type type_stands (gives_seq (at_yields G k_type) (gives_seq (name_yields G) (gives_optional (gives_after k_equals type_yields))))

    array_stands : (p : Span × (Name × (Expr × (TypeName × (Option Expr × Option Str)))))
        → G p.0.first × (G p.1.0.at.first × (StandIn G p.1.1.0 × (StandInType p.1.1.1.0 × (InOption (StandIn G) p.1.1.1.1.0 × InOption (λ (s : Str). G s.at.first) p.1.1.1.1.1)))) → StandNoted (made_array p)
    array_stands (at, (name, (size, (element, (default, format))))) h note =
        (h.1.0, each_append G _ _ (each_append G _ _ (each_append G _ _ h.1.1.0 h.1.1.1.0) (optional_expression default h.1.1.1.1.0)) (optional_format format h.1.1.1.1.1))

    array_yields : Yields G (array depth) StandNoted
    array_yields = gives_map StandNoted made_array array_stands
        (gives_seq (at_yields G k_array) (gives_seq (name_yields G) (gives_after k_equals (gives_after k_open_bracket
        (gives_seq sized_yields (gives_seq type_yields (gives_seq default_yields format_yields)))))))

    field_stands : (p : Name × (Option Expr × (TypeName × Option Str)))
        → G p.0.at.first × (InOption (StandIn G) p.1.0 × (StandInType p.1.1.0 × InOption (λ (s : Str). G s.at.first) p.1.1.1)) → StandInField (made_field p)
    field_stands (name, (size, (of, format))) h =
        (h.0, each_append G _ _ (each_append G _ _ (optional_expression size h.1.0) h.1.1.0) (optional_format format h.1.1.1))

    field_yields : Yields G (field depth) StandInField
    field_yields = gives_map StandInField made_field field_stands
        (gives_seq (name_yields G) (gives_after k_colon (gives_seq (gives_optional (gives_after k_open_bracket sized_yields)) (gives_seq type_yields format_yields))))

    fields_yield : Yields G (fields depth) (Each StandInField)
    fields_yield = gives_map (Each StandInField) or_none (each_or_none StandInField)
        (gives_optional (gives_some_of StandInField (Each StandInField) with_field (λ fs f lines h k. each_push StandInField fs _ h k) commas [] tt field_yields))

    struct_stands : (p : Span × (Name × (List Field × (Span × Option Expr))))
        → G p.0.first × (G p.1.0.at.first × (Each StandInField p.1.1.0 × (G p.1.1.1.0.first × InOption (StandIn G) p.1.1.1.1))) → StandNoted (made_struct p)
    struct_stands (at, (name, (fields, (closing, default)))) h note =
        (h.1.0, each_append G _ _ (each_flat G places_in_field fields h.1.1.0) (optional_expression default h.1.1.1.1))

    struct_yields : Yields G (structure depth) StandNoted
    struct_yields = gives_map StandNoted made_struct struct_stands
        (gives_seq (at_yields G k_struct) (gives_seq (name_yields G) (gives_after k_open_brace (gives_seq fields_yield (gives_seq (at_yields G k_close_brace) default_yields)))))

    enum_const_stands : (p : Name × Option Expr) → G p.0.at.first × InOption (StandIn G) p.1 → StandInConstant (made_enum_const p)
    enum_const_stands (name, value) h = (h.0, optional_expression value h.1)

    enum_const_yields : Yields G (enum_const depth) StandInConstant
    enum_const_yields = gives_map StandInConstant made_enum_const enum_const_stands (gives_seq (name_yields G) (gives_optional (gives_after k_equals (expression_yields G depth))))

    enum_consts_yield : Yields G (enum_consts depth) (Each StandInConstant)
    enum_consts_yield = gives_some_of StandInConstant (Each StandInConstant) with_enum_const (λ cs c lines h k. each_push StandInConstant cs _ h k) commas [] tt enum_const_yields

    enum_stands : (p : Span × (Name × (Option TypeName × (List EnumConst × (Span × Option Expr)))))
        → G p.0.first × (G p.1.0.at.first × (InOption StandInType p.1.1.0 × (Each StandInConstant p.1.1.1.0 × (G p.1.1.1.1.0.first × InOption (StandIn G) p.1.1.1.1.1)))) → StandNoted (made_enum p)
    enum_stands (at, (name, (repr, (constants, (closing, default))))) h note = (
      h.1.0,
      each_append G _ _ (each_append G _ _ (optional_type repr h.1.1.0) (each_flat G places_in_constant constants h.1.1.1.0)) (optional_expression default h.1.1.1.1.1),
    )

    enum_yields : Yields G (enumeration depth) StandNoted
    enum_yields = gives_map StandNoted made_enum enum_stands
        (gives_seq (at_yields G k_enum) (gives_seq (name_yields G) (gives_seq (gives_optional (gives_after k_colon type_yields))
        (gives_after k_open_brace (gives_seq enum_consts_yield (gives_seq (at_yields G k_close_brace) default_yields))))))

    formal_stands : (p : Option Span × (Name × TypeName)) → Unit {0} × (G p.1.0.at.first × StandInType p.1.1) → StandInFormal (made_formal p)
    formal_stands (None, (name, of)) h = (h.1.0, h.1.1)
    formal_stands (Some ref, (name, of)) h = (h.1.0, h.1.1)

    formal_yields : Yields G (formal depth) StandInFormal
    formal_yields = gives_map StandInFormal made_formal formal_stands (gives_seq gives_anything (gives_seq (name_yields G) (gives_after k_colon type_yields)))

    formal_list_yields : Yields G (formal_list depth) (Each StandInFormal)
    formal_list_yields = gives_map (Each StandInFormal) or_none (each_or_none StandInFormal)
        (gives_optional (gives_some_of StandInFormal (Each StandInFormal) with_formal (λ fs f lines h k. each_push StandInFormal fs _ h k) commas [] tt formal_yields))

    formals_yield : Yields G (formals_part depth) (InOption (λ (q : List Formal × Span). Each StandInFormal q.0 × G q.1.first))
    formals_yield = gives_optional (gives_after k_open (gives_seq formal_list_yields (at_yields G k_close)))

    port_stands : (p : Span × (Name × (Option (List Formal × Span) × Option TypeName)))
        → G p.0.first × (G p.1.0.at.first × (InOption (λ (q : List Formal × Span). Each StandInFormal q.0 × G q.1.first) p.1.1.0 × InOption StandInType p.1.1.1)) → StandNoted (made_port p)
    port_stands (at, (name, (None, answer))) h note = (h.1.0, optional_type answer h.1.1.1)
    port_stands (at, (name, (Some (formals, closing), answer))) h note =
        (h.1.0, each_append G _ _ (each_flat G places_in_formal formals h.1.1.0.0) (optional_type answer h.1.1.1))

    port_yields : Yields G (port depth) StandNoted
    port_yields = gives_map StandNoted made_port port_stands
        (gives_seq (at_yields G k_port) (gives_seq (name_yields G) (gives_seq formals_yield (gives_optional (gives_after k_arrow type_yields)))))

    pub definition_yields : Yields G (definition depth) StandNoted
    definition_yields =
        gives_alt constant_yields (gives_alt alias_yields (gives_alt array_yields
        (gives_alt struct_yields (gives_alt enum_yields port_yields))))

  -- ---- items

  abbrev pub AllOf : List Item → Type 0
  AllOf is = Each StandOf is

  optional_placed : (since : ℕ) (scope : Path) (o : Option Expr) → Each G (in_optional places_in_expression o) → AllOf (in_optional (expression_items since scope) o)
  optional_placed since scope None h = tt
  optional_placed since scope (Some e) h = (h, tt)

  form_placed : (since : ℕ) (scope : Path) (f : TypeForm) → Each G (places_in_type_form f) → AllOf (type_form_items since scope f)
  form_placed since scope (type.Text size) h = optional_placed since scope size h
  form_placed since scope (type.Use name) h = (tt, tt)
  form_placed since scope _ h = tt

  pub type_placed : (since : ℕ) (scope : Path) (t : TypeName) → StandInType t → AllOf (type_items since scope t)
  type_placed since scope t h = form_placed since scope t.form h.1

  optional_type_placed : (scope : Path) (o : Option TypeName) → Each G (in_optional places_in_type o) → AllOf (in_optional (type_items 0 scope) o)
  optional_type_placed scope None h = tt
  optional_type_placed scope (Some t) h = type_placed 0 scope t h

  field_placed : (scope : Path) (f : Field) → StandInField f → AllOf (field_items scope f)
  field_placed scope f h =
      let two = each_before G (in_optional places_in_expression f.size ++ places_in_type f.of) (in_optional places_in_format f.format) h.1 in
      each_append StandOf _ _ (optional_placed 0 scope f.size (each_before G (in_optional places_in_expression f.size) (places_in_type f.of) two))
      (type_placed 0 scope f.of (each_behind G (in_optional places_in_expression f.size) (places_in_type f.of) two))

  fields_placed : (scope : Path) (fs : List Field) → Each G (flat_map places_in_field fs) → AllOf (flat_map (field_items scope) fs)
  fields_placed scope [] h = tt
  fields_placed scope (f ∷ fs) h =
      each_append StandOf (field_items scope f) (flat_map (field_items scope) fs)
      (field_placed scope f (each_before G (places_in_field f) (flat_map places_in_field fs) h))
      (fields_placed scope fs (each_behind G (places_in_field f) (flat_map places_in_field fs) h))

  formals_placed : (scope : Path) (fs : List Formal) → Each G (flat_map places_in_formal fs) → AllOf (flat_map (formal_items scope) fs)
  formals_placed scope [] h = tt
  formals_placed scope (f ∷ fs) h =
      let here : StandInFormal f = each_before G (places_in_formal f) (flat_map places_in_formal fs) h in
      each_append StandOf (formal_items scope f) (flat_map (formal_items scope) fs)
      (type_placed 0 scope f.of here.1)
      (formals_placed scope fs (each_behind G (places_in_formal f) (flat_map places_in_formal fs) h))

  constants_placed : (scope : Path) (e : Enum) (position : ℕ) (cs : List EnumConst) → Each G (flat_map places_in_constant cs) → AllOf (constant_items scope e position cs)
  constants_placed scope e position [] h = tt
  constants_placed scope e position (c ∷ cs) h = (
    each_before G (places_in_constant c) (flat_map places_in_constant cs) h,
    constants_placed scope e (suc position) cs (each_behind G (places_in_constant c) (flat_map places_in_constant cs) h),
  )

  pub definition_placed : (scope : Path) (d : Def) → Each G (places_in_definition d) → AllOf (items_in scope d)
  definition_placed scope (def.Constant d) h = (h, tt)
  definition_placed scope (def.Abstract d) h = (h, tt)
  definition_placed scope (def.Alias d) h = (h, type_placed 0 scope d.target h.1)
  definition_placed scope (def.Array d) h =
      let three = each_before G (places_in_expression d.size ++ places_in_type d.element ++ in_optional places_in_expression d.default) (in_optional places_in_format d.format) h.1 in
      let two = each_before G (places_in_expression d.size ++ places_in_type d.element) (in_optional places_in_expression d.default) three in (
        h,
        (
          each_before G (places_in_expression d.size) (places_in_type d.element) two,
          each_append StandOf (type_items 0 scope d.element) (in_optional (expression_items 0 scope) d.default)
              (type_placed 0 scope d.element (each_behind G (places_in_expression d.size) (places_in_type d.element) two))
              (optional_placed 0 scope d.default (each_behind G (places_in_expression d.size ++ places_in_type d.element) (in_optional places_in_expression d.default) three)),
        ),
      )
  definition_placed scope (def.Struct d) h = (
    h,
    each_append StandOf _ _ (fields_placed scope d.fields (each_before G (flat_map places_in_field d.fields) (in_optional places_in_expression d.default) h.1))
        (optional_placed 0 scope d.default (each_behind G (flat_map places_in_field d.fields) (in_optional places_in_expression d.default) h.1)),
  )
  definition_placed scope (def.Enum d) h =
      let two = each_before G (in_optional places_in_type d.repr ++ flat_map places_in_constant d.constants) (in_optional places_in_expression d.default) h.1 in (
        h,
        each_append StandOf _ _ (each_append StandOf _ _
            (optional_type_placed scope d.repr (each_before G (in_optional places_in_type d.repr) (flat_map places_in_constant d.constants) two))
            (constants_placed scope d 0 d.constants (each_behind G (in_optional places_in_type d.repr) (flat_map places_in_constant d.constants) two)))
            (optional_placed _ scope d.default (each_behind G (in_optional places_in_type d.repr ++ flat_map places_in_constant d.constants) (in_optional places_in_expression d.default) h.1)),
      )
  definition_placed scope (def.Port d) h = (
    h,
    each_append StandOf _ _ (formals_placed scope d.formals (each_before G (flat_map places_in_formal d.formals) (in_optional places_in_type d.result) h.1))
        (optional_type_placed scope d.result (each_behind G (flat_map places_in_formal d.formals) (in_optional places_in_type d.result) h.1)),
  )
