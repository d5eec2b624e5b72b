-- What the items of a definition define and use stands where tokens begin, its names are names that tokens have, and its expressions nest
-- no deeper than is allowed.
use Rattle.std.proofs.Common.{◌≡◌, refl, ℕ, suc, ◌≤◌, Bool, true, false, cond, ◌==◌, List, [], ◌∷◌, flat_map, length, Option, Some, None, subst, sym}
use Rattle.std.specs.List.{AllByRecursion as Each}
use Rattle.fp_base.specs.declared.place.Place.{Place}
use Rattle.fp_base.specs.declared.place.Span.{Span}
use Rattle.fp_lexer.specs.Words.{reserved}
use Rattle.fp_lexer.specs.declared.token.Word.{Word}
use Rattle.fp_lexer.specs.declared.token.Word.TheVariants as word
use Rattle.fp_lexer.specs.declared.token.Token.{Token}
use Rattle.fp_tree.specs.declared.name.Name.{Name}
use Rattle.fp_tree.specs.declared.name.Str.{Str}
use Rattle.fp_tree.specs.declared.expression.Expr.{Expr}
use Rattle.fp_tree.specs.declared.type_name.TypeName.{TypeName}
use Rattle.fp_tree.specs.declared.type_name.TypeForm.{TypeForm}
use Rattle.fp_tree.specs.declared.part.Field.{Field}
use Rattle.fp_tree.specs.declared.part.EnumConst.{EnumConst}
use Rattle.fp_tree.specs.declared.part.Formal.{Formal}
use Rattle.fp_tree.specs.declared.definition.Def.{Def}
use Rattle.fp_tree.specs.declared.definition.Enum.{Enum}
use Rattle.fp_meaning.specs.declared.item.Item.{Item}
use Rattle.fp_meaning.specs.declared.item.Item.TheVariants as item
use Rattle.fp_meaning.specs.declared.names.Definition.{Definition}
use Rattle.fp_meaning.specs.Sites.{Path, in_optional, entry, Placed}
use Rattle.fp_meaning.specs.Layout.{expression_items, type_form_items, type_items, field_items, formal_items, constant_items, items_in}
use Rattle.fp_meaning.specs.Names.{definitions_of, uses_of}
use Rattle.fp_meaning.specs.Origins.{expressions_of}
use Rattle.fp_parse_pieces.specs.Kinds.{k_open, k_close, k_open_bracket, k_close_bracket, k_open_brace, k_close_brace, k_equals}
use Rattle.fp_parse_defs.specs.Language.{expression}
use Rattle.fp_parse_pieces.specs.Lists.{commas, or_none}
use Rattle.fp_parse_parts.specs.Members.{noted_definition}
use Rattle.fp_parse_defs.specs.Definitions.{k_arrow, k_colon, k_array, k_constant, k_default, k_enum, k_port, k_size, k_struct, k_type, unsigned_form, signed_form, other_form, plain, type_begins, expr_goes_on, made_string, string_type, made_use, used_type, type_body, type_name, default_part, sized, made_constant, constant, made_type, abstract_or_alias, made_array, array, made_field, field, with_field, fields, made_struct, structure, made_enum_const, enum_const, enum_const_with_note, with_enum_const, enum_consts, made_enum, enumeration, made_formal, formal, with_formal, formal_list, formals, formals_part, made_port, port, definition}
use Rattle.fp_base.proofs.Lists.{InOption, each_append, each_push, each_flat, each_of_any, each_weaker}
use Rattle.fp_places.specs.Depths.{depth_of}
use Rattle.fp_places.specs.Parts.{names_in_expression, names_in_type_form, names_in_type, names_in_field, names_in_constant, names_in_formal, names_in_definition}
use Rattle.fp_places.proofs.Preserving.{gives_anything, gives_map, gives_seq, gives_alt, gives_optional, gives_seal, gives_after, gives_before}
use Rattle.fp_places.proofs.Lists.{each_or_none, gives_some_of}
use Rattle.fp_places.proofs.Words.{Yields, SitedName, at_yields, name_yields, qual_yields}
use Rattle.fp_places.proofs.SiteExpressions.{Stand, same_names, expression_yields}
use Rattle.fp_places.proofs.Depths.{expression_keeps}
use Rattle.fp_places.proofs.Anything.{AnyToken}

module _ (G : Place → Type 0) (N : Name → Type 0) (depth : ℕ) where
  -- what an item defines and uses stands at such places, and its expressions nest no deeper
  pub record SitedItem (i : Item) : Type 0 where
    pub defines : Each (λ (x : Definition). G x.place) (definitions_of i)
    pub uses : Stand G N (uses_of i)
    pub kept : Each (λ (p : Placed). depth_of p.expression ≤ depth) (expressions_of i)

  -- of all items of a definition, in any scope, and its names are such names
  pub record Sited (d : Def) : Type 0 where
    pub items : (scope : Path) → Each SitedItem (items_in scope d)
    pub names : Each N (names_in_definition d)

  -- in any annotation
  abbrev pub SitedNoted : Def → Type 0
  SitedNoted d = (note : List ℕ) → Sited (noted_definition d note)

  -- the same of a part of a definition
  pub record SitedPart {A : Type 0} (found : ℕ → Path → A → List Item) (written : A → List Name) (x : A) : Type 0 where
    pub items : (since : ℕ) (scope : Path) → Each SitedItem (found since scope x)
    pub names : Each N (written x)

  -- of each part of a list, and of one that may be left out
  list_sited : {A : Type 0} (found : ℕ → Path → A → List Item) (written : A → List Name) (xs : List A) → Each (SitedPart found written) xs
      → SitedPart (λ since scope xs. flat_map (found since scope) xs) (λ xs. flat_map written xs) xs
  list_sited found written xs hs = record {
    items = λ since scope. each_flat SitedItem (found since scope) xs (each_weaker (SitedPart found written) (λ x. Each SitedItem (found since scope x)) (λ x h. h.items since scope) xs hs);
    names = each_flat N written xs (each_weaker (SitedPart found written) (λ x. Each N (written x)) (λ x h. h.names) xs hs);
  }

  option_sited : {A : Type 0} (found : ℕ → Path → A → List Item) (written : A → List Name) (o : Option A) → InOption (SitedPart found written) o
      → SitedPart (λ since scope o. in_optional (found since scope) o) (λ o. in_optional written o) o
  option_sited found written None h = record { items = λ since scope. tt; names = tt }
  option_sited found written (Some x) h = record { items = h.items; names = h.names }

  -- of an expression
  abbrev pub SitedExpr : Expr → Type 0
  SitedExpr e = SitedPart expression_items names_in_expression e

  pub part_yields : Yields G N (expression depth) SitedExpr
  part_yields = record {
    given = λ w e s h.
        let stand = (expression_yields G N depth).given w e s h in
        let kept = (expression_keeps depth).given w e s (each_of_any AnyToken (λ t. tt) w) in
        record { items = λ since scope. (record { defines = tt; uses = stand.uses scope; kept = (kept, tt) }, tt); names = stand.names };
  }

  -- of the form of a type
  abbrev SitedForm : TypeForm → Type 0
  SitedForm f = SitedPart type_form_items names_in_type_form f

  -- of a type
  abbrev pub SitedType : TypeName → Type 0
  SitedType t = SitedPart type_items names_in_type t

  either_sited : (b : Bool) (f g : TypeForm) → SitedForm f → SitedForm g → SitedForm (cond b f g)
  either_sited true f g h k = h
  either_sited false f g h k = k

  -- of a plain type
  plain_form : (f : TypeForm) → ((since : ℕ) (scope : Path) → type_form_items since scope f ≡ []) → names_in_type_form f ≡ [] → SitedForm f
  plain_form f d e = record { items = λ since scope. subst (Each SitedItem) (sym (d since scope)) tt; names = same_names G N _ _ e tt }

  unsigned_sited : (w : Word) → SitedForm (unsigned_form w)
  unsigned_sited (word.Reserved r) = either_sited (r == reserved "U8") _ _ (plain_form _ (λ since scope. refl) refl) (either_sited (r == reserved "U16") _ _ (plain_form _ (λ since scope. refl) refl) (either_sited (r == reserved "U32") _ _ (plain_form _ (λ since scope. refl) refl) (plain_form _ (λ since scope. refl) refl)))
  unsigned_sited _ = plain_form _ (λ since scope. refl) refl

  signed_sited : (w : Word) → SitedForm (signed_form w)
  signed_sited (word.Reserved r) = either_sited (r == reserved "I8") _ _ (plain_form _ (λ since scope. refl) refl) (either_sited (r == reserved "I16") _ _ (plain_form _ (λ since scope. refl) refl) (either_sited (r == reserved "I32") _ _ (plain_form _ (λ since scope. refl) refl) (plain_form _ (λ since scope. refl) refl)))
  signed_sited _ = plain_form _ (λ since scope. refl) refl

  other_sited : (w : Word) → SitedForm (other_form w)
  other_sited (word.Reserved r) = either_sited (r == reserved "F32") _ _ (plain_form _ (λ since scope. refl) refl) (either_sited (r == reserved "F64") _ _ (plain_form _ (λ since scope. refl) refl) (plain_form _ (λ since scope. refl) refl))
  other_sited _ = plain_form _ (λ since scope. refl) refl

  of_type_form : (t : TypeName) → SitedForm t.form → SitedType t
  of_type_form t h = record { items = h.items; names = h.names }

  plain_yields : Yields G N plain SitedType
  plain_yields =
      gives_alt (gives_map SitedType (λ (t : Token). record { form = unsigned_form t.what; at = t.at }) (λ t h. of_type_form _ (unsigned_sited t.what)) gives_anything)
      (gives_alt (gives_map SitedType (λ (t : Token). record { form = signed_form t.what; at = t.at }) (λ t h. of_type_form _ (signed_sited t.what)) gives_anything)
      (gives_map SitedType (λ (t : Token). record { form = other_form t.what; at = t.at }) (λ t h. of_type_form _ (other_sited t.what)) gives_anything))

  string_sited : (p : Span × Option Expr) → Unit {0} × InOption SitedExpr p.1 → SitedType (made_string p)
  string_sited p h = let size = option_sited expression_items names_in_expression p.1 h.1 in record { items = size.items; names = size.names }

  string_yields : Yields G N (string_type depth) SitedType
  string_yields = gives_map SitedType made_string string_sited (gives_seq gives_anything (gives_optional (gives_after k_size part_yields)))

  used_yields : Yields G N used_type SitedType
  used_yields = gives_map SitedType made_use (λ q h. record { items = λ since scope. (record { defines = tt; uses = (h.begins, tt); kept = tt }, tt); names = h.named }) (qual_yields G N)

  pub type_yields : Yields G N (type_name depth) SitedType
  type_yields = gives_seal {a = type_body depth} type_begins (k_size ∷ expr_goes_on) (gives_alt plain_yields (gives_alt string_yields used_yields))

  default_yields : Yields G N (default_part depth) (InOption SitedExpr)
  default_yields = gives_optional (gives_after k_default part_yields)

  sized_yields : Yields G N (sized depth) SitedExpr
  sized_yields = gives_before k_close_bracket part_yields

  constant_sited : (p : Span × (Name × Expr)) → G p.0.first × (SitedName G N p.1.0 × SitedExpr p.1.1) → SitedNoted (made_constant p)
  constant_sited (at, (name, value)) h note = record {
    items = λ scope. let v = (h.1.1.items 0 scope).0 in (record { defines = (h.1.0.begins, tt); uses = v.uses; kept = v.kept }, tt);
    names = (h.1.0.named, h.1.1.names);
  }

  constant_yields : Yields G N (constant depth) SitedNoted
  constant_yields = gives_map SitedNoted made_constant constant_sited (gives_seq (at_yields G N k_constant) (gives_seq (name_yields G N) (gives_after k_equals part_yields)))

  type_sited : (p : Span × (Name × Option TypeName)) → G p.0.first × (SitedName G N p.1.0 × InOption SitedType p.1.1) → SitedNoted (made_type p)
  type_sited (at, (name, None)) h note = record { items = λ scope. (record { defines = (h.1.0.begins, tt); uses = tt; kept = tt }, tt); names = (h.1.0.named, tt) }
  type_sited (at, (name, Some target)) h note = record {
    items = λ scope. (record { defines = (h.1.0.begins, tt); uses = tt; kept = tt }, h.1.1.items 0 scope);
    names = (h.1.0.named, h.1.1.names);
  }

  alias_yields : Yields G N (abstract_or_alias depth) SitedNoted
  alias_yields = gives_map SitedNoted made_type type_sited (gives_seq (at_yields G N k_type) (gives_seq (name_yields G N) (gives_optional (gives_after k_equals type_yields))))

  array_sited : (p : Span × (Name × (Expr × (TypeName × (Option Expr × Option Str)))))
      → G p.0.first × (SitedName G N p.1.0 × (SitedExpr p.1.1.0 × (SitedType p.1.1.1.0 × (InOption SitedExpr p.1.1.1.1.0 × Unit {0})))) → SitedNoted (made_array p)
  array_sited (at, (name, (size, (element, (default, format))))) h note =
      let defaults = option_sited expression_items names_in_expression default h.1.1.1.1.0 in
      record {
        items = λ scope. (
          record { defines = (h.1.0.begins, tt); uses = tt; kept = tt },
          ((h.1.1.0.items 0 scope).0, each_append SitedItem _ _ (h.1.1.1.0.items 0 scope) (defaults.items 0 scope)),
        );
        names = (h.1.0.named, each_append N _ _ (each_append N _ _ h.1.1.0.names h.1.1.1.0.names) defaults.names);
      }

  array_yields : Yields G N (array depth) SitedNoted
  array_yields = gives_map SitedNoted made_array array_sited
      (gives_seq (at_yields G N k_array) (gives_seq (name_yields G N) (gives_after k_equals (gives_after k_open_bracket
      (gives_seq sized_yields (gives_seq type_yields (gives_seq default_yields gives_anything)))))))

  abbrev SitedField : Field → Type 0
  SitedField f = SitedPart (λ since. field_items) names_in_field f

  field_sited : (p : Name × (Option Expr × (TypeName × Option Str))) → SitedName G N p.0 × (InOption SitedExpr p.1.0 × (SitedType p.1.1.0 × Unit {0})) → SitedField (made_field p)
  field_sited (name, (size, (of, format))) h =
      let sizes = option_sited expression_items names_in_expression size h.1.0 in
      record {
        items = λ since scope. each_append SitedItem _ _ (sizes.items 0 scope) (h.1.1.0.items 0 scope);
        names = (h.0.named, each_append N _ _ sizes.names h.1.1.0.names);
      }

  field_yields : Yields G N (field depth) SitedField
  field_yields = gives_map SitedField made_field field_sited
      (gives_seq (name_yields G N) (gives_after k_colon (gives_seq (gives_optional (gives_after k_open_bracket sized_yields)) (gives_seq type_yields gives_anything))))

  fields_yield : Yields G N (fields depth) (Each SitedField)
  fields_yield = gives_map (Each SitedField) or_none (each_or_none SitedField)
      (gives_optional (gives_some_of SitedField (Each SitedField) with_field (λ fs f lines h k. each_push SitedField fs _ h (record { items = k.items; names = k.names })) commas [] tt field_yields))

  struct_sited : (p : Span × (Name × (List Field × (Span × Option Expr))))
      → G p.0.first × (SitedName G N p.1.0 × (Each SitedField p.1.1.0 × (G p.1.1.1.0.first × InOption SitedExpr p.1.1.1.1))) → SitedNoted (made_struct p)
  struct_sited (at, (name, (fields, (closing, default)))) h note =
      let inside = list_sited (λ since. field_items) names_in_field fields h.1.1.0 in
      let defaults = option_sited expression_items names_in_expression default h.1.1.1.1 in
      record {
        items = λ scope. (record { defines = (h.1.0.begins, tt); uses = tt; kept = tt }, each_append SitedItem _ _ (inside.items 0 scope) (defaults.items 0 scope));
        names = (h.1.0.named, each_append N _ _ inside.names defaults.names);
      }

  struct_yields : Yields G N (structure depth) SitedNoted
  struct_yields = gives_map SitedNoted made_struct struct_sited
      (gives_seq (at_yields G N k_struct) (gives_seq (name_yields G N) (gives_after k_open_brace (gives_seq fields_yield (gives_seq (at_yields G N k_close_brace) default_yields)))))

  -- of a constant, in any enumeration
  record SitedConstant (c : EnumConst) : Type 0 where
    given : (scope : Path) (e : Enum) (position : ℕ) → SitedItem (item.Enumerated (entry scope e position c))
    names : Each N (names_in_constant c)

  enum_const_sited : (p : Name × Option Expr) → SitedName G N p.0 × InOption SitedExpr p.1 → SitedConstant (made_enum_const p)
  enum_const_sited (name, None) h = record { given = λ scope e position. record { defines = (h.0.begins, tt); uses = tt; kept = tt }; names = (h.0.named, tt) }
  enum_const_sited (name, Some value) h = record {
    given = λ scope e position. let v = (h.1.items 0 scope).0 in record { defines = (h.0.begins, tt); uses = v.uses; kept = v.kept };
    names = (h.0.named, h.1.names);
  }

  enum_const_yields : Yields G N (enum_const depth) SitedConstant
  enum_const_yields = gives_map SitedConstant made_enum_const enum_const_sited (gives_seq (name_yields G N) (gives_optional (gives_after k_equals part_yields)))

  noted_constant : (c : EnumConst) (note : List ℕ) → SitedConstant c → SitedConstant (enum_const_with_note c note)
  noted_constant c note h = record {
    given = λ scope e position. let i = h.given scope e position in record { defines = i.defines; uses = i.uses; kept = i.kept };
    names = h.names;
  }

  enum_consts_yield : Yields G N (enum_consts depth) (Each SitedConstant)
  enum_consts_yield =
      gives_some_of SitedConstant (Each SitedConstant) with_enum_const (λ cs c lines h k. each_push SitedConstant cs _ h (noted_constant c _ k)) commas [] tt enum_const_yields

  constants_sited : (scope : Path) (e : Enum) (position : ℕ) (cs : List EnumConst) → Each SitedConstant cs → Each SitedItem (constant_items scope e position cs)
  constants_sited scope e position [] hs = tt
  constants_sited scope e position (c ∷ cs) hs = (hs.0.given scope e position, constants_sited scope e (suc position) cs hs.1)

  enum_sited : (p : Span × (Name × (Option TypeName × (List EnumConst × (Span × Option Expr)))))
      → G p.0.first × (SitedName G N p.1.0 × (InOption SitedType p.1.1.0 × (Each SitedConstant p.1.1.1.0 × (G p.1.1.1.1.0.first × InOption SitedExpr p.1.1.1.1.1)))) → SitedNoted (made_enum p)
  enum_sited (at, (name, (repr, (constants, (closing, default))))) h note =
      let reprs = option_sited type_items names_in_type repr h.1.1.0 in
      let inside = each_flat N names_in_constant constants (each_weaker SitedConstant (λ c. Each N (names_in_constant c)) (λ c h. h.names) constants h.1.1.1.0) in
      let defaults = option_sited expression_items names_in_expression default h.1.1.1.1.1 in
      record {
        items = λ scope. (
          record { defines = (h.1.0.begins, tt); uses = tt; kept = tt },
          each_append SitedItem _ _ (each_append SitedItem _ _ (reprs.items 0 scope) (constants_sited scope _ 0 constants h.1.1.1.0)) (defaults.items (length constants) scope),
        );
        names = (h.1.0.named, each_append N _ _ (each_append N _ _ reprs.names inside) defaults.names);
      }

  enum_yields : Yields G N (enumeration depth) SitedNoted
  enum_yields = gives_map SitedNoted made_enum enum_sited
      (gives_seq (at_yields G N k_enum) (gives_seq (name_yields G N) (gives_seq (gives_optional (gives_after k_colon type_yields))
      (gives_after k_open_brace (gives_seq enum_consts_yield (gives_seq (at_yields G N k_close_brace) default_yields))))))

  abbrev SitedFormal : Formal → Type 0
  SitedFormal f = SitedPart (λ since. formal_items) names_in_formal f

  formal_sited : (p : Option Span × (Name × TypeName)) → Unit {0} × (SitedName G N p.1.0 × SitedType p.1.1) → SitedFormal (made_formal p)
  formal_sited (None, (name, of)) h = record { items = λ since. h.1.1.items 0; names = (h.1.0.named, h.1.1.names) }
  formal_sited (Some ref, (name, of)) h = record { items = λ since. h.1.1.items 0; names = (h.1.0.named, h.1.1.names) }

  formal_yields : Yields G N (formal depth) SitedFormal
  formal_yields = gives_map SitedFormal made_formal formal_sited (gives_seq gives_anything (gives_seq (name_yields G N) (gives_after k_colon type_yields)))

  formal_list_yields : Yields G N (formal_list depth) (Each SitedFormal)
  formal_list_yields = gives_map (Each SitedFormal) or_none (each_or_none SitedFormal)
      (gives_optional (gives_some_of SitedFormal (Each SitedFormal) with_formal (λ fs f lines h k. each_push SitedFormal fs _ h (record { items = k.items; names = k.names })) commas [] tt formal_yields))

  formals_yield : Yields G N (formals_part depth) (InOption (λ p. Each SitedFormal p.0 × G p.1.first))
  formals_yield = gives_optional (gives_after k_open (gives_seq formal_list_yields (at_yields G N k_close)))

  port_sited : (p : Span × (Name × (Option (List Formal × Span) × Option TypeName)))
      → G p.0.first × (SitedName G N p.1.0 × (InOption (λ (q : List Formal × Span). Each SitedFormal q.0 × G q.1.first) p.1.1.0 × InOption SitedType p.1.1.1)) → SitedNoted (made_port p)
  port_sited (at, (name, (None, answer))) h note =
      let results = option_sited type_items names_in_type answer h.1.1.1 in
      record { items = λ scope. (record { defines = (h.1.0.begins, tt); uses = tt; kept = tt }, results.items 0 scope); names = (h.1.0.named, results.names) }
  port_sited (at, (name, (Some (formals, closing), answer))) h note =
      let inside = list_sited (λ since. formal_items) names_in_formal formals h.1.1.0.0 in
      let results = option_sited type_items names_in_type answer h.1.1.1 in
      record {
        items = λ scope. (record { defines = (h.1.0.begins, tt); uses = tt; kept = tt }, each_append SitedItem _ _ (inside.items 0 scope) (results.items 0 scope));
        names = (h.1.0.named, each_append N _ _ inside.names results.names);
      }

  port_yields : Yields G N (port depth) SitedNoted
  port_yields = gives_map SitedNoted made_port port_sited
      (gives_seq (at_yields G N k_port) (gives_seq (name_yields G N) (gives_seq formals_yield (gives_optional (gives_after k_arrow type_yields)))))

  pub definition_yields : Yields G N (definition depth) SitedNoted
  definition_yields =
      gives_alt constant_yields (gives_alt alias_yields (gives_alt array_yields
      (gives_alt struct_yields (gives_alt enum_yields port_yields))))
