-- The names of types and of what stands in them, from the names of definitions and of members.
use Rattle.std.proofs.Common.{◌≡◌, ℕ, suc, ◌+◌, ◌<◌, ◌⊎◌, inl, inr, Bool, true, List, [], ◌∷◌, ◌++◌, length, map, take, slice_get, Some, option_map, refl, sym, ap, ◌∙◌, subst, arith}
use Rattle.std.specs.List.{list_all}
use Rattle.std.proofs.lemmas.Option.{slice_get-map}
use Rattle.std.proofs.Math.Nat.{add-zero}
use Rattle.fp_base.proofs.Mapped.{get_mapped}
use Rattle.fp_base.proofs.Bools.{both, join}
use Rattle.fp_base.proofs.Passing.{all_items}
use Rattle.fp_base.specs.declared.rule.Rule.TheVariants.{DefinedTwice}
use Rattle.fp_base.specs.Least.{broken_at, IsUnbroken}
use Rattle.fp_base.specs.Names.{is_name}
use Rattle.fp_consts.proofs.Tabled.{flat_at}
use Rattle.fp_graph.proofs.Places.{get_take}
use Rattle.fp_tree.specs.declared.source.Source.{Source}
use Rattle.fp_tree.specs.declared.definition.Def.{Def}
use Rattle.fp_tree.specs.declared.definition.Def.TheVariants as def
use Rattle.fp_tree.specs.declared.definition.Enum.{Enum}
use Rattle.fp_tree.specs.declared.name.Name.{Name}
use Rattle.fp_tree.specs.declared.part.EnumConst.{EnumConst}
use Rattle.fp_tree.specs.declared.part.Field.{Field as Member}
use Rattle.fp_tables.specs.Names.{is_qualified, texts_differ}
use Rattle.fp_tables.specs.Sound.{form_has_names}
use Rattle.fp_tables.specs.declared.kind.Form.{Form}
use Rattle.fp_tables.specs.declared.kind.Form.TheVariants as form
use Rattle.fp_tables.specs.declared.kind.Field.{Field}
use Rattle.fp_tables.specs.declared.kind.Constant.{Constant}
use Rattle.fp_tables.specs.declared.kind.TypeDef.{TypeDef}
use Rattle.fp_meaning.specs.declared.group.Group.TheVariants as group
use Rattle.fp_meaning.specs.declared.item.Item.TheVariants as item
use Rattle.fp_meaning.specs.declared.names.Definition.{Definition}
use Rattle.fp_meaning.specs.Broken.{BrokenByDefinitions}
use Rattle.fp_meaning.specs.Layout.{items}
use Rattle.fp_meaning.specs.Meaning.{IsNamed}
use Rattle.fp_meaning.specs.Names.{Path, constant_of, defined, definitions, definitions_of, group_of, name_of}
use Rattle.fp_meaning.specs.Values.{dotted}
use Rattle.fp_type_forms.specs.Written.{AllAt, EnumeratedIs, FieldIs, FormIs, IsWritten, TypeHere, types, types_before}
use Rattle.fp_source_types.specs.Named.{DefinitionsAreNamed, FieldsAreNamed, has_field_names}
use Rattle.fp_source_types.specs.Typed.{AreTypesOf}
use Rattle.fp_source_types.proofs.Chained.{given_here}
use Rattle.fp_source_types.proofs.Counting.{types_at}
use Rattle.fp_source_types.proofs.Dotted.{dotted_qualified, dotted_same}
use Rattle.fp_source_types.proofs.Named.{enumeration_listed, sited, there}
use Rattle.fp_source_types.proofs.Related.{related_at}
use Rattle.fp_source_types.proofs.Standing.{before}
use Rattle.fp_source_types.proofs.WellMade.{differ}

last_of : {A : Type 0} (p : A → Bool) (xs : List A) (x : A) → list_all p (xs ++ x ∷ []) ≡ true → p x ≡ true
last_of p [] x h = (both (p x) true h).0
last_of p (y ∷ xs) x h = last_of p xs x (both (p y) (list_all p (xs ++ x ∷ [])) h).1

not_empty : {A : Type 0} (xs : List A) (x : A) → xs ++ x ∷ [] ≡ [] → ⊥
not_empty [] x e = cc
not_empty (y ∷ xs) x e = cc

below_or_above : (m n : ℕ) → (m ≡ n → ⊥) → (m < n) ⊎ (n < m)
below_or_above m n differ = grind arith

-- the definition of a type that is given
record IsDefined (source : Source) (i : ℕ) (d : TypeDef) : Type 0 where
  number : ℕ
  definition : Definition
  here : slice_get (definitions source) number ≡ Some definition
  of_types : definition.group ≡ group.Kind
  name : d.name ≡ dotted definition.name
  some : definition.name ≡ [] → ⊥
  -- so many types stand before it
  place : i ≡ types_before (definitions source) number

module _ (source : Source) (ts : List TypeDef) (of : AreTypesOf source (map (λ (d : TypeDef). Some d) ts)) where
  definition_at : (i : ℕ) (d : TypeDef) → slice_get ts i ≡ Some d → IsDefined source i d
  definition_at i d e =
      let given : slice_get (map (λ (x : TypeDef). Some x) ts) i ≡ Some (Some d) = slice_get-map (λ (x : TypeDef). Some x) ts i ∙ ap (option_map (λ (x : TypeDef). Some x)) e in
      let is = of.types.at i (Some d) given in
      let w = (is.holds d refl).0 in
      let named = (is.names d w.written refl w.here).0 in
      let t = related_at (λ position. IsWritten source) 0 (types source) of.written i i w.written (omega arith) of.are w.here in
      let s = sited source t.0 i t.1 in
      let m = before (items source) s.at in
      let x = defined (group_of s.site.definition) s.site.scope (name_of s.site.definition) in
      let there : slice_get (definitions source) (m + 0) ≡ Some x = flat_at definitions_of (items source) s.at (item.Defined s.site) 0 x s.here refl in
      record {
        number = m;
        definition = x;
        here = subst (λ (k : ℕ). slice_get (definitions source) k ≡ Some x) (add-zero m) there;
        of_types = s.group;
        name =
            named ∙ t.2.name ∙ ap (λ (p : Path). dotted (p ++ t.0.name.text ∷ [])) s.scope
            ∙ ap (λ (n : Name). dotted (s.site.scope ++ n.text ∷ [])) s.name;
        some = not_empty s.site.scope (name_of s.site.definition).text;
        place = s.number ∙ sym (types_at (items source) s.at);
      }

  -- ---- names of types

  pub names_differ : IsUnbroken (BrokenByDefinitions source) → DefinitionsAreNamed source → texts_differ (map (λ (d : TypeDef). d.name) ts) ≡ true
  names_differ once named =
      differ (map (λ (d : TypeDef). d.name) ts) (λ i j n low e f.
      let a = get_mapped (λ (d : TypeDef). d.name) ts i n e in
      let b = get_mapped (λ (d : TypeDef). d.name) ts j n f in
      apart i j a.0 b.0 (definition_at i a.0 a.1) (definition_at j b.0 b.1) low (a.2 ∙ sym b.2))
    where
      -- the later of two definitions of one name
      later : (m n : ℕ) (x y : Definition) → m < n → slice_get (definitions source) m ≡ Some x → slice_get (definitions source) n ≡ Some y → x.group ≡ y.group → x.name ≡ y.name → ⊥
      later m n x y low at there same_group same_name =
          let earlier : IsNamed (take n (definitions source)) y.group y.name m =
          record { definition = x; here = get_take (definitions source) n m low ∙ at; of_group = same_group; of_name = same_name } in
          once (broken_at DefinedTwice y.place) (n, y, there, (refl, (m, earlier)))

      apart : (i j : ℕ) (a b : TypeDef) → IsDefined source i a → IsDefined source j b → i < j → a.name ≡ b.name → ⊥
      apart i j a b x y low same =
          let names = dotted_same x.definition.name y.definition.name (named x.number x.definition x.here) (named y.number y.definition y.here) (sym x.name ∙ same ∙ y.name) in
          let groups = x.of_types ∙ sym y.of_types in
          go (below_or_above x.number y.number (λ e. not_same (x.place ∙ ap (types_before (definitions source)) e ∙ sym y.place))) names groups
        where
          not_same : i ≡ j → ⊥
          not_same e = omega arith

          go : (x.number < y.number) ⊎ (y.number < x.number) → x.definition.name ≡ y.definition.name → x.definition.group ≡ y.definition.group → ⊥
          go (inl h) names groups = later x.number y.number x.definition y.definition h x.here y.here groups names
          go (inr h) names groups = later y.number x.number y.definition x.definition h y.here x.here (sym groups) (sym names)

  pub names_qualified : DefinitionsAreNamed source → list_all (λ (d : TypeDef). is_qualified d.name) ts ≡ true
  names_qualified named =
      all_items (λ (d : TypeDef). is_qualified d.name) ts (λ k d e.
      let x = definition_at k d e in
      ap is_qualified x.name ∙ dotted_qualified x.definition.name (named x.number x.definition x.here) x.some)

-- ---- names in types

module _ (source : Source) (scope : Path) where
  fields_named : (k : ℕ) (fs : List Member) (xs : List Field) → AllAt (λ position. FieldIs source scope) k fs xs → list_all (λ (f : Member). is_name f.name.text) fs ≡ true
      → list_all (λ (x : Field). is_name x.name) xs ≡ true
  fields_named k [] [] all h = refl
  fields_named k [] (x ∷ xs) all h = absurd all
  fields_named k (f ∷ fs) [] all h = absurd all
  fields_named k (f ∷ fs) (x ∷ xs) (here, all) h =
      let t = both (is_name f.name.text) (list_all (λ (g : Member). is_name g.name.text) fs) h in
      join (is_name x.name) (list_all (λ (y : Field). is_name y.name) xs) (ap (λ (y : Field). is_name y.name) here.4 ∙ t.0) (fields_named (suc k) fs xs all t.1)

  constants_named : (d : Enum) (k : ℕ) (cs : List EnumConst) (xs : List Constant) → AllAt (EnumeratedIs source scope d) k cs xs
      → ((j : ℕ) (c : EnumConst) → slice_get cs j ≡ Some c → is_name c.name.text ≡ true) → list_all (λ (x : Constant). is_name x.name) xs ≡ true
  constants_named d k [] [] all h = refl
  constants_named d k [] (x ∷ xs) all h = absurd all
  constants_named d k (c ∷ cs) [] all h = absurd all
  constants_named d k (c ∷ cs) (x ∷ xs) (here, all) h =
      join (is_name x.name) (list_all (λ (y : Constant). is_name y.name) xs) (ap (λ (y : Constant). is_name y.name) here.2 ∙ h 0 c refl)
      (constants_named d (suc k) cs xs all (λ j. h (suc j)))

  -- what makes the names in a definition names
  abbrev HasNames : Def → Type 0
  HasNames (def.Enum d) = (j : ℕ) (c : EnumConst) → slice_get d.constants j ≡ Some c → is_name c.name.text ≡ true
  HasNames d = has_field_names d ≡ true

  form_named : (d : Def) (f : Form) → FormIs source scope d f → HasNames d → form_has_names f ≡ true
  form_named (def.Abstract d) f is has = ap form_has_names is
  form_named (def.Alias d) f is has = ap form_has_names is.2
  form_named (def.Array d) f is has = ap form_has_names is.4
  form_named (def.Struct d) f is has = ap form_has_names is.2 ∙ fields_named 0 d.fields is.0 is.1 has
  form_named (def.Enum d) f is has = ap form_has_names is.4 ∙ constants_named d 0 d.constants is.1 is.3 has
  form_named (def.Constant d) f is has = absurd is
  form_named (def.Port d) f is has = absurd is

module _ (source : Source) (ts : List TypeDef) (of : AreTypesOf source (map (λ (d : TypeDef). Some d) ts)) (named : DefinitionsAreNamed source) (fields : FieldsAreNamed source) where
  has_names : (i : ℕ) (t : TypeHere) (d : Def) → slice_get (types source) i ≡ Some t → t.definition ≡ d → has_field_names d ≡ true → HasNames source t.scope d
  has_names i t (def.Enum d) at is has = λ j c e.
      let listed = enumeration_listed source t d i at is in
      last_of is_name (t.scope ++ d.name.text ∷ []) c.name.text (named (length listed.before + j) (constant_of t.scope d c) (there source t.scope d listed j c e))
  has_names i t (def.Abstract d) at is has = has
  has_names i t (def.Alias d) at is has = has
  has_names i t (def.Array d) at is has = has
  has_names i t (def.Struct d) at is has = has
  has_names i t (def.Constant d) at is has = has
  has_names i t (def.Port d) at is has = has

  pub names_within : list_all (λ (d : TypeDef). form_has_names d.form) ts ≡ true
  names_within =
      all_items (λ (d : TypeDef). form_has_names d.form) ts (λ i d e.
      let g = given_here source ts of i d.form (ap (option_map (λ (x : TypeDef). x.form)) e) in
      form_named source g.0.scope g.0.definition d.form g.2 (has_names i g.0 g.0.definition g.1 refl (fields i g.0 g.1)))
