-- A chain of uses among the types that are given is one of definitions of the source.
use Rattle.std.proofs.Common.{◌≡◌, ℕ, zero, suc, ◌+◌, ◌-◌, ◌<◌, ◌⊎◌, inl, inr, true, false, not, ◌&&◌, ◌||◌, List, [], ◌∷◌, ◌++◌, length, map, flat_map, take, drop, slice_get, Option, Some, None, option_map, refl, sym, ap, ◌∙◌, subst, arith}
use Rattle.std.specs.List.{list_any}
use Rattle.std.proofs.lemmas.Grind.{flat_map-append}
use Rattle.std.proofs.lemmas.List.{take-append-drop}
use Rattle.std.proofs.lemmas.Option.{slice_get-map, slice_get_within}
use Rattle.std.proofs.Math.Nat.{add-zero}
use Rattle.fp_uses.proofs.Counts.{as_many_counts}
use Rattle.fp_type_sizes.proofs.NoCycle.{same_named}
use Rattle.fp_base.proofs.Bools.{both, or_cases, not_so}
use Rattle.fp_base.proofs.Options.{mapped_some, one_some, same_some, some_of, no_some}
use Rattle.fp_base.proofs.Passing.{any_found}
use Rattle.fp_base.proofs.Lists.{one_item}
use Rattle.fp_base.specs.declared.rule.Rule.TheVariants.{Cycle, ChainTooLong}
use Rattle.fp_base.specs.Least.{broken_at, IsUnbroken}
use Rattle.fp_consts.proofs.Tabled.{flat_at}
use Rattle.fp_consts.proofs.Valued.{the_head}
use Rattle.fp_graph.proofs.Places.{get_right}
use Rattle.fp_graph.specs.Chains.{Chain, alone, longer, IsOnCycle}
use Rattle.fp_tree.specs.declared.source.Source.{Source}
use Rattle.fp_tree.specs.declared.definition.Def.{Def}
use Rattle.fp_tree.specs.declared.definition.Def.TheVariants as def
use Rattle.fp_tree.specs.declared.definition.Enum.{Enum}
use Rattle.fp_tree.specs.declared.type_name.TypeName.{TypeName}
use Rattle.fp_tree.specs.declared.type_name.TypeForm.{TypeForm}
use Rattle.fp_tree.specs.declared.type_name.TypeForm.TheVariants as type
use Rattle.fp_tree.specs.declared.part.EnumConst.{EnumConst}
use Rattle.fp_tree.specs.declared.part.Field.{Field as Member}
use Rattle.fp_tables.specs.Chains.{chains_are_short}
use Rattle.fp_tables.specs.Lists.{some_and}
use Rattle.fp_tables.specs.Types.{begins_chain, form_at, is_last, kinds_in, uses_constants}
use Rattle.fp_tables.specs.declared.kind.Kind.{Kind}
use Rattle.fp_tables.specs.declared.kind.Kind.TheVariants as kind
use Rattle.fp_tables.specs.declared.kind.Form.{Form}
use Rattle.fp_tables.specs.declared.kind.Form.TheVariants as form
use Rattle.fp_tables.specs.declared.kind.Field.{Field}
use Rattle.fp_tables.specs.declared.kind.Constant.{Constant}
use Rattle.fp_tables.specs.declared.kind.TypeDef.{TypeDef}
use Rattle.fp_tables.proofs.Indexed.{all_from_any}
use Rattle.fp_tables.proofs.Optional.{some_and_of}
use Rattle.fp_meaning.specs.declared.group.Group.TheVariants as group
use Rattle.fp_meaning.specs.declared.item.Item.{Item}
use Rattle.fp_meaning.specs.declared.item.Item.TheVariants as item
use Rattle.fp_meaning.specs.declared.names.Definition.{Definition}
use Rattle.fp_meaning.specs.declared.names.Mention.{Mention}
use Rattle.fp_meaning.specs.ConstantFaults.{ConstantsBroken}
use Rattle.fp_meaning.specs.Layout.{expression_items, type_form_items, type_items, field_items, constant_items, part_items, items}
use Rattle.fp_meaning.specs.Meaning.{Means}
use Rattle.fp_meaning.specs.Names.{Path, constant_of, defined, definitions, definitions_of, group_of, mentioned, name_of, uses_of}
use Rattle.fp_meaning.specs.Owners.{constants_in, counts_of}
use Rattle.fp_meaning.specs.Sites.{Site, in_optional}
use Rattle.fp_meaning.specs.Uses.{Uses, by_constant, BrokenByChains}
use Rattle.fp_type_forms.specs.Written.{AllAt, EnumeratedIs, FieldIs, FormIs, IsWritten, KindIs, ReprIs, TypeHere, types, types_before, types_of}
use Rattle.fp_type_forms.proofs.Following.{items_whole}
use Rattle.fp_source_types.specs.Typed.{AreTypesOf}
use Rattle.fp_source_types.proofs.Counting.{before_one, no_type, type_of, types_at}
use Rattle.fp_source_types.proofs.Deep.{IsOf}
use Rattle.fp_source_types.proofs.Formed.{field_defines_none, none_more, size_defines_none}
use Rattle.fp_source_types.proofs.Meant.{defines_none}
use Rattle.fp_source_types.proofs.Named.{behind_repr, sited}
use Rattle.fp_source_types.proofs.Related.{related_at}
use Rattle.fp_source_types.proofs.Standing.{AllFrom, IsItem, all_behind, all_drop, all_front, before, from_places, item_of, means_used}

-- ---- what stands in a form is used by the definition that has the form

module _ (source : Source) where
  -- what the uses of an item mean is used by the definition with the number
  abbrev pub Used : ℕ → Item → Type 0
  Used u i =
      (j : ℕ) (m : Mention) (number : ℕ) → slice_get (uses_of i) j ≡ Some m → Means (definitions source) m.scope m.name m.group number → Uses (items source) u number

  pub all_used : AllFrom Used 0 (items source)
  all_used = from_places Used (items source) 0 (λ p i at j m number there means. means_used source p i j m number at there means)

  -- a definition uses the type with a number among the types
  abbrev pub UsesType : ℕ → ℕ → Type 0
  UsesType u m = (number : ℕ) × Uses (items source) u number × IsOf (items source) group.Kind number × (m ≡ types_before (definitions source) number)

module _ (source : Source) (scope : Path) (u : ℕ) where
  kind_used : (b : ℕ) (t : TypeForm) (k : Kind) (m : ℕ) → b ≡ u + 1 → AllFrom (Used source) b (type_form_items 0 scope t) → KindIs source scope t k → k ≡ kind.Named m → UsesType source u m
  kind_used b (type.Text None) k m e h is named = let same : kind.Str 80 ≡ kind.Named m = sym is ∙ named in absurd (cc)
  kind_used b (type.Text (Some size)) k m e h is named = let same : kind.Str is.0 ≡ kind.Named m = sym is.2 ∙ named in absurd (cc)
  kind_used b (type.Use q) k m e h is named =
      let there = is.1.meant.named in
      let owner : b - 1 - 0 ≡ u = omega arith in (
        is.0,
        subst (λ (n : ℕ). Uses (items source) n is.0) owner (h.0 0 (mentioned group.Kind scope q) is.0 refl is.1),
        (there.definition, there.here, there.of_group),
        same_named (sym named ∙ is.2),
      )
  kind_used b t k m e h is named = absurd (cc)

  fields_used : (b k j : ℕ) (fs : List Member) (xs : List Field) (m : ℕ) → b ≡ u + 1 → AllFrom (Used source) b (flat_map (field_items scope) fs)
      → AllAt (λ position. FieldIs source scope) k fs xs → slice_get (map (λ (x : Field). x.kind) xs) j ≡ Some (kind.Named m) → UsesType source u m
  fields_used b k j [] [] m e h all at = no_some at
  fields_used b k j [] (x ∷ xs) m e h all at = absurd all
  fields_used b k j (f ∷ fs) [] m e h all at = absurd all
  fields_used b k zero (f ∷ fs) (x ∷ xs) m e h (here, all) at =
      let sizes = in_optional (expression_items 0 scope) f.size in
      let front = all_front (Used source) (field_items scope f) (flat_map (field_items scope) fs) b h in
      kind_used b f.of.form here.1 m e (all_behind (Used source) sizes (type_items 0 scope f.of) b b (none_more b _ (size_defines_none scope f.size)) front) here.3
      (sym (ap (λ (y : Field). y.kind) here.4) ∙ same_some at)
  fields_used b k (suc j) (f ∷ fs) (x ∷ xs) m e h (here, all) at =
      fields_used b (suc k) j fs xs m e (all_behind (Used source) (field_items scope f) (flat_map (field_items scope) fs) b b (none_more b _ (field_defines_none scope f)) h) all at

  repr_used : (o : Option TypeName) (k : Kind) (m : ℕ) → AllFrom (Used source) (u + 1) (in_optional (type_items 0 scope) o) → ReprIs source scope o k → k ≡ kind.Named m → UsesType source u m
  repr_used None k m h is named = let same : kind.I32 ≡ kind.Named m = sym is ∙ named in absurd (cc)
  repr_used (Some t) k m h is named = kind_used (u + 1) t.form k m refl h is named

  form_used : (d : Def) (f : Form) (j m : ℕ) → AllFrom (Used source) (u + 1) (part_items scope d) → FormIs source scope d f → slice_get (kinds_in f) j ≡ Some (kind.Named m)
      → UsesType source u m
  form_used (def.Abstract d) f j m h is at = no_some (sym (ap (λ (x : Form). slice_get (kinds_in x) j) is) ∙ at)
  form_used (def.Alias d) f j m h is at =
      kind_used (u + 1) d.target.form is.0 m refl h is.1 (one_item j (sym (ap (λ (x : Form). slice_get (kinds_in x) j) is.2) ∙ at))
  form_used (def.Array d) f j m h is at =
      let sizes = expression_items 0 scope d.size in
      let elements = type_items 0 scope d.element in
      let front = all_front (Used source) (sizes ++ elements) (in_optional (expression_items 0 scope) d.default) (u + 1) h in
      kind_used (u + 1) d.element.form is.1 m refl (all_behind (Used source) sizes elements (u + 1) (u + 1) (none_more (u + 1) _ refl) front) is.3
      (one_item j (sym (ap (λ (x : Form). slice_get (kinds_in x) j) is.4) ∙ at))
  form_used (def.Struct d) f j m h is at =
      fields_used (u + 1) 0 j d.fields is.0 m refl (all_front (Used source) (flat_map (field_items scope) d.fields) (in_optional (expression_items 0 scope) d.default) (u + 1) h) is.1
      (sym (ap (λ (x : Form). slice_get (kinds_in x) j) is.2) ∙ at)
  form_used (def.Enum d) f j m h is at =
      let reprs = in_optional (type_items 0 scope) d.repr in
      let listed = constant_items scope d 0 d.constants in
      let front = all_front (Used source) (reprs ++ listed) (in_optional (expression_items (length d.constants) scope) d.default) (u + 1) h in
      repr_used d.repr is.0 m (all_front (Used source) reprs listed (u + 1) front) is.2 (one_item j (sym (ap (λ (x : Form). slice_get (kinds_in x) j) is.4) ∙ at))
  form_used (def.Constant d) f j m h is at = absurd is
  form_used (def.Port d) f j m h is at = absurd is

  -- ---- a form that uses constants is that of an enumeration with some

  record HasFirst (d : Def) : Type 0 where
    enumeration : Enum
    first : EnumConst
    others : List EnumConst
    definition : d ≡ def.Enum enumeration
    constants : enumeration.constants ≡ first ∷ others

  first_of : (d : Enum) (cs : List EnumConst) (k : Kind) (xs : List Constant) → d.constants ≡ cs → AllAt (EnumeratedIs source scope d) 0 cs xs → uses_constants (form.Enum k xs) ≡ true
      → HasFirst (def.Enum d)
  first_of d [] k [] is all uses = absurd (cc)
  first_of d [] k (x ∷ xs) is all uses = absurd all
  first_of d (c ∷ cs) k xs is all uses = record { enumeration = d; first = c; others = cs; definition = refl; constants = is }

  uses_none : {A : Type 0} (f g : Form) → f ≡ g → uses_constants g ≡ false → uses_constants f ≡ true → A
  uses_none f g e none uses = let both_of : true ≡ false = sym uses ∙ ap uses_constants e ∙ none in absurd (cc)

  has_first : (d : Def) (f : Form) → FormIs source scope d f → uses_constants f ≡ true → HasFirst d
  has_first (def.Abstract d) f is uses = uses_none f _ is refl uses
  has_first (def.Alias d) f is uses = uses_none f _ is.2 refl uses
  has_first (def.Array d) f is uses = uses_none f _ is.4 refl uses
  has_first (def.Struct d) f is uses = uses_none f _ is.2 refl uses
  has_first (def.Enum d) f is uses = first_of d d.constants is.0 is.1 refl is.3 (sym (ap uses_constants is.4) ∙ uses)
  has_first (def.Constant d) f is uses = absurd is
  has_first (def.Port d) f is uses = absurd is

-- ---- an enumeration uses its first constant

count_there : (is : List Item) (p : ℕ) (s : Site) → slice_get is p ≡ Some (item.Defined s) → slice_get (flat_map counts_of is) (before is p) ≡ Some (constants_in s.definition)
count_there is p s at =
    let many = as_many_counts (take p is) in
    let index : length (flat_map counts_of (take p is)) + 0 ≡ before is p = omega arith in
    subst (λ (k : ℕ). slice_get (flat_map counts_of is) k ≡ Some (constants_in s.definition)) index (flat_at counts_of is p (item.Defined s) 0 (constants_in s.definition) at refl)

some_more : (n m : ℕ) → n ≡ suc m → 0 < n
some_more n m e = omega arith

one_behind : (n : ℕ) → n + 1 ≡ n + 1 + 0
one_behind n = omega arith

module _ (source : Source) (p : ℕ) (s : Site) (at : slice_get (items source) p ≡ Some (item.Defined s)) where
  -- the first constant stands behind its enumeration
  constant_there : (d : Enum) (c : EnumConst) (cs : List EnumConst) → s.definition ≡ def.Enum d → d.constants ≡ c ∷ cs
      → slice_get (definitions source) (before (items source) p + 1) ≡ Some (constant_of s.scope d c)
  constant_there d c cs is has =
      let all = items source in
      let w = items_whole source p s at in
      let parts : drop (suc p) all ≡ part_items s.scope (def.Enum d) ++ w.0 = w.1 ∙ ap (λ (x : Def). part_items s.scope x ++ w.0) is in
      let t = behind_repr s.scope d w.0 in
      let front = flat_map definitions_of (take (suc p) all) in
      let whole : definitions source ≡ front ++ (map (constant_of s.scope d) d.constants ++ t.0) =
      ap (flat_map definitions_of) (sym (take-append-drop (suc p) all)) ∙ flat_map-append definitions_of (take (suc p) all) (drop (suc p) all)
      ∙ ap (λ (l : List Definition). front ++ l) (ap (flat_map definitions_of) parts ∙ t.1) in
      let first : slice_get (map (constant_of s.scope d) d.constants ++ t.0) 0 ≡ Some (constant_of s.scope d c) =
      ap (λ (l : List EnumConst). slice_get (map (constant_of s.scope d) l ++ t.0) 0) has in
      let behind : before all p + 1 ≡ 0 + before all (suc p) = before_one all p (item.Defined s) at in
      let index : before all p + 1 ≡ length front + 0 = omega arith in
      ap (λ (ds : List Definition). slice_get ds (before all p + 1)) whole
      ∙ get_right front (map (constant_of s.scope d) d.constants ++ t.0) (constant_of s.scope d c) (before all p + 1) 0 index first

  constant_used : (d : Enum) (c : EnumConst) (cs : List EnumConst) → s.definition ≡ def.Enum d → d.constants ≡ c ∷ cs → Uses (items source) (before (items source) p) (before (items source) p + 1)
  constant_used d c cs is has =
      let there = constant_there d c cs is has in
      let many : constants_in s.definition ≡ length d.constants = ap constants_in is in
      let long : length d.constants ≡ suc (length cs) = ap (λ (l : List EnumConst). length l) has in
      by_constant (constants_in s.definition) 0 (count_there (items source) p s at) (some_more (constants_in s.definition) (length cs) (many ∙ long)) (one_behind (before (items source) p))
      (slice_get_within (definitions source) (before (items source) p + 1) (constant_of s.scope d c) there)

-- ---- chains

last_zero : (n : ℕ) → is_last n ≡ true → 0 ≡ n
last_zero zero h = refl
last_zero (suc n) h = absurd (cc)

not_value : group.Value ≡ group.Kind → ⊥
not_value e = cc

module _ (ts : List TypeDef) where
  named_begins : (n : ℕ) (k : Kind) → begins_chain ts n k ≡ true → (m : ℕ) × (k ≡ kind.Named m)
  unfolding begins_chain
  named_begins n (kind.Named m) e = (m, refl)
  named_begins zero k e = absurd (cc)
  named_begins (suc n) k e = absurd (cc)

  begins_form : (n i : ℕ) → begins_chain ts n (kind.Named i) ≡ true → (f : Form) × (form_at ts i ≡ Some f)
  unfolding begins_chain
  begins_form zero i e = some_of (form_at ts i) e
  begins_form (suc n) i e =
      let t = some_and_of (λ f. (is_last n && uses_constants f) || list_any (begins_chain ts n) (kinds_in f)) (form_at ts i) e in (t.0, t.1)

module _ (source : Source) (ts : List TypeDef) (of : AreTypesOf source (map (λ (d : TypeDef). Some d) ts)) where
  -- the type that is given there
  pub given_here : (i : ℕ) (f : Form) → form_at ts i ≡ Some f → (t : TypeHere) × (slice_get (types source) i ≡ Some t) × FormIs source t.scope t.definition f
  given_here i f e =
      let d = mapped_some (λ (x : TypeDef). x.form) (slice_get ts i) f e in
      let there : slice_get (map (λ (x : TypeDef). Some x) ts) i ≡ Some (Some d.0) = slice_get-map (λ (x : TypeDef). Some x) ts i ∙ ap (option_map (λ (x : TypeDef). Some x)) d.1 in
      let has = ((of.types.at i (Some d.0) there).holds d.0 refl).0 in
      let t = related_at (λ position. IsWritten source) 0 (types source) of.written i i has.written (omega arith) of.are has.here in
      (t.0, t.1, t.2.form.holds f (has.form ∙ ap (λ (x : Form). Some x) d.2))

module _ (source : Source) (ts : List TypeDef) (constants : IsUnbroken (ConstantsBroken source)) (unbroken : IsUnbroken (BrokenByChains (items source) group.Kind))
    (of : AreTypesOf source (map (λ (d : TypeDef). Some d) ts)) where
  off_cycles : (m : ℕ) → IsOf (items source) group.Kind m → IsOnCycle (Uses (items source)) m → ⊥
  off_cycles m is cycle = unbroken (broken_at Cycle is.0.place) (m, is.0, is.1, (is.2, inl (refl, cycle)))

  constant_alone : (m : ℕ) (d : Definition) → slice_get (definitions source) m ≡ Some d → d.group ≡ group.Value → Chain (length (definitions source)) (Uses (items source)) m 0
  constant_alone m d at is =
      alone (slice_get_within (definitions source) m d at) (λ cycle. constants (broken_at Cycle d.place) (inr (m, d, at, (is, inl (refl, cycle)))))

  abbrev Chained : ℕ → ℕ → Type 0
  Chained n m = Chain (length (definitions source)) (Uses (items source)) m n

  abbrev Begins : ℕ → ℕ → Type 0
  Begins n m = begins_chain ts n (kind.Named (types_before (definitions source) m)) ≡ true

  module _ (p : ℕ) (s : Site) (at : slice_get (items source) p ≡ Some (item.Defined s)) (is : group_of s.definition ≡ group.Kind) where
    -- the form is that of the definition that stands there
    form_here : (f : Form) → form_at ts (types_before (definitions source) (before (items source) p)) ≡ Some f → FormIs source s.scope s.definition f
    form_here f e =
        let i = types_before (definitions source) (before (items source) p) in
        let g = given_here source ts of i f e in
        let t = type_of s.scope s.definition is in
        let here : slice_get (types source) (length (flat_map types_of (take p (items source))) + 0) ≡ Some t.type =
        flat_at types_of (items source) p (item.Defined s) 0 t.type at (ap (λ (l : List TypeHere). slice_get l 0) t.here) in
        let index : length (flat_map types_of (take p (items source))) + 0 ≡ i = add-zero _ ∙ sym (types_at (items source) p) in
        let same : g.0 ≡ t.type = one_some (slice_get (types source) i) g.0 t.type g.1 (subst (λ (k : ℕ). slice_get (types source) k ≡ Some t.type) index here) in
        subst (λ (x : Def). FormIs source s.scope x f) t.of_definition
        (subst (λ (x : Path). FormIs source x t.type.definition f) t.in_scope (subst (λ (x : TypeHere). FormIs source x.scope x.definition f) same g.2))

    parts_used : AllFrom (Used source) (before (items source) p + 1) (part_items s.scope s.definition)
    parts_used =
        let w = items_whole source p s at in
        let b = before (items source) p + 1 in
        all_front (Used source) (part_items s.scope s.definition) w.0 b
        (subst (λ (l : List Item). AllFrom (Used source) b l) w.1
        (all_drop (Used source) (items source) (suc p) 0 b (before_one (items source) p (item.Defined s) at) (all_used source)))

    -- one use more
    site_chain : (n : ℕ) → (IsOnCycle (Uses (items source)) (before (items source) p) → ⊥) → ((m : ℕ) → IsOf (items source) group.Kind m → Begins n m → Chained n m)
        → some_and (λ f. (is_last n && uses_constants f) || list_any (begins_chain ts n) (kinds_in f)) (form_at ts (types_before (definitions source) (before (items source) p))) ≡ true
        → Chained (suc n) (before (items source) p)
    site_chain n off rest e =
        let t = some_and_of (λ f. (is_last n && uses_constants f) || list_any (begins_chain ts n) (kinds_in f)) (form_at ts (types_before (definitions source) (before (items source) p))) e in
        go t.0 (form_here t.0 t.1) (or_cases (is_last n && uses_constants t.0) (list_any (begins_chain ts n) (kinds_in t.0)) t.2)
      where
        go : (f : Form) → FormIs source s.scope s.definition f → ((is_last n && uses_constants f) ≡ true) ⊎ (list_any (begins_chain ts n) (kinds_in f) ≡ true)
            → Chained (suc n) (before (items source) p)
        go f has (inl h) =
            let b = both (is_last n) (uses_constants f) h in
            let c = has_first source s.scope (before (items source) p) s.definition f has b.1 in
            let there = constant_there source p s at c.enumeration c.first c.others c.definition c.constants in
            longer off (constant_used source p s at c.enumeration c.first c.others c.definition c.constants)
            (subst (λ (k : ℕ). Chained k (before (items source) p + 1)) (last_zero n b.0) (constant_alone (before (items source) p + 1) _ there refl))
        go f has (inr h) =
            let a = any_found (begins_chain ts n) (kinds_in f) h in
            let m = named_begins ts n a.1 a.3 in
            let u = form_used source s.scope (before (items source) p) s.definition f a.0 m.0 parts_used has (a.2 ∙ ap (λ (k : Kind). Some k) m.1) in
            let named : a.1 ≡ kind.Named (types_before (definitions source) u.0) = m.1 ∙ ap (λ (k : ℕ). kind.Named k) u.3 in
            longer off u.1 (rest u.0 u.2 (subst (λ (k : Kind). begins_chain ts n k ≡ true) named a.3))

  chain_of : (n m : ℕ) → IsOf (items source) group.Kind m → Begins n m → Chained n m
  unfolding begins_chain
  chain_of zero m is e = alone (slice_get_within (definitions source) m is.0 is.1) (off_cycles m is)
  chain_of (suc n) m is e = let t = item_of (items source) m is.0 is.1 in go m is e t t.found refl (λ k there begins. chain_of n k there begins)
    where
      go : (m : ℕ) (is : IsOf (items source) group.Kind m)
          → some_and (λ f. (is_last n && uses_constants f) || list_any (begins_chain ts n) (kinds_in f)) (form_at ts (types_before (definitions source) m)) ≡ true
          → (t : IsItem (items source) m is.0) (i : Item) → t.found ≡ i → ((k : ℕ) → IsOf (items source) group.Kind k → Begins n k → Chained n k) → Chained (suc n) m
      go m is e t (item.Defined s) found rest =
          let same : defined (group_of s.definition) s.scope (name_of s.definition) ≡ is.0 = the_head (ap definitions_of (sym found) ∙ t.defines) in
          let kind_is : group_of s.definition ≡ group.Kind = ap (λ (x : Definition). x.group) same ∙ is.2 in
          subst (λ (k : ℕ). Chained (suc n) k) (sym t.number)
          (site_chain t.at s (t.here ∙ ap (λ (x : Item). Some x) found) kind_is n (subst (λ (k : ℕ). IsOnCycle (Uses (items source)) k → ⊥) t.number (off_cycles m is)) rest
          (subst
          (λ (k : ℕ). some_and (λ f. (is_last n && uses_constants f) || list_any (begins_chain ts n) (kinds_in f)) (form_at ts (types_before (definitions source) k)) ≡ true)
          t.number e))
      go m is e t (item.Enumerated x) found rest = absurd (not_value (ap (λ (y : Definition). y.group) (the_head (ap definitions_of (sym found) ∙ t.defines)) ∙ is.2))
      go m is e t (item.Declared x) found rest = absurd (no_type x.definition (ap (λ (y : Definition). y.group) (the_head (ap definitions_of (sym found) ∙ t.defines)) ∙ is.2))
      go m is e t (item.Used since x) found rest = absurd (defines_none (ap definitions_of (sym found) ∙ t.defines))
      go m is e t (item.Written since x) found rest = absurd (defines_none (ap definitions_of (sym found) ∙ t.defines))

  -- a type at which so long a chain begins is a definition at which one does
  definition_chain : (n i : ℕ) → begins_chain ts n (kind.Named i) ≡ true → (m : ℕ) × IsOf (items source) group.Kind m × Chained n m
  definition_chain n i e =
      let f = begins_form ts n i e in
      let g = given_here source ts of i f.0 f.1 in
      let s = sited source g.0 i g.1 in
      let m = before (items source) s.at in
      let d = defined (group_of s.site.definition) s.site.scope (name_of s.site.definition) in
      let there : slice_get (definitions source) (m + 0) ≡ Some d = flat_at definitions_of (items source) s.at (item.Defined s.site) 0 d s.here refl in
      let is : IsOf (items source) group.Kind m = (d, subst (λ (k : ℕ). slice_get (definitions source) k ≡ Some d) (add-zero m) there, s.group) in
      let number : i ≡ types_before (definitions source) m = s.number ∙ sym (types_at (items source) s.at) in
      (m, is, chain_of n m is (subst (λ (k : ℕ). begins_chain ts n (kind.Named k) ≡ true) number e))

  short : (i : ℕ) → begins_chain ts 256 (kind.Named i) ≡ true → ⊥
  short i e = let t = definition_chain 256 i e in unbroken (broken_at ChainTooLong t.1.0.place) (t.0, t.1.0, t.1.1, (t.1.2, inr (refl, t.2)))

  pub chains_short : chains_are_short ts ≡ true
  chains_short = all_from_any (λ i (_ : TypeDef). not (begins_chain ts 256 (kind.Named i))) 0 ts (λ i x. not_so (begins_chain ts 256 (kind.Named i)) (short i))
