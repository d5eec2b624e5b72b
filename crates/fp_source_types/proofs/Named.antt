-- Where no name is defined twice, the constants of an enumeration have different names.
use Rattle.std.proofs.Common.{◌≡◌, ℕ, zero, suc, ◌+◌, ◌<◌, ◌⊎◌, inl, inr, List, [], ◌∷◌, ◌++◌, map, flat_map, take, drop, length, Option, Some, None, option_map, slice_get, refl, sym, ap, ◌∙◌, subst, arith, append_assoc, length-append}
use Rattle.std.proofs.lemmas.Grind.{flat_map-append}
use Rattle.std.proofs.lemmas.List.{take-append-drop}
use Rattle.std.proofs.lemmas.Option.{slice_get-map}
use Rattle.fp_base.proofs.Lists.{get_front}
use Rattle.fp_base.proofs.Options.{same_some, no_some}
use Rattle.fp_base.specs.declared.rule.Rule.TheVariants.{DefinedTwice}
use Rattle.fp_base.specs.Least.{broken_at, IsUnbroken}
use Rattle.fp_graph.proofs.Places.{get_joined, get_right, get_take}
use Rattle.fp_tree.specs.declared.source.Source.{Source}
use Rattle.fp_tree.specs.declared.definition.Def.{Def}
use Rattle.fp_tree.specs.declared.definition.Def.TheVariants as def
use Rattle.fp_tree.specs.declared.definition.Enum.{Enum}
use Rattle.fp_tree.specs.declared.expression.Expr.{Expr}
use Rattle.fp_tree.specs.declared.type_name.TypeName.{TypeName}
use Rattle.fp_tree.specs.declared.type_name.TypeForm.{TypeForm}
use Rattle.fp_tree.specs.declared.type_name.TypeForm.TheVariants as type
use Rattle.fp_tree.specs.declared.part.EnumConst.{EnumConst}
use Rattle.fp_meaning.specs.declared.group.Group.TheVariants.{Kind, Value}
use Rattle.fp_meaning.specs.declared.item.Item.{Item}
use Rattle.fp_meaning.specs.declared.item.Item.TheVariants as item
use Rattle.fp_meaning.specs.declared.names.Definition.{Definition}
use Rattle.fp_meaning.specs.Broken.{BrokenByDefinitions}
use Rattle.fp_meaning.specs.Meaning.{IsNamed}
use Rattle.fp_meaning.specs.Layout.{type_form_items, type_items, constant_items, expression_items, part_items, items}
use Rattle.fp_meaning.specs.Names.{Path, constant_of, definitions, definitions_of, group_of, name_of}
use Rattle.fp_meaning.specs.Sites.{Site, in_optional}
use Rattle.fp_type_forms.specs.Written.{TypeHere, type_here, types, types_in, types_of}
use Rattle.fp_type_forms.proofs.Following.{items_whole}

-- ---- a type of a source is one of its definitions

-- what stands behind `default` in a definition
abbrev pub default_in : Def → Option Expr
default_in (def.Array d) = d.default
default_in (def.Struct d) = d.default
default_in (def.Enum d) = d.default
default_in _ = None

pub record IsSited (is : List Item) (i : ℕ) (t : TypeHere) : Type 0 where
  pub at : ℕ
  pub site : Site
  pub here : slice_get is at ≡ Some (item.Defined site)
  pub scope : t.scope ≡ site.scope
  pub definition : t.definition ≡ site.definition
  pub name : t.name ≡ name_of site.definition
  pub group : group_of site.definition ≡ Kind
  pub default : t.default ≡ default_in site.definition
  -- so many types stand before it
  pub number : i ≡ length (flat_map types_of (take at is))

record IsOf (scope : Path) (d : Def) (t : TypeHere) (j : ℕ) : Type 0 where
  scope_is : t.scope ≡ scope
  definition_is : t.definition ≡ d
  name_is : t.name ≡ name_of d
  group_is : group_of d ≡ Kind
  default_is : t.default ≡ default_in d
  first_is : j ≡ 0

the_one : (scope : Path) (d : Def) (note : List ℕ) (t : TypeHere) (j : ℕ) → group_of d ≡ Kind → slice_get (type_here scope (name_of d) d (default_in d) note ∷ []) j ≡ Some t → IsOf scope d t j
the_one scope d note t zero g e =
    let first : IsOf scope d (type_here scope (name_of d) d (default_in d) note) 0 =
    record { scope_is = refl; definition_is = refl; name_is = refl; group_is = g; default_is = refl; first_is = refl } in
    subst (λ (y : TypeHere). IsOf scope d y 0) (same_some e) first
the_one scope d note t (suc j) g e = no_some e

of_definition : (scope : Path) (d : Def) (t : TypeHere) (j : ℕ) → slice_get (types_in scope d) j ≡ Some t → IsOf scope d t j
of_definition scope (def.Constant d) t j e = no_some e
of_definition scope (def.Abstract d) t j e = the_one scope (def.Abstract d) d.note t j refl e
of_definition scope (def.Alias d) t j e = the_one scope (def.Alias d) d.note t j refl e
of_definition scope (def.Array d) t j e = the_one scope (def.Array d) d.note t j refl e
of_definition scope (def.Struct d) t j e = the_one scope (def.Struct d) d.note t j refl e
of_definition scope (def.Enum d) t j e = the_one scope (def.Enum d) d.note t j refl e
of_definition scope (def.Port d) t j e = no_some e

later : (x : Item) (is : List Item) (i j : ℕ) (t : TypeHere) → j ≡ length (types_of x) + i → IsSited is i t → IsSited (x ∷ is) j t
later x is i j t e s =
    let long = length-append (types_of x) (flat_map types_of (take s.at is)) in
    let number = s.number in
    let same : j ≡ length (types_of x ++ flat_map types_of (take s.at is)) = omega arith in
    record { at = suc s.at; site = s.site; here = s.here; scope = s.scope; definition = s.definition; name = s.name; group = s.group; default = s.default; number = same }

first_item : (x : Item) (is : List Item) (t : TypeHere) (j : ℕ) → slice_get (types_of x) j ≡ Some t → IsSited (x ∷ is) j t
first_item (item.Defined s) is t j e =
    let of = of_definition s.scope s.definition t j e in
    record {
      at = 0;
      site = s;
      here = refl;
      scope = of.scope_is;
      definition = of.definition_is;
      name = of.name_is;
      group = of.group_is;
      default = of.default_is;
      number = of.first_is;
    }
first_item (item.Enumerated s) is t j e = no_some e
first_item (item.Declared d) is t j e = no_some e
first_item (item.Used since n) is t j e = no_some e
first_item (item.Written since p) is t j e = no_some e

sited_among : (is : List Item) (t : TypeHere) (i : ℕ) → slice_get (flat_map types_of is) i ≡ Some t → IsSited is i t
sited_among [] t i e = no_some e
sited_among (x ∷ is) t i e = go (get_joined (types_of x) (flat_map types_of is) t i e) (λ j f. sited_among is t j f)
  where
    go : (slice_get (types_of x) i ≡ Some t) ⊎ ((j : ℕ) × (i ≡ length (types_of x) + j) × (slice_get (flat_map types_of is) j ≡ Some t))
        → ((j : ℕ) → slice_get (flat_map types_of is) j ≡ Some t → IsSited is j t) → IsSited (x ∷ is) i t
    go (inl f) rest = first_item x is t i f
    go (inr (j, at, f)) rest = later x is j i t at (rest j f)

pub sited : (source : Source) (t : TypeHere) (i : ℕ) → slice_get (types source) i ≡ Some t → IsSited (items source) i t
sited source t i e = sited_among (items source) t i e

-- ---- the constants of an enumeration stand one behind another among the definitions

form_defines_nothing : (scope : Path) (t : TypeForm) → flat_map definitions_of (type_form_items 0 scope t) ≡ []
form_defines_nothing scope (type.Text None) = refl
form_defines_nothing scope (type.Text (Some e)) = refl
form_defines_nothing scope (type.Use q) = refl
form_defines_nothing scope t = refl

name_defines_nothing : (scope : Path) (o : Option TypeName) → flat_map definitions_of (in_optional (type_items 0 scope) o) ≡ []
name_defines_nothing scope None = refl
name_defines_nothing scope (Some t) = form_defines_nothing scope t.form

constants_defined : (scope : Path) (d : Enum) (k : ℕ) (cs : List EnumConst) → flat_map definitions_of (constant_items scope d k cs) ≡ map (constant_of scope d) cs
constants_defined scope d k [] = refl
constants_defined scope d k (c ∷ cs) = ap (λ (ds : List Definition). constant_of scope d c ∷ ds) (constants_defined scope d (suc k) cs)

pub record AreListed (ds : List Definition) (scope : Path) (d : Enum) : Type 0 where
  pub before : List Definition
  pub after : List Definition
  pub whole : ds ≡ before ++ (map (constant_of scope d) d.constants ++ after)

pub behind_repr : (scope : Path) (d : Enum) (rest : List Item) → (after : List Definition) × (flat_map definitions_of (part_items scope (def.Enum d) ++ rest) ≡ map (constant_of scope d) d.constants ++ after)
behind_repr scope d rest =
    let repr = in_optional (type_items 0 scope) d.repr in
    let listed = constant_items scope d 0 d.constants in
    let own = in_optional (expression_items (length d.constants) scope) d.default in (
      flat_map definitions_of own ++ flat_map definitions_of rest,
      flat_map-append definitions_of (repr ++ listed ++ own) rest
          ∙ ap (λ (l : List Definition). l ++ flat_map definitions_of rest)
          (flat_map-append definitions_of (repr ++ listed) own
          ∙ ap (λ (l : List Definition). l ++ flat_map definitions_of own)
          (flat_map-append definitions_of repr listed
          ∙ ap (λ (l : List Definition). l ++ flat_map definitions_of listed) (name_defines_nothing scope d.repr)
          ∙ constants_defined scope d 0 d.constants))
          ∙ append_assoc (map (constant_of scope d) d.constants) (flat_map definitions_of own) (flat_map definitions_of rest),
    )

listed_in : (is : List Item) (k : ℕ) (scope : Path) (d : Enum) (rest : List Item) → drop (suc k) is ≡ part_items scope (def.Enum d) ++ rest → AreListed (flat_map definitions_of is) scope d
listed_in is k scope d rest e =
    let t = behind_repr scope d rest in
    record {
      before = flat_map definitions_of (take (suc k) is);
      after = t.0;
      whole =
          ap (flat_map definitions_of) (sym (take-append-drop (suc k) is))
          ∙ flat_map-append definitions_of (take (suc k) is) (drop (suc k) is)
          ∙ ap (λ (l : List Definition). flat_map definitions_of (take (suc k) is) ++ l) (ap (flat_map definitions_of) e ∙ t.1);
    }

module _ (source : Source) (scope : Path) (d : Enum) (listed : AreListed (definitions source) scope d) where
  pub there : (i : ℕ) (c : EnumConst) → slice_get d.constants i ≡ Some c → slice_get (definitions source) (length listed.before + i) ≡ Some (constant_of scope d c)
  there i c e =
      let cs = map (constant_of scope d) d.constants in
      ap (λ (ds : List Definition). slice_get ds (length listed.before + i)) listed.whole
      ∙ get_right listed.before (cs ++ listed.after) (constant_of scope d c) (length listed.before + i) i refl
      (get_front cs listed.after i (constant_of scope d c) (slice_get-map (constant_of scope d) d.constants i ∙ ap (option_map (constant_of scope d)) e))

module _ (source : Source) (once : IsUnbroken (BrokenByDefinitions source)) (scope : Path) (d : Enum) (listed : AreListed (definitions source) scope d) where
  same_name : (b c : EnumConst) → b.name.text ≡ c.name.text → (constant_of scope d b).name ≡ (constant_of scope d c).name
  same_name b c e = ap (λ (n : List ℕ). (scope ++ d.name.text ∷ []) ++ n ∷ []) e

  pub constants_differ : (i j : ℕ) (b c : EnumConst) → i < j → slice_get d.constants i ≡ Some b → slice_get d.constants j ≡ Some c → b.name.text ≡ c.name.text → ⊥
  constants_differ i j b c low e f same =
      let n = length listed.before in
      let earlier : IsNamed (take (n + j) (definitions source)) Value (constant_of scope d c).name (n + i) = record {
        definition = constant_of scope d b;
        here = get_take (definitions source) (n + j) (n + i) (omega arith) ∙ there source scope d listed i b e;
        of_group = refl;
        of_name = same_name b c same;
      } in
      once (broken_at DefinedTwice (constant_of scope d c).place) (n + j, constant_of scope d c, there source scope d listed j c f, (refl, (n + i, earlier)))

pub enumeration_listed : (source : Source) (t : TypeHere) (d : Enum) (i : ℕ) → slice_get (types source) i ≡ Some t → t.definition ≡ def.Enum d → AreListed (definitions source) t.scope d
enumeration_listed source t d i e is =
    let s = sited source t i e in
    let w = items_whole source s.at s.site s.here in
    let same : s.site.definition ≡ def.Enum d = sym s.definition ∙ is in
    listed_in (items source) s.at t.scope d w.0
    (w.1 ∙ ap (λ (p : Path). part_items p s.site.definition ++ w.0) (sym s.scope) ∙ ap (λ (x : Def). part_items t.scope x ++ w.0) same)
