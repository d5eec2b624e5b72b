-- A type name that names no other type than one of integers has a kind that is, of the types that are given, one of integers.
use Rattle.std.proofs.Common.{◌≡◌, ℕ, zero, suc, ◌+◌, ◌-◌, ◌<◌, ◌^◌, ℤ, pos, negsuc, Bool, true, List, [], ◌∷◌, ◌++◌, length, replicate, flat_map, map, take, slice_get, Some, refl, sym, ap, subst, ◌∙◌, inl, inr, arith, length-append}
use Rattle.std.specs.Prelude.{option_map}
use Rattle.std.proofs.lemmas.List.{length-map, length-replicate}
use Rattle.std.proofs.lemmas.Option.{slice_get_within}
use Rattle.fp_topology_forms.proofs.Places.{second_read, as_long}
use Rattle.fp_base.proofs.Options.{same_some}
use Rattle.fp_base.proofs.Spots.{item_below}
use Rattle.fp_base.proofs.Numbers.{suc_is, none_before}
use Rattle.fp_base.specs.declared.rule.Rule.TheVariants.{ChainTooLong, Cycle}
use Rattle.fp_base.specs.declared.value.Value.{Value}
use Rattle.fp_base.specs.Least.{IsUnbroken, broken_at}
use Rattle.fp_graph.proofs.Places.{get_drop, get_right}
use Rattle.fp_graph.specs.Chains.{Chain, IsOnCycle, alone, longer}
use Rattle.fp_tree.specs.declared.source.Source.{Source}
use Rattle.fp_tree.specs.declared.definition.Alias.{Alias}
use Rattle.fp_tree.specs.declared.definition.Def.{Def}
use Rattle.fp_tree.specs.declared.definition.Def.TheVariants as def
use Rattle.fp_tree.specs.declared.name.Qual.{Qual}
use Rattle.fp_tree.specs.declared.type_name.TypeForm.{TypeForm}
use Rattle.fp_tree.specs.declared.type_name.TypeForm.TheVariants as type
use Rattle.fp_tables.specs.Types as shapes
use Rattle.fp_tables.specs.Types.{is_integer, of_form, shape}
use Rattle.fp_tables.specs.declared.kind.Form.{Form}
use Rattle.fp_tables.specs.declared.kind.Kind.{Kind}
use Rattle.fp_tables.specs.declared.kind.Kind.TheVariants as kind
use Rattle.fp_tables.specs.declared.kind.TypeDef.{TypeDef}
use Rattle.fp_tables.proofs.Aliases.{shape_of_form}
use Rattle.fp_meaning.specs.declared.group.Group.TheVariants as group
use Rattle.fp_meaning.specs.declared.item.Item.{Item}
use Rattle.fp_meaning.specs.declared.item.Item.TheVariants as item
use Rattle.fp_meaning.specs.declared.names.Definition.{Definition}
use Rattle.fp_meaning.specs.declared.names.Mention.{Mention}
use Rattle.fp_meaning.specs.Layout.{items, part_items, type_form_items}
use Rattle.fp_meaning.specs.Meaning.{Means}
use Rattle.fp_meaning.specs.Names.{Path, definitions, definitions_of, mention_of, uses_of}
use Rattle.fp_meaning.specs.Owners.{owner_of, owners_from}
use Rattle.fp_meaning.specs.Sites.{Site, naming}
use Rattle.fp_meaning.specs.Uses.{BrokenByChains, Uses, by_name}
use Rattle.fp_meaning.specs.Values.{names_of}
use Rattle.fp_type_sizes.specs.Found as found
use Rattle.fp_types.proofs.AllGiven.{given_at, no_self}
use Rattle.fp_type_forms.specs.Written.{FormIs, IsWritten, KindIs, TypeHere, types, types_before, types_of}
use Rattle.fp_type_forms.proofs.Following.{items_whole}
use Rattle.fp_source_types.specs.Typed.{AreTypesOf}
use Rattle.fp_source_types.proofs.Counting.{no_type, type_of, count_of, nothing_of}
use Rattle.fp_source_types.proofs.Standing.{before}
use Rattle.fp_type_formats.specs.Integers.{NamesNoInteger, by_alias, by_definition, by_word, is_other_definition, is_other_word, sites_of}

-- ---- the type that a definition is

-- the definition with the number is a type: where it stands among the items, the sites and the types
record IsTypeAt (is : List Item) (n : ℕ) : Type 0 where
  site : Site
  stands : slice_get (flat_map sites_of is) n ≡ Some (Some site)
  at : ℕ
  here : slice_get is at ≡ Some (item.Defined site)
  number : n ≡ before is at
  kind_of : TypeHere
  listed : slice_get (flat_map types_of is) (types_before (flat_map definitions_of is) n) ≡ Some kind_of
  in_scope : kind_of.scope ≡ site.scope
  of_definition : kind_of.definition ≡ site.definition

-- an item further on
further : (i : Item) (is : List Item) (n m : ℕ) → m ≡ length (definitions_of i) + n → length (sites_of i) ≡ length (definitions_of i)
    → types_before (definitions_of i ++ flat_map definitions_of is) m ≡ length (types_of i) + types_before (flat_map definitions_of is) n → IsTypeAt is n → IsTypeAt (i ∷ is) m
further i is n m e long counts t = record {
  site = t.site;
  stands = get_right (sites_of i) (flat_map sites_of is) (Some t.site) m n (e ∙ ap (λ (k : ℕ). k + n) (sym long)) t.stands;
  at = suc t.at;
  here = t.here;
  number =
      let whole = length-append (definitions_of i) (flat_map definitions_of (take t.at is)) in
      let number = t.number in
      let same : m ≡ length (definitions_of i ++ flat_map definitions_of (take t.at is)) = omega arith in
      same;
  kind_of = t.kind_of;
  listed = get_right (types_of i) (flat_map types_of is) t.kind_of (types_before (definitions_of i ++ flat_map definitions_of is) m) (types_before (flat_map definitions_of is) n) counts t.listed;
  in_scope = t.in_scope;
  of_definition = t.of_definition;
}

type_at : (is : List Item) (n : ℕ) (d : Definition) → slice_get (flat_map definitions_of is) n ≡ Some d → d.group ≡ group.Kind → IsTypeAt is n
type_at [] n d e g = absurd (cc)
type_at (item.Used since x ∷ is) n d e g = further (item.Used since x) is n n (none_before n) refl (none_before _) (type_at is n d e g)
type_at (item.Written since x ∷ is) n d e g = further (item.Written since x) is n n (none_before n) refl (none_before _) (type_at is n d e g)
type_at (item.Defined s ∷ is) zero d e g =
    let t = type_of s.scope s.definition (ap (λ (x : Definition). x.group) (same_some e) ∙ g) in
    record {
      site = s;
      stands = refl;
      at = 0;
      here = refl;
      number = refl;
      kind_of = t.type;
      listed = ap (λ (l : List TypeHere). slice_get (l ++ flat_map types_of is) 0) t.here;
      in_scope = t.in_scope;
      of_definition = t.of_definition;
    }
type_at (item.Defined s ∷ is) (suc n) d e g =
    further (item.Defined s) is n (suc n) (suc_is n) refl (ap (λ (k : ℕ). k + types_before (flat_map definitions_of is) n) (count_of s.scope s.definition)) (type_at is n d e g)
type_at (item.Enumerated x ∷ is) zero d e g = let same : group.Value ≡ group.Kind = ap (λ (y : Definition). y.group) (same_some e) ∙ g in absurd (cc)
type_at (item.Enumerated x ∷ is) (suc n) d e g = further (item.Enumerated x) is n (suc n) (suc_is n) refl refl (type_at is n d e g)
type_at (item.Declared x ∷ is) zero d e g = absurd (no_type x.definition (ap (λ (y : Definition). y.group) (same_some e) ∙ g))
type_at (item.Declared x ∷ is) (suc n) d e g =
    further (item.Declared x) is n (suc n) (suc_is n) refl (ap (λ (k : ℕ). k + types_before (flat_map definitions_of is) n) (nothing_of x.scope x.definition)) (type_at is n d e g)

-- ---- an alias uses what its target names

-- a use of a name is that of the definition with the number
record IsOwned (number : ℕ) (is : List Item) (user : ℕ) (m : Mention) : Type 0 where
  k : ℕ
  owner : slice_get (owners_from number is) k ≡ Some user
  mentioned : slice_get (flat_map uses_of is) k ≡ Some m

owned : (number : ℕ) (is : List Item) (p : ℕ) (i : Item) (m : Mention) → slice_get is p ≡ Some i → uses_of i ≡ m ∷ [] → IsOwned number is (owner_of (number + before is p) i) m
owned number [] p i m at has = absurd (cc)
owned number (z ∷ is) zero i m at has =
    let same : z ≡ i = same_some at in
    let one : uses_of z ≡ m ∷ [] = ap uses_of same ∙ has in
    let none : number ≡ number + 0 = omega arith in
    record {
      k = 0;
      owner =
          ap (λ (l : List Mention). slice_get (replicate (length l) (owner_of number z) ++ owners_from (number + length (definitions_of z)) is) 0) one
          ∙ ap (λ (x : Item). Some (owner_of number x)) same ∙ ap (λ (n : ℕ). Some (owner_of n i)) none;
      mentioned = ap (λ (l : List Mention). slice_get (l ++ flat_map uses_of is) 0) one;
    }
owned number (z ∷ is) (suc p) i m at has =
    let rest = owned (number + length (definitions_of z)) is p i m at has in
    let whole = length-append (definitions_of z) (flat_map definitions_of (take p is)) in
    let many = length-replicate (length (uses_of z)) (owner_of number z) in
    let sum : number + length (definitions_of z) + before is p ≡ number + length (definitions_of z ++ flat_map definitions_of (take p is)) = omega arith in
    record {
      k = length (uses_of z) + rest.k;
      owner =
          get_right (replicate (length (uses_of z)) (owner_of number z)) (owners_from (number + length (definitions_of z)) is) (owner_of (number + before (z ∷ is) (suc p)) i)
          (length (uses_of z) + rest.k) rest.k (ap (λ (n : ℕ). n + rest.k) (sym many)) (rest.owner ∙ ap (λ (n : ℕ). Some (owner_of n i)) sum);
      mentioned = get_right (uses_of z) (flat_map uses_of is) m (length (uses_of z) + rest.k) rest.k refl rest.mentioned;
    }

before_next : (is : List Item) (p : ℕ) (s : Site) → slice_get is p ≡ Some (item.Defined s) → before is (suc p) ≡ before is p + 1
before_next [] p s at = absurd (cc)
before_next (z ∷ is) zero s at = ap (λ (i : Item). length (definitions_of i ++ flat_map definitions_of (take 0 is))) (same_some at) ∙ nothing is
  where
    nothing : (js : List Item) → ◌≡◌ {A = ℕ} (suc (length (flat_map definitions_of (take 0 js)))) 1
    nothing [] = refl
    nothing (j ∷ js) = refl
before_next (z ∷ is) (suc p) s at =
    let next = length-append (definitions_of z) (flat_map definitions_of (take (suc p) is)) in
    let here = length-append (definitions_of z) (flat_map definitions_of (take p is)) in
    let rest = before_next is p s at in
    let sum : length (definitions_of z ++ flat_map definitions_of (take (suc p) is)) ≡ length (definitions_of z ++ flat_map definitions_of (take p is)) + 1 = omega arith in
    sum

alias_uses : (source : Source) (p : ℕ) (s : Site) (d : Alias) (q : Qual) (used : ℕ) → slice_get (items source) p ≡ Some (item.Defined s) → s.definition ≡ def.Alias d
    → d.target.form ≡ type.Use q → before (items source) p < length (definitions source) → Means (definitions source) s.scope (names_of q) group.Kind used → Uses (items source) (before (items source) p) used
alias_uses source p s d q used at is names low means =
    let m = mention_of (naming group.Kind s.scope q) in
    let w = items_whole source p s at in
    let parts : part_items s.scope s.definition ≡ item.Used 0 (naming group.Kind s.scope q) ∷ [] = ap (part_items s.scope) is ∙ ap (type_form_items 0 s.scope) names in
    let place : suc p ≡ suc p + 0 = omega arith in
    let there : slice_get (items source) (suc p) ≡ Some (item.Used 0 (naming group.Kind s.scope q)) =
    sym (get_drop (items source) (suc p) 0 (suc p) place) ∙ ap (λ (l : List Item). slice_get l 0) (w.1 ∙ ap (λ (l : List Item). l ++ w.0) parts) in
    let o = owned 0 (items source) (suc p) (item.Used 0 (naming group.Kind s.scope q)) m there refl in
    let next = before_next (items source) p s at in
    let owner : 0 + before (items source) (suc p) - 1 - 0 ≡ before (items source) p = omega arith in
    by_name o.k m low (o.owner ∙ ap (λ (n : ℕ). Some n) owner) o.mentioned means

-- ---- a type definition has its form among them

module _ (source : Source) (ts : List TypeDef) (given : AreTypesOf source (map (λ (d : TypeDef). Some d) ts)) where
  record HasGiven (s : Site) (i : ℕ) : Type 0 where
    of : Form
    is : FormIs source s.scope s.definition of
    ends : shape ts (kind.Named i) ≡ of_form (shape ts) of

  form_there : (s : Site) (i : ℕ) (t : TypeHere) → slice_get (types source) i ≡ Some t → t.scope ≡ s.scope → t.definition ≡ s.definition → i < length ts → HasGiven s i
  form_there s i t at scope definition low =
      let d = item_below ts i low in
      let has = (given_at given.written ts given.types i d.0 d.1).0 in
      let pair = second_read (IsWritten source) 0 (types source) given.written i has.written given.are has.here in
      let same : pair.one ≡ t = same_some (sym pair.here ∙ at) in
      let is : FormIs source t.scope t.definition d.0.form = subst (λ (x : TypeHere). FormIs source x.scope x.definition d.0.form) same (pair.related.form.holds d.0.form has.form) in
      record {
        of = d.0.form;
        is = subst (λ (x : Def). FormIs source s.scope x d.0.form) definition (subst (λ (x : Path). FormIs source x t.definition d.0.form) scope is);
        ends = shape_of_form ts (no_self given.written ts given.types) i d.0.form (ap (option_map (λ (x : TypeDef). x.form)) d.1);
      }

  -- ---- integers

  abbrev HasInteger : Kind → Type 0
  HasInteger k = (low : ℤ) × (high : ℤ) × (shape ts k ≡ shapes.integer low high)

  unsigned : (bits : ℕ) (k l : Kind) → shape ts k ≡ shapes.unsigned bits → Some k ≡ Some l → HasInteger l
  unsigned bits k l e h = subst (λ (x : Kind). HasInteger x) (same_some h) (pos 0, pos (2 ^ bits - 1), e)

  signed : (bits : ℕ) (k l : Kind) → shape ts k ≡ shapes.signed bits → Some k ≡ Some l → HasInteger l
  signed bits k l e h = subst (λ (x : Kind). HasInteger x) (same_some h) (negsuc (2 ^ (bits - 1) - 1), pos (2 ^ (bits - 1) - 1), e)

  told : (k : Kind) → HasInteger k → is_integer ts k ≡ true
  told k (low, high, e) = rw e refl

  module _ (unbroken : IsUnbroken (BrokenByChains (items source) group.Kind)) where
    abbrev IsKind : ℕ → Definition → Type 0
    IsKind n d = (slice_get (definitions source) n ≡ Some d) × (d.group ≡ group.Kind)

    off_cycles : (n : ℕ) (d : Definition) → IsKind n d → IsOnCycle (Uses (items source)) n → ⊥
    off_cycles n d of cycle = unbroken (broken_at Cycle d.place) (n, d, of.0, (of.1, inl (refl, cycle)))

    -- it isn't at the head of a chain of so many uses
    abbrev IsShort : ℕ → ℕ → Type 0
    IsShort n number = Chain (length (definitions source)) (Uses (items source)) number n → ⊥

    abbrev IsShortUse : ℕ → Path → TypeForm → Type 0
    IsShortUse n scope t = (q : Qual) (number : ℕ) → t ≡ type.Use q → Means (definitions source) scope (names_of q) group.Kind number → IsShort n number

    abbrev AreIntegers : ℕ → Type 0
    AreIntegers n = (scope : Path) (t : TypeForm) (k : Kind) → KindIs source scope t k → (NamesNoInteger (items source) n scope t → ⊥) → IsShortUse n scope t → HasInteger k

    module _ (n : ℕ) (rest : AreIntegers n) (scope : Path) (q : Qual) (number : ℕ) (means : Means (definitions source) scope (names_of q) group.Kind number)
        (never : NamesNoInteger (items source) (suc n) scope (type.Use q) → ⊥) (short : IsShort (suc n) number) where
      abbrev meant_here : Definition
      meant_here = means.meant.named.definition

      is_kind_here : IsKind number meant_here
      is_kind_here = (means.meant.named.here, means.meant.named.of_group)

      low_here : number < length (definitions source)
      low_here = slice_get_within (definitions source) number meant_here means.meant.named.here

      through : (t : IsTypeAt (items source) number) (d : Def) → t.site.definition ≡ d → (f : Form) → FormIs source t.site.scope d f → (k : Kind) → shape ts k ≡ of_form (shape ts) f → HasInteger k
      through t (def.Alias d) is f has k same =
          let next = rest t.site.scope d.target.form has.0 has.1 (λ other. never (by_alias number t.site d means t.stands is other))
          (λ p used names meant chain. short (longer (off_cycles number meant_here is_kind_here)
          (subst (λ (m : ℕ). Uses (items source) m used) (sym t.number)
          (alias_uses source t.at t.site d p used t.here is names (subst (λ (m : ℕ). m < length (definitions source)) t.number low_here) meant)) chain)) in
          (next.0, next.1, same ∙ ap (of_form (shape ts)) has.2 ∙ next.2)
      through t (def.Abstract d) is f has k same = absurd (never (by_definition number t.site means t.stands (ap is_other_definition is)))
      through t (def.Array d) is f has k same = absurd (never (by_definition number t.site means t.stands (ap is_other_definition is)))
      through t (def.Struct d) is f has k same = absurd (never (by_definition number t.site means t.stands (ap is_other_definition is)))
      through t (def.Enum d) is f has k same = absurd (never (by_definition number t.site means t.stands (ap is_other_definition is)))
      through t (def.Constant d) is f has k same = absurd has
      through t (def.Port d) is f has k same = absurd has

      use_integer : HasInteger (kind.Named (types_before (definitions source) number))
      use_integer =
          let t = type_at (items source) number meant_here is_kind_here.0 is_kind_here.1 in
          let i = types_before (definitions source) number in
          let long : length (types source) ≡ length ts = as_long (IsWritten source) 0 (types source) given.written given.are ∙ sym given.types.each ∙ length-map ts (λ (x : TypeDef). Some x) in
          let g = form_there t.site i t.kind_of t.listed t.in_scope t.of_definition (subst (λ (m : ℕ). i < m) long (slice_get_within (types source) i t.kind_of t.listed)) in
          through t t.site.definition refl g.of g.is (kind.Named i) g.ends

    no_word : (n : ℕ) (scope : Path) (t : TypeForm) → is_other_word t ≡ true → (NamesNoInteger (items source) n scope t → ⊥) → ⊥
    no_word n scope t e never = never (by_word e)

    integers : (n : ℕ) → AreIntegers n
    integers n scope type.U8 k h never short = unsigned 8 kind.U8 k refl h
    integers n scope type.U16 k h never short = unsigned 16 kind.U16 k refl h
    integers n scope type.U32 k h never short = unsigned 32 kind.U32 k refl h
    integers n scope type.U64 k h never short = unsigned 64 kind.U64 k refl h
    integers n scope type.I8 k h never short = signed 8 kind.I8 k refl h
    integers n scope type.I16 k h never short = signed 16 kind.I16 k refl h
    integers n scope type.I32 k h never short = signed 32 kind.I32 k refl h
    integers n scope type.I64 k h never short = signed 64 kind.I64 k refl h
    integers n scope type.F32 k h never short = absurd (no_word n scope type.F32 refl never)
    integers n scope type.F64 k h never short = absurd (no_word n scope type.F64 refl never)
    integers n scope type.Bool k h never short = absurd (no_word n scope type.Bool refl never)
    integers n scope (type.Text size) k h never short = absurd (no_word n scope (type.Text size) refl never)
    integers zero scope (type.Use q) k h never short =
        let there = h.1.meant.named in
        absurd (short q h.0 refl h.1 (alone (slice_get_within (definitions source) h.0 there.definition there.here) (off_cycles h.0 there.definition (there.here, there.of_group))))
    integers (suc n) scope (type.Use q) k h never short =
        subst (λ (x : Kind). HasInteger x) (sym h.2) (use_integer n (integers n) scope q h.0 h.1 never (short q h.0 refl h.1))

    no_chain : (scope : Path) (t : TypeForm) → IsShortUse 256 scope t
    no_chain scope t q number is means chain =
        let there = means.meant.named in
        unbroken (broken_at ChainTooLong there.definition.place) (number, there.definition, there.here, (there.of_group, inr (refl, chain)))

    pub integer_kind : (scope : Path) (t : TypeForm) (k : Kind) → KindIs source scope t k → (NamesNoInteger (items source) 256 scope t → ⊥) → is_integer ts k ≡ true
    integer_kind scope t k h never = told k (integers 256 scope t k h never (no_chain scope t))
