-- Where what is written of types breaks no rule, each enumerated constant has the number that is wanted of it.
use Rattle.std.proofs.Common.{◌≡◌, ℕ, zero, suc, ◌+◌, ◌⊎◌, inl, inr, Bool, true, false, is_none, List, [], ◌∷◌, ◌++◌, length, flat_map, slice_get, Option, Some, None, refl, sym, ap, subst, arith}
use Rattle.std.specs.List.{AllByRecursion}
use Rattle.fp_base.proofs.Lists.{each_append, each_flat, each_of_any, get_front, of_item}
use Rattle.fp_base.proofs.Passing.{some_fails}
use Rattle.fp_base.proofs.Options.{no_some}
use Rattle.fp_base.specs.declared.rule.Rule.TheVariants.{BadConversion, EnumValuesAllOrNone}
use Rattle.fp_base.specs.declared.refusal.Refusal.{Refusal}
use Rattle.fp_base.specs.Least.{broken_at, IsUnbroken}
use Rattle.fp_consts.proofs.Valued.{implied_when}
use Rattle.fp_graph.proofs.Places.{get_joined, get_right}
use Rattle.fp_tree.specs.declared.source.Source.{Source}
use Rattle.fp_tree.specs.declared.definition.Def.{Def}
use Rattle.fp_tree.specs.declared.definition.Def.TheVariants as def
use Rattle.fp_tree.specs.declared.definition.Enum.{Enum}
use Rattle.fp_tree.specs.declared.expression.Expr.{Expr}
use Rattle.fp_tree.specs.declared.type_name.TypeName.{TypeName}
use Rattle.fp_tree.specs.declared.type_name.TypeForm.{TypeForm}
use Rattle.fp_tree.specs.declared.type_name.TypeForm.TheVariants as type
use Rattle.fp_tree.specs.declared.part.EnumConst.{EnumConst}
use Rattle.fp_tree.specs.declared.part.Field.{Field}
use Rattle.fp_tree.specs.declared.part.Formal.{Formal}
use Rattle.fp_meaning.specs.declared.item.Item.{Item}
use Rattle.fp_meaning.specs.declared.item.Item.TheVariants as item
use Rattle.fp_meaning.specs.Layout.{expression_items, type_form_items, type_items, field_items, formal_items, constant_items, part_items, items_in, items}
use Rattle.fp_meaning.specs.Sites.{declaration, Entry, ModelDef, Path, Site, in_optional, is_implied}
use Rattle.fp_meaning.specs.Values.{IsImplied}
use Rattle.fp_meaning.proofs.Since.{AllSince}
use Rattle.fp_meaning.proofs.Throughout.{all_items}
use Rattle.fp_type_forms.specs.Broken.{BrokenByParts, ByOptional, HasBoth, IsNoNumber, TypePartsBroken}
use Rattle.fp_source_types.proofs.Meant.{AreNumbered}

-- ---- a constant stands behind its enumeration

module _ (scope : Path) (d : Def) where
  abbrev IsListed : Item → Type 0
  IsListed (item.Enumerated e) = (e.scope ≡ scope) × (d ≡ def.Enum e.enumeration) × (slice_get e.enumeration.constants e.position ≡ Some e.constant)
  IsListed _ = Unit {0}

  abbrev AreListed : List Item → Type 0
  AreListed is = AllByRecursion IsListed is

  expression_listed : (since : ℕ) (o : Option Expr) → AreListed (in_optional (expression_items since scope) o)
  expression_listed since None = tt
  expression_listed since (Some e) = (tt, tt)

  form_listed : (t : TypeForm) → AreListed (type_form_items 0 scope t)
  form_listed (type.Text size) = expression_listed 0 size
  form_listed (type.Use q) = (tt, tt)
  form_listed t = tt

  name_listed : (o : Option TypeName) → AreListed (in_optional (type_items 0 scope) o)
  name_listed None = tt
  name_listed (Some t) = form_listed t.form

  both_listed : (xs ys : List Item) → AreListed xs → AreListed ys → AreListed (xs ++ ys)
  both_listed xs ys h k = each_append IsListed xs ys h k

  field_listed : (f : Field) → AreListed (field_items scope f)
  field_listed f = both_listed (in_optional (expression_items 0 scope) f.size) (type_items 0 scope f.of) (expression_listed 0 f.size) (form_listed f.of.form)

constants_listed : (scope : Path) (d : Enum) (k : ℕ) (cs : List EnumConst) → ((j : ℕ) (c : EnumConst) → slice_get cs j ≡ Some c → slice_get d.constants (k + j) ≡ Some c)
    → AreListed scope (def.Enum d) (constant_items scope d k cs)
constants_listed scope d k [] all = tt
constants_listed scope d k (c ∷ cs) all = (
  (refl, refl, subst (λ (n : ℕ). slice_get d.constants n ≡ Some c) (plus_none k) (all 0 c refl)),
  constants_listed scope d (suc k) cs (λ j x at. subst (λ (n : ℕ). slice_get d.constants n ≡ Some x) (moved k j) (all (suc j) x at)),
)
  where
    plus_none : (n : ℕ) → n + 0 ≡ n
    plus_none n = omega arith

    moved : (m n : ℕ) → m + suc n ≡ suc m + n
    moved m n = omega arith

are_listed : (scope : Path) (d : Def) → AreListed scope d (part_items scope d)
are_listed scope (def.Constant d) = tt
are_listed scope (def.Abstract d) = tt
are_listed scope (def.Alias d) = form_listed scope (def.Alias d) d.target.form
are_listed scope (def.Array d) =
    both_listed scope (def.Array d) (expression_items 0 scope d.size ++ type_items 0 scope d.element) (in_optional (expression_items 0 scope) d.default)
    (both_listed scope (def.Array d) (expression_items 0 scope d.size) (type_items 0 scope d.element) (tt, tt) (form_listed scope (def.Array d) d.element.form))
    (expression_listed scope (def.Array d) 0 d.default)
are_listed scope (def.Struct d) =
    both_listed scope (def.Struct d) (flat_map (field_items scope) d.fields) (in_optional (expression_items 0 scope) d.default)
    (each_flat (IsListed scope (def.Struct d)) (field_items scope) d.fields
    (each_of_any (λ (f : Field). AreListed scope (def.Struct d) (field_items scope f)) (field_listed scope (def.Struct d)) d.fields))
    (expression_listed scope (def.Struct d) 0 d.default)
are_listed scope (def.Enum d) =
    both_listed scope (def.Enum d) (in_optional (type_items 0 scope) d.repr ++ constant_items scope d 0 d.constants) (in_optional (expression_items (length d.constants) scope) d.default)
    (both_listed scope (def.Enum d) (in_optional (type_items 0 scope) d.repr) (constant_items scope d 0 d.constants) (name_listed scope (def.Enum d) d.repr)
    (constants_listed scope d 0 d.constants (λ j c at. subst (λ (n : ℕ). slice_get d.constants n ≡ Some c) (none_more j) at)))
    (expression_listed scope (def.Enum d) (length d.constants) d.default)
  where
    none_more : (n : ℕ) → n ≡ 0 + n
    none_more n = omega arith
are_listed scope (def.Port d) =
    both_listed scope (def.Port d) (flat_map (formal_items scope) d.formals) (in_optional (type_items 0 scope) d.result)
    (each_flat (IsListed scope (def.Port d)) (formal_items scope) d.formals
    (each_of_any (λ (f : Formal). AreListed scope (def.Port d) (formal_items scope f)) (λ f. form_listed scope (def.Port d) f.of.form) d.formals))
    (name_listed scope (def.Port d) d.result)

record IsBehind (is : List Item) (e : Entry) : Type 0 where
  at : ℕ
  site : Site
  here : slice_get is at ≡ Some (item.Defined site)
  scope : e.scope ≡ site.scope
  definition : site.definition ≡ def.Enum e.enumeration
  listed : slice_get e.enumeration.constants e.position ≡ Some e.constant

abbrev AreBehind : List Item → Type 0
AreBehind is = (p : ℕ) (e : Entry) → slice_get is p ≡ Some (item.Enumerated e) → IsBehind is e

behind_nothing : AreBehind []
behind_nothing p e at = no_some at

behind_joined : (xs ys : List Item) → AreBehind xs → AreBehind ys → AreBehind (xs ++ ys)
behind_joined xs ys h k p e at = go (get_joined xs ys (item.Enumerated e) p at)
  where
    go : (slice_get xs p ≡ Some (item.Enumerated e)) ⊎ ((j : ℕ) × (p ≡ length xs + j) × (slice_get ys j ≡ Some (item.Enumerated e))) → IsBehind (xs ++ ys) e
    go (inl f) =
        let b = h p e f in
        record { at = b.at; site = b.site; here = get_front xs ys b.at (item.Defined b.site) b.here; scope = b.scope; definition = b.definition; listed = b.listed }
    go (inr (j, is, f)) =
        let b = k j e f in
        record {
          at = length xs + b.at;
          site = b.site;
          here = get_right xs ys (item.Defined b.site) (length xs + b.at) b.at refl b.here;
          scope = b.scope;
          definition = b.definition;
          listed = b.listed;
        }

not_defined : {s : Site} {e : Entry} → Some (item.Defined s) ≡ Some (item.Enumerated e) → ⊥
not_defined is = cc

behind_definition : (scope : Path) (d : Def) → AreBehind (items_in scope d)
behind_definition scope d zero e at = absurd (not_defined at)
behind_definition scope d (suc p) e at =
    let t = of_item (IsListed scope d) (part_items scope d) p (item.Enumerated e) (are_listed scope d) at in
    record { at = 0; site = record { scope = scope; definition = d }; here = refl; scope = t.0; definition = t.1; listed = t.2 }

-- names and expressions are no constants
abbrev IsNoEntry : Item → Type 0
IsNoEntry (item.Enumerated e) = ⊥
IsNoEntry _ = Unit {0}

no_entries : (is : List Item) → AllSince 0 is → AllByRecursion IsNoEntry is
no_entries [] own = tt
no_entries (item.Used m n ∷ is) own = (tt, no_entries is own.1)
no_entries (item.Written m p ∷ is) own = (tt, no_entries is own.1)
no_entries (item.Defined s ∷ is) own = absurd own
no_entries (item.Enumerated e ∷ is) own = absurd own
no_entries (item.Declared d ∷ is) own = absurd own

behind_declared : (scope : Path) (d : ModelDef) (is : List Item) → AllSince 0 is → AreBehind (item.Declared (declaration scope d) ∷ is)
behind_declared scope d is own p e at = absurd (of_item IsNoEntry (item.Declared (declaration scope d) ∷ is) p (item.Enumerated e) (tt, no_entries is own) at)

behind : (source : Source) → AreBehind (items source)
behind source = all_items AreBehind behind_nothing behind_joined behind_definition behind_declared source

-- ---- where no rule is broken

-- an enumeration without a value at one constant has none, unless it has both
pub all_implied : (d : Enum) (k : ℕ) (c : EnumConst) → slice_get d.constants k ≡ Some c → c.value ≡ None → (HasBoth d → ⊥) → IsImplied d
all_implied d k c at none never = go (is_implied d) refl
  where
    go : (b : Bool) → is_implied d ≡ b → IsImplied d
    go true is = implied_when d is
    go false is =
        let t = some_fails (λ (x : EnumConst). is_none x.value) d.constants is in
        absurd (never ((t.0, t.1, t.2, t.3), (k, c, at, ap is_none none)))

module _ (source : Source) (unbroken : IsUnbroken (TypePartsBroken source)) where
  sound_parts : (e : Entry) → IsBehind (items source) e → (f : Refusal) → BrokenByParts source e.scope (def.Enum e.enumeration) f → ⊥
  sound_parts e b f h =
      unbroken f (
        b.at,
        item.Defined b.site,
        b.here,
        subst (λ (x : Def). BrokenByParts source b.site.scope x f) (sym b.definition) (subst (λ (s : Path). BrokenByParts source s (def.Enum e.enumeration) f) b.scope h),
      )

  pub are_numbered : AreNumbered source
  are_numbered = record {
    written = λ p e x v at is val none.
        let b = behind source p e at in
        let f = broken_at BadConversion x.at.first in
        let broken : ByOptional (IsNoNumber source e.scope) e.constant.value f = subst (λ (o : Option Expr). ByOptional (IsNoNumber source e.scope) o f) (sym is) (refl, v, val, none) in
        sound_parts e b f (inr (inl (e.position, e.constant, b.listed, broken)));
    implied = λ p e at is.
        let b = behind source p e at in
        all_implied e.enumeration e.position e.constant b.listed is
        (λ both. sound_parts e b (broken_at EnumValuesAllOrNone e.enumeration.name.at.first) (inr (inr (refl, both))));
  }
