-- Where no rule of constants is broken, and each enumerated constant has a number if what is written there has a value, all definitions of
-- values and all expressions have values.
use Rattle.std.proofs.Common.{◌≡◌, ℕ, zero, suc, ◌+◌, List, [], ◌∷◌, length, flat_map, take, slice_get, Option, Some, None, inl, inr, refl, sym, ap, subst, ◌∙◌, arith}
use Rattle.std.specs.Prelude.{ℤ, pos}
use Rattle.fp_base.proofs.Options.{same_some, no_some}
use Rattle.fp_base.specs.declared.value.Value.{Value}
use Rattle.fp_base.specs.Least.{IsUnbroken}
use Rattle.fp_tree.specs.declared.source.Source.{Source}
use Rattle.fp_tree.specs.declared.definition.Def.{Def}
use Rattle.fp_tree.specs.declared.definition.Def.TheVariants as def
use Rattle.fp_tree.specs.declared.expression.Expr.{Expr}
use Rattle.fp_meaning.specs.declared.group.Group.{Group}
use Rattle.fp_meaning.specs.declared.group.Group.TheVariants as group
use Rattle.fp_meaning.specs.declared.item.Item.{Item}
use Rattle.fp_meaning.specs.declared.item.Item.TheVariants as item
use Rattle.fp_meaning.specs.declared.names.Definition.{Definition}
use Rattle.fp_meaning.specs.declared.names.Mention.{Mention}
use Rattle.fp_meaning.specs.ConstantFaults.{ConstantsBroken}
use Rattle.fp_meaning.specs.Layout.{items}
use Rattle.fp_meaning.specs.Meaning.{Means, AreMeanings}
use Rattle.fp_meaning.specs.Names.{Path, definitions, definitions_of, group_of, in_expression, in_optional, mentions, model_group, uses_of}
use Rattle.fp_meaning.specs.Origins.{Placed, placed, one, Origin, Constant, Enumerated, origin_with, origins_of, expressions_of}
use Rattle.fp_meaning.specs.Owners.{owner_of}
use Rattle.fp_meaning.specs.Sites.{Site, Entry, value_in, ModelDef, machine, component, interface, instance, topology}
use Rattle.fp_meaning.specs.Uses.{Uses}
use Rattle.fp_meaning.specs.Values.{opened, number_in, constant_value, IsImplied, Val}
use Rattle.fp_consts.specs.Examined.{HasValue}
use Rattle.fp_consts.proofs.Grouped.{AreValueNames, value_names}
use Rattle.fp_consts.proofs.Tabled.{flat_at}
use Rattle.fp_consts.proofs.Valued.{the_head}
use Rattle.fp_source_types.proofs.Deep.{IsOf, by_uses}
use Rattle.fp_source_types.proofs.Expressed.{AreNamesValued, Valued, expression_valued}
use Rattle.fp_source_types.proofs.Standing.{AllFrom, IsItem, before, from_places, item_of, origin_at, use_at}

-- ---- the uses of an item are those of its expression

uses_if : (scope : Path) (o : Option Expr) (j : ℕ) (q : Placed) → slice_get (in_optional (one scope) o) j ≡ Some q → in_optional (in_expression scope) o ≡ in_expression q.scope q.expression
uses_if scope None j q at = no_some at
uses_if scope (Some e) zero q at = ap (λ (x : Placed). in_expression x.scope x.expression) (same_some at)
uses_if scope (Some e) (suc j) q at = no_some at

uses_written : (i : Item) (j : ℕ) (q : Placed) → slice_get (expressions_of i) j ≡ Some q → uses_of i ≡ in_expression q.scope q.expression
uses_written (item.Defined s) j q at = uses_if s.scope (value_in s.definition) j q at
uses_written (item.Enumerated e) j q at = uses_if e.scope e.constant.value j q at
uses_written (item.Declared d) j q at = no_some at
uses_written (item.Used since n) j q at = no_some at
uses_written (item.Written since p) zero q at = ap (λ (x : Placed). in_expression x.scope x.expression) (same_some at)
uses_written (item.Written since p) (suc j) q at = no_some at

-- a definition of a value has an expression
constant_written : (d : Def) → group_of d ≡ group.Value → (e : Expr) × (value_in d ≡ Some e)
constant_written (def.Constant d) is = (d.value, refl)
constant_written (def.Abstract d) is = absurd (cc)
constant_written (def.Alias d) is = absurd (cc)
constant_written (def.Array d) is = absurd (cc)
constant_written (def.Struct d) is = absurd (cc)
constant_written (def.Enum d) is = absurd (cc)
constant_written (def.Port d) is = absurd (cc)

-- beside constants, types and ports nothing defines a value
no_value : (d : ModelDef) → model_group d ≡ group.Value → ⊥
no_value (machine d) e = cc
no_value (component d) e = cc
no_value (interface d) e = cc
no_value (instance d) e = cc
no_value (topology d) e = cc

group_at : {x y : Definition} → x ∷ [] ≡ y ∷ [] → y.group ≡ group.Value → x.group ≡ group.Value
group_at e is = ap (λ (d : Definition). d.group) (the_head e) ∙ is

pub defines_none : {y : Definition} → [] ≡ y ∷ [] → ⊥
defines_none e = cc

module _ (source : Source) where
  -- each number that is wanted of an enumerated constant is there
  pub record AreNumbered : Type 0 where
    pub written : (p : ℕ) (e : Entry) (x : Expr) (v : Value) → slice_get (items source) p ≡ Some (item.Enumerated e) → e.constant.value ≡ Some x
        → Val source e.scope (opened x) v → number_in v ≡ None → ⊥
    pub implied : (p : ℕ) (e : Entry) → slice_get (items source) p ≡ Some (item.Enumerated e) → e.constant.value ≡ None → IsImplied e.enumeration

  abbrev HasSome : ℕ → Type 0
  HasSome n = (v : Value) × HasValue source n v

  abbrev UsedHaveSome : ℕ → Type 0
  UsedHaveSome u = (m : ℕ) → Uses (items source) u m → IsOf (items source) group.Value m → HasSome m

  -- what an item uses is used by the definition with the number, and its expressions have values
  pub record Stands (u : ℕ) (i : Item) : Type 0 where
    pub uses : (j : ℕ) (m : Mention) → slice_get (uses_of i) j ≡ Some m → (number : ℕ) × Means (definitions source) m.scope m.name m.group number × Uses (items source) u number
    pub values : (j : ℕ) (q : Placed) → slice_get (expressions_of i) j ≡ Some q → Valued source q.scope q.expression

module _ (source : Source) (meanings : List ℕ) (meant : AreMeanings (definitions source) (mentions source) meanings) (unbroken : IsUnbroken (ConstantsBroken source)) (numbered : AreNumbered source) where
  names_valued : (p : ℕ) (i : Item) → slice_get (items source) p ≡ Some i → UsedHaveSome source (owner_of (0 + before (items source) p) i) → AreValueNames (uses_of i)
      → AreNamesValued source (uses_of i)
  names_valued p i at used values j m there =
      let t = use_at source meanings meant p i j m at there in
      let means : Means (definitions source) m.scope m.name group.Value t.0 =
      subst (λ (g : Group). Means (definitions source) m.scope m.name g t.0) (values j m there) t.1 in
      let named = means.meant.named in
      let v = used t.0 t.2 (named.definition, named.here, named.of_group) in
      (t.0, v.0, means, v.1)

  value_at : (p : ℕ) (i : Item) (j : ℕ) (q : Placed) → slice_get (items source) p ≡ Some i → slice_get (expressions_of i) j ≡ Some q
      → UsedHaveSome source (owner_of (0 + before (items source) p) i) → Valued source q.scope q.expression
  value_at p i j q at there used =
      let uses = uses_written i j q there in
      let names = names_valued p i at used (subst AreValueNames (sym uses) (value_names q.expression q.scope)) in
      expression_valued source q.expression q.scope
      (λ f b. unbroken f (inl (length (flat_map expressions_of (take p (items source))) + j, q, flat_at expressions_of (items source) p i j q at there, b)))
      (subst (AreNamesValued source) uses names)

  module _ (n : ℕ) (d : Definition) (t : IsItem (items source) n d) (of_value : d.group ≡ group.Value) (used : UsedHaveSome source n) where
    own_number : 0 + before (items source) t.at ≡ n
    own_number = let number = t.number in omega arith

    used_here : UsedHaveSome source (0 + before (items source) t.at)
    used_here m u of = used m (subst (λ (k : ℕ). Uses (items source) k m) own_number u) of

    origin_is : (i : Item) → t.found ≡ i → (o : Origin) → origins_of i ≡ o ∷ [] → slice_get (flat_map origins_of (items source)) n ≡ Some o
    origin_is i is o gives = origin_at (items source) n d t o (ap origins_of is ∙ gives)

    constant_has : (s : Site) → slice_get (items source) t.at ≡ Some (item.Defined s) → t.found ≡ item.Defined s → (e : Expr) → value_in s.definition ≡ Some e → HasSome source n
    constant_has s at is e there =
        let v = value_at t.at (item.Defined s) 0 (placed s.scope e) at (ap (λ (o : Option Expr). slice_get (in_optional (one s.scope) o) 0) there) used_here in
        (v.0, (Constant s.scope e, origin_is (item.Defined s) is (Constant s.scope e) (ap (λ (o : Option Expr). origin_with s.scope o ∷ []) there), v.1))

    enumerated_has : (e : Entry) → slice_get (items source) t.at ≡ Some (item.Enumerated e) → t.found ≡ item.Enumerated e → (o : Option Expr) → e.constant.value ≡ o → HasSome source n
    enumerated_has e at is None there = (
      constant_value e.scope e.enumeration e.constant (pos e.position),
      (
        Enumerated e.scope e.enumeration e.position e.constant,
        origin_is (item.Enumerated e) is (Enumerated e.scope e.enumeration e.position e.constant) refl,
        inr (there, numbered.implied t.at e at there, refl),
      ),
    )
    enumerated_has e at is (Some x) there =
        let v = value_at t.at (item.Enumerated e) 0 (placed e.scope x) at (ap (λ (o : Option Expr). slice_get (in_optional (one e.scope) o) 0) there) used_here in
        with_number v.0 v.1 (number_in v.0) refl
      where
        with_number : (v : Value) → Val source e.scope (opened x) v → (o : Option ℤ) → number_in v ≡ o → HasSome source n
        with_number v h None i = absurd (numbered.written t.at e x v at there h i)
        with_number v h (Some k) i = (
          constant_value e.scope e.enumeration e.constant k,
          (
            Enumerated e.scope e.enumeration e.position e.constant,
            origin_is (item.Enumerated e) is (Enumerated e.scope e.enumeration e.position e.constant) refl,
            inl (x, v, k, there, h, i, refl),
          ),
        )

    by_item : (i : Item) → t.found ≡ i → HasSome source n
    by_item (item.Defined s) is =
        let e = constant_written s.definition (group_at (ap definitions_of (sym is) ∙ t.defines) of_value) in
        constant_has s (t.here ∙ ap (λ (x : Item). Some x) is) is e.0 e.1
    by_item (item.Enumerated e) is = enumerated_has e (t.here ∙ ap (λ (x : Item). Some x) is) is e.constant.value refl
    by_item (item.Declared x) is = absurd (no_value x.definition (group_at (ap definitions_of (sym is) ∙ t.defines) of_value))
    by_item (item.Used since x) is = absurd (defines_none (ap definitions_of (sym is) ∙ t.defines))
    by_item (item.Written since x) is = absurd (defines_none (ap definitions_of (sym is) ∙ t.defines))

  pub number_valued : (n : ℕ) → IsOf (items source) group.Value n → HasSome source n
  number_valued =
      by_uses (items source) group.Value (λ f b. unbroken f (inr b)) (HasSome source) (λ n of used.
      let t = item_of (items source) n of.0 of.1 in by_item n of.0 t of.2 used t.found refl)

  pub all_stand : AllFrom (Stands source) 0 (items source)
  all_stand = from_places (Stands source) (items source) 0 (λ p i at. record {
    uses = λ j m there. use_at source meanings meant p i j m at there;
    values = λ j q there. value_at p i j q at there (λ m u of. number_valued m of);
  })
