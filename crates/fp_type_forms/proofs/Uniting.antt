-- What is written of types breaks what its parts, its names and its representations break, item by item.
use Rattle.std.proofs.Common.{◌≡◌, ℕ, zero, suc, ◌⊎◌, inl, inr, List, [], ◌∷◌, ◌++◌, flat_map, Option, Some, None, refl, sym, subst}
use Rattle.fp_base.proofs.Calculus.{least_along, least_either, least_same}
use Rattle.fp_base.proofs.Lists.{get_front}
use Rattle.fp_base.proofs.Options.{same_some, no_some}
use Rattle.fp_base.specs.Least.{Either, InSome, IsLeast, lesser_of}
use Rattle.fp_base.specs.declared.refusal.Refusal.{Refusal}
use Rattle.fp_tree.specs.declared.source.Source.{Source}
use Rattle.fp_tree.specs.declared.name.Name.{Name}
use Rattle.fp_tree.specs.declared.definition.Def.{Def}
use Rattle.fp_tree.specs.declared.definition.Def.TheVariants as def
use Rattle.fp_tree.specs.declared.expression.Expr.{Expr}
use Rattle.fp_meaning.specs.declared.item.Item.{Item}
use Rattle.fp_meaning.specs.declared.item.Item.TheVariants as item
use Rattle.fp_meaning.specs.Layout.{items}
use Rattle.fp_meaning.specs.Origins.{Placed, placed, one, expressions_of}
use Rattle.fp_meaning.specs.Sites.{Path, in_optional, value_in}
use Rattle.fp_type_sizes.specs.declared.written.WrittenType.{WrittenType}
use Rattle.fp_type_forms.specs.Broken.{BrokenByEnum, BrokenByType, ByOptional, FormsBroken, NumbersRepeated, RepeatsIn, RepeatsMember, TypePartsBroken}
use Rattle.fp_type_forms.specs.Tested.{EnumByItem, NamesByDefinition, NamesByItem}
use Rattle.fp_type_forms.specs.Written.{TypeHere, type_here, types_in, types_of}

-- ---- lists that are put together

module _ {B : Type 0} (P : B → Refusal → Type 0) where
  abbrev Among : List B → Refusal → Type 0
  Among xs = InSome (λ k. P) xs

  some_one : (x : B) (f : Refusal) → Among (x ∷ []) f → P x f
  some_one x f (zero, y, at, h) = subst (λ (z : B). P z f) (sym (same_some at)) h
  some_one x f (suc k, y, at, h) = no_some at

  some_front : (xs ys : List B) (f : Refusal) → Among xs f → Among (xs ++ ys) f
  some_front xs ys f (k, y, at, h) = (k, y, get_front xs ys k y at, h)

  some_behind : (xs ys : List B) (f : Refusal) → Among ys f → Among (xs ++ ys) f
  some_behind [] ys f t = t
  some_behind (x ∷ xs) ys f t = let u = some_behind xs ys f t in (suc u.0, u.1, u.2, u.3)

  some_split : (xs ys : List B) (f : Refusal) → Among (xs ++ ys) f → Among xs f ⊎ Among ys f
  some_split [] ys f t = inr t
  some_split (x ∷ xs) ys f (zero, y, at, h) = inl (0, y, at, h)
  some_split (x ∷ xs) ys f (suc k, y, at, h) = go (some_split xs ys f (k, y, at, h))
    where
      go : Among xs f ⊎ Among ys f → Among (x ∷ xs) f ⊎ Among ys f
      go (inl u) = inl (suc u.0, u.1, u.2, u.3)
      go (inr u) = inr u

  module _ {A : Type 0} (g : A → List B) where
    abbrev InEach : List A → Refusal → Type 0
    InEach xs = InSome (λ k x. Among (g x)) xs

    into_flat : (xs : List A) (f : Refusal) → InEach xs f → Among (flat_map g xs) f
    into_flat [] f t = no_some t.2
    into_flat (x ∷ xs) f (zero, y, at, h) = some_front (g x) (flat_map g xs) f (subst (λ (z : A). Among (g z) f) (sym (same_some at)) h)
    into_flat (x ∷ xs) f (suc k, y, at, h) = some_behind (g x) (flat_map g xs) f (into_flat xs f (k, y, at, h))

    out_of_flat : (xs : List A) (f : Refusal) → Among (flat_map g xs) f → InEach xs f
    out_of_flat [] f t = no_some t.2
    out_of_flat (x ∷ xs) f t = go (some_split (g x) (flat_map g xs) f t) (out_of_flat xs f)
      where
        go : Among (g x) f ⊎ Among (flat_map g xs) f → (Among (flat_map g xs) f → InEach xs f) → InEach (x ∷ xs) f
        go (inl h) rest = (0, x, refl, h)
        go (inr h) rest = let u = rest h in (suc u.0, u.1, u.2, u.3)

-- ---- one item

abbrev ByExpression : Placed → Refusal → Type 0
ByExpression p = RepeatsIn p.expression

member_names : (d : Def) (f : Refusal) → RepeatsMember d f → NamesByDefinition d f
member_names (def.Struct d) f h = h
member_names d f h = absurd h

optional_to : (scope : Path) (o : Option Expr) (f : Refusal) → ByOptional RepeatsIn o f → InSome (λ k. ByExpression) (in_optional (one scope) o) f
optional_to scope None f h = absurd h
optional_to scope (Some e) f h = (0, placed scope e, refl, h)

optional_from : (scope : Path) (o : Option Expr) (f : Refusal) → InSome (λ k. ByExpression) (in_optional (one scope) o) f → ByOptional RepeatsIn o f
optional_from scope None f t = no_some t.2
optional_from scope (Some e) f t = some_one ByExpression (placed scope e) f t

value_from : (d : Def) (f : Refusal) → ByOptional RepeatsIn (value_in d) f → NamesByDefinition d f
value_from (def.Constant d) f h = h
value_from d f h = absurd h

expression_from : (i : Item) (f : Refusal) → InSome (λ k. ByExpression) (expressions_of i) f → NamesByItem i f
expression_from (item.Defined s) f t = value_from s.definition f (optional_from s.scope (value_in s.definition) f t)
expression_from (item.Enumerated e) f t = optional_from e.scope e.constant.value f t
expression_from (item.Declared d) f t = no_some t.2
expression_from (item.Used since n) f t = no_some t.2
expression_from (item.Written since p) f t = some_one ByExpression (placed p.scope p.expression) f t

module _ (source : Source) (ws : List WrittenType) where
  abbrev ByType : TypeHere → Refusal → Type 0
  ByType = BrokenByType source ws

  names_of_definition : (scope : Path) (d : Def) (f : Refusal) → NamesByDefinition d f
      → InSome (λ k. ByExpression) (in_optional (one scope) (value_in d)) f ⊎ InSome (λ k. ByType) (types_in scope d) f
  names_of_definition scope (def.Constant d) f h = inl (0, placed scope d.value, refl, h)
  names_of_definition scope (def.Struct d) f h = inr (0, type_here scope d.name (def.Struct d) d.default d.note, refl, inl h)
  names_of_definition scope d f h = absurd h

  names_to : (i : Item) (f : Refusal) → NamesByItem i f → InSome (λ k. ByExpression) (expressions_of i) f ⊎ InSome (λ k. ByType) (types_of i) f
  names_to (item.Defined s) f h = names_of_definition s.scope s.definition f h
  names_to (item.Enumerated e) f h = inl (optional_to e.scope e.constant.value f h)
  names_to (item.Declared d) f h = absurd h
  names_to (item.Used since n) f h = absurd h
  names_to (item.Written since p) f h = inl (0, placed p.scope p.expression, refl, h)

  enum_of_definition : (scope : Path) (d : Def) (f : Refusal) → BrokenByEnum source scope ws d f → InSome (λ k. ByType) (types_in scope d) f
  enum_of_definition scope (def.Enum d) f h = (0, type_here scope d.name (def.Enum d) d.default d.note, refl, inr h)
  enum_of_definition scope d f h = absurd h

  enum_to : (i : Item) (f : Refusal) → EnumByItem ws source i f → InSome (λ k. ByType) (types_of i) f
  enum_to (item.Defined s) f h = enum_of_definition s.scope s.definition f h
  enum_to i f h = absurd h

  type_there : (scope : Path) (n : Name) (d : Def) (e : Option Expr) (note : List ℕ) (f : Refusal) → InSome (λ k. ByType) (type_here scope n d e note ∷ []) f
      → NamesByDefinition d f ⊎ BrokenByEnum source scope ws d f
  type_there scope n d e note f t = go (some_one ByType (type_here scope n d e note) f t)
    where
      go : RepeatsMember d f ⊎ BrokenByEnum source scope ws d f → NamesByDefinition d f ⊎ BrokenByEnum source scope ws d f
      go (inl h) = inl (member_names d f h)
      go (inr h) = inr h

  type_of_definition : (scope : Path) (d : Def) (f : Refusal) → InSome (λ k. ByType) (types_in scope d) f → NamesByDefinition d f ⊎ BrokenByEnum source scope ws d f
  type_of_definition scope (def.Constant d) f t = no_some t.2
  type_of_definition scope (def.Abstract d) f t = type_there scope d.name (def.Abstract d) None d.note f t
  type_of_definition scope (def.Alias d) f t = type_there scope d.name (def.Alias d) None d.note f t
  type_of_definition scope (def.Array d) f t = type_there scope d.name (def.Array d) d.default d.note f t
  type_of_definition scope (def.Struct d) f t = type_there scope d.name (def.Struct d) d.default d.note f t
  type_of_definition scope (def.Enum d) f t = type_there scope d.name (def.Enum d) d.default d.note f t
  type_of_definition scope (def.Port d) f t = no_some t.2

  type_from : (i : Item) (f : Refusal) → InSome (λ k. ByType) (types_of i) f → NamesByItem i f ⊎ EnumByItem ws source i f
  type_from (item.Defined s) f t = type_of_definition s.scope s.definition f t
  type_from (item.Enumerated e) f t = no_some t.2
  type_from (item.Declared d) f t = no_some t.2
  type_from (item.Used since n) f t = no_some t.2
  type_from (item.Written since p) f t = no_some t.2

  -- ---- all items

  abbrev ByItems : Refusal → Type 0
  ByItems =
      Either (Either (TypePartsBroken source) (NumbersRepeated source)) (Either (InSome (λ k. NamesByItem) (items source)) (InSome (λ k. EnumByItem ws source) (items source)))

  forms_to : (f : Refusal) → ByItems f → FormsBroken source ws f
  forms_to f (inl (inl h)) = inl h
  forms_to f (inl (inr h)) = inr (inl h)
  forms_to f (inr (inl (k, i, at, h))) = go (names_to i f h)
    where
      go : InSome (λ k. ByExpression) (expressions_of i) f ⊎ InSome (λ k. ByType) (types_of i) f → FormsBroken source ws f
      go (inl t) = inr (inr (inl (into_flat ByExpression expressions_of (items source) f (k, i, at, t))))
      go (inr t) = inr (inr (inr (into_flat ByType types_of (items source) f (k, i, at, t))))
  forms_to f (inr (inr (k, i, at, h))) = inr (inr (inr (into_flat ByType types_of (items source) f (k, i, at, enum_to i f h))))

  forms_from : (f : Refusal) → FormsBroken source ws f → ByItems f
  forms_from f (inl h) = inl (inl h)
  forms_from f (inr (inl h)) = inl (inr h)
  forms_from f (inr (inr (inl t))) =
      let u = out_of_flat ByExpression expressions_of (items source) f t in inr (inl (u.0, u.1, u.2, expression_from u.1 f u.3))
  forms_from f (inr (inr (inr t))) = go (out_of_flat ByType types_of (items source) f t)
    where
      go : InSome (λ k x. InSome (λ j. ByType) (types_of x)) (items source) f → ByItems f
      go (k, i, at, u) = over (type_from i f u)
        where
          over : NamesByItem i f ⊎ EnumByItem ws source i f → ByItems f
          over (inl h) = inr (inl (k, i, at, h))
          over (inr h) = inr (inr (k, i, at, h))

  pub forms_least : (parts names numbers others first : Option Refusal) (is : List Item) → is ≡ items source → others ≡ lesser_of names numbers → first ≡ lesser_of parts others
      → IsLeast (Either (TypePartsBroken source) (NumbersRepeated source)) parts → IsLeast (InSome (λ k. NamesByItem) is) names
      → IsLeast (InSome (λ k. EnumByItem ws source) (items source)) numbers → IsLeast (FormsBroken source ws) first
  forms_least parts names numbers others first is laid others_is first_is l m n =
      least_same forms_to forms_from
      (least_along (sym first_is)
      (least_either parts others l
      (least_along (sym others_is)
      (least_either names numbers (subst (λ (xs : List Item). IsLeast (InSome (λ k. NamesByItem) xs) names) laid m) n))))
