-- How many types stand before a definition, and which type a definition is.
use Rattle.std.proofs.Common.{◌≡◌, ℕ, suc, ◌+◌, List, [], ◌∷◌, ◌++◌, length, drop, flat_map, take, slice_get, None, Some, refl, sym, ap, ◌∙◌, arith, length-append}
use Rattle.std.proofs.lemmas.Grind.{flat_map-append}
use Rattle.std.proofs.lemmas.List.{append-nil, take-append-drop}
use Rattle.std.proofs.Math.Nat.{zero-add}
use Rattle.fp_base.proofs.Lists.{take_next}
use Rattle.fp_tree.specs.declared.definition.Def.{Def}
use Rattle.fp_tree.specs.declared.definition.Def.TheVariants as def
use Rattle.fp_meaning.specs.declared.group.Group.TheVariants as group
use Rattle.fp_meaning.specs.declared.item.Item.{Item}
use Rattle.fp_meaning.specs.declared.item.Item.TheVariants as item
use Rattle.fp_meaning.specs.declared.names.Definition.{Definition}
use Rattle.fp_meaning.specs.Names.{Path, defined, definitions_of, group_of, model_group, model_name, name_of}
use Rattle.fp_meaning.specs.Sites.{ModelDef, machine, component, interface, instance, topology}
use Rattle.fp_type_forms.specs.Written.{TypeHere, type_here, type_count, types_among, types_before, types_in, types_of}
use Rattle.fp_source_types.proofs.Standing.{before}

-- ---- how many types stand before a definition

take_front : {A : Type 0} (xs ys : List A) → take (length xs) (xs ++ ys) ≡ xs
take_front [] ys = refl
take_front (x ∷ xs) ys = ap (λ l. x ∷ l) (take_front xs ys)

pub count_of : (scope : Path) (d : Def) → type_count (defined (group_of d) scope (name_of d)) ≡ length (types_in scope d)
count_of scope (def.Constant d) = refl
count_of scope (def.Abstract d) = refl
count_of scope (def.Alias d) = refl
count_of scope (def.Array d) = refl
count_of scope (def.Struct d) = refl
count_of scope (def.Enum d) = refl
count_of scope (def.Port d) = refl

-- other definitions are no types
pub no_type : (d : ModelDef) → model_group d ≡ group.Kind → ⊥
no_type (machine d) e = cc
no_type (component d) e = cc
no_type (interface d) e = cc
no_type (instance d) e = cc
no_type (topology d) e = cc

pub nothing_of : (scope : Path) (d : ModelDef) → type_count (defined (model_group d) scope (model_name d)) ≡ 0
nothing_of scope (machine d) = refl
nothing_of scope (component d) = refl
nothing_of scope (interface d) = refl
nothing_of scope (instance d) = refl
nothing_of scope (topology d) = refl

types_counted : (is : List Item) → types_among (flat_map definitions_of is) ≡ length (flat_map types_of is)
types_counted [] = refl
types_counted (item.Defined s ∷ is) =
    ap (λ (n : ℕ). n + types_among (flat_map definitions_of is)) (count_of s.scope s.definition)
    ∙ ap (λ (n : ℕ). length (types_in s.scope s.definition) + n) (types_counted is) ∙ sym (length-append (types_in s.scope s.definition) (flat_map types_of is))
types_counted (item.Enumerated e ∷ is) = zero-add _ ∙ types_counted is
types_counted (item.Declared d ∷ is) =
    ap (λ (n : ℕ). n + types_among (flat_map definitions_of is)) (nothing_of d.scope d.definition) ∙ zero-add _ ∙ types_counted is
types_counted (item.Used since n ∷ is) = types_counted is
types_counted (item.Written since w ∷ is) = types_counted is

pub types_at : (is : List Item) (p : ℕ) → types_before (flat_map definitions_of is) (before is p) ≡ length (flat_map types_of (take p is))
types_at is p =
    ap (λ (ds : List Definition). types_among (take (before is p) ds))
    (ap (flat_map definitions_of) (sym (take-append-drop p is)) ∙ flat_map-append definitions_of (take p is) (drop p is))
    ∙ ap types_among (take_front (flat_map definitions_of (take p is)) (flat_map definitions_of (drop p is))) ∙ types_counted (take p is)

pub before_one : (is : List Item) (p : ℕ) (i : Item) → slice_get is p ≡ Some i → before is p + length (definitions_of i) ≡ 0 + before is (suc p)
before_one is p i at =
    let next : suc p ≡ p + 1 = omega arith in
    let whole : flat_map definitions_of (take (suc p) is) ≡ flat_map definitions_of (take p is) ++ definitions_of i =
    ap (λ (n : ℕ). flat_map definitions_of (take n is)) next ∙ ap (flat_map definitions_of) (take_next is p i at) ∙ flat_map-append definitions_of (take p is) (i ∷ [])
    ∙ ap (λ (ds : List Definition). flat_map definitions_of (take p is) ++ ds) (append-nil (definitions_of i)) in
    let long : length (flat_map definitions_of (take (suc p) is)) ≡ length (flat_map definitions_of (take p is)) + length (definitions_of i) =
    ap length whole ∙ length-append (flat_map definitions_of (take p is)) (definitions_of i) in
    let same : length (flat_map definitions_of (take p is)) + length (definitions_of i) ≡ 0 + length (flat_map definitions_of (take (suc p) is)) = omega arith in
    same

-- a type definition is a type
pub record IsHere (scope : Path) (d : Def) : Type 0 where
  pub type : TypeHere
  pub here : types_in scope d ≡ type ∷ []
  pub in_scope : type.scope ≡ scope
  pub of_definition : type.definition ≡ d

pub type_of : (scope : Path) (d : Def) → group_of d ≡ group.Kind → IsHere scope d
type_of scope (def.Constant d) is = absurd (cc)
type_of scope (def.Port d) is = absurd (cc)
type_of scope (def.Abstract d) is = record { type = type_here scope d.name (def.Abstract d) None d.note; here = refl; in_scope = refl; of_definition = refl }
type_of scope (def.Alias d) is = record { type = type_here scope d.name (def.Alias d) None d.note; here = refl; in_scope = refl; of_definition = refl }
type_of scope (def.Array d) is = record { type = type_here scope d.name (def.Array d) d.default d.note; here = refl; in_scope = refl; of_definition = refl }
type_of scope (def.Struct d) is = record { type = type_here scope d.name (def.Struct d) d.default d.note; here = refl; in_scope = refl; of_definition = refl }
type_of scope (def.Enum d) is = record { type = type_here scope d.name (def.Enum d) d.default d.note; here = refl; in_scope = refl; of_definition = refl }
