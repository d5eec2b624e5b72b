-- A name or an expression that stands beside the values of definitions belongs to a definition that has no value.
use Rattle.std.proofs.Common.{◌≡◌, ℕ, suc, ◌+◌, ◌-◌, List, [], ◌∷◌, ◌++◌, length, flat_map, slice_get, Some, refl, sym, ap, subst, ◌∙◌, arith, length-append, append_assoc}
use Rattle.std.proofs.lemmas.List.{append-nil}
use Rattle.std.proofs.lemmas.Grind.{flat_map-append}
use Rattle.fp_base.proofs.Lists.{get_front, get_last}
use Rattle.fp_tree.specs.declared.source.Source.{Source}
use Rattle.fp_tree.specs.declared.definition.Def.{Def}
use Rattle.fp_tree.specs.declared.definition.Def.TheVariants as def
use Rattle.fp_tree.specs.declared.definition.Enum.{Enum}
use Rattle.fp_tree.specs.declared.part.EnumConst.{EnumConst}
use Rattle.fp_meaning.specs.declared.item.Item.{Item}
use Rattle.fp_meaning.specs.declared.item.Item.TheVariants as item
use Rattle.fp_meaning.specs.Sites.{Path, in_optional}
use Rattle.fp_meaning.specs.Layout.{expression_items, type_items, field_items, formal_items, constant_items, enum_items, items_in, items}
use Rattle.fp_meaning.proofs.Since.{AllSince, since_both, since_optional, since_form, since_type, since_fields, since_formals}
use Rattle.fp_meaning.proofs.Throughout.{all_items}
use Rattle.fp_meaning.specs.Origins.{Origin, NoValue, origins_of}

-- of items behind definitions with these origins
abbrev pub AreApart : List Origin → List Item → Type 0
AreApart before [] = Unit {0}
AreApart before (item.Used since n ∷ is) = (slice_get before (length before - 1 - since) ≡ Some NoValue) × AreApart before is
AreApart before (item.Written since p ∷ is) = (slice_get before (length before - 1 - since) ≡ Some NoValue) × AreApart before is
AreApart before (item.Defined s ∷ is) = AreApart (before ++ origins_of (item.Defined s)) is
AreApart before (item.Enumerated e ∷ is) = AreApart (before ++ origins_of (item.Enumerated e)) is
AreApart before (item.Declared d ∷ is) = AreApart (before ++ origins_of (item.Declared d)) is

apart_both : (before : List Origin) (xs ys : List Item) → AreApart before xs → AreApart (before ++ flat_map origins_of xs) ys → AreApart before (xs ++ ys)
apart_both before [] ys h k = subst (λ (os : List Origin). AreApart os ys) (append-nil before) k
apart_both before (item.Used since n ∷ xs) ys h k = (h.0, apart_both before xs ys h.1 k)
apart_both before (item.Written since p ∷ xs) ys h k = (h.0, apart_both before xs ys h.1 k)
apart_both before (item.Defined s ∷ xs) ys h k =
    apart_both (before ++ origins_of (item.Defined s)) xs ys h
    (subst (λ (os : List Origin). AreApart os ys) (sym (append_assoc before (origins_of (item.Defined s)) (flat_map origins_of xs))) k)
apart_both before (item.Enumerated e ∷ xs) ys h k =
    apart_both (before ++ origins_of (item.Enumerated e)) xs ys h
    (subst (λ (os : List Origin). AreApart os ys) (sym (append_assoc before (origins_of (item.Enumerated e)) (flat_map origins_of xs))) k)
apart_both before (item.Declared d ∷ xs) ys h k =
    apart_both (before ++ origins_of (item.Declared d)) xs ys h
    (subst (λ (os : List Origin). AreApart os ys) (sym (append_assoc before (origins_of (item.Declared d)) (flat_map origins_of xs))) k)

-- ---- within one definition

since_apart : (before : List Origin) (since : ℕ) (xs : List Item) → slice_get before (length before - 1 - since) ≡ Some NoValue → AllSince since xs → AreApart before xs
since_apart before since [] at h = tt
since_apart before since (item.Used m n ∷ xs) at h =
    (subst (λ (k : ℕ). slice_get before (length before - 1 - k) ≡ Some NoValue) (sym h.0) at, since_apart before since xs at h.1)
since_apart before since (item.Written m p ∷ xs) at h =
    (subst (λ (k : ℕ). slice_get before (length before - 1 - k) ≡ Some NoValue) (sym h.0) at, since_apart before since xs at h.1)
since_apart before since (item.Defined s ∷ xs) at h = absurd h
since_apart before since (item.Enumerated e ∷ xs) at h = absurd h
since_apart before since (item.Declared d ∷ xs) at h = absurd h

no_origins : (since : ℕ) (xs : List Item) → AllSince since xs → flat_map origins_of xs ≡ []
no_origins since [] h = refl
no_origins since (item.Used m n ∷ xs) h = no_origins since xs h.1
no_origins since (item.Written m p ∷ xs) h = no_origins since xs h.1
no_origins since (item.Defined s ∷ xs) h = absurd h
no_origins since (item.Enumerated e ∷ xs) h = absurd h
no_origins since (item.Declared d ∷ xs) h = absurd h

constants_apart : (before : List Origin) (scope : Path) (e : Enum) (position : ℕ) (cs : List EnumConst) → AreApart before (constant_items scope e position cs)
constants_apart before scope e position [] = tt
constants_apart before scope e position (c ∷ cs) = constants_apart _ scope e (suc position) cs

constants_many : (scope : Path) (e : Enum) (position : ℕ) (cs : List EnumConst) → length (flat_map origins_of (constant_items scope e position cs)) ≡ length cs
constants_many scope e position [] = refl
constants_many scope e position (c ∷ cs) = ap suc (constants_many scope e (suc position) cs)

-- so many definitions behind one without a value
index_of : (b n since : ℕ) → n ≡ since → b + 1 + n - 1 - since ≡ b
index_of b n since e = omega arith

none_at : (before later : List Origin) (since : ℕ) → length later ≡ since
    → slice_get ((before ++ NoValue ∷ []) ++ later) (length ((before ++ NoValue ∷ []) ++ later) - 1 - since) ≡ Some NoValue
none_at before later since many =
    let long : length ((before ++ NoValue ∷ []) ++ later) ≡ length before + 1 + length later =
    length-append (before ++ NoValue ∷ []) later ∙ ap (λ (n : ℕ). n + length later) (length-append before (NoValue ∷ [])) in
    let index : length ((before ++ NoValue ∷ []) ++ later) - 1 - since ≡ length before =
    ap (λ (n : ℕ). n - 1 - since) long ∙ index_of (length before) (length later) since many in
    subst (λ (i : ℕ). slice_get ((before ++ NoValue ∷ []) ++ later) i ≡ Some NoValue) (sym index)
    (get_front (before ++ NoValue ∷ []) later (length before) NoValue (get_last before NoValue))

none_last : (before : List Origin) → slice_get (before ++ NoValue ∷ []) (length (before ++ NoValue ∷ []) - 1 - 0) ≡ Some NoValue
none_last before = subst (λ (os : List Origin). slice_get os (length os - 1 - 0) ≡ Some NoValue) (append-nil (before ++ NoValue ∷ [])) (none_at before [] 0 refl)

parts_apart : (before : List Origin) (xs : List Item) → AllSince 0 xs → AreApart (before ++ NoValue ∷ []) xs
parts_apart before xs h = since_apart (before ++ NoValue ∷ []) 0 xs (none_last before) h

module _ (before : List Origin) (scope : Path) (d : Enum) where
  abbrev of_type : List Item
  of_type = in_optional (type_items 0 scope) d.repr

  abbrev of_constants : List Item
  of_constants = constant_items scope d 0 d.constants

  abbrev of_default : List Item
  of_default = in_optional (expression_items (length d.constants) scope) d.default

  many_before : length (flat_map origins_of (of_type ++ of_constants)) ≡ length d.constants
  many_before =
      ap (λ (os : List Origin). length os)
      (flat_map-append origins_of of_type of_constants
      ∙ ap (λ (os : List Origin). os ++ flat_map origins_of of_constants) (no_origins 0 of_type (since_type scope d.repr)))
      ∙ constants_many scope d 0 d.constants

  enum_apart : AreApart (before ++ NoValue ∷ []) (enum_items scope d)
  enum_apart =
      apart_both (before ++ NoValue ∷ []) (of_type ++ of_constants) of_default
      (apart_both (before ++ NoValue ∷ []) of_type of_constants (parts_apart before of_type (since_type scope d.repr)) (constants_apart _ scope d 0 d.constants))
      (since_apart ((before ++ NoValue ∷ []) ++ flat_map origins_of (of_type ++ of_constants)) (length d.constants) of_default
      (none_at before (flat_map origins_of (of_type ++ of_constants)) (length d.constants) many_before) (since_optional (length d.constants) scope d.default))

def_apart : (before : List Origin) (scope : Path) (d : Def) → AreApart before (items_in scope d)
def_apart before scope (def.Constant d) = tt
def_apart before scope (def.Abstract d) = tt
def_apart before scope (def.Alias d) = parts_apart before (type_items 0 scope d.target) (since_form 0 scope d.target.form)
def_apart before scope (def.Array d) =
    parts_apart before (expression_items 0 scope d.size ++ type_items 0 scope d.element ++ in_optional (expression_items 0 scope) d.default)
    (since_both 0 (expression_items 0 scope d.size ++ type_items 0 scope d.element) (in_optional (expression_items 0 scope) d.default)
    (since_both 0 (expression_items 0 scope d.size) (type_items 0 scope d.element) (refl, tt) (since_form 0 scope d.element.form)) (since_optional 0 scope d.default))
def_apart before scope (def.Struct d) =
    parts_apart before (flat_map (field_items scope) d.fields ++ in_optional (expression_items 0 scope) d.default)
    (since_both 0 (flat_map (field_items scope) d.fields) (in_optional (expression_items 0 scope) d.default) (since_fields scope d.fields) (since_optional 0 scope d.default))
def_apart before scope (def.Enum d) = enum_apart before scope d
def_apart before scope (def.Port d) =
    parts_apart before (flat_map (formal_items scope) d.formals ++ in_optional (type_items 0 scope) d.result)
    (since_both 0 (flat_map (formal_items scope) d.formals) (in_optional (type_items 0 scope) d.result) (since_formals scope d.formals) (since_type scope d.result))

-- ---- in a whole source

pub source_apart : (source : Source) → AreApart [] (items source)
source_apart source =
    all_items (λ is. (before : List Origin) → AreApart before is) (λ before. tt) (λ xs ys h k before. apart_both before xs ys (h before) (k _)) (λ scope d before. def_apart before scope d)
    (λ scope d is h before. parts_apart before is h) source []
