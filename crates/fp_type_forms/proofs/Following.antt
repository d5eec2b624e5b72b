-- Behind a definition stand its parts.
use Rattle.std.proofs.Common.{◌≡◌, ℕ, zero, suc, List, [], ◌∷◌, ◌++◌, drop, flat_map, slice_get, Option, Some, None, sym, ap, ◌∙◌, append_assoc}
use Rattle.std.specs.List.{AllByRecursion}
use Rattle.std.proofs.lemmas.List.{append-nil}
use Rattle.fp_base.proofs.Lists.{each_append, each_flat, each_of_any, of_item}
use Rattle.fp_tree.specs.declared.source.Source.{Source}
use Rattle.fp_tree.specs.declared.definition.Def.{Def}
use Rattle.fp_tree.specs.declared.definition.Def.TheVariants as def
use Rattle.fp_tree.specs.declared.definition.Enum.{Enum}
use Rattle.fp_tree.specs.declared.expression.Expr.{Expr}
use Rattle.fp_tree.specs.declared.type_name.TypeName.{TypeName}
use Rattle.fp_tree.specs.declared.type_name.TypeForm.{TypeForm}
use Rattle.fp_tree.specs.declared.type_name.TypeForm.TheVariants as type
use Rattle.fp_tree.specs.declared.part.EnumConst.{EnumConst}
use Rattle.fp_tree.specs.declared.part.Field.{Field}
use Rattle.fp_tree.specs.declared.part.Formal.{Formal}
use Rattle.fp_meaning.specs.declared.item.Item.{Item}
use Rattle.fp_meaning.specs.declared.item.Item.TheVariants as item
use Rattle.fp_meaning.specs.Sites.{Path, Site, ModelDef, Declaration, declaration, in_optional}
use Rattle.fp_meaning.specs.Layout.{model_own_items, expression_items, type_form_items, type_items, field_items, formal_items, constant_items, part_items, items_in, items}
use Rattle.fp_meaning.proofs.Since.{AllSince}
use Rattle.fp_meaning.proofs.Throughout.{all_items, all_exactly, since_model}

-- ---- no definition stands among the parts of one

abbrev pub IsPart : Item → Type 0
IsPart (item.Defined s) = ⊥
IsPart (item.Declared d) = ⊥
IsPart _ = Unit {0}

abbrev AreParts : List Item → Type 0
AreParts is = AllByRecursion IsPart is

expression_parts : (since : ℕ) (scope : Path) (o : Option Expr) → AreParts (in_optional (expression_items since scope) o)
expression_parts since scope None = tt
expression_parts since scope (Some e) = (tt, tt)

form_parts : (since : ℕ) (scope : Path) (t : TypeForm) → AreParts (type_form_items since scope t)
form_parts since scope (type.Text size) = expression_parts since scope size
form_parts since scope (type.Use q) = (tt, tt)
form_parts since scope t = tt

name_parts : (scope : Path) (o : Option TypeName) → AreParts (in_optional (type_items 0 scope) o)
name_parts scope None = tt
name_parts scope (Some t) = form_parts 0 scope t.form

listed_parts : (scope : Path) (d : Enum) (k : ℕ) (cs : List EnumConst) → AreParts (constant_items scope d k cs)
listed_parts scope d k [] = tt
listed_parts scope d k (c ∷ cs) = (tt, listed_parts scope d (suc k) cs)

both_parts : (xs ys : List Item) → AreParts xs → AreParts ys → AreParts (xs ++ ys)
both_parts xs ys h k = each_append IsPart xs ys h k

field_parts : (scope : Path) (f : Field) → AreParts (field_items scope f)
field_parts scope f = both_parts (in_optional (expression_items 0 scope) f.size) (type_items 0 scope f.of) (expression_parts 0 scope f.size) (form_parts 0 scope f.of.form)

pub are_parts : (scope : Path) (d : Def) → AreParts (part_items scope d)
are_parts scope (def.Constant d) = tt
are_parts scope (def.Abstract d) = tt
are_parts scope (def.Alias d) = form_parts 0 scope d.target.form
are_parts scope (def.Array d) =
    both_parts (expression_items 0 scope d.size ++ type_items 0 scope d.element) (in_optional (expression_items 0 scope) d.default)
    (both_parts (expression_items 0 scope d.size) (type_items 0 scope d.element) (tt, tt) (form_parts 0 scope d.element.form)) (expression_parts 0 scope d.default)
are_parts scope (def.Struct d) =
    both_parts (flat_map (field_items scope) d.fields) (in_optional (expression_items 0 scope) d.default)
    (each_flat IsPart (field_items scope) d.fields (each_of_any (λ (f : Field). AreParts (field_items scope f)) (field_parts scope) d.fields)) (expression_parts 0 scope d.default)
are_parts scope (def.Enum d) =
    both_parts (in_optional (type_items 0 scope) d.repr ++ constant_items scope d 0 d.constants) (in_optional (expression_items _ scope) d.default)
    (both_parts (in_optional (type_items 0 scope) d.repr) (constant_items scope d 0 d.constants) (name_parts scope d.repr) (listed_parts scope d 0 d.constants))
    (expression_parts _ scope d.default)
are_parts scope (def.Port d) =
    both_parts (flat_map (formal_items scope) d.formals) (in_optional (type_items 0 scope) d.result)
    (each_flat IsPart (formal_items scope) d.formals (each_of_any (λ (f : Formal). AreParts (formal_items scope f)) (λ f. form_parts 0 scope f.of.form) d.formals))
    (name_parts scope d.result)

-- ---- behind each definition of a list stand its parts

module _ {A : Type 0} (put : A → Item) (parts : A → List Item) where
  abbrev AreFollowed : List Item → Type 0
  AreFollowed is = (k : ℕ) (x : A) → slice_get is k ≡ Some (put x) → (rest : List Item) × (drop (suc k) is ≡ parts x ++ rest)

  followed_nothing : AreFollowed []
  followed_nothing k x at = absurd (cc)

  followed_joined : (xs ys : List Item) → AreFollowed xs → AreFollowed ys → AreFollowed (xs ++ ys)
  followed_joined [] ys h g k x at = g k x at
  followed_joined (i ∷ xs) ys h g zero x at = let t = h zero x at in (t.0 ++ ys, ap (λ (l : List Item). l ++ ys) t.1 ∙ append_assoc (parts x) t.0 ys)
  followed_joined (i ∷ xs) ys h g (suc k) x at = followed_joined xs ys (λ j. h (suc j)) g k x at

abbrev pub AreWhole : List Item → Type 0
AreWhole is = (k : ℕ) (s : Site) → slice_get is k ≡ Some (item.Defined s) → (rest : List Item) × (drop (suc k) is ≡ part_items s.scope s.definition ++ rest)

abbrev pub AreOwned : List Item → Type 0
AreOwned is = (k : ℕ) (d : Declaration) → slice_get is k ≡ Some (item.Declared d) → (rest : List Item) × (drop (suc k) is ≡ model_own_items d.scope d.definition ++ rest)

same_site : {s t : Site} → ◌≡◌ {A = Option Item} (Some (item.Defined s)) (Some (item.Defined t)) → s ≡ t
same_site e = cc

whole_definition : (scope : Path) (d : Def) → AreWhole (items_in scope d)
whole_definition scope d zero s at =
    ([], sym (append-nil (part_items scope d)) ∙ ap (λ (t : Site). part_items t.scope t.definition ++ []) (same_site at))
whole_definition scope d (suc k) s at = absurd (of_item IsPart (part_items scope d) k (item.Defined s) (are_parts scope d) at)

-- nor among what belongs to another definition
since_parts : (since : ℕ) (is : List Item) → AllSince since is → AreParts is
since_parts since [] h = tt
since_parts since (item.Used m n ∷ is) h = (tt, since_parts since is h.1)
since_parts since (item.Written m p ∷ is) h = (tt, since_parts since is h.1)
since_parts since (item.Defined s ∷ is) h = absurd h
since_parts since (item.Enumerated e ∷ is) h = absurd h
since_parts since (item.Declared d ∷ is) h = absurd h

whole_declared : (scope : Path) (d : ModelDef) (is : List Item) → AllSince 0 is → AreWhole (item.Declared (declaration scope d) ∷ is)
whole_declared scope d is h zero s at = absurd (cc)
whole_declared scope d is h (suc k) s at = absurd (of_item IsPart is k (item.Defined s) (since_parts 0 is h) at)

pub items_whole : (source : Source) → AreWhole (items source)
items_whole source =
    all_items AreWhole (followed_nothing item.Defined (λ s. part_items s.scope s.definition)) (followed_joined item.Defined (λ s. part_items s.scope s.definition)) whole_definition whole_declared source

-- behind each other definition stands what belongs to it
same_declaration : {d e : Declaration} → ◌≡◌ {A = Option Item} (Some (item.Declared d)) (Some (item.Declared e)) → d ≡ e
same_declaration e = cc

owned_definition : (scope : Path) (d : Def) → AreOwned (items_in scope d)
owned_definition scope d zero e at = absurd (cc)
owned_definition scope d (suc k) e at = absurd (of_item IsPart (part_items scope d) k (item.Declared e) (are_parts scope d) at)

owned_declared : (scope : Path) (d : ModelDef) → AreOwned (item.Declared (declaration scope d) ∷ model_own_items scope d)
owned_declared scope d zero e at =
    ([], sym (append-nil (model_own_items scope d)) ∙ ap (λ (t : Declaration). model_own_items t.scope t.definition ++ []) (same_declaration at))
owned_declared scope d (suc k) e at =
    absurd (of_item IsPart (model_own_items scope d) k (item.Declared e) (since_parts 0 (model_own_items scope d) (since_model scope d)) at)

pub items_owned : (source : Source) → AreOwned (items source)
items_owned source =
    all_exactly AreOwned (followed_nothing item.Declared (λ d. model_own_items d.scope d.definition)) (followed_joined item.Declared (λ d. model_own_items d.scope d.definition)) owned_definition owned_declared source
