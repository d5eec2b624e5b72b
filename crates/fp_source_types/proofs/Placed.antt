-- Places that are read off items are those of the types.
use Rattle.std.proofs.Common.{◌≡◌, ℕ, List, [], ◌∷◌, ◌++◌, map, flat_map, Option, refl, sym, ap, ◌∙◌, subst}
use Rattle.std.proofs.lemmas.List.{map-append}
use Rattle.fp_base.specs.declared.place.Place.{Place}
use Rattle.fp_base.specs.declared.refusal.Refusal.{Refusal}
use Rattle.fp_base.specs.Least.{InSome, IsLeast}
use Rattle.fp_tree.specs.declared.definition.Def.{Def}
use Rattle.fp_tree.specs.declared.definition.Def.TheVariants as def
use Rattle.fp_tree.specs.declared.expression.Expr.{Expr}
use Rattle.fp_tree.specs.declared.name.Name.{Name}
use Rattle.fp_meaning.specs.declared.item.Item.{Item}
use Rattle.fp_meaning.specs.declared.item.Item.TheVariants as item
use Rattle.fp_meaning.specs.Names.{Path}
use Rattle.fp_type_forms.specs.Written.{TypeHere, types_in, types_of}
use Rattle.fp_source_types.specs.Places.{place_in, places_of}

-- a place that the scope has no part in
module _ (at : Name → Option Expr → Place) where
  abbrev pub place : TypeHere → Place
  place t = at t.name t.default

  here : (scope : Path) (d : Def) → place_in place d ≡ map place (types_in scope d)
  here scope (def.Constant d) = refl
  here scope (def.Abstract d) = refl
  here scope (def.Alias d) = refl
  here scope (def.Array d) = refl
  here scope (def.Struct d) = refl
  here scope (def.Enum d) = refl
  here scope (def.Port d) = refl

  of_item : (i : Item) → places_of place i ≡ map place (types_of i)
  of_item (item.Defined s) = here s.scope s.definition
  of_item (item.Enumerated e) = refl
  of_item (item.Declared d) = refl
  of_item (item.Used since n) = refl
  of_item (item.Written since p) = refl

  placed : (is : List Item) → flat_map (places_of place) is ≡ map place (flat_map types_of is)
  placed [] = refl
  placed (i ∷ is) =
      ap (λ (ps : List Place). ps ++ flat_map (places_of place) is) (of_item i)
      ∙ ap (λ (ps : List Place). map place (types_of i) ++ ps) (placed is)
      ∙ sym (map-append place (types_of i) (flat_map types_of is))

  pub least_at : (P : ℕ → Place → Refusal → Type 0) (is : List Item) (ps : List Place) (o : Option Refusal) → ps ≡ flat_map (places_of place) is
      → IsLeast (InSome P ps) o → IsLeast (InSome P (map place (flat_map types_of is))) o
  least_at P is ps o e least = subst (λ (qs : List Place). IsLeast (InSome P qs) o) (e ∙ placed is) least
