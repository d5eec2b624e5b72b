-- The names of constants are names joined by dots.
use Rattle.std.proofs.Common.{◌≡◌, ℕ, suc, true, List, [], ◌∷◌, refl, ap, ◌∙◌}
use Rattle.std.specs.List.{AllByRecursion, list_all}
use Rattle.fp_component_forms.specs.Written.{qualified}
use Rattle.fp_sound_parts.proofs.Named.{qualified_name, HasName}
use Rattle.fp_base.proofs.Bools.{join}
use Rattle.fp_base.proofs.Lists.{each_flat, each_weaker, each_item, each_part}
use Rattle.fp_tree.specs.declared.source.Source.{Source}
use Rattle.fp_tree.specs.declared.definition.Def.{Def}
use Rattle.fp_tree.specs.declared.definition.Def.TheVariants as def
use Rattle.fp_tables.specs.Names.{is_qualified}
use Rattle.fp_tables.specs.declared.kind.Constant.{Constant}
use Rattle.fp_meaning.specs.declared.item.Item.{Item}
use Rattle.fp_meaning.specs.declared.item.Item.TheVariants as item
use Rattle.fp_meaning.specs.Layout.{items}
use Rattle.fp_meaning.specs.Names.{Path, definitions, definitions_of, name_of, IsMadeOfNames}
use Rattle.fp_type_forms.specs.Written.{AllAt}
use Rattle.fp_source_types.specs.Named.{DefinitionsAreNamed}
use Rattle.fp_model.specs.Defined.{AreConstants, IsConstant}
use Rattle.fp_model.specs.Definitions.{ConstantHere, constants, constants_in, constants_of}

abbrev Names : Item → Type 0
Names i = AllByRecursion IsMadeOfNames (definitions_of i)

constants_named : (i : Item) → Names i → AllByRecursion (λ (h : ConstantHere). is_qualified (qualified h.scope h.constant.name) ≡ true) (constants_of i)
constants_named (item.Defined s) h = of_definition s.scope s.definition h.0
  where
    of_definition : (scope : Path) (d : Def) → HasName scope (name_of d).text → AllByRecursion (λ (h : ConstantHere). is_qualified (qualified h.scope h.constant.name) ≡ true) (constants_in scope d)
    of_definition scope (def.Constant d) h = (qualified_name scope d.name.text h, tt)
    of_definition scope (def.Abstract d) h = tt
    of_definition scope (def.Alias d) h = tt
    of_definition scope (def.Array d) h = tt
    of_definition scope (def.Struct d) h = tt
    of_definition scope (def.Enum d) h = tt
    of_definition scope (def.Port d) h = tt
constants_named (item.Enumerated e) h = tt
constants_named (item.Declared d) h = tt
constants_named (item.Used since n) h = tt
constants_named (item.Written since p) h = tt

module _ (source : Source) (named : DefinitionsAreNamed source) where
  items_named : AllByRecursion Names (items source)
  items_named = each_part IsMadeOfNames definitions_of (items source) (each_item IsMadeOfNames (definitions source) named)

  -- at any place of the first
  constants_qualified : (k : ℕ) (hs : List ConstantHere) (cs : List Constant) → AllByRecursion (λ (h : ConstantHere). is_qualified (qualified h.scope h.constant.name) ≡ true) hs
      → AllAt (λ position. IsConstant source) k hs cs → list_all (λ (c : Constant). is_qualified c.name) cs ≡ true
  constants_qualified k [] [] each are = refl
  constants_qualified k [] (c ∷ cs) each are = absurd are
  constants_qualified k (h ∷ hs) [] each are = absurd are
  constants_qualified k (h ∷ hs) (c ∷ cs) each are =
      join (is_qualified c.name) (list_all (λ (x : Constant). is_qualified x.name) cs) (ap is_qualified are.0.name ∙ each.0) (constants_qualified (suc k) hs cs each.1 are.1)

  pub each_constant_qualified : (cs : List Constant) → AreConstants source (constants source) cs → list_all (λ (c : Constant). is_qualified c.name) cs ≡ true
  each_constant_qualified cs are =
      constants_qualified 0 (constants source) cs
      (each_flat (λ (h : ConstantHere). is_qualified (qualified h.scope h.constant.name) ≡ true) constants_of (items source)
      (each_weaker Names (λ (i : Item). AllByRecursion (λ (h : ConstantHere). is_qualified (qualified h.scope h.constant.name) ≡ true) (constants_of i)) constants_named (items source) items_named)) are
