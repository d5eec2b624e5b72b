-- Where names and values break no rule, each type name in ports and components names a type.
use Rattle.std.proofs.Common.{◌≡◌, ℕ, suc, List, [], ◌∷◌, flat_map, slice_get, Option, Some, None, refl, subst, inl, inr}
use Rattle.std.specs.List.{AllByRecursion as Each}
use Rattle.fp_base.proofs.Lists.{each_append, each_before, each_behind}
use Rattle.fp_base.specs.Least.{ByOptional, IsUnbroken}
use Rattle.fp_base.specs.declared.value.Value.{Value}
use Rattle.fp_tree.specs.declared.source.Source.{Source}
use Rattle.fp_tree.specs.declared.definition.Def.{Def}
use Rattle.fp_tree.specs.declared.definition.Def.TheVariants as def
use Rattle.fp_tree.specs.declared.definition.Port.{Port}
use Rattle.fp_tree.specs.declared.part.Formal.{Formal}
use Rattle.fp_tree.specs.declared.type_name.TypeName.{TypeName}
use Rattle.fp_meaning.specs.declared.item.Item.{Item}
use Rattle.fp_meaning.specs.declared.item.Item.TheVariants as item
use Rattle.fp_meaning.specs.Layout.{formal_items, items, part_items, type_items}
use Rattle.fp_meaning.specs.Names.{Path}
use Rattle.fp_meaning.specs.Origins.{expressions}
use Rattle.fp_meaning.specs.Sites.{Declaration, ModelDef, component, declaration, in_optional, instance, interface, machine, site, topology}
use Rattle.fp_type_forms.specs.Broken.{BrokenByName, TypePartsBroken}
use Rattle.fp_type_forms.specs.Resolved.{AreResolved}
use Rattle.fp_type_forms.specs.declared.resolving.Resolution.{Resolution}
use Rattle.fp_type_forms.proofs.Following.{items_whole}
use Rattle.fp_part_values.specs.Names.{formal_names, part_names, written}
use Rattle.fp_part_values.specs.FormStanding.{AreValued, NamesStand}
use Rattle.fp_part_values.proofs.Following.{OfName, of_formals, of_optional}
use Rattle.fp_part_values.proofs.Standing.{HasValue, Stands, all_stand, each_dropped, each_given, kind_of}
use Rattle.fp_component_forms.specs.Written.{AllHaveTypes, DefNamesStand, HasType, ItemNamesStand, ModelNamesStand, TypeNamesStand, port_type_names}

module _ (source : Source) (scope : Path) where
  of_listed : (fs : List Formal) → Each (OfName (Stands source) scope) (formal_names fs)
      → ((j : ℕ) (f : Formal) → slice_get fs j ≡ Some f → IsUnbroken (BrokenByName source scope f.of)) → AllHaveTypes source scope (formal_names fs)
  of_listed [] h quiet = tt
  of_listed (f ∷ fs) h quiet = (kind_of source scope f.of.at.first f.of.form h.0 (quiet 0 f refl), of_listed fs h.1 (λ j. quiet (suc j)))

  of_result : (o : Option TypeName) → Each (OfName (Stands source) scope) (written o) → IsUnbroken (ByOptional (BrokenByName source scope) o) → AllHaveTypes source scope (written o)
  of_result None h quiet = tt
  of_result (Some t) h quiet = (kind_of source scope t.at.first t.form h.0 quiet, tt)

  -- those of a definition of a port
  of_port : (p : Port) → Each (Stands source) (part_items scope (def.Port p))
      → ((j : ℕ) (f : Formal) → slice_get p.formals j ≡ Some f → IsUnbroken (BrokenByName source scope f.of))
      → IsUnbroken (ByOptional (BrokenByName source scope) p.result) → AllHaveTypes source scope (port_type_names p)
  of_port p h listed result =
      let formals = flat_map (formal_items scope) p.formals in
      let behind = in_optional (type_items 0 scope) p.result in
      each_append (HasType source scope) (formal_names p.formals) (written p.result)
      (of_listed p.formals (of_formals (Stands source) scope p.formals (each_before (Stands source) formals behind h)) listed)
      (of_result p.result (of_optional (Stands source) scope p.result (each_behind (Stands source) formals behind h)) result)

module _ (source : Source) (marks : List (Option Value)) (resolutions : List Resolution) (resolved : AreResolved source marks resolutions (items source) 0)
    (valued : AreValued source) (unbroken : IsUnbroken (TypePartsBroken source))
    (names : (k : ℕ) (d : Declaration) → slice_get (items source) k ≡ Some (item.Declared d) → NamesStand source d.scope d.definition) where
  stand : Each (Stands source) (items source)
  stand = all_stand source marks resolutions (items source) 0 resolved (each_given (HasValue source) (expressions source) valued)

  of_definition : (k : ℕ) (scope : Path) (d : Def) → slice_get (items source) k ≡ Some (item.Defined (site scope d)) → DefNamesStand source scope d
  of_definition k scope (def.Port p) at =
      let t = items_whole source k (site scope (def.Port p)) at in
      let own = each_before (Stands source) (part_items scope (def.Port p)) t.0 (subst (λ (l : List Item). Each (Stands source) l) t.1 (each_dropped (Stands source) (suc k) (items source) stand)) in
      of_port source scope p own (λ j f there g broken. unbroken g (k, item.Defined (site scope (def.Port p)), at, inl (j, f, there, broken)))
      (λ g broken. unbroken g (k, item.Defined (site scope (def.Port p)), at, inr broken))
  of_definition k scope (def.Constant d) at = tt
  of_definition k scope (def.Abstract d) at = tt
  of_definition k scope (def.Alias d) at = tt
  of_definition k scope (def.Array d) at = tt
  of_definition k scope (def.Struct d) at = tt
  of_definition k scope (def.Enum d) at = tt

  of_model : (k : ℕ) (scope : Path) (d : ModelDef) → slice_get (items source) k ≡ Some (item.Declared (declaration scope d)) → ModelNamesStand source scope d
  of_model k scope (component c) at = each_given (HasType source _) (flat_map part_names c.parts) (λ j t there. names k (declaration scope (component c)) at j t there)
  of_model k scope (machine d) at = tt
  of_model k scope (interface d) at = tt
  of_model k scope (instance d) at = tt
  of_model k scope (topology d) at = tt

  of_one : (k : ℕ) (i : Item) → slice_get (items source) k ≡ Some i → ItemNamesStand source i
  of_one k (item.Defined s) at = of_definition k s.scope s.definition at
  of_one k (item.Declared d) at = of_model k d.scope d.definition at
  of_one k (item.Enumerated e) at = tt
  of_one k (item.Used since n) at = tt
  of_one k (item.Written since p) at = tt

  pub type_names_stand : TypeNamesStand source
  type_names_stand = each_given (ItemNamesStand source) (items source) of_one
