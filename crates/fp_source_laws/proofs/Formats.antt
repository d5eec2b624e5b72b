-- What formats break is broken at them.
use Rattle.std.proofs.Common.{ℕ, List, [], ◌∷◌, ◌++◌, flat_map, length, Option, Some, None, inl, inr, sym, subst}
use Rattle.std.specs.List.{AllByRecursion as Each}
use Rattle.fp_base.specs.declared.place.Place.{Place}
use Rattle.fp_base.specs.declared.refusal.Refusal.{Refusal}
use Rattle.fp_base.proofs.Lists.{each_before, each_behind, of_item}
use Rattle.fp_tree.specs.declared.source.Source.{Source}
use Rattle.fp_tree.specs.declared.name.Str.{Str}
use Rattle.fp_tree.specs.declared.type_name.TypeName.{TypeName}
use Rattle.fp_tree.specs.declared.part.Field.{Field}
use Rattle.fp_tree.specs.declared.component.Part.{Part}
use Rattle.fp_tree.specs.declared.component.Part.TheVariants as part
use Rattle.fp_tree.specs.declared.definition.Def.{Def}
use Rattle.fp_tree.specs.declared.definition.Def.TheVariants as def
use Rattle.fp_meaning.specs.declared.item.Item.{Item}
use Rattle.fp_meaning.specs.declared.item.Item.TheVariants as item
use Rattle.fp_meaning.specs.Layout.{component_scope, items}
use Rattle.fp_meaning.specs.Names.{Path}
use Rattle.fp_meaning.specs.Sites.{ModelDef, component, in_optional, instance, interface, machine, topology}
use Rattle.fp_type_formats.specs.Broken.{BrokenByDefinition, BrokenByFields, BrokenByFormat, BrokenByItem, BrokenByModelDef, BrokenByPart, FormatsBroken, PrintsNoInteger}
use Rattle.fp_type_formats.specs.Integers.{NamesNoInteger}
use Rattle.fp_places.specs.Places.{places_in_definition, places_in_expression, places_in_field, places_in_format, places_in_part, places_in_type, places_of_model}
use Rattle.fp_places.proofs.Definitions.{StandOf}
use Rattle.fp_source_laws.proofs.Parted.{channel_places, split}

module _ (G : Place → Type 0) where
  fields_placed : (text : List ℕ) (place : Place) (values : ℕ) (unfit : ℕ → Type 0) (f : Refusal) → G place → BrokenByFields text place values unfit f → G f.place
  fields_placed text place values unfit f g (inl b) = subst (λ (x : Refusal). G x.place) (sym b.0) g
  fields_placed text place values unfit f g (inr (inl b)) = subst (λ (x : Refusal). G x.place) (sym b.0) g
  fields_placed text place values unfit f g (inr (inr b)) = subst (λ (x : Refusal). G x.place) (sym b.0) g

  formats_of : (ms : List Field) → Each G (flat_map places_in_field ms) → Each (λ (m : Field). Each G (in_optional places_in_format m.format)) ms
  formats_of [] h = tt
  formats_of (m ∷ ms) h =
      let here : Each G (places_in_field m) = each_before G (places_in_field m) (flat_map places_in_field ms) h in (
        each_behind G (in_optional places_in_expression m.size ++ places_in_type m.of) (in_optional places_in_format m.format) here.1,
        formats_of ms (each_behind G (places_in_field m) (flat_map places_in_field ms) h),
      )

  module _ (is : List Item) (scope : Path) where
    format_placed : (t : TypeName) (o : Option Str) (f : Refusal) → Each G (in_optional places_in_format o) → BrokenByFormat is scope t o f → G f.place
    format_placed t None f h b = absurd b
    format_placed t (Some s) f h b = fields_placed s.text s.at.first 1 (λ k. NamesNoInteger is 256 scope t.form) f h.0 b

    definition_placed : (d : Def) (f : Refusal) → Each G (places_in_definition d) → BrokenByDefinition is scope d f → G f.place
    definition_placed (def.Constant d) f h b = absurd b
    definition_placed (def.Abstract d) f h b = absurd b
    definition_placed (def.Alias d) f h b = absurd b
    definition_placed (def.Array d) f h b =
        format_placed d.element d.format f
        (each_behind G (places_in_expression d.size ++ places_in_type d.element ++ in_optional places_in_expression d.default) (in_optional places_in_format d.format) h.1) b
    definition_placed (def.Struct d) f h (k, m, at, b) =
        format_placed m.of m.format f
        (of_item (λ (x : Field). Each G (in_optional places_in_format x.format)) d.fields k m
        (formats_of d.fields (each_before G (flat_map places_in_field d.fields) (in_optional places_in_expression d.default) h.1)) at) b
    definition_placed (def.Enum d) f h b = absurd b
    definition_placed (def.Port d) f h b = absurd b

  module _ (is : List Item) where
    part_placed : (scope : Path) (p : Part) (f : Refusal) → Each G (places_in_part p) → BrokenByPart is scope p f → G f.place
    part_placed scope (part.Event e) f h b = fields_placed e.format.text e.format.at.first (length e.formals) (PrintsNoInteger is scope e.formals) f h.1.0 b
    part_placed scope (part.Channel c) f h b = format_placed is scope c.of c.format f (channel_places G c h).1.1.0 b
    part_placed scope p f h b = absurd b

    model_placed : (scope : Path) (d : ModelDef) (f : Refusal) → Each G (places_of_model d) → BrokenByModelDef is scope d f → G f.place
    model_placed scope (component c) f h (k, p, at, b) =
        part_placed (component_scope scope c) p f (of_item (λ (x : Part). Each G (places_in_part x)) c.parts k p (split G places_in_part c.parts h) at) b
    model_placed scope (machine d) f h b = absurd b
    model_placed scope (interface d) f h b = absurd b
    model_placed scope (instance d) f h b = absurd b
    model_placed scope (topology d) f h b = absurd b

  item_placed : (is : List Item) (i : Item) (f : Refusal) → StandOf G i → BrokenByItem is i f → G f.place
  item_placed is (item.Defined s) f h b = definition_placed is s.scope s.definition f h b
  item_placed is (item.Enumerated e) f h b = absurd b
  item_placed is (item.Declared d) f h b = model_placed is d.scope d.definition f h.1 b
  item_placed is (item.Used since n) f h b = absurd b
  item_placed is (item.Written since p) f h b = absurd b

  pub formats_placed : (source : Source) → Each (StandOf G) (items source) → (f : Refusal) → FormatsBroken source f → G f.place
  formats_placed source all f (k, i, at, b) = item_placed (items source) i f (of_item (StandOf G) (items source) k i all at) b
