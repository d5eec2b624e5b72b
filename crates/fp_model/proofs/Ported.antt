-- No two definitions of ports have one name.
use Rattle.std.proofs.Common.{◌≡◌, ℕ, suc, true, not, ◌&&◌, List, [], ◌∷◌, map, slice_get, Some, refl, sym, ap, subst, ◌∙◌}
use Rattle.std.specs.Prelude.{zero}
use Rattle.std.specs.List.{AllByRecursion as Each, list_any}
use Rattle.std.specs.Str.{bytes_eq}
use Rattle.std.proofs.lemmas.Option.{none-some, slice_get-map}
use Rattle.fp_base.proofs.Bools.{both, never_true, or_left, or_right}
use Rattle.fp_base.proofs.Options.{mapped_some, same_some}
use Rattle.fp_base.proofs.Bytes.{bytes_same}
use Rattle.fp_base.specs.Least.{IsUnbroken}
use Rattle.fp_part_values.proofs.Standing.{each_given}
use Rattle.fp_tree.specs.declared.source.Source.{Source}
use Rattle.fp_tree.specs.declared.definition.Def.{Def}
use Rattle.fp_tree.specs.declared.definition.Def.TheVariants as def
use Rattle.fp_tree.specs.declared.definition.Port.{Port}
use Rattle.fp_tables.specs.Names.{texts_differ}
use Rattle.fp_tables.specs.declared.kind.PortDef.{PortDef}
use Rattle.fp_tables.specs.declared.model.Model.{Model}
use Rattle.fp_meaning.specs.declared.group.Group.{Group}
use Rattle.fp_meaning.specs.declared.group.Group.TheVariants as group
use Rattle.fp_meaning.specs.declared.item.Item.{Item}
use Rattle.fp_meaning.specs.declared.item.Item.TheVariants as item
use Rattle.fp_meaning.specs.Broken.{BrokenByDefinitions}
use Rattle.fp_meaning.specs.Layout.{items}
use Rattle.fp_meaning.specs.Names.{Path, defined, definitions, definitions_of, group_of, model_group, model_name, name_of, IsMadeOfNames}
use Rattle.fp_meaning.specs.Sites.{ModelDef, component, instance, interface, machine, topology}
use Rattle.fp_component_forms.specs.Written.{PortDefIs, Scoped, port_in, port_declared, qualified, same_group}
use Rattle.fp_components.specs.Resolved.{port_def_of}
use Rattle.fp_source_types.specs.Named.{DefinitionsAreNamed}
use Rattle.fp_written_parts.specs.declared.port.WrittenPortDef.{WrittenPortDef}
use Rattle.fp_topology_forms.proofs.Texts.{source_once, texts_in, written_apart}
use Rattle.fp_sound_parts.specs.Premises.{DefinitionsDiffer}
use Rattle.fp_model.specs.Defined.{HasParts}

of_ports : (h : Group) → same_group group.Port h ≡ true → h ≡ group.Port
of_ports group.Port e = refl
of_ports group.Kind e = absurd (cc)
of_ports group.Value e = absurd (cc)
of_ports group.Topology e = absurd (cc)
of_ports group.Component e = absurd (cc)
of_ports group.Instance e = absurd (cc)
of_ports group.Machine e = absurd (cc)
of_ports group.Interface e = absurd (cc)

abbrev text_of : Scoped Port → List ℕ
text_of s = qualified s.scope s.node.name

port_texts : (i : Item) → texts_in group.Port (definitions_of i) ≡ map text_of (port_declared i)
port_texts (item.Defined s) = of_definition s.scope s.definition
  where
    of_definition : (scope : Path) (d : Def) → texts_in group.Port (defined (group_of d) scope (name_of d) ∷ []) ≡ map text_of (port_in scope d)
    of_definition scope (def.Constant d) = refl
    of_definition scope (def.Abstract d) = refl
    of_definition scope (def.Alias d) = refl
    of_definition scope (def.Array d) = refl
    of_definition scope (def.Struct d) = refl
    of_definition scope (def.Enum d) = refl
    of_definition scope (def.Port d) = refl
port_texts (item.Enumerated e) = refl
port_texts (item.Declared d) = of_model d.scope d.definition
  where
    of_model : (scope : Path) (d : ModelDef) → texts_in group.Port (defined (model_group d) scope (model_name d) ∷ []) ≡ []
    of_model scope (machine d) = refl
    of_model scope (component d) = refl
    of_model scope (interface d) = refl
    of_model scope (instance d) = refl
    of_model scope (topology d) = refl
port_texts (item.Used since n) = refl
port_texts (item.Written since p) = refl

module _ {A : Type 0} (name : A → List ℕ) where
  among : (t : List ℕ) (xs : List A) (k : ℕ) (e : A) → slice_get xs k ≡ Some e → t ≡ name e → list_any (bytes_eq t) (map name xs) ≡ true
  among t [] k e at same = absurd (none-some e at)
  among t (x ∷ xs) zero e at same = or_left (bytes_eq t (name x)) (list_any (bytes_eq t) (map name xs)) (bytes_same t (name x) (same ∙ ap name (sym (same_some at))))
  among t (x ∷ xs) (suc k) e at same = or_right (bytes_eq t (name x)) (list_any (bytes_eq t) (map name xs)) (among t xs k e at same)

  apart : (xs : List A) → texts_differ (map name xs) ≡ true → (j k : ℕ) (d e : A) → slice_get xs j ≡ Some d → slice_get xs k ≡ Some e → name d ≡ name e → j ≡ k
  apart [] h j k d e at there same = absurd (none-some d at)
  apart (x ∷ xs) h zero zero d e at there same = refl
  apart (x ∷ xs) h zero (suc k) d e at there same =
      absurd (never_true (list_any (bytes_eq (name x)) (map name xs)) (both (not (list_any (bytes_eq (name x)) (map name xs))) (texts_differ (map name xs)) h).0
      (among (name x) xs k e there (ap name (same_some at) ∙ same)))
  apart (x ∷ xs) h (suc j) zero d e at there same =
      absurd (never_true (list_any (bytes_eq (name x)) (map name xs)) (both (not (list_any (bytes_eq (name x)) (map name xs))) (texts_differ (map name xs)) h).0
      (among (name x) xs j d at (ap name (same_some there) ∙ sym same)))
  apart (x ∷ xs) h (suc j) (suc k) d e at there same =
      ap (λ (n : ℕ). suc n) (apart xs (both (not (list_any (bytes_eq (name x)) (map name xs))) (texts_differ (map name xs)) h).1 j k d e at there same)

module _ (source : Source) (m : Model) (p : HasParts source m) (once : IsUnbroken (BrokenByDefinitions source)) (named : DefinitionsAreNamed source) where
  each_named : Each IsMadeOfNames (definitions source)
  each_named = each_given IsMadeOfNames (definitions source) named

  written_differ : texts_differ (map (λ (w : WrittenPortDef). w.name) p.2.written.definitions) ≡ true
  written_differ =
      written_apart group.Port (λ (d : Port). d.name) port_declared (PortDefIs source) (λ (w : WrittenPortDef). w.name) (λ s w h. h.name) of_ports port_texts (items source) p.2.written.definitions
      p.2.are.definitions (source_once source once) each_named

  -- what stands there comes from what is written there
  at_written : (k : ℕ) (d : PortDef) → slice_get m.ports k ≡ Some d → (w : WrittenPortDef) × (slice_get p.2.written.definitions k ≡ Some w) × (port_def_of w ≡ d)
  at_written k d here =
      mapped_some port_def_of (slice_get p.2.written.definitions k) d
      (sym (slice_get-map port_def_of p.2.written.definitions k) ∙ ap (λ (ps : List PortDef). slice_get ps k) (sym p.2.ports) ∙ here)

  pub definitions_differ : DefinitionsDiffer m.ports
  definitions_differ j k d e here there same =
      let v = at_written j d here in
      let w = at_written k e there in
      apart (λ (w : WrittenPortDef). w.name) p.2.written.definitions written_differ j k v.0 w.0 v.1 w.1
      (ap (λ (x : PortDef). x.name) v.2 ∙ same ∙ ap (λ (x : PortDef). x.name) (sym w.2))
