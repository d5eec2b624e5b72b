-- Special ports have the definitions of their kinds, and internal ports have none.
use Rattle.std.proofs.Common.{◌≡◌, ℕ, List, slice_get, Option, Some, None, sym, ap, subst, ◌∙◌}
use Rattle.std.specs.Prelude.{option_map}
use Rattle.std.proofs.lemmas.Option.{slice_get-map}
use Rattle.fp_topology_forms.proofs.Places.{second_read}
use Rattle.fp_base.proofs.Options.{same_some}
use Rattle.fp_tree.specs.declared.source.Source.{Source}
use Rattle.fp_tree.specs.declared.definition.Port.{Port}
use Rattle.fp_tree.specs.declared.component.GeneralKind.{GeneralKind}
use Rattle.fp_tree.specs.declared.component.GeneralKind.TheVariants as general
use Rattle.fp_tree.specs.declared.component.Part.{Part}
use Rattle.fp_tables.specs.Components.{definition_of}
use Rattle.fp_tables.specs.declared.component.Special.{Special}
use Rattle.fp_written_parts.specs.declared.port.WrittenPortDef.{WrittenPortDef}
use Rattle.fp_written_parts.specs.declared.port.WrittenRole.{WrittenRole}
use Rattle.fp_written_parts.specs.declared.port.WrittenRole.TheVariants as role
use Rattle.fp_component_forms.specs.declared.writing.WrittenSource.{WrittenSource}
use Rattle.fp_component_forms.specs.Written.{IsWrittenSource, PortDefIs, PortDefsAre, Scoped, SpecialTypeIs, port_definitions, port_names, qualified, role_of, special_of}
use Rattle.fp_sound_parts.specs.Ready.{DefinitionSuits, HasItsDefinition, OfEachMember}
use Rattle.fp_sound_parts.proofs.Each.{ByForm, any_component, any_interface, of_each_member}

-- ---- definitions of ports

module _ (source : Source) (definitions : List WrittenPortDef) (are : PortDefsAre source definitions) where
  -- at a position of the definitions stands the one whose name is there among the names
  named_there : (k : ℕ) (name : List ℕ) (d : WrittenPortDef) → slice_get (port_names source) k ≡ Some name → slice_get definitions k ≡ Some d → d.name ≡ name
  named_there k name d there at =
      let one = second_read (PortDefIs source) 0 (port_definitions source) definitions k d are at in
      let read : slice_get (port_names source) k ≡ Some (qualified one.one.scope one.one.node.name) =
      slice_get-map (λ (p : Scoped Port). qualified p.scope p.node.name) (port_definitions source) k ∙ ap (option_map (λ (p : Scoped Port). qualified p.scope p.node.name)) one.here in
      one.related.name ∙ same_some (sym read ∙ there)

  of_kind : (special : Special) (of : Option ℕ) → SpecialTypeIs (port_names source) special of → DefinitionSuits definitions (role.Special special) of
  of_kind special None is k d there at = absurd (cc)
  of_kind special (Some position) is k d there at =
      named_there k (definition_of special) d (subst (λ (n : ℕ). slice_get (port_names source) n ≡ Some (definition_of special)) (same_some there) is.0) at

  any_kind : (g : GeneralKind) (of : Option ℕ) → DefinitionSuits definitions (role_of g) of
  any_kind general.AsyncInput of = tt
  any_kind general.SyncInput of = tt
  any_kind general.GuardedInput of = tt
  any_kind general.Output of = tt

  suited : ByForm source (λ (p : Part). Unit {0}) (HasItsDefinition definitions)
  suited = record {
    general = λ scope p w h is. subst (λ (r : WrittenRole). DefinitionSuits definitions r w.of) (sym is.role) (any_kind p.kind w.of);
    special = λ scope p w h is. subst (λ (r : WrittenRole). DefinitionSuits definitions r w.of) (sym is.role) (of_kind (special_of p.kind) w.of is.of);
    internal = λ scope p w h is. subst (λ (r : WrittenRole). DefinitionSuits definitions r w.of) (sym is.role) is.of;
    imported = λ scope p w h is. tt;
    command = λ scope p w h is. tt;
    event = λ scope p w h is. tt;
    channel = λ scope p w h is. tt;
    param = λ scope p w h is. tt;
    matched = λ scope p w h is. tt;
    running = λ scope p w h is. tt;
  }

module _ (source : Source) (w : WrittenSource) (are : IsWrittenSource source w) where
  pub ports_have_their_definitions : OfEachMember w.interfaces w.components (HasItsDefinition w.definitions)
  ports_have_their_definitions =
      of_each_member source w are (λ (p : Part). Unit {0}) (HasItsDefinition w.definitions) (suited source w.definitions are.definitions)
      (any_component source)
      (any_interface source)
