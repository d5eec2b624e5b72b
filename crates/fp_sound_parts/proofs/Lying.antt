-- The types that are named in what is written of ports and components lie among the types of the source.
use Rattle.std.proofs.Common.{◌≡◌, ℕ, suc, true, List, [], ◌∷◌, length, map, Option, Some, None, refl, sym, ap, subst, ◌∙◌}
use Rattle.std.specs.List.{list_all}
use Rattle.std.proofs.lemmas.List.{length-map}
use Rattle.fp_topology_forms.proofs.Places.{as_long}
use Rattle.fp_base.proofs.Bools.{join}
use Rattle.fp_base.proofs.Numbers.{below_told}
use Rattle.fp_base.proofs.Options.{same_some}
use Rattle.fp_tree.specs.declared.source.Source.{Source}
use Rattle.fp_tree.specs.declared.component.Part.{Part}
use Rattle.fp_tree.specs.declared.part.Formal.{Formal}
use Rattle.fp_tree.specs.declared.type_name.TypeForm.{TypeForm}
use Rattle.fp_tree.specs.declared.type_name.TypeForm.TheVariants as type
use Rattle.fp_tree.specs.declared.type_name.TypeName.{TypeName}
use Rattle.fp_tables.specs.Lists.{if_some}
use Rattle.fp_tables.specs.Positions.{kind_lies}
use Rattle.fp_tables.specs.declared.kind.Kind.{Kind}
use Rattle.fp_tables.specs.declared.kind.Kind.TheVariants as kind
use Rattle.fp_tables.specs.declared.kind.TypeDef.{TypeDef}
use Rattle.fp_meaning.specs.Names.{Path, definitions}
use Rattle.fp_type_forms.specs.Written.{AllAt, IsWritten, KindIs, types, types_before}
use Rattle.fp_source_types.specs.Typed.{AreTypesOf}
use Rattle.fp_written_parts.specs.declared.port.WrittenFormal.{WrittenFormal}
use Rattle.fp_written_parts.specs.declared.port.WrittenPortDef.{WrittenPortDef}
use Rattle.fp_written_parts.specs.declared.member.WrittenMember.{WrittenMember}
use Rattle.fp_component_forms.specs.declared.writing.WrittenSource.{WrittenSource}
use Rattle.fp_component_forms.specs.Written.{BothOrNeither, FormalIs, IsWrittenSource, PortDefIs, Scoped, TypeNameIs, port_definitions}
use Rattle.fp_tree.specs.declared.definition.Port.{Port}
use Rattle.fp_source_parts.proofs.Positions.{type_lies}
use Rattle.fp_sound_parts.specs.Ready.{OfEachMember, definition_lies, formals_lie, member_lies}
use Rattle.fp_sound_parts.proofs.Each.{ByForm, any_component, any_interface, of_each_member}

-- as many types as the source defines
pub as_many : (source : Source) (ts : List TypeDef) → AreTypesOf source (map (λ (d : TypeDef). Some d) ts) → length ts ≡ length (types source)
as_many source ts given =
    let long : length (map (λ (d : TypeDef). Some d) ts) ≡ length given.written = given.types.each in
    let read = as_long (IsWritten source) 0 (types source) given.written given.are in
    sym (length-map ts (λ (d : TypeDef). Some d)) ∙ long ∙ sym read

module _ (source : Source) where
  abbrev Lies : Kind → Type 0
  Lies k = kind_lies (length (types source)) k ≡ true

  plainly : (p k : Kind) → ◌≡◌ {A = Option Kind} (Some p) (Some k) → Lies p → Lies k
  plainly p k e h = subst Lies (same_some e) h

  pub kind_lying : (scope : Path) (t : TypeForm) (k : Kind) → KindIs source scope t k → Lies k
  kind_lying scope (type.Use q) k h =
      ap (kind_lies (length (types source))) h.2 ∙ below_told (types_before (definitions source) h.0) (length (types source)) (type_lies source scope q h.0 h.1)
  kind_lying scope (type.Text None) k h = ap (kind_lies (length (types source))) h
  kind_lying scope (type.Text (Some x)) k h = ap (kind_lies (length (types source))) h.2
  kind_lying scope type.U8 k h = plainly kind.U8 k h refl
  kind_lying scope type.U16 k h = plainly kind.U16 k h refl
  kind_lying scope type.U32 k h = plainly kind.U32 k h refl
  kind_lying scope type.U64 k h = plainly kind.U64 k h refl
  kind_lying scope type.I8 k h = plainly kind.I8 k h refl
  kind_lying scope type.I16 k h = plainly kind.I16 k h refl
  kind_lying scope type.I32 k h = plainly kind.I32 k h refl
  kind_lying scope type.I64 k h = plainly kind.I64 k h refl
  kind_lying scope type.F32 k h = absurd (cc)
  kind_lying scope type.F64 k h = absurd (cc)
  kind_lying scope type.Bool k h = plainly kind.Bool k h refl

  formals_lying : (scope : Path) (k : ℕ) (fs : List Formal) (ws : List WrittenFormal) → AllAt (λ position. FormalIs source scope) k fs ws → formals_lie (length (types source)) ws ≡ true
  formals_lying scope k [] [] are = refl
  formals_lying scope k [] (w ∷ ws) are = absurd are
  formals_lying scope k (f ∷ fs) [] are = absurd are
  formals_lying scope k (f ∷ fs) (w ∷ ws) are =
      join (kind_lies (length (types source)) w.kind) (formals_lie (length (types source)) ws) (kind_lying scope f.of.form w.kind are.0.kind) (formals_lying scope (suc k) fs ws are.1)

  none_lying : (ws : List WrittenFormal) → ws ≡ [] → formals_lie (length (types source)) ws ≡ true
  none_lying ws none = ap (formals_lie (length (types source))) none

  member_lying : ByForm source (λ (p : Part). Unit {0}) (λ (m : WrittenMember). member_lies (length (types source)) m ≡ true)
  member_lying = record {
    general = λ scope p w h is. none_lying w.formals is.formals;
    special = λ scope p w h is. none_lying w.formals is.formals;
    internal = λ scope p w h is. formals_lying scope 0 p.formals w.formals is.formals;
    imported = λ scope p w h is. refl;
    command = λ scope p w h is. formals_lying scope 0 p.formals w.formals is.formals;
    event = λ scope p w h is. formals_lying scope 0 p.formals w.formals is.formals;
    channel = λ scope p w h is. kind_lying scope p.of.form w.kind is.kind;
    param = λ scope p w h is. kind_lying scope p.of.form w.kind is.kind;
    matched = λ scope p w h is. refl;
    running = λ scope p w h is. refl;
  }

  result_lying : (scope : Path) (t : Option TypeName) (k : Option Kind) → BothOrNeither (TypeNameIs source scope) t k → if_some (kind_lies (length (types source))) k ≡ true
  result_lying scope None None h = refl
  result_lying scope None (Some k) h = absurd h
  result_lying scope (Some t) None h = absurd h
  result_lying scope (Some t) (Some k) h = kind_lying scope t.form k h

  definitions_lying : (k : ℕ) (ss : List (Scoped Port)) (ds : List WrittenPortDef) → AllAt (λ position. PortDefIs source) k ss ds → list_all (definition_lies (length (types source))) ds ≡ true
  definitions_lying k [] [] are = refl
  definitions_lying k [] (d ∷ ds) are = absurd are
  definitions_lying k (s ∷ ss) [] are = absurd are
  definitions_lying k (s ∷ ss) (d ∷ ds) are =
      join (definition_lies (length (types source)) d) (list_all (definition_lies (length (types source))) ds)
      (join (formals_lie (length (types source)) d.formals) (if_some (kind_lies (length (types source))) d.result)
      (formals_lying s.scope 0 s.node.formals d.formals are.0.formals) (result_lying s.scope s.node.result d.result are.0.result))
      (definitions_lying (suc k) ss ds are.1)

module _ (source : Source) (w : WrittenSource) (are : IsWrittenSource source w) (ts : List TypeDef) (given : AreTypesOf source (map (λ (d : TypeDef). Some d) ts)) where
  pub members_lie : OfEachMember w.interfaces w.components (λ m. member_lies (length ts) m ≡ true)
  members_lie =
      subst (λ (n : ℕ). OfEachMember w.interfaces w.components (λ m. member_lies n m ≡ true)) (sym (as_many source ts given))
      (of_each_member source w are (λ (p : Part). Unit {0}) (λ (m : WrittenMember). member_lies (length (types source)) m ≡ true) (member_lying source)
      (any_component source)
      (any_interface source))

  pub definitions_lie : list_all (definition_lies (length ts)) w.definitions ≡ true
  definitions_lie = subst (λ (n : ℕ). list_all (definition_lies n) w.definitions ≡ true) (sym (as_many source ts given)) (definitions_lying source 0 (port_definitions source) w.definitions are.definitions)
