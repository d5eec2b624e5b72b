-- The fields of the formats of events agree with the parameters, by the kinds that these have.
use Rattle.std.proofs.Common.{◌≡◌, ℕ, suc, true, List, [], ◌∷◌, slice_get, Option, Some, refl, sym, ap, subst, ◌∙◌, inl}
use Rattle.fp_base.proofs.Bools.{join}
use Rattle.fp_base.specs.declared.format.FormatPiece.{FormatPiece}
use Rattle.fp_base.specs.declared.format.FormatPiece.TheVariants as piece
use Rattle.fp_base.specs.declared.value.Value.{Value}
use Rattle.fp_base.specs.Least.{IsUnbroken}
use Rattle.fp_tree.specs.declared.source.Source.{Source}
use Rattle.fp_tree.specs.declared.component.InterfacePart.{InterfacePart}
use Rattle.fp_tree.specs.declared.component.InterfacePart.TheVariants as interface_part
use Rattle.fp_tree.specs.declared.component.Part.{Part}
use Rattle.fp_tree.specs.declared.component.Part.TheVariants as part
use Rattle.fp_tree.specs.declared.dictionary.Event.{Event}
use Rattle.fp_tree.specs.declared.part.Formal.{Formal}
use Rattle.fp_tables.specs.Formats.{agree}
use Rattle.fp_tables.specs.Types.{is_integer}
use Rattle.fp_tables.specs.declared.kind.Kind.TheVariants as kind
use Rattle.fp_tables.specs.declared.kind.TypeDef.{TypeDef}
use Rattle.fp_meaning.specs.declared.item.Item.{Item}
use Rattle.fp_meaning.specs.declared.item.Item.TheVariants as item
use Rattle.fp_meaning.specs.Layout.{items}
use Rattle.fp_meaning.specs.Names.{Path}
use Rattle.fp_meaning.specs.Sites.{Declaration, component, declaration}
use Rattle.fp_formats.specs.Spelling.{IsFormat}
use Rattle.fp_type_sizes.specs.declared.written.WrittenType.{WrittenType}
use Rattle.fp_type_forms.specs.declared.resolving.Resolution.{Resolution}
use Rattle.fp_type_forms.specs.Written.{AllAt}
use Rattle.fp_type_formats.specs.Broken.{BrokenByFormats}
use Rattle.fp_type_formats.specs.Integers.{NamesNoInteger}
use Rattle.fp_type_formats.specs.Readable.{Agree, AreReadable, IsReadableEvent}
use Rattle.fp_part_values.specs.FormBroken.{PartFormsBroken}
use Rattle.fp_part_values.specs.FormStanding.{NumbersStand}
use Rattle.fp_part_values.specs.Standing.{IsPart}
use Rattle.fp_written_parts.specs.declared.dictionary.WrittenEvent.{WrittenEvent}
use Rattle.fp_written_parts.specs.declared.port.WrittenFormal.{WrittenFormal}
use Rattle.fp_written_parts.specs.declared.member.WrittenMember.{WrittenMember}
use Rattle.fp_written_parts.specs.declared.member.WrittenMember.TheVariants as member
use Rattle.fp_component_forms.specs.declared.writing.WrittenSource.{WrittenSource}
use Rattle.fp_component_forms.specs.Written.{EventIs, FormalIs, IsWrittenSource, MemberIs, part_of}
use Rattle.fp_components.specs.Resolved.{formals_of}
use Rattle.fp_components.proofs.Pieces.{one_format}
use Rattle.fp_source_parts.specs.Valued.{IsValued}
use Rattle.fp_source_parts.proofs.Members.{interface_member_known, member_known}
use Rattle.fp_sound_parts.specs.Ready.{HasAgreeingFormat, OfEachMember}
use Rattle.fp_sound_parts.proofs.FormatsKinds.{integer_kind}

module _ (source : Source) (types : List TypeDef) (scope : Path)
    (integer : (f : Formal) (g : WrittenFormal) → FormalIs source scope f g → (NamesNoInteger (items source) 256 scope f.of.form → ⊥) → is_integer types g.kind ≡ true) where
  agrees : (ps : List FormatPiece) (k : ℕ) (fs : List Formal) (gs : List WrittenFormal) → AllAt (λ position. FormalIs source scope) k fs gs
      → Agree (λ (f : Formal). NamesNoInteger (items source) 256 scope f.of.form) ps fs → agree types ps (formals_of gs) ≡ true
  agrees [] k [] [] all h = refl
  agrees [] k [] (g ∷ gs) all h = absurd all
  agrees [] k (f ∷ fs) gs all h = absurd h
  agrees (piece.Plain s ∷ ps) k fs gs all h = agrees ps k fs gs all h
  agrees (p ∷ ps) k [] gs all h = absurd h
  agrees (p ∷ ps) k (f ∷ fs) [] all h = absurd all
  agrees (piece.Any ∷ ps) k (f ∷ fs) (g ∷ gs) (here, all) (suits, h) = agrees ps (suc k) fs gs all h
  agrees (p ∷ ps) k (f ∷ fs) (g ∷ gs) (here, all) (suits, h) =
      join (is_integer types g.kind) (agree types ps (formals_of gs)) (integer f g here suits) (agrees ps (suc k) fs gs all h)

  event_agrees : (e : Event) (w : WrittenEvent) → EventIs source scope e w → IsReadableEvent (items source) scope e → HasAgreeingFormat types (member.Event w)
  event_agrees e w is reads parts format =
      let same : parts ≡ reads.parts = one_format e.format.text parts reads.parts (subst (λ (text : List ℕ). IsFormat text parts) is.format format) reads.format in
      ap (λ (ps : List FormatPiece). agree types ps (formals_of w.formals)) same ∙ agrees reads.parts 0 e.formals w.formals is.formals reads.parameters

-- in interfaces stand no events
inner_agrees : (source : Source) (types : List TypeDef) (scope : Path) (of : InterfacePart) (m : WrittenMember) → MemberIs source scope (part_of of) m → HasAgreeingFormat types m
inner_agrees source types scope (interface_part.General p) (member.Event w) is = absurd is
inner_agrees source types scope (interface_part.Special p) (member.Event w) is = absurd is
inner_agrees source types scope (interface_part.Import i) (member.Event w) is = absurd is
inner_agrees source types scope of m is = tt

module _ (source : Source) (values : List (Option Value)) (resolutions : List Resolution) (ws : List WrittenType) (types : List TypeDef) (valued : IsValued source values resolutions ws types)
    (readable : (k : ℕ) (i : Item) → slice_get (items source) k ≡ Some i → AreReadable (items source) i) where
  integer_formal : (scope : Path) (f : Formal) (g : WrittenFormal) → FormalIs source scope f g → (NamesNoInteger (items source) 256 scope f.of.form → ⊥) → is_integer types g.kind ≡ true
  integer_formal scope f g is never =
      integer_kind source types valued.given
      (λ r broken. valued.types_unbroken r (record { written = valued.given.written; are = valued.given.are; broken = inl broken })) scope f.of.form g.kind is.kind never

  event_part_agrees : (scope : Path) (of : Part) (w : WrittenEvent) → IsPart source scope of → MemberIs source scope of (member.Event w) → HasAgreeingFormat types (member.Event w)
  event_part_agrees scope (part.Event e) w stands is =
      let reads = readable stands.at (item.Declared (declaration stands.outside (component stands.whole))) stands.here stands.place (part.Event e) stands.there in
      event_agrees source types scope (integer_formal scope) e w is (subst (λ (s : Path). IsReadableEvent (items source) s e) (sym stands.inside) reads)
  event_part_agrees scope of w stands is = absurd is

  part_agrees : (scope : Path) (of : Part) (m : WrittenMember) → IsPart source scope of → MemberIs source scope of m → HasAgreeingFormat types m
  part_agrees scope of (member.Event w) stands is = event_part_agrees scope of w stands is
  part_agrees scope of m stands is = tt

pub formats_agree : (source : Source) (values : List (Option Value)) (resolutions : List Resolution) (ws : List WrittenType) (types : List TypeDef) (w : WrittenSource)
    → IsValued source values resolutions ws types → IsWrittenSource source w
    → ((is : List Item) → IsUnbroken (BrokenByFormats is) → (k : ℕ) (i : Item) → slice_get is k ≡ Some i → AreReadable is i)
    → ((source : Source) → IsUnbroken (PartFormsBroken source) → (k : ℕ) (d : Declaration) → slice_get (items source) k ≡ Some (item.Declared d) → NumbersStand source d.scope d.definition)
    → OfEachMember w.interfaces w.components (HasAgreeingFormat types)
formats_agree source values resolutions ws types w valued are formats_read numbers_stand = record {
  of_interfaces = λ v k f m at there.
      let known = interface_member_known source w are values resolutions valued.resolved valued.valued (numbers_stand source valued.forms_unbroken) v k f m at there in
      inner_agrees source types known.scope known.of m known.is;
  of_components = λ v k c m at there.
      let known = member_known source w are values resolutions valued.resolved valued.valued (numbers_stand source valued.forms_unbroken) v k c m at there in
      part_agrees source values resolutions ws types valued (formats_read (items source) valued.formats_unbroken) known.scope known.of m known.part_of known.is;
}
