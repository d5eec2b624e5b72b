-- What is read of the parts of definitions, where the type names in them name types.
use Rattle.std.specs.Prelude.{◌≡◌, ℕ, List, flat_map, Option}
use Rattle.std.specs.Option.{option_to_list}
use Rattle.fp_base.specs.declared.value.Value.{Value}
use Rattle.fp_tree.specs.declared.source.Source.{Source}
use Rattle.fp_tree.specs.declared.type_name.TypeName.{TypeName}
use Rattle.fp_tree.specs.declared.part.Formal.{Formal}
use Rattle.fp_tree.specs.declared.definition.Port.{Port}
use Rattle.fp_tree.specs.declared.component.Component.{Component}
use Rattle.fp_tree.specs.declared.component.Internal.{Internal}
use Rattle.fp_tree.specs.declared.component.Part.{Part}
use Rattle.fp_tree.specs.declared.dictionary.Command.{Command}
use Rattle.fp_tree.specs.declared.dictionary.Event.{Event}
use Rattle.fp_tree.specs.declared.dictionary.Channel.{Channel}
use Rattle.fp_tree.specs.declared.dictionary.ParamDef.{ParamDef}
use Rattle.fp_tables.specs.declared.kind.Kind.{Kind}
use Rattle.fp_meaning.specs.declared.item.Item.{Item}
use Rattle.fp_meaning.specs.Layout.{component_scope, items}
use Rattle.fp_meaning.specs.Names.{Path}
use Rattle.fp_type_forms.specs.declared.resolving.Resolution.{Resolution}
use Rattle.fp_type_forms.specs.Resolved.{AreResolved, parts_of_item}
use Rattle.fp_type_forms.specs.Written.{AllAt}
use Rattle.fp_part_values.specs.Names.{formal_names, part_names}
use Rattle.fp_written_parts.specs.declared.port.WrittenPort.{WrittenPort}
use Rattle.fp_written_parts.specs.declared.port.WrittenPortDef.{WrittenPortDef}
use Rattle.fp_written_parts.specs.declared.member.WrittenComponent.{WrittenComponent}
use Rattle.fp_written_parts.specs.declared.dictionary.WrittenCommand.{WrittenCommand}
use Rattle.fp_written_parts.specs.declared.dictionary.WrittenEvent.{WrittenEvent}
use Rattle.fp_written_parts.specs.declared.dictionary.WrittenChannel.{WrittenChannel}
use Rattle.fp_written_parts.specs.declared.dictionary.WrittenParam.{WrittenParam}
use Rattle.fp_written_parts.specs.declared.port.WrittenFormal.{WrittenFormal}
use Rattle.fp_written_parts.specs.declared.member.WrittenMember.{WrittenMember}
use Rattle.fp_component_forms.specs.Written.{AllHaveTypes, BothOrNeither, ChannelIs, CommandIs, ComponentIs, EventIs, FormalIs, FormalsAre, HasType, InternalIs, ItemNamesStand, MemberIs, MembersAre, ParamIs, PortDefIs, Scoped, TypeNameIs, TypeNamesStand, member_part, port_type_names}

module _ (source : Source) (scope : Path) where
  -- the kind that a type name names, where it names one
  abbrev pub TypeWhere : TypeName → Kind → Type 0
  TypeWhere t k = HasType source scope t → TypeNameIs source scope t k

  abbrev pub ResultWhere : Option TypeName → Option Kind → Type 0
  ResultWhere t k = BothOrNeither TypeWhere t k

  abbrev pub FormalWhere : Formal → WrittenFormal → Type 0
  FormalWhere f w = HasType source scope f.of → FormalIs source scope f w

  abbrev pub FormalsWhere : List Formal → List WrittenFormal → Type 0
  FormalsWhere fs ws = AllHaveTypes source scope (formal_names fs) → FormalsAre source scope fs ws

  abbrev pub InternalWhere : Internal → WrittenPort → Type 0
  InternalWhere p w = AllHaveTypes source scope (formal_names p.formals) → InternalIs source scope p w

  abbrev pub CommandWhere : Command → WrittenCommand → Type 0
  CommandWhere c w = AllHaveTypes source scope (formal_names c.formals) → CommandIs source scope c w

  abbrev pub EventWhere : Event → WrittenEvent → Type 0
  EventWhere e w = AllHaveTypes source scope (formal_names e.formals) → EventIs source scope e w

  abbrev pub ChannelWhere : Channel → WrittenChannel → Type 0
  ChannelWhere t w = HasType source scope t.of → ChannelIs source scope t w

  abbrev pub ParamWhere : ParamDef → WrittenParam → Type 0
  ParamWhere p w = HasType source scope p.of → ParamIs source scope p w

  -- what a part of a component gives, and what parts give
  abbrev pub MemberWhere : Part → List WrittenMember → Type 0
  MemberWhere p ms = AllHaveTypes source scope (part_names p) → AllAt (λ position. MemberIs source scope) 0 (member_part p) ms

  abbrev pub MembersWhere : List Part → List WrittenMember → Type 0
  MembersWhere ps ms = AllHaveTypes source scope (flat_map part_names ps) → MembersAre source scope ps ms

abbrev pub PortDefWhere : Source → Scoped Port → WrittenPortDef → Type 0
PortDefWhere source p w = AllHaveTypes source p.scope (port_type_names p.node) → PortDefIs source p w

abbrev pub ComponentWhere : Source → Scoped Component → WrittenComponent → Type 0
ComponentWhere source c w = AllHaveTypes source (component_scope c.scope c.node) (flat_map part_names c.node.parts) → ComponentIs source c w

-- what is given of items that are a source's
pub record AreRead (source : Source) (marks : List (Option Value)) (rs : List Resolution) (is : List Item) : Type 0 where
  pub laid : is ≡ items source
  pub resolved : AreResolved source marks rs is 0
  pub named : TypeNamesStand source

-- what an item gives, whose parts are read from a place on
abbrev pub IsGiven : {A B : Type 0} → (Source → A → B → Type 0) → (Item → List A) → (Source → Type 0) → List (Option Value) → List Resolution → ℕ → Item → Option B → Type 0
IsGiven R these_of P marks rs start i one =
    (source : Source) → P source → ItemNamesStand source i → AreResolved source marks rs (parts_of_item i) start → AllAt (λ position. R source) 0 (these_of i) (option_to_list one)

-- what all items of a source give
abbrev pub Gives : {A B : Type 0} → (Source → A → B → Type 0) → (Item → List A) → (Source → Type 0) → List (Option Value) → List Resolution → List Item → List B → Type 0
Gives R these_of P marks rs is ws =
    (source : Source) → P source → AreRead source marks rs is → AllAt (λ position. R source) 0 (flat_map these_of (items source)) ws
