-- What is known of each part of a source, and of what is written of it, is known of each written member.
use Rattle.std.proofs.Common.{◌≡◌, ℕ, Bool, true, List, [], ◌∷◌, flat_map, slice_get, Some}
use Rattle.std.specs.List.{AllByRecursion, list_all}
use Rattle.fp_topology_forms.proofs.Places.{second_read}
use Rattle.fp_base.proofs.Bools.{both}
use Rattle.fp_base.proofs.Lists.{each_flat, each_of_any, each_weaker, of_item}
use Rattle.fp_tree.specs.declared.source.Source.{Source}
use Rattle.fp_tree.specs.declared.component.Component.{Component}
use Rattle.fp_tree.specs.declared.component.Interface.{Interface}
use Rattle.fp_tree.specs.declared.component.InterfacePart.{InterfacePart}
use Rattle.fp_tree.specs.declared.component.Part.{Part}
use Rattle.fp_tree.specs.declared.component.Part.TheVariants as part
use Rattle.fp_meaning.specs.Layout.{component_scope}
use Rattle.fp_meaning.specs.Names.{Path}
use Rattle.fp_written_parts.specs.declared.member.WrittenComponent.{WrittenComponent}
use Rattle.fp_written_parts.specs.declared.member.WrittenInterface.{WrittenInterface}
use Rattle.fp_written_parts.specs.declared.member.WrittenMember.{WrittenMember}
use Rattle.fp_tree.specs.declared.component.General.{General}
use Rattle.fp_tree.specs.declared.component.Special.{Special}
use Rattle.fp_tree.specs.declared.component.Internal.{Internal}
use Rattle.fp_tree.specs.declared.component.Import.{Import}
use Rattle.fp_tree.specs.declared.component.Match.{Match}
use Rattle.fp_tree.specs.declared.component.Running.{Running}
use Rattle.fp_tree.specs.declared.dictionary.Command.{Command}
use Rattle.fp_tree.specs.declared.dictionary.Event.{Event}
use Rattle.fp_tree.specs.declared.dictionary.Channel.{Channel}
use Rattle.fp_tree.specs.declared.dictionary.ParamDef.{ParamDef}
use Rattle.fp_written_parts.specs.declared.dictionary.WrittenCommand.{WrittenCommand}
use Rattle.fp_written_parts.specs.declared.dictionary.WrittenEvent.{WrittenEvent}
use Rattle.fp_written_parts.specs.declared.dictionary.WrittenChannel.{WrittenChannel}
use Rattle.fp_written_parts.specs.declared.dictionary.WrittenParam.{WrittenParam}
use Rattle.fp_written_parts.specs.declared.port.WrittenPort.{WrittenPort}
use Rattle.fp_written_parts.specs.declared.port.WrittenImport.{WrittenImport}
use Rattle.fp_written_parts.specs.declared.member.WrittenMatch.{WrittenMatch}
use Rattle.fp_written_parts.specs.declared.member.WrittenRunning.{WrittenRunning}
use Rattle.fp_written_parts.specs.declared.member.WrittenMember.TheVariants as member
use Rattle.fp_component_forms.specs.declared.writing.WrittenSource.{WrittenSource}
use Rattle.fp_component_forms.specs.Written.{ChannelIs, CommandIs, ComponentIs, EventIs, GeneralIs, ImportIs, InterfaceIs, InternalIs, IsWrittenSource, MatchIs, MemberIs, ParamIs, RunningIs, SpecialIs, Scoped, components, interfaces, member_part, part_of}
use Rattle.fp_sound_parts.specs.Ready.{OfEachMember}

pub each_of_all : {A : Type 0} (p : A → Bool) (xs : List A) → list_all p xs ≡ true → AllByRecursion (λ (x : A). p x ≡ true) xs
each_of_all p [] h = tt
each_of_all p (x ∷ xs) h = let hs = both (p x) (list_all p xs) h in (hs.0, each_of_all p xs hs.1)

-- a part that is a member is one of the parts
parts_kept : (P : Part → Type 0) (p : Part) → P p → AllByRecursion P (member_part p)
parts_kept P (part.Def d) h = tt
parts_kept P (part.Machine m) h = tt
parts_kept P (part.Include i) h = tt
parts_kept P (part.General x) h = (h, tt)
parts_kept P (part.Special x) h = (h, tt)
parts_kept P (part.Internal x) h = (h, tt)
parts_kept P (part.Command x) h = (h, tt)
parts_kept P (part.Event x) h = (h, tt)
parts_kept P (part.Channel x) h = (h, tt)
parts_kept P (part.Param x) h = (h, tt)
parts_kept P (part.Match x) h = (h, tt)
parts_kept P (part.Running x) h = (h, tt)
parts_kept P (part.Import x) h = (h, tt)

-- of the parts of each component, and of each interface
abbrev pub InComponents : Source → (Part → Type 0) → Type 0
InComponents source P = AllByRecursion (λ (s : Scoped Component). AllByRecursion P s.node.parts) (components source)

abbrev pub InInterfaces : Source → (Part → Type 0) → Type 0
InInterfaces source P = AllByRecursion (λ (s : Scoped Interface). AllByRecursion (λ (p : InterfacePart). P (part_of p)) s.node.parts) (interfaces source)

-- where nothing is asked of parts
pub any_component : (source : Source) → InComponents source (λ (p : Part). Unit {0})
any_component source =
    each_of_any (λ (s : Scoped Component). AllByRecursion (λ (p : Part). Unit {0}) s.node.parts) (λ s. each_of_any (λ (p : Part). Unit {0}) (λ p. tt) s.node.parts) (components source)

pub any_interface : (source : Source) → InInterfaces source (λ (p : Part). Unit {0})
any_interface source =
    each_of_any (λ (s : Scoped Interface). AllByRecursion (λ (p : InterfacePart). Unit {0}) s.node.parts) (λ s. each_of_any (λ (p : InterfacePart). Unit {0}) (λ p. tt) s.node.parts) (interfaces source)

-- what is known of a part, and that this is written of it, gives what is said of the member, for each form of parts
pub record ByForm (source : Source) (P : Part → Type 0) (Q : WrittenMember → Type 0) : Type 0 where
  pub general : (scope : Path) (p : General) (w : WrittenPort) → P (part.General p) → GeneralIs source scope p w → Q (member.Port w)
  pub special : (scope : Path) (p : Special) (w : WrittenPort) → P (part.Special p) → SpecialIs source scope p w → Q (member.Port w)
  pub internal : (scope : Path) (p : Internal) (w : WrittenPort) → P (part.Internal p) → InternalIs source scope p w → Q (member.Port w)
  pub imported : (scope : Path) (p : Import) (w : WrittenImport) → P (part.Import p) → ImportIs source scope p w → Q (member.Import w)
  pub command : (scope : Path) (p : Command) (w : WrittenCommand) → P (part.Command p) → CommandIs source scope p w → Q (member.Command w)
  pub event : (scope : Path) (p : Event) (w : WrittenEvent) → P (part.Event p) → EventIs source scope p w → Q (member.Event w)
  pub channel : (scope : Path) (p : Channel) (w : WrittenChannel) → P (part.Channel p) → ChannelIs source scope p w → Q (member.Channel w)
  pub param : (scope : Path) (p : ParamDef) (w : WrittenParam) → P (part.Param p) → ParamIs source scope p w → Q (member.Param w)
  pub matched : (scope : Path) (p : Match) (w : WrittenMatch) → P (part.Match p) → MatchIs source scope p w → Q (member.Match w)
  pub running : (scope : Path) (p : Running) (w : WrittenRunning) → P (part.Running p) → RunningIs source scope p w → Q (member.Running w)

module _ (source : Source) (P : Part → Type 0) (Q : WrittenMember → Type 0) (by : ByForm source P Q) where
  of_part : (scope : Path) (p : Part) (m : WrittenMember) → P p → MemberIs source scope p m → Q m
  of_part scope (part.General p) (member.Port w) known is = by.general scope p w known is
  of_part scope (part.Special p) (member.Port w) known is = by.special scope p w known is
  of_part scope (part.Internal p) (member.Port w) known is = by.internal scope p w known is
  of_part scope (part.Import p) (member.Import w) known is = by.imported scope p w known is
  of_part scope (part.Command p) (member.Command w) known is = by.command scope p w known is
  of_part scope (part.Event p) (member.Event w) known is = by.event scope p w known is
  of_part scope (part.Channel p) (member.Channel w) known is = by.channel scope p w known is
  of_part scope (part.Param p) (member.Param w) known is = by.param scope p w known is
  of_part scope (part.Match p) (member.Match w) known is = by.matched scope p w known is
  of_part scope (part.Running p) (member.Running w) known is = by.running scope p w known is
  of_part scope (part.General p) (member.Import w) known is = absurd is
  of_part scope (part.General p) (member.Command w) known is = absurd is
  of_part scope (part.General p) (member.Event w) known is = absurd is
  of_part scope (part.General p) (member.Channel w) known is = absurd is
  of_part scope (part.General p) (member.Param w) known is = absurd is
  of_part scope (part.General p) (member.Match w) known is = absurd is
  of_part scope (part.General p) (member.Running w) known is = absurd is
  of_part scope (part.Special p) (member.Import w) known is = absurd is
  of_part scope (part.Special p) (member.Command w) known is = absurd is
  of_part scope (part.Special p) (member.Event w) known is = absurd is
  of_part scope (part.Special p) (member.Channel w) known is = absurd is
  of_part scope (part.Special p) (member.Param w) known is = absurd is
  of_part scope (part.Special p) (member.Match w) known is = absurd is
  of_part scope (part.Special p) (member.Running w) known is = absurd is
  of_part scope (part.Internal p) (member.Import w) known is = absurd is
  of_part scope (part.Internal p) (member.Command w) known is = absurd is
  of_part scope (part.Internal p) (member.Event w) known is = absurd is
  of_part scope (part.Internal p) (member.Channel w) known is = absurd is
  of_part scope (part.Internal p) (member.Param w) known is = absurd is
  of_part scope (part.Internal p) (member.Match w) known is = absurd is
  of_part scope (part.Internal p) (member.Running w) known is = absurd is
  of_part scope (part.Import p) (member.Port w) known is = absurd is
  of_part scope (part.Import p) (member.Command w) known is = absurd is
  of_part scope (part.Import p) (member.Event w) known is = absurd is
  of_part scope (part.Import p) (member.Channel w) known is = absurd is
  of_part scope (part.Import p) (member.Param w) known is = absurd is
  of_part scope (part.Import p) (member.Match w) known is = absurd is
  of_part scope (part.Import p) (member.Running w) known is = absurd is
  of_part scope (part.Command p) (member.Port w) known is = absurd is
  of_part scope (part.Command p) (member.Import w) known is = absurd is
  of_part scope (part.Command p) (member.Event w) known is = absurd is
  of_part scope (part.Command p) (member.Channel w) known is = absurd is
  of_part scope (part.Command p) (member.Param w) known is = absurd is
  of_part scope (part.Command p) (member.Match w) known is = absurd is
  of_part scope (part.Command p) (member.Running w) known is = absurd is
  of_part scope (part.Event p) (member.Port w) known is = absurd is
  of_part scope (part.Event p) (member.Import w) known is = absurd is
  of_part scope (part.Event p) (member.Command w) known is = absurd is
  of_part scope (part.Event p) (member.Channel w) known is = absurd is
  of_part scope (part.Event p) (member.Param w) known is = absurd is
  of_part scope (part.Event p) (member.Match w) known is = absurd is
  of_part scope (part.Event p) (member.Running w) known is = absurd is
  of_part scope (part.Channel p) (member.Port w) known is = absurd is
  of_part scope (part.Channel p) (member.Import w) known is = absurd is
  of_part scope (part.Channel p) (member.Command w) known is = absurd is
  of_part scope (part.Channel p) (member.Event w) known is = absurd is
  of_part scope (part.Channel p) (member.Param w) known is = absurd is
  of_part scope (part.Channel p) (member.Match w) known is = absurd is
  of_part scope (part.Channel p) (member.Running w) known is = absurd is
  of_part scope (part.Param p) (member.Port w) known is = absurd is
  of_part scope (part.Param p) (member.Import w) known is = absurd is
  of_part scope (part.Param p) (member.Command w) known is = absurd is
  of_part scope (part.Param p) (member.Event w) known is = absurd is
  of_part scope (part.Param p) (member.Channel w) known is = absurd is
  of_part scope (part.Param p) (member.Match w) known is = absurd is
  of_part scope (part.Param p) (member.Running w) known is = absurd is
  of_part scope (part.Match p) (member.Port w) known is = absurd is
  of_part scope (part.Match p) (member.Import w) known is = absurd is
  of_part scope (part.Match p) (member.Command w) known is = absurd is
  of_part scope (part.Match p) (member.Event w) known is = absurd is
  of_part scope (part.Match p) (member.Channel w) known is = absurd is
  of_part scope (part.Match p) (member.Param w) known is = absurd is
  of_part scope (part.Match p) (member.Running w) known is = absurd is
  of_part scope (part.Running p) (member.Port w) known is = absurd is
  of_part scope (part.Running p) (member.Import w) known is = absurd is
  of_part scope (part.Running p) (member.Command w) known is = absurd is
  of_part scope (part.Running p) (member.Event w) known is = absurd is
  of_part scope (part.Running p) (member.Channel w) known is = absurd is
  of_part scope (part.Running p) (member.Param w) known is = absurd is
  of_part scope (part.Running p) (member.Match w) known is = absurd is
  of_part scope (part.Def p) m known is = absurd is
  of_part scope (part.Machine p) m known is = absurd is
  of_part scope (part.Include p) m known is = absurd is

module _ (source : Source) (w : WrittenSource) (are : IsWrittenSource source w) (P : Part → Type 0) (Q : WrittenMember → Type 0)
    (by : ByForm source P Q) where
  in_component : InComponents source P → (v k : ℕ) (c : WrittenComponent) (m : WrittenMember) → slice_get w.components v ≡ Some c → slice_get c.members k ≡ Some m → Q m
  in_component each v k c m at there =
      let whole = second_read (ComponentIs source) 0 (components source) w.components v c are.components at in
      let s = whole.one in
      let member = second_read (MemberIs source (component_scope s.scope s.node)) 0 (flat_map member_part s.node.parts) c.members k m whole.related.members there in
      let parts = of_item (λ (s : Scoped Component). AllByRecursion P s.node.parts) (components source) v s each whole.here in
      let kept = each_flat P member_part s.node.parts (each_weaker P (λ (p : Part). AllByRecursion P (member_part p)) (parts_kept P) s.node.parts parts) in
      of_part source P Q by (component_scope s.scope s.node) member.one m (of_item P (flat_map member_part s.node.parts) k member.one kept member.here) member.related

  pub in_interface : InInterfaces source P → (v k : ℕ) (f : WrittenInterface) (m : WrittenMember) → slice_get w.interfaces v ≡ Some f → slice_get f.members k ≡ Some m → Q m
  in_interface each v k f m at there =
      let whole = second_read (InterfaceIs source) 0 (interfaces source) w.interfaces v f are.interfaces at in
      let s = whole.one in
      let member = second_read (λ (p : InterfacePart). MemberIs source s.scope (part_of p)) 0 s.node.parts f.members k m whole.related there in
      let parts = of_item (λ (s : Scoped Interface). AllByRecursion (λ (p : InterfacePart). P (part_of p)) s.node.parts) (interfaces source) v s each whole.here in
      of_part source P Q by s.scope (part_of member.one) m (of_item (λ (p : InterfacePart). P (part_of p)) s.node.parts k member.one parts member.here) member.related

  pub of_each_member : InComponents source P → InInterfaces source P → OfEachMember w.interfaces w.components Q
  of_each_member components interfaces = record { of_interfaces = in_interface interfaces; of_components = in_component components }
