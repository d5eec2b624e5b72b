-- Each import that is written is of one of the interfaces.
use Rattle.std.proofs.Common.{ℕ, ◌<◌, length, flat_map, subst}
use Rattle.fp_topology_forms.proofs.Places.{second_read, as_long}
use Rattle.fp_tree.specs.declared.source.Source.{Source}
use Rattle.fp_tree.specs.declared.component.InterfacePart.{InterfacePart}
use Rattle.fp_tree.specs.declared.component.Part.{Part}
use Rattle.fp_tree.specs.declared.component.Part.TheVariants as part
use Rattle.fp_meaning.specs.Layout.{component_scope}
use Rattle.fp_meaning.specs.Names.{Path}
use Rattle.fp_written_parts.specs.declared.member.WrittenMember.TheVariants.{Import}
use Rattle.fp_written_parts.specs.declared.port.WrittenImport.{WrittenImport}
use Rattle.fp_component_rules.specs.Gifts.{AreWithin}
use Rattle.fp_component_rules.specs.Lists.{AreImportsWithin}
use Rattle.fp_component_forms.specs.declared.writing.WrittenSource.{WrittenSource}
use Rattle.fp_component_forms.specs.Written.{ComponentIs, InterfaceIs, IsWrittenSource, MemberIs, components, interfaces, member_part, part_of}
use Rattle.fp_source_parts.proofs.Positions.{interface_lies}

module _ (source : Source) (w : WrittenSource) (are : IsWrittenSource source w) where
  below : (n : ℕ) → n < length (interfaces source) → n < length w.interfaces
  below n low = subst (λ (m : ℕ). n < m) (as_long (InterfaceIs source) 0 (interfaces source) w.interfaces are.interfaces) low

  by_part : (scope : Path) (p : Part) (i : WrittenImport) → MemberIs source scope p (Import i) → i.interface < length w.interfaces
  by_part scope (part.Import x) i h = below i.interface (interface_lies source scope x.of i.interface h.interface)
  by_part scope (part.General p) i h = absurd h
  by_part scope (part.Special p) i h = absurd h
  by_part scope (part.Internal p) i h = absurd h
  by_part scope (part.Command c) i h = absurd h
  by_part scope (part.Event e) i h = absurd h
  by_part scope (part.Channel t) i h = absurd h
  by_part scope (part.Param p) i h = absurd h
  by_part scope (part.Match m) i h = absurd h
  by_part scope (part.Running r) i h = absurd h
  by_part scope (part.Def d) i h = absurd h
  by_part scope (part.Machine m) i h = absurd h
  by_part scope (part.Include x) i h = absurd h

  pub interfaces_within : AreWithin w.interfaces
  interfaces_within v f at k i there =
      let of = second_read (InterfaceIs source) 0 (interfaces source) w.interfaces v f are.interfaces at in
      let member = second_read (λ (p : InterfacePart). MemberIs source of.one.scope (part_of p)) 0 of.one.node.parts f.members k (Import i) of.related there in
      by_part of.one.scope (part_of member.one) i member.related

  pub components_within : AreImportsWithin w.interfaces w.components
  components_within v c at k i there =
      let of = second_read (ComponentIs source) 0 (components source) w.components v c are.components at in
      let scope = component_scope of.one.scope of.one.node in
      let member = second_read (MemberIs source scope) 0 (flat_map member_part of.one.node.parts) c.members k (Import i) of.related.members there in
      by_part scope member.one i member.related
