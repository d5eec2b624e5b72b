use Rattle.fp_tree.specs.declared.source.Source.{Source}
use Rattle.fp_tree.specs.declared.component.InterfacePart.{InterfacePart}
use Rattle.fp_meaning.specs.Layout.{interface_part_items}
use Rattle.fp_meaning.specs.Names.{Path}
use Rattle.fp_component_forms.specs.Positions.{ArePositions}
use Rattle.fp_component_forms.specs.Written.{MemberIs, part_of}
use Rattle.fp_component_forms.proofs.Lists.{EachIs, ReadsFirst}
use Rattle.fp_component_forms.proofs.interfaces.interface_members.Given as goal

abbrev pub invariant-loop-part : goal.invariant-loop-part
invariant-loop-part l =
    (source : Source) (scope : Path) → ArePositions source l.positions
    → ReadsFirst (EachIs (λ (p : InterfacePart). MemberIs source scope (part_of p))) (λ (p : InterfacePart). Unit {0}) (interface_part_items scope) source l.marks l.resolutions l.parts l.part-index l.initial.next l.next l.row
