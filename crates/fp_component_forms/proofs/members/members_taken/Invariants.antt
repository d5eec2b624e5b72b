use Rattle.fp_tree.specs.declared.source.Source.{Source}
use Rattle.fp_tree.specs.declared.component.Part.{Part}
use Rattle.fp_meaning.specs.Layout.{own_items}
use Rattle.fp_meaning.specs.Names.{Path}
use Rattle.fp_part_values.specs.Names.{part_names}
use Rattle.fp_component_forms.specs.Positions.{ArePositions}
use Rattle.fp_component_forms.specs.Written.{AllHaveTypes, MemberIs, member_part}
use Rattle.fp_component_forms.proofs.Lists.{KeptAre, ReadsFirst}
use Rattle.fp_component_forms.proofs.members.members_taken.Given as goal

abbrev pub invariant-loop-part : goal.invariant-loop-part
invariant-loop-part l =
    (source : Source) (scope : Path) → ArePositions source l.positions
    → ReadsFirst (KeptAre member_part (MemberIs source scope)) (λ (p : Part). AllHaveTypes source scope (part_names p)) (own_items scope) source l.marks l.resolutions l.parts l.part-index l.initial.next l.next l.row
