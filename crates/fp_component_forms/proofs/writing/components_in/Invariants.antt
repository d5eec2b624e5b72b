use Rattle.fp_tree.specs.declared.source.Source.{Source}
use Rattle.fp_component_forms.specs.Positions.{ArePositions}
use Rattle.fp_component_forms.specs.Written.{ComponentIs, component_declared}
use Rattle.fp_component_forms.proofs.Lists.{GivesFirst}
use Rattle.fp_component_forms.proofs.writing.components_in.Given as goal

abbrev pub invariant-loop-index : goal.invariant-loop-index
invariant-loop-index l =
    GivesFirst ComponentIs component_declared (λ (source : Source). ArePositions source l.positions) l.marks l.resolutions l.items l.index l.written
