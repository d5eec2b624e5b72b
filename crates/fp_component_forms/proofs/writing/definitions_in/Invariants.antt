use Rattle.fp_tree.specs.declared.source.Source.{Source}
use Rattle.fp_component_forms.specs.Written.{PortDefIs, port_declared}
use Rattle.fp_component_forms.proofs.Lists.{GivesFirst}
use Rattle.fp_component_forms.proofs.writing.definitions_in.Given as goal

abbrev pub invariant-loop-index : goal.invariant-loop-index
invariant-loop-index l =
    GivesFirst PortDefIs port_declared (λ (source : Source). Unit {0}) l.marks l.resolutions l.items l.index l.written
