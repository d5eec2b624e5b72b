use Rattle.fp_type_forms.proofs.Adding.{WritesFirst}
use Rattle.fp_type_forms.proofs.writing.types_written_in.Given as goal

abbrev pub invariant-loop-index : goal.invariant-loop-index
invariant-loop-index l = WritesFirst l.marks l.resolutions l.items l.index l.written
