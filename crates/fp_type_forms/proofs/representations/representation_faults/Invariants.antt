use Rattle.std.proofs.Common.{List}
use Rattle.fp_type_sizes.specs.declared.written.WrittenType.{WrittenType}
use Rattle.fp_type_sizes.specs.Found.{AreExtents}
use Rattle.fp_type_forms.specs.Tested.{EnumByItem}
use Rattle.fp_type_forms.proofs.Breaking.{LeastOfFirst}
use Rattle.fp_type_forms.proofs.representations.representation_faults.Given as goal

abbrev pub invariant-loop-index : goal.invariant-loop-index
invariant-loop-index l = (ws : List WrittenType) → AreExtents ws l.extents → LeastOfFirst (EnumByItem ws) l.marks l.resolutions l.items l.index l.first
