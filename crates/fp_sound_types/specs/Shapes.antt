-- What a shape of the program stands for.
use Rattle.fp_tables.specs.Types.{Shape, integer, truth, words, array, struct, constants, opaque, nothing}
use Rattle.fp_sound_types.specs.declared.shapes.Shape.{Shape as Read}
use Rattle.fp_sound_types.specs.declared.shapes.Shape.TheVariants as read

abbrev pub meant : Read → Shape
meant (read.Integer low high) = integer low high
meant read.Truth = truth
meant read.Words = words
meant (read.Array size k) = array size k
meant (read.Struct fields) = struct fields.now
meant (read.Constants cs) = constants cs.now
meant read.Opaque = opaque
meant read.Nothing = nothing
