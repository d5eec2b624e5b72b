-- What is found of the types of a source by their forms alone: how large they are, and their defaults.
use Rattle.std.specs.Prelude.{◌<◌, ◌^◌, length}
use Rattle.fp_type_sizes.specs.Found.{AreExtents}
use Rattle.fp_types.specs.Given.{AreDefaults}
use Rattle.fp_source_types.specs.declared.measuring.Measured.{Measured}

-- a number of 32 bits names each type
pub record IsMeasured (found : Measured) : Type 0 where
  pub few : length found.written < 2 ^ 32
  pub sized : AreExtents found.written found.extents
  pub defaulted : AreDefaults found.written found.defaults
