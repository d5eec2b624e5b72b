-- That a number is written where one may be.
use Rattle.std.specs.Prelude.{◌≡◌, ℤ, Some}
use Rattle.fp_written_parts.specs.declared.port.Given.{Given}

abbrev pub HasNumber : Given → Type 0
HasNumber g = (n : ℤ) × (g.number ≡ Some n)
