-- Where a parameter by reference breaks a rule.
use Rattle.std.proofs.Common.{◌≡◌, ℕ, true}
use Rattle.fp_base.specs.declared.refusal.Refusal.{Refusal}
use Rattle.fp_base.specs.declared.rule.Rule.TheVariants.{RefParameter}
use Rattle.fp_written_parts.specs.declared.port.WrittenFormal.{WrittenFormal}
use Rattle.fp_dictdefs.specs.Broken.{BrokenAt}

-- a parameter by reference
abbrev pub RefAt : ℕ → WrittenFormal → Refusal → Type 0
RefAt k p = BrokenAt RefParameter p.at (p.by_ref ≡ true)
