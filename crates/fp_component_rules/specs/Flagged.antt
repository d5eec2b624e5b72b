-- Imports that are flagged.
use Rattle.std.specs.Prelude.{◌≡◌, ℕ, Bool, true, false, List, slice_get, unwrap_or}
use Rattle.fp_base.specs.Least.{broken_at}
use Rattle.fp_base.specs.declared.rule.Rule.{Rule}
use Rattle.fp_base.specs.declared.refusal.Refusal.{Refusal}
use Rattle.fp_component_rules.specs.declared.links.Link.{Link}

-- a rule is broken at a link that has a flag
abbrev pub FlaggedLink : List Bool → Rule → ℕ → Link → Refusal → Type 0
FlaggedLink flags rule at link f = (f ≡ broken_at rule link.written.at) × (unwrap_or (slice_get flags at) false ≡ true)
