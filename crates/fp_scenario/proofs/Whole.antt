-- A text whose value is sound breaks no rule.
use Rattle.std.proofs.Common.{◌≡◌, ◌≤◌, ℕ, List, length, codes, sym, ◌∙◌, subst, arith, ⊎_elim}
use Rattle.serde_json.specs.Data.{Data}
use Rattle.fp_base.proofs.Options.{same_some}
use Rattle.fp_base.specs.declared.rule.Rule.{Rule}
use Rattle.fp_base.specs.declared.rule.Rule.TheVariants.{NotJson, PastSize}
use Rattle.fp_scenario.specs.Broken.{Reads, Breaks, IsTextBroken, BreaksInside, IsTooLong}
use Rattle.fp_scenario.specs.Checked.{IsSound}
use Rattle.fp_scenario.specs.declared.wanted.Wanted.TheVariants.{Scenario}

none_inside : (bytes : List ℕ) (d : Data) (rule : Rule) (path : List ℕ) → Reads bytes d → IsSound Scenario d → BreaksInside bytes rule path → ⊥
none_inside bytes d rule path reads sound b = sound rule b.1 (subst (λ e. Breaks Scenario e rule b.1) (same_some (sym b.2.1 ∙ reads.1)) b.3)

short : (bytes : List ℕ) → length bytes ≤ 4194304 → IsTooLong bytes → ⊥
short bytes within long = absurd (omega arith)

pub not_broken : (bytes : List ℕ) (d : Data) → length bytes ≤ 4194304 → Reads bytes d → IsSound Scenario d → (rule : Rule) (path : List ℕ) → IsTextBroken bytes rule path → ⊥
not_broken bytes d within reads sound NotJson path b = b.1 d reads
not_broken bytes d within reads sound PastSize path b = ⊎_elim (λ (root : (path ≡ codes "/") × IsTooLong bytes). short bytes within root.1) (λ (inner : BreaksInside bytes PastSize path). none_inside bytes d PastSize path reads sound inner) b
not_broken bytes d within reads sound rule path b = none_inside bytes d rule path reads sound b
