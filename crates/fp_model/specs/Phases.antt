-- Phases of which a later one counts where nothing is broken in those before.
use Rattle.std.specs.Prelude.{List, [], ◌∷◌}
use Rattle.fp_base.specs.declared.refusal.Refusal.{Refusal}
use Rattle.fp_base.specs.Least.{Phased}

-- broken in the earliest phase in which something is
abbrev pub InPhases : List (Refusal → Type 0) → Refusal → Type 0
InPhases [] f = ⊥
InPhases (P ∷ Ps) f = Phased P (InPhases Ps) f
