-- What is broken where matches pair ends, as the walks find it.
use Rattle.std.specs.Prelude.{ℕ, List, Option}
use Rattle.fp_base.specs.declared.refusal.Refusal.{Refusal}
use Rattle.fp_base.specs.Least.{Either, InSome}
use Rattle.fp_numbering.specs.declared.tips.Tip.{Tip}
use Rattle.fp_numbering.specs.Broken.{IsOutOfRange, AreDifferent}
use Rattle.fp_numbering.specs.Partners.{LackPartners}
use Rattle.fp_numbering.specs.Faults.{IsTwicePlainly, FindsNonePlainly}

-- the ends; the ends with what is said of them; the ends in their lanes and what they are given there; and the same at their ports
abbrev pub BreaksByWalks : (ℕ → List (ℕ × ℕ)) → List Tip → List Tip → List Tip → List (Option ℕ) → List Tip → List (Option ℕ) → Refusal → Type 0
BreaksByWalks matches ts ss vs ms us ns f =
    Either (InSome IsOutOfRange ts) (Either (InSome (IsTwicePlainly ss) ss)
    (Either (LackPartners matches ts) (Either (InSome (AreDifferent matches ts) ts) (Either (InSome (FindsNonePlainly vs ms) vs) (InSome (FindsNonePlainly us ns) us))))) f
