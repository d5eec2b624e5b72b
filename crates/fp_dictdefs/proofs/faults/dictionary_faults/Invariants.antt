use Rattle.std.proofs.Common.{ℕ}
use Rattle.fp_base.specs.Least.{InFirst, IsLeast}
use Rattle.fp_dictdefs.specs.Broken.{DictionaryBroken}
use Rattle.fp_dictdefs.proofs.faults.dictionary_faults.Given as goal

abbrev pub invariant-loop-component : goal.invariant-loop-component
invariant-loop-component l = IsLeast (InFirst l.component-index (λ (k : ℕ). DictionaryBroken l.types) l.components) l.first
