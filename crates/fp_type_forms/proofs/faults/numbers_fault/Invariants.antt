use Rattle.std.proofs.Common.{ℕ, [], ◌∷◌}
use Rattle.fp_tree.specs.declared.part.EnumConst.{EnumConst}
use Rattle.fp_meaning.specs.declared.item.Item.TheVariants as item
use Rattle.fp_meaning.specs.Sites.{entry}
use Rattle.fp_type_forms.specs.Broken.{BrokenByNumber}
use Rattle.fp_type_forms.proofs.Breaking.{LeastFirst}
use Rattle.fp_tree.specs.declared.source.Source.{Source}
use Rattle.fp_meaning.specs.Names.{Path}
use Rattle.fp_type_forms.proofs.faults.numbers_fault.Given as goal

abbrev pub invariant-loop-constant : goal.invariant-loop-constant
invariant-loop-constant l =
    (source : Source) (scope : Path) → LeastFirst (λ k. BrokenByNumber source scope) (λ (k : ℕ) (x : EnumConst). item.Enumerated (entry scope l.kind k x) ∷ []) source l.marks l.resolutions l.kind.constants l.constant-index l.initial.next l.next l.first
