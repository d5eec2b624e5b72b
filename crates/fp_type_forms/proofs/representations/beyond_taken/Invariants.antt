use Rattle.std.proofs.Common.{ℕ, [], ◌∷◌}
use Rattle.fp_tree.specs.declared.part.EnumConst.{EnumConst}
use Rattle.fp_meaning.specs.declared.item.Item.TheVariants as item
use Rattle.fp_meaning.specs.Sites.{entry}
use Rattle.fp_type_forms.specs.Tested.{IsBeyond}
use Rattle.fp_type_forms.proofs.Breaking.{LeastFirst}
use Rattle.fp_tree.specs.declared.source.Source.{Source}
use Rattle.fp_meaning.specs.Names.{Path}
use Rattle.fp_type_forms.proofs.representations.beyond_taken.Given as goal

abbrev pub invariant-loop-position : goal.invariant-loop-position
invariant-loop-position l =
    (source : Source) (scope : Path) → LeastFirst (IsBeyond source scope l.range l.kind) (λ (k : ℕ) (x : EnumConst). item.Enumerated (entry scope l.kind k x) ∷ []) source l.marks l.resolutions l.kind.constants l.position l.initial.next l.next l.first
