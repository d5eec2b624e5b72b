use Rattle.std.proofs.Common.{◌≡◌, ℕ, [], ◌∷◌, ◌++◌}
use Rattle.fp_tree.specs.declared.source.Source.{Source}
use Rattle.fp_tree.specs.declared.part.EnumConst.{EnumConst}
use Rattle.fp_meaning.specs.declared.item.Item.TheVariants as item
use Rattle.fp_meaning.specs.Names.{Path}
use Rattle.fp_meaning.specs.Sites.{entry}
use Rattle.fp_meaning.specs.Values.{dotted}
use Rattle.fp_type_forms.specs.Written.{EnumeratedIs}
use Rattle.fp_type_forms.proofs.Taking.{TakesFirst}
use Rattle.fp_type_forms.proofs.constants.constants_taken.Given as goal

abbrev pub invariant-loop-position : goal.invariant-loop-position
invariant-loop-position l =
    (source : Source) (scope : Path) → l.of ≡ dotted (scope ++ l.kind.name.text ∷ [])
    → TakesFirst (EnumeratedIs source scope l.kind) (λ (n : ℕ) (x : EnumConst). item.Enumerated (entry scope l.kind n x) ∷ []) source l.marks l.resolutions l.kind.constants l.position
    l.initial.next l.next l.row
