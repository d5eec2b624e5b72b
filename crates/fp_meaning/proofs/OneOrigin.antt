-- A use has one origin.
use Rattle.std.proofs.Common.{◌≡◌, ℕ, slice_get, Some, sym, subst, ◌∙◌}
use Rattle.fp_tree.specs.declared.source.Source.{Source}
use Rattle.fp_tree.specs.declared.name.Qual.{Qual}
use Rattle.fp_meaning.specs.Names.{Path}
use Rattle.fp_meaning.specs.Origins.{Origin, origins}
use Rattle.fp_meaning.specs.Values.{MeansOrigin}
use Rattle.fp_meaning.proofs.Meanings.{one_meaning}

pub origin_unique : (source : Source) (scope : Path) (name : Qual) {one other : Origin}
    → MeansOrigin source scope name one → MeansOrigin source scope name other → one ≡ other
origin_unique source scope name {one = one} m n =
    let same = one_meaning _ _ _ _ _ _ m.1 n.1 in
    let here : slice_get (origins source) n.0 ≡ Some one = subst (λ (k : ℕ). slice_get (origins source) k ≡ Some one) same m.2 in
    let both = sym here ∙ n.2 in cc
