-- The least of what files and their source break, from what gathering says of the files and from the phases of the source.
use Rattle.std.proofs.Common.{List, ◌∷◌, Option, Some, inl, inr}
use Rattle.fp_base.specs.declared.refusal.Refusal.{Refusal}
use Rattle.fp_base.specs.Least.{IsLeast, IsUnbroken}
use Rattle.fp_base.proofs.Calculus.{least_same}
use Rattle.fp_tree.specs.declared.source.Source.{Source}
use Rattle.fp_gather.specs.gathering.Gathered.{FilesBroken, FirstBroken, InFiles}
use Rattle.fp_gather.specs.gathering.Reading.{BreaksGrammar, BreaksTokenRule}
use Rattle.fp_gather.specs.gathering.Walks.{Walked}
use Rattle.fp_model.specs.Phases.{InPhases}
use Rattle.fp_main.specs.Broken.{WithIncludes}

module _ (walked : Walked) (source : Source) (later : List (Refusal → Type 0)) where
  -- with all phases
  abbrev pub All : Refusal → Type 0
  All = InPhases (InFiles BreaksTokenRule walked ∷ InFiles BreaksGrammar walked ∷ WithIncludes walked source ∷ later)

  module _ (clean : IsUnbroken (FilesBroken walked)) where
    onward : (f : Refusal) → InPhases later f → All f
    onward f r = inr (inr (inr (r, λ g b. clean b.0.0 (inr (inr b.0.1))), λ g b. clean g (inr (inl b))), λ g b. clean g (inl b))

    back : (f : Refusal) → All f → InPhases later f
    back f (inl b) = absurd (clean f (inl b))
    back f (inr (inl b, calm)) = absurd (clean f (inr (inl b)))
    back f (inr (inr (inl b, quiet), calm)) = absurd (clean b.0.0 (inr (inr b.0.1)))
    back f (inr (inr (inr (r, still), quiet), calm)) = r

    -- where the files break no rule
    pub behind_least : (o : Option Refusal) → IsLeast (InPhases later) o → IsLeast All o
    behind_least o l = least_same onward back l

  module _ (h : Refusal) (some : FilesBroken walked h) where
    -- of an include, where no rule of tokens or of the grammar is broken
    with_includes : (f : Refusal) → FirstBroken walked source f → All f
    with_includes f (inl b) = inl b
    with_includes f (inr (inl b, quiet)) = inr (inl b, quiet)
    with_includes f (inr (inr (e, still), quiet)) = go some
      where
        go : FilesBroken walked h → All f
        go (inl t) = absurd (quiet h t)
        go (inr (inl t)) = absurd (still h t)
        go (inr (inr there)) = inr (inr (inl ((h, there), e), still), quiet)

    -- nothing of a later phase is first
    without_later : (g : Refusal) → All g → FirstBroken walked source g
    without_later g (inl t) = inl t
    without_later g (inr (inl t, quiet)) = inr (inl t, quiet)
    without_later g (inr (inr (inl b, still), quiet)) = inr (inr (b.1, still), quiet)
    without_later g (inr (inr (inr (r, calm), still), quiet)) = absurd (go some)
      where
        go : FilesBroken walked h → ⊥
        go (inl t) = quiet h t
        go (inr (inl t)) = still h t
        go (inr (inr there)) = calm h ((h, there), inl there)

    -- where they break one
    pub first_least : (f : Refusal) → IsLeast (FirstBroken walked source) (Some f) → IsLeast All (Some f)
    first_least f l = least_same with_includes without_later l
