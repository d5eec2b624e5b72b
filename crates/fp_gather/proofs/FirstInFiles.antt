-- The first rule that files break, from the least of each phase.
use Rattle.std.proofs.Common.{◌≡◌, Option, Some, None, inl, inr, refl, sym, subst}
use Rattle.std.specs.Prelude.{Contains, Result, Ok, Err, IsErrAnd}
use Rattle.fp_base.specs.declared.refusal.Refusal.{Refusal}
use Rattle.fp_base.specs.Least.{Either, IsLeast, Phased, earlier_of}
use Rattle.fp_base.proofs.Calculus.{least_phased, none_broken, least_first}
use Rattle.fp_tree.specs.declared.source.Source.{Source}
use Rattle.fp_meaning.specs.Broken.{NamesBroken}
use Rattle.fp_gather.specs.gathering.Answers.{IncludesFirst, IsFirst, Judges}
use Rattle.fp_gather.specs.gathering.Gathered.{AnyBroken, FirstBroken, InFiles}
use Rattle.fp_gather.specs.gathering.Reading.{BreaksGrammar, BreaksTokenRule}
use Rattle.fp_gather.specs.gathering.Walks.{Walked}
use Rattle.fp_gather.specs.declared.gathering.Halt.{Halt}
use Rattle.fp_gather.specs.declared.gathering.Halt.TheVariants as halt

-- that of the later phase, where the earlier breaks nothing
phased_later : {P Q : Refusal → Type 0} (o : Option Refusal) → IsLeast P None → IsLeast Q o → IsLeast (Phased P Q) o
phased_later o l m = least_phased None o l m

-- what is broken first is broken
pub first_any : (walked : Walked) (source : Source) (f : Refusal) {R : Type 0} → (AnyBroken walked source f → R) → FirstBroken walked source f → R
first_any walked source f to (inl tokens) = to (inl (inl tokens))
first_any walked source f to (inr (inl grammar, quiet)) = to (inl (inr (inl grammar)))
first_any walked source f to (inr (inr (inl include, still), quiet)) = to (inl (inr (inr include)))
first_any walked source f to (inr (inr (inr names, still), quiet)) = to (inr names)

module _ (walked : Walked) (source : Source) where
  first_of_phases : (tokens grammar includes : Option Refusal) → IsLeast (InFiles BreaksTokenRule walked) tokens → IsLeast (InFiles BreaksGrammar walked) grammar
      → IncludesFirst walked source includes → IsFirst walked source (earlier_of tokens (earlier_of grammar includes))
  first_of_phases (Some f) grammar includes t g i = (least_first f t, (f, inl (t.holds f refl)))
  first_of_phases None (Some f) includes t g i = (phased_later (Some f) t (least_first f g), (f, inr (inl (g.holds f refl))))
  first_of_phases None None (Some f) t g i = (phased_later (Some f) t (phased_later (Some f) g i.0), (i.1.0, inr (inr i.1.1)))
  first_of_phases None None None t g i = λ f. elim [
    | inl p ↦ none_broken t f p
    | inr q ↦ elim q [ inl p ↦ none_broken g f p | inr p ↦ i f p ]
  ]

  pub first_is : (first behind tokens grammar includes : Option Refusal) → behind ≡ earlier_of grammar includes → first ≡ earlier_of tokens behind
      → IsLeast (InFiles BreaksTokenRule walked) tokens → IsLeast (InFiles BreaksGrammar walked) grammar → IncludesFirst walked source includes → IsFirst walked source first
  first_is first behind tokens grammar includes eb ef t g i =
      subst (IsFirst walked source) (sym ef)
      (subst (λ (b : Option Refusal). IsFirst walked source (earlier_of tokens b)) (sym eb) (first_of_phases tokens grammar includes t g i))

  -- an include that breaks its rule, with the names
  pub include_first : (include : Refusal) (first : Option Refusal) → IsLeast (Contains walked.refused) (Some include) → IsLeast (Either (Contains walked.refused) (NamesBroken source)) first
      → IncludesFirst walked source first
  include_first include None l m = λ f h. none_broken m f (inl h)
  include_first include (Some f) l m = (m, (include, l.holds include refl))

  -- no memory for it
  pub judges_nothing : (r : Result Source Halt) → IsErrAnd r (λ y. y ≡ halt.NoMemory) → Judges walked source r
  judges_nothing (Ok given) e = absurd e
  judges_nothing (Err y) e = subst (λ (z : Halt). Judges walked source (Err z)) (sym e) tt
