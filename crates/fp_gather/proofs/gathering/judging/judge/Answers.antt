use Rattle.std.proofs.Common.{refl, subst, ◌∙◌, ap, ℕ, List}
use Rattle.fp_gather.specs.gathering.Answers.{IsFirst}
use Rattle.fp_gather.specs.gathering.Gathered.{name_of}
use Rattle.fp_gather.proofs.FirstInFiles.{judges_nothing}
use Rattle.fp_gather.proofs.gathering.judging.judge.Goals as goal

pub returns-in_err-first_broken : goal.returns-in_err-first_broken
returns-in_err-first_broken c = λ walked k. judges_nothing walked c.args.concluded.source c.from_residual.result c.from_residual.ensures.1

pub returns-in-None : goal.returns-in-None
returns-in-None c = λ walked k. (refl, subst (IsFirst walked c.args.concluded.source) c.in-None.is (c.in_ok-first_broken.ensures walked k))

pub returns-in_err-file-in-Some : goal.returns-in_err-file-in-Some
returns-in_err-file-in-Some c = λ walked k. judges_nothing walked c.args.concluded.source c.from_residual-in_err-file-in-Some.result c.from_residual-in_err-file-in-Some.ensures.1

pub returns-in_ok-file-in-Some : goal.returns-in_ok-file-in-Some
returns-in_ok-file-in-Some c = λ walked k. (
  subst (IsFirst walked c.args.concluded.source) c.in-Some.is (c.in_ok-first_broken.ensures walked k),
  c.in_ok-file-in-Some.ensures ∙ c.name_of-name.ensures ∙ ap (λ (names : List (List ℕ)). name_of names c.in-Some.refusal.place.file) c.as_slice.ensures,
)
