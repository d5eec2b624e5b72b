-- A language that is read in steps has an answer at each position of each token list, if the grammars of the pieces have.
use Rattle.std.proofs.Common.{◌≡◌, ℕ, zero, suc, ◌<◌, List, length, drop, refl, arith}
use Rattle.fp_grammar.specs.Decided.{Answer, RefsDecided}
use Rattle.fp_grammar.specs.Decided.Answer.{accepted, refused}
use Rattle.fp_grammar.specs.Parses.{Accepts}
use Rattle.fp_grammar.proofs.Deciding.{answer_of}
use Rattle.fp_grammar.proofs.Walk.{Reached, begin, done, stop}
use Rattle.fp_grammar.specs.Steps.{Next, Steps, Driven, from_state}
use Rattle.fp_grammar.specs.Steps.Next.{on, ends}
use Rattle.fp_grammar.proofs.StepsGood.{from_fits}
use Rattle.fp_grammar.proofs.StepsWalk.{reads, step_on, step_ends, step_stop}

module _ {T S Y X : Type 0} {kind : T → ℕ} {steps : Steps T S Y X} {over : List ℕ} (d : Driven kind steps over) (decided : (s : S) → RefsDecided kind (steps.piece s)) where
  further : {s s' : S} {tokens : List T} {from mid : ℕ} → Reached kind (from_state kind steps over s) (from_state kind steps over s') (λ x. x) tokens from mid → Answer kind (from_state kind steps over s') tokens mid → Answer kind (from_state kind steps over s) tokens from
  further r (accepted x to q) = accepted x to (done r q)
  further r (refused to q) = refused to (stop r q)

  led : (s : S) (tokens : List T) (from : ℕ) → ((s' : S) (mid : ℕ) → length (drop mid tokens) < length (drop from tokens) → Answer kind (from_state kind steps over s') tokens mid) →
      (y : Y) (mid : ℕ) → Accepts kind (steps.piece s) tokens from y mid → (n : Next S X) → steps.leads s y ≡ n → Answer kind (from_state kind steps over s) tokens from
  led s tokens from later y mid p (ends x) e = accepted x mid (step_ends d p e)
  led s tokens from later y mid p (on s') e = further (step_on d (begin tokens from (from_fits d s)) p e) (later s' mid (reads d p))

  one_piece : (s : S) (tokens : List T) (from : ℕ) → ((s' : S) (mid : ℕ) → length (drop mid tokens) < length (drop from tokens) → Answer kind (from_state kind steps over s') tokens mid) →
      Answer kind (steps.piece s) tokens from → Answer kind (from_state kind steps over s) tokens from
  one_piece s tokens from later (refused to p) = refused to (step_stop d p)
  one_piece s tokens from later (accepted y mid p) = led s tokens from later y mid p (steps.leads s y) refl

  decided_below : (n : ℕ) (s : S) (tokens : List T) (from : ℕ) → length (drop from tokens) < n → Answer kind (from_state kind steps over s) tokens from
  decided_below zero s tokens from h = absurd (omega (arith, h))
  decided_below (suc n) s tokens from h =
      one_piece s tokens from (λ s' mid l. decided_below n s' tokens mid (omega (arith, h, l))) (answer_of (steps.piece s) (d.fits s).predictive (d.fits s).refs (decided s) tokens from)

  pub from_decided : (s : S) (tokens : List T) (from : ℕ) → Answer kind (from_state kind steps over s) tokens from
  from_decided s tokens from = decided_below (suc (length (drop from tokens))) s tokens from (omega arith)
