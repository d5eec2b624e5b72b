-- A choice of two by reading the one and then the other.
use Rattle.std.proofs.Common.{ℕ, ◌<◌, ◌≤◌, not, List, ◌∷◌}
use Rattle.fp_base.proofs.Bools.{and_left, and_right}
use Rattle.fp_grammar.specs.Grammar.{Grammar}
use Rattle.fp_grammar.specs.Grammar.Grammar.{alt}
use Rattle.fp_grammar.specs.Sets.{is_predictive, nullable}
use Rattle.fp_grammar.specs.Parses.{Accepts, Refuses}
use Rattle.fp_grammar.specs.Throughout.{each_productive, FitsThroughout}
use Rattle.fp_grammar.proofs.Fits.{told_of}
use Rattle.fp_grammar.proofs.Seconds.{apart_never_back}
use Rattle.fp_grammar.proofs.Further.{fails_refused, fails_behind, ends_refused, ends_behind, first_further_refuses, second_further_accepts, second_further_refuses}
use Rattle.fp_grammar.proofs.Answering.{alt_first_accepted}

module _ {T X : Type 0} {kind : T → ℕ} {a b : Grammar T X} where
  pub fits_left : FitsThroughout kind (alt a b) → FitsThroughout kind a
  fits_left f = record { predictive = and_left (is_predictive a) _ f.predictive; each = and_left (each_productive a) _ f.each; refs = f.refs.0 }

  pub fits_right : FitsThroughout kind (alt a b) → FitsThroughout kind b
  fits_right f = record { predictive = and_left (is_predictive b) _ (and_right (is_predictive a) _ f.predictive); each = and_right (each_productive a) _ f.each; refs = f.refs.1 }

  pub either_first : FitsThroughout kind (alt a b) → {tokens : List T} {from to : ℕ} {x : X} → Accepts kind a tokens from x to → Accepts kind (alt a b) tokens from x to
  either_first f p = alt_first_accepted f.predictive f.refs p

  -- what was read as the second rules out the first
  pub either_second : FitsThroughout kind (alt a b) → {tokens : List T} {from to : ℕ} {x : X} → Accepts kind b tokens from x to → Accepts kind (alt a b) tokens from x to
  either_second f p =
      let e1 = and_right (is_predictive a) _ f.predictive in
      let e2 = and_right (is_predictive b) _ e1 in
      let e3 = and_right (not (nullable a)) _ e2 in
      let never = apart_never_back a b (and_left (not (nullable b)) _ e3) (told_of a (fits_left f).predictive f.refs.0) (told_of b (fits_right f).predictive f.refs.1) (and_right (not (nullable b)) _ e3) in
      second_further_accepts p (λ t s more x e i. never p.w (t ∷ more) _ x p.spelled i)

  -- neither was there: the further of the two says where it breaks
  pub neither_first : {tokens : List T} {from to past : ℕ} → past ≤ to → Refuses kind a tokens from to → Refuses kind b tokens from past → Refuses kind (alt a b) tokens from to
  neither_first l p q = first_further_refuses p (fails_behind p.w (fails_refused q) l p.place p.splits)

  pub neither_second : {tokens : List T} {from to past : ℕ} → to < past → Refuses kind a tokens from to → Refuses kind b tokens from past → Refuses kind (alt a b) tokens from past
  neither_second l p q = second_further_refuses q (ends_behind q.w (ends_refused p) l q.place q.splits)
