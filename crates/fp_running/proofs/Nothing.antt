-- Where no actor has a step within the limit a run is ended.
use Rattle.std.proofs.Common.{◌≡◌, ◌<◌, ◌≤◌, ◌↔◌, ◌⊎◌, inl, inr, ◌+◌, ℕ, suc, Bool, true, false, List, Option, None, option_map, is_some, unwrap_or, nat_le, sym, ap, ◌∙◌, subst, arith}
use Rattle.fp_events.specs.System.{Laws}
use Rattle.fp_events.proofs.OfRun.{by_run}
use Rattle.fp_tables.specs.Lookup.{Described}
use Rattle.fp_tables.specs.declared.program.Program.{Program}
use Rattle.fp_events.specs.declared.event.Entry.{Entry}
use Rattle.fp_events.specs.Ends.{HasNoDueStep, IsEnded, can_step}
use Rattle.fp_events.specs.Fits.{actor_count}
use Rattle.fp_events.specs.Run.{World, by, opening, IsRun, RunTo}
use Rattle.fp_events.specs.Step.{core}
use Rattle.fp_events.proofs.Ended.{stamp_is, above}
use Rattle.fp_running.specs.Progress.{Progress}
use Rattle.fp_running.proofs.Steps.{Cannot, HasNone}
use Rattle.fp_running.proofs.OneTurn.{DueFits}

abbrev pub EndedByDues : Type 0
EndedByDues = (t : Described) (p : Program) (es : List Entry) (w : World) → RunTo t p es w → IsEnded t p es ↔ HasNoDueStep t p w

module _ (t : Described) (p : Program) where
  pub ended : Laws (core t p) → DueFits t p → EndedByDues → (es : List Entry) → IsRun t p es
      → ((a : ℕ) → a < actor_count t p → Cannot (record { tables = t; program = p; entries = es }) a) → IsEnded t p es
  ended laws fits law es run cannot = (law t p es run.0 run.1).1 none
    where
      none : HasNoDueStep t p run.0
      none a i q s e is_due gives =
          let low = (fits a (by a es) (run.0.actors a) (by_run (core t p) laws es (opening t p) run.0 run.1 a) i q is_due).0 in
          let can : can_step t p run.0 a ≡ false = cannot a low run.0 run.1 in
          let seen : can_step t p run.0 a ≡ nat_le e.stamp p.steps =
          ap (λ (o : Option ℕ). unwrap_or (option_map (λ n. nat_le n p.steps) o) false) (stamp_is t p run.0 a i q e s is_due gives) in
          above t p e.stamp (sym seen ∙ can)

-- one more actor was tried
pub one_more : (P : ℕ → Type 0) (n m : ℕ) → m ≡ suc n → ((a : ℕ) → a < n → P a) → P n → (a : ℕ) → a < m → P a
one_more P n m is before here a low = go (last a n (omega (arith, low, is)))
  where
    last : (a n : ℕ) → a < suc n → (a ≡ n) ⊎ (a < n)
    last a n h = grind (arith)

    go : (a ≡ n) ⊎ (a < n) → P a
    go (inl e) = subst P (sym e) here
    go (inr below) = before a below
