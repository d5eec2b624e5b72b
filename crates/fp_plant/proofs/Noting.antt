-- A held cell that has taken a step, and what the pass's list gets by an answer.
use Rattle.std.proofs.Common.{◌≡◌, ℕ, suc, max, ◌+◌, List, [], ◌∷◌, ◌++◌, map, length, Some, refl, sym, ap, ap₂, ◌∙◌, subst, arith}
use Rattle.std.specs.List.{zip}
use Rattle.std.proofs.lemmas.List.{length-append, map-append}
use Rattle.std.proofs.lemmas.Slice.Zip.{firsts-zip}
use Rattle.fp_events.specs.SystemRun as system
use Rattle.fp_events.proofs.OfRun.{kept_last}
use Rattle.fp_events.specs.declared.event.Ask.{Ask}
use Rattle.fp_events.specs.declared.event.Entry.{Entry}
use Rattle.fp_events.specs.Run.{last_stamp}
use Rattle.fp_events.specs.Step.{core, instance_part}
use Rattle.fp_events.proofs.StepLaws.{given, core_laws}
use Rattle.fp_cell.specs.Cells.{Seat, Standing, IsKeptOf}
use Rattle.fp_cell.specs.Replies.{IsStep}
use Rattle.fp_cell.proofs.Stamped as stamped
use Rattle.fp_run_laws.specs.Seen.{IsTimed, entries}
use Rattle.fp_run_laws.proofs.Timing.{timed-push}
use Rattle.fp_plant.specs.Noted.{NotedCell, IsNoted, with_seen, noted, booked, items}

zip-push : {A B : Type 0} (xs : List A) (ys : List B) (x : A) (y : B) → length xs ≡ length ys → zip (xs ++ x ∷ []) (ys ++ y ∷ []) ≡ zip xs ys ++ (x, y) ∷ []
zip-push [] [] x y h = refl
zip-push [] (b ∷ ys) x y h = absurd (omega (arith, h))
zip-push (a ∷ xs) [] x y h = absurd (omega (arith, h))
zip-push (a ∷ xs) (b ∷ ys) x y h = ap (λ l. (a, b) ∷ l) (zip-push xs ys x y (omega (arith, h)))

length-push : {A : Type 0} (xs : List A) (x : A) → length (xs ++ x ∷ []) ≡ length xs + 1
length-push xs x = length-append xs (x ∷ [])

-- the history of the lock is that of the cell
pub items_booked : (h : NotedCell) → length h.cell.history ≡ length h.seen → items (booked h) ≡ h.cell.history
items_booked h long = items_of (with_seen h) ∙ firsts-zip h.cell.history h.seen (sym long)
  where
    items_of : (ps : List (Entry × ℕ)) → items (map noted ps) ≡ map (λ (p : Entry × ℕ). p.0) ps
    items_of [] = refl
    items_of (p ∷ ps) = ap (λ l. p.0 ∷ l) (items_of ps)

pub record IsNotedStep (old new : NotedCell) (e : Entry) (seen : ℕ) : Type 0 where
  pub known : IsNoted new
  pub booked : booked new ≡ booked old ++ noted (e, seen) ∷ []

module _ (old : NotedCell) (c : Standing) (actor seen : ℕ) (q : Ask) (e : Entry) (known : IsNoted old) (step : IsStep old.cell actor q seen e c) where
  its_actor : e.actor ≡ actor
  its_actor = (given old.cell.seat.tables old.cell.seat.program old.cell.seat.instance actor seen old.cell.state c.state q e step.part).actor

  still_kept : IsKeptOf c
  still_kept =
      let s = old.cell.seat in
      let by_its : instance_part s.tables s.program s.instance old.cell.state e.actor q seen ≡ Some (e, c.state) =
      subst (λ (a : ℕ). instance_part s.tables s.program s.instance old.cell.state a q seen ≡ Some (e, c.state)) (sym its_actor) step.part in
      let on : system.Kept (core s.tables s.program) s.instance (old.cell.history ++ e ∷ []) c.state =
      stamped.goes_on s.tables s.program s.instance old.cell.history old.cell.state c.state e q seen known.kept by_its step.within in
      let at_history : system.Kept (core s.tables s.program) s.instance c.history c.state =
      subst (λ (es : List Entry). system.Kept (core s.tables s.program) s.instance es c.state) (sym step.history) on in
      subst (λ (z : Seat). system.Kept (core z.tables z.program) z.instance c.history c.state) (sym step.seat) at_history

  on_time : e.stamp ≡ suc (max (last_stamp (entries (with_seen old))) seen)
  on_time =
      let s = old.cell.seat in
      let g = given s.tables s.program s.instance actor seen old.cell.state c.state q e step.part in
      let last : old.cell.state.last ≡ last_stamp old.cell.history =
      kept_last (core s.tables s.program) (core_laws s.tables s.program) s.instance old.cell.history old.cell.state known.kept in
      g.stamp ∙ ap (λ (n : ℕ). suc (max n seen)) (last ∙ ap last_stamp (sym (firsts-zip old.cell.history old.seen (sym known.count))))

  pub stepped : (stamps : List ℕ) → stamps ≡ old.seen ++ seen ∷ [] → IsNotedStep old (record { cell = c; seen = stamps }) e seen
  stepped stamps more =
      let same : zip c.history stamps ≡ with_seen old ++ (e, seen) ∷ [] = ap₂ zip step.history more ∙ zip-push old.cell.history old.seen e seen known.count in
      record {
        known = record {
          kept = still_kept;
          count = ap length step.history
              ∙ (length-push old.cell.history e ∙ (ap (λ (n : ℕ). n + 1) known.count ∙ (sym (length-push old.seen seen) ∙ sym (ap length more))));
          timed = subst IsTimed (sym same) (timed-push (λ (d : Entry). d.stamp) 0 (with_seen old) e seen known.timed on_time);
        };
        booked = ap (map noted) same ∙ map-append noted (with_seen old) ((e, seen) ∷ []);
      }

  pub by_actor : e.actor ≡ actor
  by_actor = its_actor
