-- When a run is ended, and its four ends.
use Rattle.std.specs.Prelude.{◌≡◌, ◌<◌, ℕ, Bool, true, false, cond, ◌&&◌, nat_le, List, [], ◌∷◌, ◌++◌, Option, Some, None, option_map, option_and_then, is_some, is_none, unwrap_or}
use Rattle.std.specs.List.{list_all, list_any}
use Rattle.fp_tables.specs.Lookup.{Described}
use Rattle.fp_tables.specs.declared.program.Program.{Program}
use Rattle.fp_events.specs.declared.event.Ask.{Ask}
use Rattle.fp_events.specs.declared.event.Entry.{Entry}
use Rattle.fp_events.specs.declared.event.What.{What}
use Rattle.fp_events.specs.declared.event.What.TheVariants as what
use Rattle.fp_events.specs.declared.event.Finish.{Finish}
use Rattle.fp_events.specs.declared.event.Finish.TheVariants.{Complete, Stuck, Spent, Asserted}
use Rattle.fp_events.specs.Lookup.{actives, callers}
use Rattle.fp_events.specs.Instance.{InstanceState, Pending}
use Rattle.fp_events.specs.Actor.{Frame, Opened, own}
use Rattle.fp_events.specs.Due.{due, first_action}
use Rattle.fp_events.specs.Step.{instance_part}
use Rattle.fp_events.specs.Run.{World, actors, RunTo, IsRun}

abbrev pub is_asserted : What → Bool
is_asserted (what.Asserted r) = true
is_asserted _ = false

abbrev pub is_own : Opened → Bool
is_own own = true
is_own _ = false

-- a caller whose list is through and that has no other frame, or a dispatcher without frames
abbrev pub is_through : List Frame → Bool
is_through [] = true
is_through (f ∷ []) = is_own f.opened && is_none (first_action f.doing)
is_through (f ∷ g ∷ fs) = false

-- at its end: a caller without frames but its own list, of which no action is left
abbrev pub IsAtEnd : Program → ℕ → List Frame → Type 0
IsAtEnd program a frames = (a < callers program) × (is_through frames ≡ true)

abbrev pub none_pending : List Pending → Bool
none_pending [] = true
none_pending (p ∷ ps) = false

module _ (t : Described) (program : Program) where
  -- no entry goes on from the entries as a run
  abbrev pub IsEnded : List Entry → Type 0
  IsEnded es = (e : Entry) → IsRun t program (es ++ e ∷ []) → ⊥

  -- the instance makes nothing of any actor's due ask, or an entry with a stamp above the limit
  abbrev pub HasNoDueStep : World → Type 0
  HasNoDueStep w = (a i : ℕ) (ask : Ask) (s : InstanceState) (e : Entry) → due t program a (w.actors a).thread ≡ Some (i, ask) →
      instance_part t program i (w.instances i) a ask (w.actors a).last ≡ Some (e, s) → program.steps < e.stamp

  -- the stamp of the actor's next step, if it has one, be it above the limit or not
  abbrev pub next_stamp : World → ℕ → Option ℕ
  next_stamp w a =
      option_map (λ (r : Entry × InstanceState). r.0.stamp)
      (option_and_then (λ (d : ℕ × Ask). instance_part t program d.0 (w.instances d.0) a d.1 (w.actors a).last) (due t program a (w.actors a).thread))

  abbrev pub can_step : World → ℕ → Bool
  can_step w a = unwrap_or (option_map (λ n. nat_le n program.steps) (next_stamp w a)) false

  -- every caller is through, no frame but the callers' own lists is open, and nothing is pending at an active instance
  abbrev pub is_complete : World → Bool
  is_complete w = list_all (λ a. is_through (w.actors a).thread.frames) (actors t program) && list_all (λ i. none_pending (w.instances i).inside.pending) (actives t)

  -- the end of a run that leaves this world, none where an actor can step: asserted where an assert entry stands in it, else spent where a step
  -- above the limit exists, else complete, else stuck
  abbrev pub finish : List Entry → World → Option Finish
  finish es w =
      cond (list_any (can_step w) (actors t program)) None
      (Some (cond (list_any (λ e. is_asserted e.what) es) Asserted (cond (list_any (λ a. is_some (next_stamp w a)) (actors t program)) Spent (cond (is_complete w) Complete Stuck))))

  -- the entries are a run that ends so
  abbrev pub EndsAs : List Entry → Finish → Type 0
  EndsAs es f = (w : World) × RunTo t program es w × (finish es w ≡ Some f)
