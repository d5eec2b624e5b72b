-- What an entry more makes of the cells and the actors of a run.
use Rattle.std.proofs.Common.{◌≡◌, ◌≢◌, ◌≤◌, ◌<◌, ◌⊎◌, inl, inr, ℕ, Bool, true, false, List, [], ◌∷◌, ◌++◌, length, slice_set, Option, Some, None, option_map, option_and_then, refl, sym, ap, ◌∙◌, subst, eqb, append-nil}
use Rattle.std.specs.List.{slice_get}
use Rattle.std.proofs.lemmas.Bool.Decides.{eqb_tells}
use Rattle.std.proofs.lemmas.List.Elements.{filter-append}
use Rattle.fp_base.proofs.Options.{same_some}
use Rattle.fp_events.specs.SystemRun as system
use Rattle.fp_events.specs.System.{IsTaking}
use Rattle.fp_events.proofs.Turns.{InTurn-more, projection-here, projection-other, updated-here, updated-other}
use Rattle.fp_tables.specs.Lookup.{Described, placed}
use Rattle.fp_tables.specs.Names.{numbers_differ}
use Rattle.fp_tables.specs.declared.program.Program.{Program}
use Rattle.fp_events.specs.declared.event.Ask.{Ask}
use Rattle.fp_events.specs.declared.event.Entry.{Entry}
use Rattle.fp_events.specs.Actor.{ActorState}
use Rattle.fp_events.specs.Due.{due}
use Rattle.fp_events.specs.Instance.{InstanceState}
use Rattle.fp_events.specs.Run.{World, at, by, opening, RunTo}
use Rattle.fp_events.specs.Step.{core, instance_part, actor_part}
use Rattle.fp_actor.specs.Acting.{Acting}
use Rattle.fp_cell.specs.Cells.{Seat, Standing}
use Rattle.fp_running.specs.Meeting.{Meeting, IsMade}
use Rattle.fp_running.specs.Standing.{Scene, cell_of, actor_of, AreCells, Stands, StandsOn}
use Rattle.fp_running.proofs.Numbering.{each_set, length_set, one_place}

module _ {E : Type 0} (number : E → ℕ) (k : ℕ) (e : E) (es : List E) where
  pub more_here : number e ≡ k → system.projection number k (es ++ e ∷ []) ≡ system.projection number k es ++ e ∷ []
  more_here is = filter-append (λ x. eqb (number x) k) es (e ∷ []) ∙ ap (λ l. system.projection number k es ++ l) (projection-here number k e [] is)

  pub more_other : number e ≢ k → system.projection number k (es ++ e ∷ []) ≡ system.projection number k es
  more_other other =
      filter-append (λ x. eqb (number x) k) es (e ∷ []) ∙ ap (λ l. system.projection number k es ++ l) (projection-other number k e [] other) ∙ append-nil (system.projection number k es)

abbrev pub standing_of : Seat → InstanceState → List Entry → Standing
standing_of seat state history = record { seat = seat; state = state; history = history }

abbrev pub acting_of : Described → Program → ℕ → ActorState → List Entry → Bool → Acting
acting_of t p n state trace room = record { tables = t; program = p; number = n; state = state; trace = trace; has_room = room }

abbrev pub seat_of : Described → Program → ℕ → Seat
seat_of t p i = record { tables = t; program = p; instance = i }

module _ (t : Described) (p : Program) (n i : ℕ) (q : Ask) (taking : IsTaking (core t p)) where
  -- the world after the entry that is made at a meeting
  abbrev pub made_world : World → Entry → Meeting → World
  made_world w e new = system.after (core t p) w e new.cell.state new.actor.state

  module _ (w : World) (stamp : ℕ) (old new : Meeting) (is_due : due t p n (w.actors n).thread ≡ Some (i, q)) (actor_is : old.actor.state ≡ w.actors n)
      (cell_is : old.cell.state ≡ w.instances i) (made : IsMade t p n i q stamp old new) where
    part : instance_part t p i (w.instances i) n q (w.actors n).last ≡ Some (made.entry, new.cell.state)
    part =
        subst (λ (s : InstanceState). instance_part t p i s n q (w.actors n).last ≡ Some (made.entry, new.cell.state)) cell_is
        (subst (λ (x : ActorState). instance_part t p i old.cell.state n q x.last ≡ Some (made.entry, new.cell.state)) actor_is made.part)

    taken : actor_part t p n (w.actors n) made.entry ≡ Some new.actor.state
    taken = subst (λ (x : ActorState). actor_part t p n x made.entry ≡ Some new.actor.state) actor_is made.taken

    takes : (made.entry.actor ≡ n) × (made.entry.instance ≡ i) × ((z : ActorState) × (actor_part t p n (w.actors n) made.entry ≡ Some z))
    takes = taking n i (w.actors n) q (w.instances i) new.cell.state made.entry is_due part

    pub made_actor : made.entry.actor ≡ n
    made_actor = takes.0

    pub made_instance : made.entry.instance ≡ i
    made_instance = takes.1

    pub made_step : system.Step (core t p) w made.entry (made_world w made.entry new)
    made_step = record {
      ask = q;
      s = new.cell.state;
      x = new.actor.state;
      due =
          subst (λ (k : ℕ). due t p k (w.actors k).thread ≡ Some (made.entry.instance, q)) (sym made_actor) (is_due ∙ ap (λ (k : ℕ). Some (k, q)) (sym made_instance));
      instance_part =
          subst (λ (a : ℕ). instance_part t p made.entry.instance (w.instances made.entry.instance) a q (w.actors a).last ≡ Some (made.entry, new.cell.state)) (sym made_actor)
          (subst (λ (k : ℕ). instance_part t p k (w.instances k) n q (w.actors n).last ≡ Some (made.entry, new.cell.state)) (sym made_instance) part);
      actor_part = subst (λ (a : ℕ). actor_part t p a (w.actors a) made.entry ≡ Some new.actor.state) (sym made_actor) taken;
      within = made.within;
      next = refl;
    }

    instance_here : (made_world w made.entry new).instances i ≡ new.cell.state
    instance_here =
        subst (λ (k : ℕ). system.updated w.instances made.entry.instance new.cell.state k ≡ new.cell.state) made_instance
        (updated-here w.instances made.entry.instance new.cell.state)

    actor_here : (made_world w made.entry new).actors n ≡ new.actor.state
    actor_here =
        subst (λ (k : ℕ). system.updated w.actors made.entry.actor new.actor.state k ≡ new.actor.state) made_actor
        (updated-here w.actors made.entry.actor new.actor.state)

    -- the states and the parts of the list of others stay
    pub instance_other : (k : ℕ) → i ≢ k → (made_world w made.entry new).instances k ≡ w.instances k
    instance_other k other = updated-other w.instances made.entry.instance new.cell.state k (λ e. other (sym made_instance ∙ e))

    pub actor_other : (m : ℕ) → n ≢ m → (made_world w made.entry new).actors m ≡ w.actors m
    actor_other m other = updated-other w.actors made.entry.actor new.actor.state m (λ e. other (sym made_actor ∙ e))

    pub history_other : (k : ℕ) → i ≢ k → at k new.entries ≡ at k old.entries
    history_other k other = ap (at k) made.entries ∙ more_other (λ (e : Entry). e.instance) k made.entry old.entries (λ e. other (sym made_instance ∙ e))

    pub trace_other : (m : ℕ) → n ≢ m → by m new.entries ≡ by m old.entries
    trace_other m other = ap (by m) made.entries ∙ more_other (λ (e : Entry). e.actor) m made.entry old.entries (λ e. other (sym made_actor ∙ e))

    history_here : at i new.entries ≡ at i old.entries ++ made.entry ∷ []
    history_here = ap (at i) made.entries ∙ more_here (λ (e : Entry). e.instance) i made.entry old.entries made_instance

    trace_here : by n new.entries ≡ by n old.entries ++ made.entry ∷ []
    trace_here = ap (by n) made.entries ∙ more_here (λ (e : Entry). e.actor) n made.entry old.entries made_actor

    pub made_run : RunTo t p old.entries w → RunTo t p new.entries (made_world w made.entry new)
    made_run run =
        subst (λ (l : List Entry). RunTo t p l (made_world w made.entry new)) (sym made.entries)
        (InTurn-more (system.Step (core t p)) old.entries (opening t p) w (made_world w made.entry new) made.entry run made_step)

    module _ (actor : old.actor ≡ actor_of t p old.entries w n old.actor.has_room) (cell : old.cell ≡ cell_of t p old.entries w i) where
      pub made_cell : new.cell ≡ cell_of t p new.entries (made_world w made.entry new) i
      made_cell =
          let seat = made.seat ∙ ap (λ (c : Standing). c.seat) cell in
          let history : new.cell.history ≡ at i new.entries =
          made.history ∙ ap (λ (c : Standing). c.history ++ made.entry ∷ []) cell ∙ sym history_here in
          let c = new.cell in
          ap (λ (s : Seat). standing_of s c.state c.history) seat
          ∙ ap (λ (s : InstanceState). standing_of (seat_of t p i) s c.history) (sym instance_here)
          ∙ ap (λ (l : List Entry). standing_of (seat_of t p i) ((made_world w made.entry new).instances i) l) history

      pub made_acting : new.actor ≡ actor_of t p new.entries (made_world w made.entry new) n new.actor.has_room
      made_acting =
          let x = new.actor in
          let trace : x.trace ≡ by n new.entries = made.trace ∙ ap (λ (a : Acting). a.trace ++ made.entry ∷ []) actor ∙ sym trace_here in
          ap (λ (d : Described). acting_of d x.program x.number x.state x.trace x.has_room) (made.same.tables ∙ ap (λ (a : Acting). a.tables) actor)
          ∙ ap (λ (d : Program). acting_of t d x.number x.state x.trace x.has_room) (made.same.program ∙ ap (λ (a : Acting). a.program) actor)
          ∙ ap (λ (d : ℕ). acting_of t p d x.state x.trace x.has_room) (made.same.number ∙ ap (λ (a : Acting). a.number) actor)
          ∙ ap (λ (d : ActorState). acting_of t p n d x.trace x.has_room) (sym actor_here)
          ∙ ap (λ (d : List Entry). acting_of t p n ((made_world w made.entry new).actors n) d x.has_room) trace

      module _ (differ : numbers_differ (placed t) ≡ true) (cells : List Standing) (place : ℕ) (there : slice_get (placed t) place ≡ Some i)
          (are : AreCells t p old.entries w cells) where
        pub made_cells : AreCells t p new.entries (made_world w made.entry new) (slice_set cells place new.cell)
        made_cells = record {
          each = λ k j c here found. each_set (λ m x. (h : ℕ) → slice_get (placed t) m ≡ Some h → x ≡ cell_of t p new.entries (made_world w made.entry new) h) cells place new.cell others mine k c found j here;
          count = length_set cells place new.cell ∙ are.count;
        }
          where
            mine : (h : ℕ) → slice_get (placed t) place ≡ Some h → new.cell ≡ cell_of t p new.entries (made_world w made.entry new) h
            mine h here = subst (λ (k : ℕ). new.cell ≡ cell_of t p new.entries (made_world w made.entry new) k) (same_some (sym there ∙ here)) made_cell

            others : (m : ℕ) (x : Standing) → place ≢ m → slice_get cells m ≡ Some x → (h : ℕ) → slice_get (placed t) m ≡ Some h
                → x ≡ cell_of t p new.entries (made_world w made.entry new) h
            others m x other found h here =
                let elsewhere : i ≢ h = λ e. other (one_place (placed t) differ place m i there (here ∙ ap Some (sym e))) in
                are.each m h x here found
                ∙ ap (λ (s : InstanceState). standing_of (seat_of t p h) s (at h old.entries)) (sym (instance_other h elsewhere))
                ∙ ap (λ (l : List Entry). standing_of (seat_of t p h) ((made_world w made.entry new).instances h) l) (sym (history_other h elsewhere))

        pub made_scene : RunTo t p old.entries w
            → StandsOn t p n (record { actor = old.actor; cells = cells; entries = old.entries }) w (record { actor = new.actor; cells = slice_set cells place new.cell; entries = new.entries })
        made_scene run = record {
          world = made_world w made.entry new;
          stands = record { run = made_run run; cells = made_cells; actor = made_acting };
          states = actor_other;
          traces = trace_other;
        }
