-- A turn of an actor, from what comes of its ask.
use Rattle.std.proofs.Common.{◌≡◌, ◌≢◌, ◌<◌, ◌⊎◌, inl, inr, ℕ, zero, suc, Bool, true, false, List, [], ◌∷◌, ◌++◌, length, slice_set, Option, Some, None, option_map, option_and_then, refl, sym, ap, ◌∙◌, subst, arith}
use Rattle.std.specs.Prelude.{Result, Ok, Err, IfOk, OnErr}
use Rattle.std.specs.List.{slice_get}
use Rattle.fp_base.specs.declared.memory.NoMemory.{NoMemory}
use Rattle.fp_events.specs.SystemRun as system
use Rattle.fp_events.specs.System.{IsTaking, Laws}
use Rattle.fp_events.proofs.OfRun.{by_run}
use Rattle.fp_tables.specs.Acts.{is_placed}
use Rattle.fp_tables.specs.Lookup.{Described, placed}
use Rattle.fp_tables.specs.Names.{numbers_differ}
use Rattle.fp_tables.specs.declared.program.Program.{Program}
use Rattle.fp_events.specs.declared.event.Ask.{Ask}
use Rattle.fp_events.specs.declared.event.Entry.{Entry}
use Rattle.fp_events.specs.declared.event.Why.{Why}
use Rattle.fp_events.specs.Actor.{ActorState, Thread}
use Rattle.fp_events.specs.Due.{due}
use Rattle.fp_events.specs.Ends.{next_stamp}
use Rattle.fp_events.specs.Fits.{actor_count, ask_fits}
use Rattle.fp_events.specs.Instance.{InstanceState}
use Rattle.fp_events.specs.Run.{World, at, by, opening, RunTo}
use Rattle.fp_events.specs.Step.{core, instance_part}
use Rattle.fp_events.specs.Waits.{waits}
use Rattle.fp_actor.specs.Acting.{Acting, due_of_actor}
use Rattle.fp_actor.specs.Next.{next_of}
use Rattle.fp_actor.specs.declared.actor.Next.{Next}
use Rattle.fp_actor.specs.declared.actor.Next.TheVariants.{AtEnd, Halted}
use Rattle.fp_cell.specs.Cells.{Standing}
use Rattle.fp_running.specs.declared.turn.Turn.{Turn}
use Rattle.fp_running.specs.declared.turn.Turn.TheVariants as turn
use Rattle.fp_running.specs.Meeting.{Meeting, IsActor, IsCell, IsMade, IsPast, IsUnmoved, Met}
use Rattle.fp_running.specs.Progress.{Comes, IsThrough, Progress}
use Rattle.fp_running.specs.Standing.{Scene, progress, cell_of, actor_of, AreCells, AreActors, Stands, StandsOn, IsSet}
use Rattle.fp_running.proofs.Asking.{at_actor}
use Rattle.fp_running.proofs.Numbering.{each_set, length_set}
use Rattle.fp_running.proofs.Stepping.{acting_of, made_world, made_step, made_actor, made_instance, made_scene}

-- the laws that a turn stands on
abbrev pub Waiting : Type 0
Waiting = (t : Described) (p : Program) (i a seen : ℕ) (s : InstanceState) (q : Ask) (why : Why) → waits t i s.inside q ≡ Some why → instance_part t p i s a q seen ≡ None

abbrev pub DueFits : Described → Program → Type 0
DueFits t p = (a : ℕ) (es : List Entry) (x : ActorState) → system.Told (core t p) a es x → (i : ℕ) (q : Ask) → due t p a x.thread ≡ Some (i, q)
    → (a < actor_count t p) × (is_placed t i ≡ true) × (ask_fits t p i q ≡ true)

module _ (t : Described) (p : Program) (n : ℕ) where
  pub is_actor : (s : Scene) (w : World) → Stands t p n s w → IsActor t p n s.actor
  is_actor s w h = record {
    tables = ap (λ (x : Acting). x.tables) h.actor;
    program = ap (λ (x : Acting). x.program) h.actor;
    number = ap (λ (x : Acting). x.number) h.actor;
  }

  state_of : (s : Scene) (w : World) → Stands t p n s w → s.actor.state ≡ w.actors n
  state_of s w h = ap (λ (x : Acting). x.state) h.actor

  -- what is due of the actor is due of its state in the world
  pub due_there : (s : Scene) (w : World) → Stands t p n s w → (d : Option (ℕ × Ask)) → due_of_actor s.actor ≡ d → due t p n (w.actors n).thread ≡ d
  due_there s w h d is =
      subst (λ (x : ActorState). due t p n x.thread ≡ d) (state_of s w h) (at_actor t p n 0 (λ y o k. due y o k s.actor.state.thread ≡ d) s.actor (is_actor s w h) is)

  module _ (laws : Laws (core t p)) (law : DueFits t p) where
    pub fitting : (s : Scene) (w : World) → Stands t p n s w → (i : ℕ) (q : Ask) → due_of_actor s.actor ≡ Some (i, q)
        → (n < actor_count t p) × (is_placed t i ≡ true) × (ask_fits t p i q ≡ true)
    fitting s w h i q is = law n (by n s.entries) (w.actors n) (by_run (core t p) laws s.entries (opening t p) w h.run n) i q (due_there s w h (Some (i, q)) is)

  -- a turn that changes nothing but the actor's room
  module _ (s : Scene) (x : Acting) (room : x ≡ record s.actor { has_room = x.has_room }) (cells : List Standing) (same : cells ≡ s.cells) (es : List Entry) (kept : es ≡ s.entries) where
    pub still : (w : World) → Stands t p n s w → StandsOn t p n s w (record { actor = x; cells = cells; entries = es })
    still w h = record {
      world = w;
      stands = record {
        run = subst (λ l. RunTo t p l w) (sym kept) h.run;
        cells = subst (λ l. AreCells t p l w cells) (sym kept) (subst (AreCells t p s.entries w) (sym same) h.cells);
        actor = subst (λ l. x ≡ actor_of t p l w n x.has_room) (sym kept) (room ∙ ap (λ (y : Acting). record y { has_room = x.has_room }) h.actor);
      };
      states = λ m other. refl;
      traces = λ m other. ap (by m) kept;
    }

  -- nothing is due where nothing comes next
  pub at_end : (b : Bool) (d : Option (ℕ × Ask)) → AtEnd ≡ next_of b d → (b ≡ false) × (d ≡ None)
  at_end true d h = absurd (cc)
  at_end false None h = (refl, refl)
  at_end false (Some y) h = absurd (cc)

  pub has_halted : (b : Bool) (d : Option (ℕ × Ask)) → Halted ≡ next_of b d → b ≡ true
  has_halted true d h = refl
  has_halted false None h = absurd (cc)
  has_halted false (Some y) h = absurd (cc)

  none_of_halted : (x : Thread) → x.halted ≡ true → due t p n x ≡ None
  unfolding due
  none_of_halted x h = rw h refl

  pub ends : (s : Scene) (w : World) → Stands t p n s w → AtEnd ≡ next_of s.actor.state.thread.halted (due_of_actor s.actor) → IsThrough (progress t p s.entries) w n false
  ends s w h is =
      let e = at_end s.actor.state.thread.halted (due_of_actor s.actor) is in
      record { halted = sym (ap (λ (x : ActorState). x.thread.halted) (state_of s w h)) ∙ e.0; none = due_there s w h None e.1 }

  pub halts : (s : Scene) (w : World) → Stands t p n s w → Halted ≡ next_of s.actor.state.thread.halted (due_of_actor s.actor) → IsThrough (progress t p s.entries) w n true
  halts s w h is =
      let e = has_halted s.actor.state.thread.halted (due_of_actor s.actor) is in
      let there : (w.actors n).thread.halted ≡ true = sym (ap (λ (x : ActorState). x.thread.halted) (state_of s w h)) ∙ e in
      record { halted = there; none = none_of_halted (w.actors n).thread there }

  module _ (i : ℕ) (q : Ask) where
    pub is_cell : (es : List Entry) (w : World) (c : Standing) → c ≡ cell_of t p es w i → IsCell t p i c
    is_cell es w c is = record {
      tables = ap (λ (x : Standing). x.seat.tables) is;
      program = ap (λ (x : Standing). x.seat.program) is;
      instance = ap (λ (x : Standing). x.seat.instance) is;
    }

    pub failed : (r : Result Turn NoMemory) (old new : Meeting) → OnErr r (IsUnmoved old new) → OnErr r (new.entries ≡ old.entries)
    failed (Ok u) old new h = h
    failed (Err z) old new h = h.entries

    next_is : (w : World) (o : Option (Entry × InstanceState)) → due t p n (w.actors n).thread ≡ Some (i, q) → instance_part t p i (w.instances i) n q (w.actors n).last ≡ o
        → next_stamp t p w n ≡ option_map (λ (r : Entry × InstanceState). r.0.stamp) o
    next_is w o is_due gives = rw (is_due, gives) refl

    module _ (a x : Acting) (c d : Standing) (es fs : List Entry) (cells : List Standing) (k : ℕ) (there : slice_get (placed t) k ≡ Some i) (found : slice_get cells k ≡ Some c)
        (is_due : due_of_actor a ≡ Some (i, q)) where
      abbrev pub before : Scene
      before = record { actor = a; cells = cells; entries = es }

      abbrev pub behind : Scene
      behind = record { actor = x; cells = slice_set cells k d; entries = fs }

      abbrev pub old : Meeting
      old = record { actor = a; cell = c; entries = es }

      abbrev pub new : Meeting
      new = record { actor = x; cell = d; entries = fs }

      module _ (w : World) (h : Stands t p n before w) where
        cell_is : c ≡ cell_of t p es w i
        cell_is = h.cells.each k i c there found

        part_at : (o : Option (Entry × InstanceState)) → instance_part t p i c.state n q a.state.last ≡ o → instance_part t p i (w.instances i) n q (w.actors n).last ≡ o
        part_at o part =
            subst (λ (s : InstanceState). instance_part t p i s n q (w.actors n).last ≡ o) (ap (λ (y : Standing). y.state) cell_is)
            (subst (λ (y : ActorState). instance_part t p i c.state n q y.last ≡ o) (state_of before w h) part)

        unmoved : IsUnmoved old new → StandsOn t p n before w behind
        unmoved u = still before x u.actor (slice_set cells k d) (ap (slice_set cells k) u.cell ∙ set_same cells k c found) fs u.entries w h
          where
            set_same : (xs : List Standing) (j : ℕ) (y : Standing) → slice_get xs j ≡ Some y → slice_set xs j y ≡ xs
            set_same [] j y e = refl
            set_same (z ∷ xs) zero y e = ap (λ v. v ∷ xs) (sym (some_is e))
              where
                some_is : {u v : Standing} → Some u ≡ Some v → u ≡ v
                some_is e = cc
            set_same (z ∷ xs) (suc j) y e = ap (λ l. z ∷ l) (set_same xs j y e)

        module _ (taking : IsTaking (core t p)) (differ : numbers_differ (placed t) ≡ true) where
          stepped : (stamp : ℕ) → IsMade t p n i q stamp old new → StandsOn t p n before w behind
          stepped stamp made =
              made_scene t p n i q taking w stamp old new (due_there before w h (Some (i, q)) is_due) (state_of before w h) (ap (λ (y : Standing). y.state) cell_is) made
              h.actor cell_is differ cells k there h.cells h.run

          met : (u : Turn) → Met t p n i q u old new → StandsOn t p n before w behind
          met (turn.Stepped j stamp) m = stepped stamp m.1
          met (turn.NotYet j why) m = unmoved m.2
          met turn.AtLimit m = unmoved m.1
          met turn.AtEnd m = absurd m
          met turn.Halted m = absurd m

          -- how the actor and the cells stand after the ask
          pub stands_on : (r : Result Turn NoMemory) → IfOk r (λ u. Met t p n i q u old new) → OnErr r (IsUnmoved old new) → StandsOn t p n before w behind
          stands_on (Ok u) m e = met u m
          stands_on (Err z) m e = unmoved e

          module _ (wait : Waiting) where
            came : (u : Turn) → Met t p n i q u old new → Comes (progress t p es) (progress t p fs) w n u
            came (turn.Stepped j stamp) m =
                let made = m.1 in
                let due_is = due_there before w h (Some (i, q)) is_due in
                let actor_is = state_of before w h in
                let state_is = ap (λ (y : Standing). y.state) cell_is in
                record {
                  entry = made.entry;
                  after = made_world t p n i q taking w made.entry new;
                  step = made_step t p n i q taking w stamp old new due_is actor_is state_is made;
                  actor = made_actor t p n i q taking w stamp old new due_is actor_is state_is made;
                  instance = made_instance t p n i q taking w stamp old new due_is actor_is state_is made ∙ sym m.0;
                  stamp = made.stamp;
                  added = ap (progress t p) made.entries;
                }
            came (turn.NotYet j why) m = (
              record {
                ask = q;
                due = due_there before w h (Some (i, q)) is_due ∙ ap (λ (k : ℕ). Some (k, q)) (sym m.0);
                cause = subst (λ (k : ℕ). waits t k (w.instances k).inside q ≡ Some why) (sym m.0) waits_there;
                none = next_is w None (due_there before w h (Some (i, q)) is_due) (wait t p i n (w.actors n).last (w.instances i) q why waits_there);
              },
              ap (progress t p) m.2.entries,
            )
              where
                waits_there : waits t i (w.instances i).inside q ≡ Some why
                waits_there = subst (λ (s : InstanceState). waits t i s.inside q ≡ Some why) (ap (λ (y : Standing). y.state) cell_is) m.1
            came turn.AtLimit m = (
              record {
                stamp = m.0.entry.stamp;
                next = next_is w (Some (m.0.entry, m.0.left)) (due_there before w h (Some (i, q)) is_due) (part_at (Some (m.0.entry, m.0.left)) m.0.part);
                above = m.0.above;
              },
              ap (progress t p) m.1.entries,
            )
            came turn.AtEnd m = absurd m
            came turn.Halted m = absurd m

            -- what comes of it
            pub comes : (r : Result Turn NoMemory) → IfOk r (λ u. Met t p n i q u old new) → IfOk r (λ u. Comes (progress t p es) (progress t p fs) w n u)
            comes (Ok u) m = came u m
            comes (Err z) m = m

  -- of all actors
  module _ (es fs : List Entry) (cells others : List Standing) (actors : List Acting) (a x : Acting) (set : IsSet t p es cells actors) (found : slice_get actors n ≡ Some a) where
    pub stands_first : Stands t p n (record { actor = a; cells = cells; entries = es }) set.world
    stands_first = record { run = set.run; cells = set.cells; actor = set.actors.each n a found }

    pub set_after : StandsOn t p n (record { actor = a; cells = cells; entries = es }) set.world (record { actor = x; cells = others; entries = fs }) → IsSet t p fs others (slice_set actors n x)
    set_after on = record {
      sound = set.sound;
      good = set.good;
      world = on.world;
      run = on.stands.run;
      cells = on.stands.cells;
      actors = record {
        each = each_set (λ m y. y ≡ actor_of t p fs on.world m y.has_room) actors n x other on.stands.actor;
        count = length_set actors n x ∙ set.actors.count;
      };
    }
      where
        other : (m : ℕ) (y : Acting) → n ≢ m → slice_get actors m ≡ Some y → y ≡ actor_of t p fs on.world m y.has_room
        other m y differs at =
            set.actors.each m y at
            ∙ ap (λ (s : ActorState). acting_of t p m s (by m es) y.has_room) (sym (on.states m differs))
            ∙ ap (λ (l : List Entry). acting_of t p m (on.world.actors m) l y.has_room) (sym (on.traces m differs))

-- where a turn fails nothing changes
pub failing : (t : Described) (p : Program) (r : Result Turn NoMemory) (es fs : List Entry) (old : Progress) → progress t p es ≡ old → OnErr r (fs ≡ es) → OnErr r (progress t p fs ≡ old)
failing t p (Ok u) es fs r is h = h
failing t p (Err z) es fs r is h = ap (progress t p) h ∙ is
