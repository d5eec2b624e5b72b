-- A list whose projections are histories and traces, and whose stamps are Lamport's, is a run.
use Rattle.std.proofs.Common.{◌≡◌, ℕ, suc, max, List, [], ◌∷◌, ◌++◌, refl, sym, ap₂, subst, ◌∙◌, append_assoc}
use Rattle.fp_events.specs.System.{System, Laws}
use Rattle.fp_events.specs.SystemRun.{InTurn, World, at, by, after, opening, Step, InstanceStep, ActorStep, Run, Kept, Told, IsStamped, last_or}
use Rattle.fp_events.proofs.Turns.{peel, clock_more}

module _ {S A Q E : Type 0} (y : System S A Q E) (laws : Laws y) where
  -- from the world w after the entries `before`
  decompose_from : (es before : List E) (w v : World S A)
      → ((i : ℕ) → y.instance_stamp (w.instances i) ≡ last_or y.stamp 0 (at y i before))
      → ((a : ℕ) → y.actor_stamp (w.actors a) ≡ last_or y.stamp 0 (by y a before))
      → IsStamped y (before ++ es)
      → ((i : ℕ) → InTurn (InstanceStep y i) (w.instances i) (at y i es) (v.instances i))
      → ((a : ℕ) → InTurn (ActorStep y a) (w.actors a) (by y a es) (v.actors a))
      → Run y w es v
  decompose_from [] before w v clocks actor_clocks stamped kept told = λ j. record { instances = λ i. kept i j; actors = λ a. told a j }
  decompose_from (e ∷ es) before w v clocks actor_clocks stamped kept told =
      let here = peel y.instance (InstanceStep y) e es w.instances v.instances kept in
      let mine = peel y.actor (ActorStep y) e es w.actors v.actors told in
      let takes = laws.takes (y.actor e) (w.actors (y.actor e)) mine.0 e mine.1.part in
      let gives = laws.gives _ _ _ _ _ _ _ here.1.part in
      let stamp : y.stamp e ≡ suc (max (y.instance_stamp (w.instances (y.instance e))) (y.actor_stamp (w.actors (y.actor e)))) =
      stamped e before es refl ∙ ap₂ (λ m n. suc (max m n)) (sym (clocks (y.instance e))) (sym (actor_clocks (y.actor e))) in
      let first : Step y w e (after y w e here.0 mine.0) = record {
        ask = takes.ask;
        s = here.0;
        x = mine.0;
        due = takes.due;
        instance_part = laws.due_gives _ _ _ _ _ _ _ _ _ _ here.1.part mine.1.part takes.due stamp;
        actor_part = mine.1.part;
        within = here.1.within;
        next = refl;
      } in (
        after y w e here.0 mine.0,
        first,
        decompose_from es (before ++ e ∷ []) (after y w e here.0 mine.0) v
            (clock_more y.instance y.instance_stamp y.stamp w.instances before e here.0 clocks gives.last)
            (clock_more y.actor y.actor_stamp y.stamp w.actors before e mine.0 actor_clocks takes.last)
            (subst (IsStamped y) (sym (append_assoc before (e ∷ []) es)) stamped)
            here.2 mine.2,
      )

  pub decompose : (es : List E) (v : World S A) → IsStamped y es
      → ((i : ℕ) → Kept y i (at y i es) (v.instances i)) → ((a : ℕ) → Told y a (by y a es) (v.actors a))
      → Run y (opening y) es v
  decompose es v stamped kept told = decompose_from es [] (opening y) v laws.first_instance laws.first_actor stamped kept told
