-- What a cell makes of an actor's due ask is an entry that the actor accepts.
use Rattle.std.proofs.Common.{◌≡◌, ℕ, ◌<◌, ◌≤◌, true, List, [], ◌∷◌, ◌++◌, Some, option_map, refl, sym, ap, ◌∙◌, subst}
use Rattle.fp_tables.specs.Lookup.{Described}
use Rattle.fp_tables.specs.declared.program.Program.{Program}
use Rattle.fp_events.specs.declared.event.Ask.{Ask}
use Rattle.fp_events.specs.declared.event.Entry.{Entry}
use Rattle.fp_events.specs.declared.event.Why.{Why}
use Rattle.fp_events.specs.Actor.{ActorState}
use Rattle.fp_events.specs.Due.{due}
use Rattle.fp_events.specs.Instance.{InstanceState}
use Rattle.fp_events.specs.Step.{instance_part, actor_part, answers_due}
use Rattle.fp_events.specs.Waits.{waits}
use Rattle.fp_actor.specs.Acting.{Acting, AnswersDue, IsSameActor, due_of_actor}
use Rattle.fp_cell.specs.Cells.{Standing}
use Rattle.fp_cell.specs.Replies.{Answered, IsAbove, IsStep, cause}
use Rattle.fp_cell.specs.declared.cell.Reply.{Reply}
use Rattle.fp_cell.specs.declared.cell.Reply.TheVariants as reply
use Rattle.fp_running.specs.declared.turn.Turn.TheVariants as turn
use Rattle.fp_running.specs.Meeting.{Meeting, IsActor, IsCell, IsMade, IsPast, IsUnmoved, Met}

-- the laws on what an instance makes of a due ask
abbrev pub AnswersDueAsk : Type 0
AnswersDueAsk = (t : Described) (p : Program) (a i : ℕ) (s u : InstanceState) (x : ActorState) (q : Ask) (e : Entry) → due t p a x.thread ≡ Some (i, q)
    → instance_part t p i s a q x.last ≡ Some (e, u) → option_map (answers_due t p a e) (due t p a x.thread) ≡ Some true

abbrev pub ComesAbove : Type 0
ComesAbove = (t : Described) (p : Program) (a i : ℕ) (s u : InstanceState) (x : ActorState) (q : Ask) (e : Entry) → instance_part t p i s a q x.last ≡ Some (e, u) → x.last < e.stamp

module _ (t : Described) (p : Program) (n i : ℕ) where
  -- what is said of the cell's own tables, program and instance is said of these
  at_cell : (P : Described → Program → ℕ → Type 0) (c : Standing) → IsCell t p i c → P c.seat.tables c.seat.program c.seat.instance → P t p i
  at_cell P c at h =
      subst (P t p) at.instance (subst (λ (y : Program). P t y c.seat.instance) at.program (subst (λ (y : Described). P y c.seat.program c.seat.instance) at.tables h))

  pub at_actor : (P : Described → Program → ℕ → Type 0) (a : Acting) → IsActor t p n a → P a.tables a.program a.number → P t p n
  at_actor P a of h =
      subst (P t p) of.number (subst (λ (y : Program). P t y a.number) of.program (subst (λ (y : Described). P y a.program a.number) of.tables h))

  from_actor : (P : Described → Program → ℕ → Type 0) (a : Acting) → IsActor t p n a → P t p n → P a.tables a.program a.number
  from_actor P a of h =
      subst (λ (y : Described). P y a.program a.number) (sym of.tables) (subst (λ (y : Program). P t y a.number) (sym of.program) (subst (P t p) (sym of.number) h))

  -- an actor for which room was made
  roomy : (a b : Acting) → b ≡ record a { has_room = b.has_room } → IsActor t p n a → IsActor t p n b
  roomy a b is of = record {
    tables = ap (λ (x : Acting). x.tables) is ∙ of.tables;
    program = ap (λ (x : Acting). x.program) is ∙ of.program;
    number = ap (λ (x : Acting). x.number) is ∙ of.number;
  }

  module _ (q : Ask) (a b : Acting) (c : Standing) (seen : ℕ) (of : IsActor t p n a) (at : IsCell t p i c) (is_due : due_of_actor a ≡ Some (i, q)) (room : b ≡ record a { has_room = b.has_room })
      (saw : seen ≡ a.state.last) where
    pub due_here : due t p n a.state.thread ≡ Some (i, q)
    due_here = at_actor (λ d o k. due d o k a.state.thread ≡ Some (i, q)) a of is_due

    part_here : (e : Entry) (u : InstanceState) → instance_part c.seat.tables c.seat.program c.seat.instance c.state n q seen ≡ Some (e, u)
        → instance_part t p i c.state n q a.state.last ≡ Some (e, u)
    part_here e u h =
        subst (λ (m : ℕ). instance_part t p i c.state n q m ≡ Some (e, u)) saw (at_cell (λ d o k. instance_part d o k c.state n q seen ≡ Some (e, u)) c at h)

    pub past : (es : List Entry) → IsAbove c n q seen → IsPast t p n i q (record { actor = a; cell = c; entries = es })
    past es above = record {
      entry = above.entry;
      left = above.left;
      part = part_here above.entry above.left above.part;
      above = subst (λ (y : Program). y.steps < above.entry.stamp) at.program above.above;
    }

    pub cause_here : (why : Why) → cause c q ≡ Some why → waits t i c.state.inside q ≡ Some why
    cause_here why h = at_cell (λ d o k. waits d k c.state.inside q ≡ Some why) c at h

    state_is : b.state ≡ a.state
    state_is = ap (λ (x : Acting). x.state) room

    module _ (e : Entry) (d : Standing) (step : IsStep c n q seen e d) where
      pub answers : AnswersDueAsk → AnswersDue b e
      answers law =
          from_actor (λ y o k. option_map (answers_due y o k e) (due y o k b.state.thread) ≡ Some true) b (roomy a b room of)
          (subst (λ (x : ActorState). option_map (answers_due t p n e) (due t p n x.thread) ≡ Some true) (sym state_is)
          (law t p n i c.state d.state a.state q e due_here (part_here e d.state step.part)))

      pub above : ComesAbove → b.state.last < e.stamp
      above law = subst (λ (x : ActorState). x.last < e.stamp) (sym state_is) (law t p n i c.state d.state a.state q e (part_here e d.state step.part))

      pub within : e.stamp ≤ b.program.steps
      within = subst (λ (y : Program). e.stamp ≤ y.steps) (at.program ∙ sym (roomy a b room of).program) step.within

      pub made : (z : Acting) (es fs : List Entry) → actor_part b.tables b.program b.number b.state e ≡ Some z.state → z.trace ≡ b.trace ++ e ∷ [] → IsSameActor b z → fs ≡ es ++ e ∷ []
          → IsMade t p n i q e.stamp (record { actor = a; cell = c; entries = es }) (record { actor = z; cell = d; entries = fs })
      made z es fs state trace same more = record {
        entry = e;
        part = part_here e d.state step.part;
        within = subst (λ (y : Program). e.stamp ≤ y.steps) at.program step.within;
        stamp = refl;
        seat = step.seat;
        history = step.history;
        taken =
            subst (λ (x : ActorState). actor_part t p n x e ≡ Some z.state) state_is
            (at_actor (λ y o k. actor_part y o k b.state e ≡ Some z.state) b (roomy a b room of) state);
        same = record {
          tables = same.tables ∙ ap (λ (x : Acting). x.tables) room;
          program = same.program ∙ ap (λ (x : Acting). x.program) room;
          number = same.number ∙ ap (λ (x : Acting). x.number) room;
        };
        trace = trace ∙ ap (λ (x : Acting). x.trace ++ e ∷ []) room;
        entries = more;
      }

      -- the same of the cell's reply
      pub met_step : (z : Acting) (es fs : List Entry) → actor_part b.tables b.program b.number b.state e ≡ Some z.state → z.trace ≡ b.trace ++ e ∷ [] → IsSameActor b z → fs ≡ es ++ e ∷ []
          → Met t p n i q (turn.Stepped i e.stamp) (record { actor = a; cell = c; entries = es }) (record { actor = z; cell = d; entries = fs })
      met_step z es fs state trace same more = (refl, made z es fs state trace same more)

    module _ (r : Reply) (d : Standing) (answered : Answered c n q seen r d) where
      pub step_of : (e : Entry) → r ≡ reply.Stepped e → IsStep c n q seen e d
      step_of e is = subst (λ (x : Reply). Answered c n q seen x d) is answered

      pub not_yet : (why : Why) (es : List Entry) → r ≡ reply.NotYet why
          → Met t p n i q (turn.NotYet i why) (record { actor = a; cell = c; entries = es }) (record { actor = b; cell = d; entries = es })
      not_yet why es is =
          let h : (cause c q ≡ Some why) × (d ≡ c) = subst (λ (x : Reply). Answered c n q seen x d) is answered in
          (refl, cause_here why h.0, record { actor = room; cell = h.1; entries = refl })

      pub at_limit : (es : List Entry) → r ≡ reply.AtLimit → Met t p n i q turn.AtLimit (record { actor = a; cell = c; entries = es }) (record { actor = b; cell = d; entries = es })
      at_limit es is =
          let h : IsAbove c n q seen × (d ≡ c) = subst (λ (x : Reply). Answered c n q seen x d) is answered in
          (past es h.0, record { actor = room; cell = h.1; entries = refl })
