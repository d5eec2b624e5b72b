-- One turn of a pass at its cell: what it may leave, and what the cell answers.
use Rattle.std.proofs.Common.{◌≡◌, ◌≤◌, ◌<◌, inl, inr, ℕ, ◌+◌, true, List, [], ◌∷◌, ◌++◌, Some, sym, ap, ◌∙◌, subst, append-nil}
use Rattle.std.specs.Prelude.{Result, Ok, Err, IfOk, OnErr}
use Rattle.fp_base.proofs.Options.{same_some}
use Rattle.fp_events.specs.SystemRun.{Kept}
use Rattle.fp_events.specs.declared.event.Ask.{Ask}
use Rattle.fp_events.specs.declared.event.Entry.{Entry}
use Rattle.fp_events.specs.Fits.{actor_count, ask_fits}
use Rattle.fp_events.specs.Step.{core, instance_part}
use Rattle.fp_events.specs.Waits.{waits}
use Rattle.fp_actor.specs.Acting.{Acting}
use Rattle.fp_cell.specs.Cells.{Seat}
use Rattle.fp_cell.specs.Replies.{Answered}
use Rattle.fp_cell.specs.declared.cell.Reply.{Reply}
use Rattle.fp_cell.specs.declared.cell.Reply.TheVariants.{Stepped, NotYet, AtLimit}
use Rattle.fp_gate.specs.declared.booked.Entry.{Entry as Left}
use Rattle.fp_gate.specs.declared.view.View.{View}
use Rattle.fp_gate.specs.Passes.{Begins, MayLeave, Ends}
use Rattle.fp_gate.specs.Steps.{Meets}
use Rattle.fp_plant.specs.declared.held.CellName.{CellName}
use Rattle.fp_plant.specs.Hands.{IsOwn, Says, Replies}
use Rattle.fp_plant.specs.Noted.{NotedCell, IsNoted, Notes, noted, booked, items, cell_name}
use Rattle.fp_plant.specs.Planted.{Passing}
use Rattle.fp_plant.proofs.Noting.{by_actor, items_booked}

-- the seat of the actor's instance
abbrev pub seat_of : Acting → ℕ → Seat
seat_of a i = record { tables = a.tables; program = a.program; instance = i }

abbrev back : CellName → Seat
back n = record { tables = n.tables; program = n.program; instance = n.instance }

-- the cell that is met is the one of the pass's name
pub its_seat : (a : Acting) (i : ℕ) (q : Passing) (h : NotedCell) → IsOwn a i q → q.view.name ≡ Some (cell_name h.cell.seat) → h.cell.seat ≡ seat_of a i
its_seat a i q h own met = let same : cell_name h.cell.seat ≡ cell_name (seat_of a i) = same_some (sym met ∙ own.name) in ap back same

pub its_actors : (a : Acting) (i n : ℕ) (s : Seat) → s ≡ seat_of a i → n ≡ a.number → a.number < actor_count a.tables a.program → n < actor_count s.tables s.program
its_actors a i n s here is low =
    subst (λ (z : Seat). n < actor_count z.tables z.program) (sym here) (subst (λ (k : ℕ). k < actor_count a.tables a.program) (sym is) low)

pub its_ask : (a : Acting) (i : ℕ) (s : Seat) (ask : Ask) → s ≡ seat_of a i → ask_fits a.tables a.program i ask ≡ true → ask_fits s.tables s.program s.instance ask ≡ true
its_ask a i s ask here fit = ap (λ (z : Seat). ask_fits z.tables z.program z.instance ask) here ∙ fit

-- of a cell that has answered so: the history is the one that was entered with, or has the step's entry more
pub may_leave : {X : Type 0} (r : Result Reply X) (v : View CellName Entry) (old new : NotedCell) (number seen : ℕ) (ask : Ask) → number ≡ v.number → v.base ≡ booked old → IsNoted old
    → IfOk r (λ x. Answered old.cell number ask seen x new.cell) → IfOk r (λ x. Notes seen x old new) → OnErr r (new ≡ old) → MayLeave v (booked new)
may_leave (Err x) v old new number seen ask is base known answered notes same = inl (ap booked same ∙ sym base)
may_leave (Ok (Stepped e)) v old new number seen ask is base known answered notes same =
    inr (noted (e, seen), by_actor old new.cell number seen ask e known answered ∙ is, notes ∙ ap (λ (b : List (Left Entry)). b ++ noted (e, seen) ∷ []) (sym base))
may_leave (Ok (NotYet why)) v old new number seen ask is base known answered notes same = inl (ap booked notes ∙ sym base)
may_leave (Ok AtLimit) v old new number seen ask is base known answered notes same = inl (ap booked notes ∙ sym base)

-- what is known of a turn: the pass before it, inside and after it, and the cell before and after its answer
pub record IsTurn (a : Acting) (i number seen : ℕ) (ask : Ask) (before inside after : Passing) (old new : NotedCell) : Type 0 where
  pub own : IsOwn a i before
  pub number_is : number ≡ a.number
  pub seen_is : seen ≡ a.state.last
  pub known : IsNoted old
  pub met : Meets (λ (h : NotedCell). cell_name h.cell.seat) booked before.view old
  pub begins : Begins booked before.view old inside.view
  pub ends : Ends inside.view (booked new) after.view

module _ (a : Acting) (i number seen : ℕ) (ask : Ask) (before inside after : Passing) (old new : NotedCell) (turn : IsTurn a i number seen ask before inside after old new) where
  seat_is : old.cell.seat ≡ seat_of a i
  seat_is = its_seat a i before old turn.own turn.met.0

  left_same : new ≡ old → after.view.left ≡ before.view.left
  left_same same =
      turn.ends.2 [] (ap booked same ∙ (sym turn.begins.1 ∙ sym (append-nil inside.view.base))) ∙ (append-nil inside.view.left ∙ turn.begins.2)

  left_more : (e : Entry) → booked new ≡ booked old ++ noted (e, seen) ∷ [] → after.view.left ≡ before.view.left ++ noted (e, a.state.last) ∷ []
  left_more e more =
      turn.ends.2 (noted (e, seen) ∷ []) (more ∙ ap (λ (b : List (Left Entry)). b ++ noted (e, seen) ∷ []) (sym turn.begins.1))
      ∙ (ap (λ (b : List (Left Entry)). b ++ noted (e, seen) ∷ []) turn.begins.2 ∙ ap (λ (n : ℕ). before.view.left ++ noted (e, n) ∷ []) turn.seen_is)

  saw : Kept (core a.tables a.program) i (items after.view.base) old.cell.state
  saw =
      let base : items after.view.base ≡ old.cell.history = ap items (turn.ends.1 ∙ turn.begins.1) ∙ items_booked old turn.known.count in
      let kept : Kept (core a.tables a.program) i old.cell.history old.cell.state =
      subst (λ (z : Seat). Kept (core z.tables z.program) z.instance old.cell.history old.cell.state) seat_is turn.known.kept in
      subst (λ (es : List Entry). Kept (core a.tables a.program) i es old.cell.state) (sym base) kept

  -- the cell's part is the actor's
  part_is : instance_part old.cell.seat.tables old.cell.seat.program old.cell.seat.instance old.cell.state number ask seen
      ≡ instance_part a.tables a.program i old.cell.state a.number ask a.state.last
  part_is =
      ap (λ (z : Seat). instance_part z.tables z.program z.instance old.cell.state number ask seen) seat_is
      ∙ (ap (λ (n : ℕ). instance_part a.tables a.program i old.cell.state n ask seen) turn.number_is
      ∙ ap (λ (n : ℕ). instance_part a.tables a.program i old.cell.state a.number ask n) turn.seen_is)

  steps_is : old.cell.seat.program.steps ≡ a.program.steps
  steps_is = ap (λ (z : Seat). z.program.steps) seat_is

  says : (x : Reply) → Answered old.cell number ask seen x new.cell → Notes seen x old new → Says a i old.cell.state ask x before.view.left after.view.left
  says (Stepped e) answered notes = (new.cell.state, sym part_is ∙ answered.part, subst (λ (n : ℕ). e.stamp ≤ n) steps_is answered.within, left_more e notes)
  says (NotYet why) answered notes = (sym (ap (λ (z : Seat). waits z.tables z.instance old.cell.state.inside ask) seat_is) ∙ answered.0, left_same notes)
  says AtLimit answered notes =
      let above = answered.0 in (above.entry, above.left, sym part_is ∙ above.part, subst (λ (n : ℕ). n < above.entry.stamp) steps_is above.above, left_same notes)

  pub replied : {X : Type 0} (r : Result Reply X) → IfOk r (λ x. Answered old.cell number ask seen x new.cell) → IfOk r (λ x. Notes seen x old new)
      → IfOk r (λ x. Replies a i ask x before after)
  replied (Err x) answered notes = tt
  replied (Ok x) answered notes = record { state = old.cell.state; saw = saw; says = says x answered notes }

  pub failed : {X : Type 0} (r : Result Reply X) → OnErr r (new ≡ old) → OnErr r (after.view.left ≡ before.view.left)
  failed (Err x) same = left_same same
  failed (Ok x) same = tt
