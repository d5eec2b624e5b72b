-- What follows from a step's answer.
use Rattle.std.proofs.Common.{◌≡◌, ◌≢◌, ◌<◌, ℕ, true, [], ◌∷◌, Some, None, refl, sym, ap, ◌∙◌, subst, append-nil, inl, inr, slice_get}
use mathlib.Core.List.{IsPrefix}
use Rattle.fp_base.proofs.Options.{same_some, no_some}
use Rattle.fp_events.specs.declared.event.Ask.{Ask}
use Rattle.fp_events.specs.declared.event.Entry.{Entry}
use Rattle.fp_events.specs.Actor.{ActorState}
use Rattle.fp_events.specs.Due.{due}
use Rattle.fp_events.specs.Instance.{InstanceState}
use Rattle.fp_events.specs.Step.{core, instance_part}
use Rattle.fp_events.specs.SystemRun.{Kept}
use Rattle.fp_tables.specs.Lookup.{Described, placed}
use Rattle.fp_tables.specs.declared.program.Program.{Program}
use Rattle.fp_actor.specs.Acting.{Acting, due_of_actor}
use Rattle.fp_plant.specs.declared.plant.Stepped.{Stepped}
use Rattle.fp_plant.specs.declared.plant.Stepped.TheVariants.{Took, NotYet, AtLimit, AtEnd, Halted}
use Rattle.fp_plant.specs.Noted.{items}
use Rattle.fp_plant.specs.Planted.{Handed, StepAnswers, Rests, HasNoStep, Met, IsUntouched, part}

stays : (old new : Handed) → IsUntouched old new → IsPrefix old.actor.trace new.actor.trace
stays old new same = ([], append-nil old.actor.trace ∙ sym same.trace)

-- the trace goes on
pub goes_on : (old : Handed) (r : Stepped) (new : Handed) → StepAnswers old r new → IsPrefix old.actor.trace new.actor.trace
unfolding StepAnswers
goes_on old Took new a = (a.1.entry ∷ [], sym a.1.trace)
goes_on old (NotYet why) new a = stays old new a.3
goes_on old AtLimit new a = stays old new a.2
goes_on old AtEnd new a = stays old new a.2
goes_on old Halted new a = stays old new a.1

-- an actor of the same number, tables, program and state has the same ask due
module _ (old new : Handed) (same : IsUntouched old new) where
  same_due : due_of_actor new.actor ≡ due_of_actor old.actor
  same_due =
      ap (λ (t : Described). due t new.actor.program new.actor.number new.actor.state.thread) same.actor.tables
      ∙ (ap (λ (p : Program). due old.actor.tables p new.actor.number new.actor.state.thread) same.actor.program
      ∙ (ap (λ (n : ℕ). due old.actor.tables old.actor.program n new.actor.state.thread) same.actor.number
      ∙ ap (λ (x : ActorState). due old.actor.tables old.actor.program old.actor.number x.thread) same.state))

  same_part : (i : ℕ) (s : InstanceState) (q : Ask) → instance_part new.actor.tables new.actor.program i s new.actor.number q new.actor.state.last
      ≡ instance_part old.actor.tables old.actor.program i s old.actor.number q old.actor.state.last
  same_part i s q =
      ap (λ (t : Described). instance_part t new.actor.program i s new.actor.number q new.actor.state.last) same.actor.tables
      ∙ (ap (λ (p : Program). instance_part old.actor.tables p i s new.actor.number q new.actor.state.last) same.actor.program
      ∙ (ap (λ (n : ℕ). instance_part old.actor.tables old.actor.program i s n q new.actor.state.last) same.actor.number
      ∙ ap (λ (x : ActorState). instance_part old.actor.tables old.actor.program i s old.actor.number q x.last) same.state))

  no_step : (m : Met old new) → ((e : Entry) (u : InstanceState) → part m ≡ Some (e, u) → old.actor.program.steps < e.stamp) → HasNoStep new
  no_step m none = record {
    instance = m.instance;
    place = m.place;
    ask = m.ask;
    pass = m.after;
    state = m.state;
    due = same_due ∙ m.due;
    there = ap (λ (t : Described). slice_get (placed t) m.place) same.actor.tables ∙ m.there;
    is = m.is;
    saw = subst (λ (t : Described). Kept (core t new.actor.program) m.instance (items m.after.view.base) m.state) (sym same.actor.tables)
        (subst (λ (p : Program). Kept (core old.actor.tables p) m.instance (items m.after.view.base) m.state) (sym same.actor.program) m.saw);
    none = λ e u is. subst (λ (p : Program). p.steps < e.stamp) (sym same.actor.program) (none e u (sym (same_part m.instance m.state m.ask) ∙ is));
  }

-- an actor that has halted has nothing due
halted_due : (a : Acting) → a.state.thread.halted ≡ true → due_of_actor a ≡ None
unfolding due
halted_due a is = rw is refl

-- whoever takes no step rests
pub rests : (old : Handed) (r : Stepped) (new : Handed) → StepAnswers old r new → r ≢ Took → Rests new
unfolding StepAnswers Rests
rests old Took new a n = absurd (n refl)
rests old (NotYet why) new a n = inr (no_step old new a.3 a.0 (λ e u is. no_some (sym a.1 ∙ is)))
rests old AtLimit new a n =
    inr (no_step old new a.2 a.0 (λ e u is. let same : ◌≡◌ {A = Entry × InstanceState} (a.1.entry, a.1.leaves) (e, u) = same_some (sym a.1.part ∙ is) in
    subst (λ (p : Entry × InstanceState). old.actor.program.steps < p.0.stamp) same a.1.above))
rests old AtEnd new a n = inl (same_due old new a.2 ∙ a.0)
rests old Halted new a n = inl (same_due old new a.1 ∙ halted_due old.actor a.0)
