-- An entry that answers the due ask goes on from the frames that have it.
use Rattle.std.proofs.Common.{◌≡◌, ℕ, Bool, true, false, List, [], ◌∷◌, Option, Some, None, is_some, option_map, unwrap_or, refl, sym, ap, ◌∙◌}
use Rattle.fp_tables.specs.Specials.{special_wire}
use Rattle.fp_base.specs.declared.value.Value.{Value}
use Rattle.fp_tables.specs.Lookup.{Described, wire_from}
use Rattle.fp_tables.specs.declared.topology.End.{End}
use Rattle.fp_tables.specs.declared.program.Act.{Act}
use Rattle.fp_tables.specs.declared.program.Program.{Program}
use Rattle.fp_tables.specs.declared.program.Verb.{Verb}
use Rattle.fp_tables.specs.declared.program.Verb.TheVariants as verb
use Rattle.fp_events.specs.declared.event.Point.{Point}
use Rattle.fp_events.specs.declared.event.Origin.TheVariants.{Wire}
use Rattle.fp_events.specs.declared.event.Ask.{Ask}
use Rattle.fp_events.specs.declared.event.Ask.TheVariants as ask
use Rattle.fp_events.specs.declared.event.What.{What}
use Rattle.fp_events.specs.declared.event.What.TheVariants as what
use Rattle.fp_events.specs.Lookup.{home}
use Rattle.fp_events.specs.Actor.{Action, act, send, advance, Bindings, Opened, own, arrived, taken, Frame}
use Rattle.fp_events.specs.Answers.{answers}
use Rattle.fp_events.specs.Due.{first_action, values, sent_from, along, asks_out, asks_in, asks, ends_with, through, due_in, due_of}
use Rattle.fp_events.specs.Follows.{doing}
use Rattle.fp_actor.specs.Entries.{IsTaking}
use Rattle.fp_actor.specs.Awaited.{acts, advances, is_advance, IsAwaited}

-- asks of actions, asks for the advance of a machine instance, and asks for a call
abbrev needs_action : Ask → Bool
needs_action (ask.Leave v) = false
needs_action ask.Done = false
needs_action ask.Take = false
needs_action _ = true

abbrev needs_advance : Ask → Bool
needs_advance (ask.Advance running signal v) = true
needs_advance _ = false

abbrev takes_call : Ask → Bool
takes_call ask.Take = true
takes_call ask.Dispatch = true
takes_call _ = false

abbrev of_due : (Ask → Bool) → Option (ℕ × Ask) → Bool
of_due test o = unwrap_or (option_map (λ (d : ℕ × Ask). test d.1) o) false

module _ (t : Described) (i : ℕ) where
  acts_needs : (w : What) (q : Ask) → answers t i w q ≡ true → acts w ≡ true → needs_action q ≡ true
  unfolding answers
  acts_needs w (ask.Arrive q) e h = refl
  acts_needs (what.Enter r) (ask.Leave k) e h = absurd (cc)
  acts_needs (what.Guard r) (ask.Leave k) e h = absurd (cc)
  acts_needs (what.Set r) (ask.Leave k) e h = absurd (cc)
  acts_needs (what.Save r value) (ask.Leave k) e h = absurd (cc)
  acts_needs (what.Put number r) (ask.Leave k) e h = absurd (cc)
  acts_needs (what.Dropped r) (ask.Leave k) e h = absurd (cc)
  acts_needs (what.Hooked r) (ask.Leave k) e h = absurd (cc)
  acts_needs (what.Asserted r) (ask.Leave k) e h = absurd (cc)
  acts_needs (what.Leave y) (ask.Leave k) e h = absurd (cc)
  acts_needs what.Done (ask.Leave k) e h = absurd (cc)
  acts_needs (what.Take number point with) (ask.Leave k) e h = absurd (cc)
  acts_needs what.Empty (ask.Leave k) e h = absurd (cc)
  acts_needs (what.Emit event fate text) (ask.Leave k) e h = absurd (cc)
  acts_needs (what.Write channel fate y) (ask.Leave k) e h = absurd (cc)
  acts_needs (what.Read param y) (ask.Leave k) e h = absurd (cc)
  acts_needs (what.Start running actions leaf) (ask.Leave k) e h = absurd (cc)
  acts_needs (what.Move running signal actions leaf) (ask.Leave k) e h = absurd (cc)
  acts_needs (what.Enter r) ask.Done e h = absurd (cc)
  acts_needs (what.Guard r) ask.Done e h = absurd (cc)
  acts_needs (what.Set r) ask.Done e h = absurd (cc)
  acts_needs (what.Save r value) ask.Done e h = absurd (cc)
  acts_needs (what.Put number r) ask.Done e h = absurd (cc)
  acts_needs (what.Dropped r) ask.Done e h = absurd (cc)
  acts_needs (what.Hooked r) ask.Done e h = absurd (cc)
  acts_needs (what.Asserted r) ask.Done e h = absurd (cc)
  acts_needs (what.Leave y) ask.Done e h = absurd (cc)
  acts_needs what.Done ask.Done e h = absurd (cc)
  acts_needs (what.Take number point with) ask.Done e h = absurd (cc)
  acts_needs what.Empty ask.Done e h = absurd (cc)
  acts_needs (what.Emit event fate text) ask.Done e h = absurd (cc)
  acts_needs (what.Write channel fate y) ask.Done e h = absurd (cc)
  acts_needs (what.Read param y) ask.Done e h = absurd (cc)
  acts_needs (what.Start running actions leaf) ask.Done e h = absurd (cc)
  acts_needs (what.Move running signal actions leaf) ask.Done e h = absurd (cc)
  acts_needs (what.Enter r) ask.Take e h = absurd (cc)
  acts_needs (what.Guard r) ask.Take e h = absurd (cc)
  acts_needs (what.Set r) ask.Take e h = absurd (cc)
  acts_needs (what.Save r value) ask.Take e h = absurd (cc)
  acts_needs (what.Put number r) ask.Take e h = absurd (cc)
  acts_needs (what.Dropped r) ask.Take e h = absurd (cc)
  acts_needs (what.Hooked r) ask.Take e h = absurd (cc)
  acts_needs (what.Asserted r) ask.Take e h = absurd (cc)
  acts_needs (what.Leave y) ask.Take e h = absurd (cc)
  acts_needs what.Done ask.Take e h = absurd (cc)
  acts_needs (what.Take number point with) ask.Take e h = absurd (cc)
  acts_needs what.Empty ask.Take e h = absurd (cc)
  acts_needs (what.Emit event fate text) ask.Take e h = absurd (cc)
  acts_needs (what.Write channel fate y) ask.Take e h = absurd (cc)
  acts_needs (what.Read param y) ask.Take e h = absurd (cc)
  acts_needs (what.Start running actions leaf) ask.Take e h = absurd (cc)
  acts_needs (what.Move running signal actions leaf) ask.Take e h = absurd (cc)
  acts_needs w ask.Dispatch e h = refl
  acts_needs w (ask.Emit event with) e h = refl
  acts_needs w (ask.Write channel v) e h = refl
  acts_needs w (ask.Read param) e h = refl
  acts_needs w (ask.Advance running signal v) e h = refl

  advances_needs : (w : What) (q : Ask) → answers t i w q ≡ true → advances w ≡ true → needs_advance q ≡ true
  unfolding answers
  advances_needs (what.Enter r) q e h = absurd (cc)
  advances_needs (what.Guard r) q e h = absurd (cc)
  advances_needs (what.Set r) q e h = absurd (cc)
  advances_needs (what.Save r value) q e h = absurd (cc)
  advances_needs (what.Put number r) q e h = absurd (cc)
  advances_needs (what.Dropped r) q e h = absurd (cc)
  advances_needs (what.Hooked r) q e h = absurd (cc)
  advances_needs (what.Asserted r) q e h = absurd (cc)
  advances_needs (what.Leave y) q e h = absurd (cc)
  advances_needs what.Done q e h = absurd (cc)
  advances_needs (what.Take number point with) q e h = absurd (cc)
  advances_needs what.Empty q e h = absurd (cc)
  advances_needs (what.Emit event fate text) q e h = absurd (cc)
  advances_needs (what.Write channel fate y) q e h = absurd (cc)
  advances_needs (what.Read param y) q e h = absurd (cc)
  advances_needs (what.Start running actions leaf) (ask.Arrive q) e h = absurd (cc)
  advances_needs (what.Start running actions leaf) (ask.Leave v) e h = absurd (cc)
  advances_needs (what.Start running actions leaf) ask.Done e h = absurd (cc)
  advances_needs (what.Start running actions leaf) ask.Take e h = absurd (cc)
  advances_needs (what.Start running actions leaf) ask.Dispatch e h = absurd (cc)
  advances_needs (what.Start running actions leaf) (ask.Emit m with) e h = absurd (cc)
  advances_needs (what.Start running actions leaf) (ask.Write channel v) e h = absurd (cc)
  advances_needs (what.Start running actions leaf) (ask.Read param) e h = absurd (cc)
  advances_needs (what.Start running actions leaf) (ask.Advance k l v) e h = refl
  advances_needs (what.Move running signal actions leaf) (ask.Arrive q) e h = absurd (cc)
  advances_needs (what.Move running signal actions leaf) (ask.Leave v) e h = absurd (cc)
  advances_needs (what.Move running signal actions leaf) ask.Done e h = absurd (cc)
  advances_needs (what.Move running signal actions leaf) ask.Take e h = absurd (cc)
  advances_needs (what.Move running signal actions leaf) ask.Dispatch e h = absurd (cc)
  advances_needs (what.Move running signal actions leaf) (ask.Emit m with) e h = absurd (cc)
  advances_needs (what.Move running signal actions leaf) (ask.Write channel v) e h = absurd (cc)
  advances_needs (what.Move running signal actions leaf) (ask.Read param) e h = absurd (cc)
  advances_needs (what.Move running signal actions leaf) (ask.Advance k l v) e h = refl

  takes_needs : (w : What) (q : Ask) → answers t i w q ≡ true → IsTaking w → takes_call q ≡ true
  unfolding answers
  takes_needs (what.Enter r) q e h = absurd h
  takes_needs (what.Guard r) q e h = absurd h
  takes_needs (what.Set r) q e h = absurd h
  takes_needs (what.Save r value) q e h = absurd h
  takes_needs (what.Put number r) q e h = absurd h
  takes_needs (what.Dropped r) q e h = absurd h
  takes_needs (what.Hooked r) q e h = absurd h
  takes_needs (what.Asserted r) q e h = absurd h
  takes_needs (what.Leave y) q e h = absurd h
  takes_needs what.Done q e h = absurd h
  takes_needs (what.Take number point with) (ask.Arrive q) e h = absurd (cc)
  takes_needs (what.Take number point with) (ask.Leave v) e h = absurd (cc)
  takes_needs (what.Take number point with) ask.Done e h = absurd (cc)
  takes_needs (what.Take number point with) ask.Take e h = refl
  takes_needs (what.Take number point with) ask.Dispatch e h = refl
  takes_needs (what.Take number point with) (ask.Emit event given) e h = absurd (cc)
  takes_needs (what.Take number point with) (ask.Write channel v) e h = absurd (cc)
  takes_needs (what.Take number point with) (ask.Read param) e h = absurd (cc)
  takes_needs (what.Take number point with) (ask.Advance running signal v) e h = absurd (cc)
  takes_needs what.Empty q e h = absurd h
  takes_needs (what.Emit event fate text) q e h = absurd h
  takes_needs (what.Write channel fate y) q e h = absurd h
  takes_needs (what.Read param y) q e h = absurd h
  takes_needs (what.Start running actions leaf) q e h = absurd h
  takes_needs (what.Move running signal actions leaf) q e h = absurd h

no_action : {A : Type 0} (o : Option A) → is_some o ≡ false → o ≡ None
no_action None h = refl
no_action (Some x) h = absurd (cc)

module _ (t : Described) (program : Program) where
  through_needs : (o : Opened) (i : ℕ) → of_due needs_action (through t program o i) ≡ false
  through_needs own i = refl
  through_needs (arrived default name) i = refl
  through_needs taken i = refl

  due_needs : (a : ℕ) (fs : List Frame) → first_action (doing fs) ≡ None → of_due needs_action (due_of t program a fs) ≡ false
  due_needs a [] h = go (home t program a)
    where
      go : (o : Option ℕ) → of_due needs_action (option_map (λ (i : ℕ). (i, ask.Take)) o) ≡ false
      go None = refl
      go (Some i) = refl
  due_needs a (f ∷ fs) h = ap (λ o. of_due needs_action (due_in t program f o)) h ∙ through_needs f.opened f.instance

  through_takes : (o : Opened) (i : ℕ) → of_due takes_call (through t program o i) ≡ false
  through_takes own i = refl
  through_takes (arrived default name) i = refl
  through_takes taken i = refl

  due_takes : (a : ℕ) (fs : List Frame) → first_action (doing fs) ≡ None → of_due takes_call (due_of t program a fs) ≡ true → fs ≡ []
  due_takes a [] h e = refl
  due_takes a (f ∷ fs) h e =
      let no : of_due takes_call (due_of t program a (f ∷ fs)) ≡ false = ap (λ o. of_due takes_call (due_in t program f o)) h ∙ through_takes f.opened f.instance in
      absurd (cc)

  sent_plain : (o : Option (End × End)) (note : List ℕ) → of_due needs_advance (sent_from t program o note) ≡ false
  sent_plain None note = refl
  sent_plain (Some w) note = refl

  along_plain : (from : End) (at : End → Point) (with : List Value) → of_due needs_advance (along t program from at with) ≡ false
  along_plain from at with = go (wire_from t from)
    where
      go : (o : Option End) → of_due needs_advance (option_map (λ (to : End). (to.instance, ask.Arrive (record { point = at to; origin = Wire from None; with = with }))) o) ≡ false
      go None = refl
      go (Some to) = refl

  ends_plain : (o : Opened) (i : ℕ) (v : Option Value) → of_due needs_advance (ends_with t program o i v) ≡ false
  ends_plain own i v = refl
  ends_plain (arrived default name) i v = refl
  ends_plain taken i v = refl

  out_plain : (x : Act) (with : List Value) (v : Verb) → of_due needs_advance (asks_out t program x with v) ≡ false
  out_plain x with verb.Call = refl
  out_plain x with verb.Command = refl
  out_plain x with verb.Emit = refl
  out_plain x with verb.Write = refl
  out_plain x with verb.Read = refl
  out_plain x with verb.Signal = refl
  out_plain x with verb.Post = refl
  out_plain x with verb.Respond = refl
  out_plain x with verb.Dispatch = refl
  out_plain x with verb.Return = refl

  in_plain : (o : Opened) (i : ℕ) (x : Act) (with : List Value) (v : Verb) → of_due needs_advance (asks_in t program o i x with v) ≡ false
  in_plain o i x with verb.Call = along_plain _ _ with
  in_plain o i x with verb.Command = along_plain _ _ with
  in_plain o i x with verb.Emit = refl
  in_plain o i x with verb.Write = refl
  in_plain o i x with verb.Read = refl
  in_plain o i x with verb.Signal = refl
  in_plain o i x with verb.Post = refl
  in_plain o i x with verb.Respond = sent_plain _ _
  in_plain o i x with verb.Dispatch = refl
  in_plain o i x with verb.Return = ends_plain o i _

  act_plain : (o : Opened) (i : ℕ) (x : Act) (with : List Value) → of_due needs_advance (asks t program o i x with) ≡ false
  act_plain own i x with = out_plain x with x.verb
  act_plain (arrived default name) i x with = in_plain (arrived default name) i x with x.verb
  act_plain taken i x with = in_plain taken i x with x.verb

  through_plain : (o : Opened) (i : ℕ) → of_due needs_advance (through t program o i) ≡ false
  through_plain own i = refl
  through_plain (arrived default name) i = refl
  through_plain taken i = refl

  first_plain : (f : Frame) (o : Option (Action × Bindings)) → of_due needs_advance (due_in t program f o) ≡ is_advance o
  first_plain f None = through_plain f.opened f.instance
  first_plain f (Some (act x, bound)) = act_plain f.opened f.instance x (values bound x.with)
  first_plain f (Some (send s note, bound)) = sent_plain (special_wire t f.instance s) note
  first_plain f (Some (advance running signal v, bound)) = refl

  due_advances : (a : ℕ) (fs : List Frame) → of_due needs_advance (due_of t program a fs) ≡ is_advance (first_action (doing fs))
  due_advances a [] = go (home t program a)
    where
      go : (o : Option ℕ) → of_due needs_advance (option_map (λ (i : ℕ). (i, ask.Take)) o) ≡ false
      go None = refl
      go (Some i) = refl
  due_advances a (f ∷ fs) = first_plain f (first_action f.doing)

  some_action : (o : Option (Action × Bindings)) → (o ≡ None → ⊥) → is_some o ≡ true
  some_action None h = absurd (h refl)
  some_action (Some x) h = refl

  pub awaited : (a : ℕ) (fs : List Frame) (w : What) (d : ℕ × Ask) → due_of t program a fs ≡ Some d → answers t d.0 w d.1 ≡ true → IsAwaited fs w
  awaited a fs w d due e = record {
    action =
        λ h. some_action (first_action (doing fs))
        (λ none.
        let need = acts_needs t d.0 w d.1 e h in
        let yes : of_due needs_action (due_of t program a fs) ≡ true = ap (of_due needs_action) due ∙ need in
        let no : of_due needs_action (due_of t program a fs) ≡ false = due_needs a fs none in
        absurd (cc));
    advance = λ h. sym (due_advances a fs) ∙ ap (of_due needs_advance) due ∙ advances_needs t d.0 w d.1 e h;
    take = λ h none. due_takes a fs (no_action _ none) (ap (of_due takes_call) due ∙ takes_needs t d.0 w d.1 e h);
  }
