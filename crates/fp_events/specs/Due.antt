-- The ask that is due next of an actor.
use Rattle.std.specs.Prelude.{ℕ, cond, List, [], ◌∷◌, map, find, Option, Some, None, option_map, unwrap_or, slice_get}
use Rattle.fp_tables.specs.Specials.{component, special_wire}
use Rattle.fp_base.specs.Same.{same_text}
use Rattle.fp_base.specs.declared.value.Value.{Value, Opaque}
use Rattle.fp_tables.specs.Lookup.{Described, wire_from}
use Rattle.fp_tables.specs.declared.topology.End.{End}
use Rattle.fp_tables.specs.declared.component.Special.TheVariants as special
use Rattle.fp_tables.specs.declared.program.Program.{Program}
use Rattle.fp_tables.specs.declared.program.Act.{Act}
use Rattle.fp_tables.specs.declared.program.Arg.{Arg}
use Rattle.fp_tables.specs.declared.program.Arg.TheVariants.{Given, Bound}
use Rattle.fp_tables.specs.declared.program.Verb.{Verb}
use Rattle.fp_tables.specs.declared.program.Verb.TheVariants as verb
use Rattle.fp_events.specs.Lookup.{default_of, home}
use Rattle.fp_events.specs.declared.event.Point.{Point}
use Rattle.fp_events.specs.declared.event.Point.TheVariants.{Port, Command, Post, Signal}
use Rattle.fp_events.specs.declared.event.Origin.TheVariants.{Caller, Own, Wire}
use Rattle.fp_events.specs.declared.event.Ask.{Ask}
use Rattle.fp_events.specs.declared.event.Ask.TheVariants as ask
use Rattle.fp_events.specs.Actor.{Bindings, Action, act, send, advance, Doing, Opened, own, arrived, taken, Frame, Thread}

-- the value of an argument: of a name the latest that is bound to it
abbrev pub value_of : Bindings → Arg → Value
value_of bound (Given v) = v
value_of bound (Bound name) = unwrap_or (option_map (λ (b : List ℕ × Value). b.1) (find (λ (b : List ℕ × Value). same_text b.0 name) bound)) Opaque

abbrev pub values : Bindings → List Arg → List Value
values bound args = map (value_of bound) args

abbrev pub first_value : List Value → Value
first_value [] = Opaque
first_value (v ∷ vs) = v

-- the first action that is left, with its bindings
abbrev pub first_in : Doing → List Action → Option (Action × Bindings) → Option (Action × Bindings)
first_in d [] otherwise = otherwise
first_in d (x ∷ xs) otherwise = Some (x, d.bound)

abbrev pub first_action : List Doing → Option (Action × Bindings)
first_action [] = None
first_action (d ∷ ds) = first_in d d.actions (first_action ds)

module _ (t : Described) (program : Program) where
  -- a send: an arrival at the other end of a special port's wire, with a note, where each parameter has its type's default
  abbrev pub sent_from : Option (End × End) → List ℕ → Option (ℕ × Ask)
  sent_from None note = None
  sent_from (Some w) note =
      Some (
        w.1.instance,
        ask.Arrive (record {
          point = Port w.1.port w.1.number;
          origin = Wire w.0 (Some note);
          with = unwrap_or (option_map (λ p. map (λ f. default_of t f.kind) p.formals) (slice_get (component t w.1.instance).ports w.1.port)) [];
        }),
      )

  -- an arrival along a wire at the point that its other end gives
  abbrev pub along : End → (End → Point) → List Value → Option (ℕ × Ask)
  along from at with = option_map (λ to. (to.instance, ask.Arrive (record { point = at to; origin = Wire from None; with = with }))) (wire_from t from)

  abbrev pub at_port : End → Point
  at_port e = Port e.port e.number

  -- what an action of a caller's own list asks: call, command: an arrival at the place that the caller names
  abbrev pub asks_out : Act → List Value → Verb → Option (ℕ × Ask)
  asks_out x with verb.Call = Some (x.subject.instance, ask.Arrive (record { point = at_port x.subject; origin = Caller; with = with }))
  asks_out x with verb.Command = Some (x.subject.instance, ask.Arrive (record { point = Command x.name; origin = Caller; with = with }))
  asks_out x with _ = None

  -- the end of a frame: done in one that take opened, else leave with this value. A caller's own list has no end
  abbrev pub ends_with : Opened → ℕ → Option Value → Option (ℕ × Ask)
  ends_with own i v = None
  ends_with (arrived default name) i v = Some (i, ask.Leave v)
  ends_with taken i v = Some (i, ask.Done)

  -- a frame whose actions are through ends with the result's default or none
  abbrev pub through : Opened → ℕ → Option (ℕ × Ask)
  through (arrived default name) i = ends_with (arrived default name) i default
  through opened i = ends_with opened i None

  -- what an action in a frame at instance i asks
  abbrev pub asks_in : Opened → ℕ → Act → List Value → Verb → Option (ℕ × Ask)
  -- call, command, respond: an arrival at the instance that the wire names
  asks_in o i x with verb.Call = along (record { instance = i; port = x.subject.port; number = x.subject.number }) at_port with
  asks_in o i x with verb.Command = along (record { instance = i; port = x.subject.port; number = x.subject.number }) (λ to. Command x.name) with
  asks_in o i x with verb.Respond = sent_from (special_wire t i special.CmdResp) (unwrap_or x.bind [])
  -- post, signal: an arrival at the own instance
  asks_in o i x with verb.Post = Some (i, ask.Arrive (record { point = Post x.subject.port; origin = Own; with = with }))
  asks_in o i x with verb.Signal = Some (i, ask.Arrive (record { point = Signal x.subject.port x.name; origin = Own; with = with }))
  -- emit, write, read, dispatch: that ask, at the own instance
  asks_in o i x with verb.Emit = Some (i, ask.Emit x.name with)
  asks_in o i x with verb.Write = Some (i, ask.Write x.name (first_value with))
  asks_in o i x with verb.Read = Some (i, ask.Read x.name)
  asks_in o i x with verb.Dispatch = Some (i, ask.Dispatch)
  -- return: the end of the frame, with the value
  asks_in o i x with verb.Return = ends_with o i (Some (first_value with))

  abbrev pub asks : Opened → ℕ → Act → List Value → Option (ℕ × Ask)
  asks own i x with = asks_out x with x.verb
  asks o i x with = asks_in o i x with x.verb

  -- what the first action of a frame asks
  abbrev pub due_in : Frame → Option (Action × Bindings) → Option (ℕ × Ask)
  due_in f None = through f.opened f.instance
  due_in f (Some (act x, bound)) = asks f.opened f.instance x (values bound x.with)
  due_in f (Some (send s note, bound)) = sent_from (special_wire t f.instance s) note
  due_in f (Some (advance running signal v, bound)) = Some (f.instance, ask.Advance running signal v)

  -- a dispatcher without frames asks for a take at its instance
  abbrev pub due_of : ℕ → List Frame → Option (ℕ × Ask)
  due_of a [] = option_map (λ i. (i, ask.Take)) (home t program a)
  due_of a (f ∷ fs) = due_in f (first_action f.doing)

  -- the ask that is due of this actor, and the instance that it goes to: none of one that has halted, and none of a caller whose list is through
  unfoldable pub due : ℕ → Thread → Option (ℕ × Ask)
  due a x = cond x.halted None (due_of a x.frames)
