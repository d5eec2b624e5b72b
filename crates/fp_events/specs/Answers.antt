-- Which asks an entry answers.
use Rattle.std.specs.Prelude.{ℕ, Bool, true, false, ◌&&◌, ◌==◌, List, [], Option, Some, None, option_map, unwrap_or, slice_get}
use Rattle.fp_base.specs.Same.{same, same_list, same_option, same_text}
use Rattle.fp_base.specs.declared.value.Value.{Value}
use Rattle.fp_tables.specs.Lookup.{Described, same_end}
use Rattle.fp_tables.specs.Specials.{component}
use Rattle.fp_events.specs.declared.event.Point.{Point}
use Rattle.fp_events.specs.declared.event.Point.TheVariants.{Port, Command, Post, Signal}
use Rattle.fp_events.specs.declared.event.Origin.{Origin}
use Rattle.fp_events.specs.declared.event.Origin.TheVariants.{Caller, Own, Wire}
use Rattle.fp_events.specs.declared.event.Arrival.{Arrival}
use Rattle.fp_events.specs.declared.event.Ask.{Ask}
use Rattle.fp_events.specs.declared.event.Ask.TheVariants as ask
use Rattle.fp_events.specs.declared.event.What.{What}
use Rattle.fp_events.specs.declared.event.What.TheVariants as what
use Rattle.fp_tables.specs.declared.component.Full.TheVariants as full
use Rattle.fp_tables.specs.declared.component.Way.TheVariants.{Later, Sync, Guarded}
use Rattle.fp_base.specs.Rendered.{rendered}
use Rattle.fp_events.specs.Manners.{Manner, by, sets, saves, manner}

abbrev pub same_point : Point → Point → Bool
same_point (Port m j) (Port n k) = (m == n) && (j == k)
same_point (Command m) (Command n) = m == n
same_point (Post m) (Post n) = m == n
same_point (Signal r s) (Signal q u) = (r == q) && (s == u)
same_point _ _ = false

abbrev pub same_origin : Origin → Origin → Bool
same_origin Caller Caller = true
same_origin Own Own = true
same_origin (Wire e m) (Wire f n) = same_end e f && same_option same_text m n
same_origin _ _ = false

abbrev pub same_values : List Value → List Value → Bool
same_values = same_list same

abbrev pub same_arrival : Arrival → Arrival → Bool
same_arrival r q = same_point r.point q.point && same_origin r.origin q.origin && same_values r.with q.with

-- the arrival that an entry has
abbrev pub arrival_in : What → Option Arrival
arrival_in (what.Enter r) = Some r
arrival_in (what.Guard r) = Some r
arrival_in (what.Set r) = Some r
arrival_in (what.Save r v) = Some r
arrival_in (what.Put number r) = Some r
arrival_in (what.Dropped r) = Some r
arrival_in (what.Hooked r) = Some r
arrival_in (what.Asserted r) = Some r
arrival_in _ = None

-- whether an arrival at a place that is treated so can have such an entry: a drop, a hook or an assert only under its policy, so none under block
abbrev pub suits : Option Manner → What → Bool
suits (Some (by Sync)) (what.Enter r) = true
suits (Some (by Guarded)) (what.Guard r) = true
suits (Some (sets k)) (what.Set r) = true
suits (Some (saves k)) (what.Save r v) = true
suits (Some (by (Later priority policy))) (what.Put number r) = true
suits (Some (by (Later priority full.Dropped))) (what.Dropped r) = true
suits (Some (by (Later priority full.Hook))) (what.Hooked r) = true
suits (Some (by (Later priority full.Assert))) (what.Asserted r) = true
suits _ _ = false

module _ (t : Described) where
  -- the rendered text of an event with these values
  abbrev pub text_of_event : ℕ → ℕ → List Value → List ℕ
  text_of_event i event with = unwrap_or (option_map (λ x. rendered x.fields.parts with) (slice_get (component t i).events event)) []

  -- an arrival is answered by an entry with it, of a kind that its place can have; the other asks by an entry of their own kind with the returned value,
  -- the event and its text, the channel and the value, the parameter, the machine, and for a move the signal
  unfoldable pub answers : ℕ → What → Ask → Bool
  answers i w (ask.Arrive q) = same_option same_arrival (arrival_in w) (Some q) && suits (manner t i q.point) w
  answers i (what.Leave v) (ask.Leave w) = same_option same v w
  answers i what.Done ask.Done = true
  answers i (what.Take number point with) ask.Take = true
  answers i (what.Take number point with) ask.Dispatch = true
  answers i what.Empty ask.Dispatch = true
  answers i (what.Emit event fate text) (ask.Emit e with) = (event == e) && same_text text (text_of_event i e with)
  answers i (what.Write channel fate v) (ask.Write c w) = (channel == c) && same v w
  answers i (what.Read param v) (ask.Read k) = param == k
  answers i (what.Start running actions leaf) (ask.Advance r s v) = running == r
  answers i (what.Move running signal actions leaf) (ask.Advance r s v) = (running == r) && (signal == s)
  answers i _ _ = false
