-- The value of the signal that an advance at a place has.
use Rattle.std.proofs.Common.{◌≡◌, ℕ, zero, suc, Bool, true, false, cond, List, [], ◌∷◌, ◌++◌, map, Option, Some, None, is_some, option_map, unwrap_or, sym, ap}
use Rattle.std.specs.List.{slice_get}
use Rattle.std.specs.Option.{option_and_then}
use Rattle.fp_base.specs.declared.value.Value.{Value}
use Rattle.fp_tables.specs.Lookup.{Described}
use Rattle.fp_tables.specs.declared.component.Special.{Special}
use Rattle.fp_tables.specs.declared.component.Special.TheVariants as special
use Rattle.fp_tables.specs.declared.program.Act.{Act}
use Rattle.fp_tables.specs.declared.program.Caller.{Caller}
use Rattle.fp_tables.specs.declared.program.Program.{Program}
use Rattle.fp_events.specs.declared.event.Point.{Point}
use Rattle.fp_events.specs.declared.event.Point.TheVariants.{Port, Command, Post, Signal}
use Rattle.fp_events.specs.declared.event.What.{What}
use Rattle.fp_events.specs.declared.event.What.TheVariants as what
use Rattle.fp_events.specs.declared.event.Entry.{Entry}
use Rattle.fp_tables.specs.Specials.{special_wire}
use Rattle.fp_events.specs.Actor.{Action, act, send, advance, Bindings, Doing}
use Rattle.fp_events.specs.Follows.{handling, sends, performed, parameter_name, ok_note, value_in}
use Rattle.fp_actor.specs.declared.level.Source.{Source}
use Rattle.fp_actor.specs.declared.level.Source.TheVariants as source
use Rattle.fp_actor.specs.declared.level.Position.{Position}
use Rattle.fp_actor.specs.declared.lists.Deed.{Deed}
use Rattle.fp_actor.specs.declared.lists.Deed.TheVariants as deed
use Rattle.fp_actor.specs.Entries.{lists_of, signal_value, signal_in, event_name, channel_name}
use Rattle.fp_actor.specs.Stacked.{lists_in, value_at, action_at, action_of}
use Rattle.fp_actor.specs.Levels.{entry_of}
use Rattle.fp_actor.specs.Awaited.{is_advance}

-- each advance in a list, and in lists, has this value
abbrev Has : Option Value → List Action → Type 0
Has u xs = (j r s : ℕ) (v : Option Value) → slice_get xs j ≡ Some (advance r s v) → v ≡ u

abbrev HaveAll : Option Value → List Doing → Type 0
HaveAll u ds = (k j r s : ℕ) (v : Option Value) → option_and_then (λ (d : Doing). slice_get d.actions j) (slice_get ds k) ≡ Some (advance r s v) → v ≡ u

abbrev value_of : Option Action → Option Value
value_of o = value_in (option_map (λ (x : Action). (x, [])) o)

has_none : (u : Option Value) → Has u []
has_none u j r s v e = absurd (cc)

has_acts : (u : Option Value) (xs : List Act) → Has u (map act xs)
has_acts u [] j r s v e = absurd (cc)
has_acts u (x ∷ xs) zero r s v e = absurd (cc)
has_acts u (x ∷ xs) (suc j) r s v e = has_acts u xs j r s v e

has_send : (u : Option Value) (from : Special) (note : List ℕ) (xs : List Action) → Has u xs → Has u (send from note ∷ xs)
has_send u from note xs h zero r s v e = absurd (cc)
has_send u from note xs h (suc j) r s v e = h j r s v e

has_cond : (u : Option Value) (b : Bool) (from : Special) (note : List ℕ) (xs : List Action) → Has u xs → Has u (cond b (send from note ∷ []) [] ++ xs)
has_cond u true from note xs h = has_send u from note xs h
has_cond u false from note xs h = h

have_none : (u : Option Value) → HaveAll u []
have_none u k j r s v e = absurd (cc)

have_one : (u : Option Value) (d : Doing) → Has u d.actions → HaveAll u (d ∷ [])
have_one u d h zero j r s v e = h j r s v e
have_one u d h (suc k) j r s v e = absurd (cc)

have_more : (u : Option Value) (d : Doing) (ds : List Doing) → Has u d.actions → HaveAll u ds → HaveAll u (d ∷ ds)
have_more u d ds h all zero j r s v e = h j r s v e
have_more u d ds h all (suc k) j r s v e = all k j r s v e

module _ (t : Described) (program : Program) where
  has_sends : (u : Option Value) (i : ℕ) (ports : List (Special × List ℕ)) → Has u (sends t program i ports).actions
  has_sends u i [] = has_none u
  has_sends u i (p ∷ ps) =
      has_cond u (is_some (special_wire t i p.0)) p.0 p.1 (sends t program i ps).actions (has_sends u i ps)

  has_signal : (i running signal : ℕ) (with : List Value) → Has (signal_in (Signal running signal) with) (handling t program i (Signal running signal) with).actions
  has_signal i running signal [] zero r s v e = sym (ap value_of e)
  has_signal i running signal (x ∷ xs) zero r s v e = sym (ap value_of e)
  has_signal i running signal [] (suc j) r s v e = absurd (cc)
  has_signal i running signal (x ∷ xs) (suc j) r s v e = absurd (cc)

  has_handling : (i : ℕ) (point : Point) (with : List Value) → Has (signal_in point with) (handling t program i point with).actions
  has_handling i (Port n number) with = has_acts None _
  has_handling i (Command n) with = has_acts None _
  has_handling i (Post n) with = has_acts None _
  has_handling i (Signal running signal) with = has_signal i running signal with

  have_performed : (u w : Option Value) (i running : ℕ) (actions : List ℕ) → HaveAll u (performed t program i running actions w)
  have_performed u w i running [] = have_none u
  have_performed u w i running (k ∷ ks) = have_more u _ (performed t program i running ks w) (has_acts u _) (have_performed u w i running ks)

  have_lists : (u : Option Value) (i : ℕ) (w : What) → HaveAll (signal_value w) (lists_of t program u i w)
  have_lists u i (what.Enter r) = have_one (signal_in r.point r.with) _ (has_handling i r.point r.with)
  have_lists u i (what.Guard r) = have_one (signal_in r.point r.with) _ (has_handling i r.point r.with)
  have_lists u i (what.Set r) = have_one None _ (has_sends None i ((special.CmdResp, ok_note) ∷ []))
  have_lists u i (what.Save r value) = have_one None _ (has_sends None i ((special.PrmSet, parameter_name t program i r.point) ∷ (special.CmdResp, ok_note) ∷ []))
  have_lists u i (what.Put number r) = have_none None
  have_lists u i (what.Dropped r) = have_none None
  have_lists u i (what.Hooked r) = have_one None _ (has_acts None _)
  have_lists u i (what.Asserted r) = have_none None
  have_lists u i (what.Leave y) = have_none None
  have_lists u i what.Done = have_none None
  have_lists u i (what.Take number point with) = have_one (signal_in point with) _ (has_handling i point with)
  have_lists u i what.Empty = have_none None
  have_lists u i (what.Emit event fate text) = have_one None _ (has_sends None i ((special.Event, event_name t program i event) ∷ []))
  have_lists u i (what.Write channel fate y) = have_one None _ (has_sends None i ((special.Tlm, channel_name t program i channel) ∷ []))
  have_lists u i (what.Read param y) = have_none None
  have_lists u i (what.Start running actions leaf) = have_performed None u i running actions
  have_lists u i (what.Move running signal actions leaf) = have_performed None u i running actions

module _ (t : Described) (program : Program) (number : ℕ) (trace : List Entry) where
  advance_in : (s : Source) → HaveAll (value_at t program number trace (entry_of s)) (lists_in t program number trace s)
  advance_in source.Own = go (slice_get program.callers number)
    where
      go : (o : Option Caller) → HaveAll (value_at t program number trace 0) (unwrap_or (option_map (λ (c : Caller). record { actions = map act c.acts; bound = [] } ∷ []) o) [])
      go None = have_none (value_at t program number trace 0)
      go (Some c) = have_one (value_at t program number trace 0) (record { actions = map act c.acts; bound = [] }) (has_acts (value_at t program number trace 0) c.acts)
  advance_in (source.Entry n m) = go (slice_get trace n)
    where
      go : (o : Option Entry) → HaveAll (option_and_then (λ (e : Entry). signal_value e.what) o) (unwrap_or (option_map (λ (e : Entry). lists_of t program (value_at t program number trace m) e.instance e.what) o) [])
      go None = have_none None
      go (Some e) = have_lists t program (value_at t program number trace m) e.instance e.what

  -- an advance has the value of its source's entry
  pub deed_value : (p : Position) (d : Deed) (bs : Bindings) → action_at t program number trace p ≡ Some (action_of t program number trace d) → is_advance (Some (action_of t program number trace d, bs)) ≡ true →
      value_in (Some (action_of t program number trace d, bs)) ≡ value_at t program number trace (entry_of p.source)
  deed_value p (deed.Advance running signal n) bs there is = advance_in p.source p.list p.action running signal (value_at t program number trace n) there
  deed_value p (deed.Act a) bs there is = absurd (cc)
  deed_value p (deed.Send s) bs there is = absurd (cc)
