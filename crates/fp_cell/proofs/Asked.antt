-- What is known of an ask that may be asked and has nothing against it.
use Rattle.std.proofs.Common.{◌≡◌, ◌≢◌, ◌<◌, ℕ, ℤ, nat_lt, subst, arith, Bool, true, false, List, [], ◌∷◌, Option, Some, None, option_map, option_and_then, unwrap_or, is_some, refl, sym, ap, ◌∙◌, slice_get}
use Rattle.fp_tables.specs.Specials.{component}
use Rattle.fp_base.proofs.Options.{then_some, same_some, some_of}
use Rattle.fp_base.proofs.Lists.{all_get}
use Rattle.fp_base.specs.declared.value.Value.{Value}
use Rattle.fp_base.proofs.Bools.{both}
use Rattle.fp_tables.specs.Components.{agrees_with_formals}
use Rattle.fp_tables.specs.Lookup.{Described}
use Rattle.fp_tables.specs.Sound.{IsSound}
use Rattle.fp_tables.specs.Types.{have_kinds}
use Rattle.fp_tables.specs.declared.component.Channel.{Channel}
use Rattle.fp_tables.specs.declared.component.Event.{Event}
use Rattle.fp_tables.specs.declared.machine.Machine.{Machine}
use Rattle.fp_tables.specs.declared.program.Program.{Program}
use Rattle.fp_events.specs.Fits.{place_kinds, point_fits, origin_fits, value_fits, signal_at, ask_fits, event_takes}
use Rattle.fp_events.specs.Instance.{Inside, Pending}
use Rattle.fp_events.specs.Lookup.{machine}
use Rattle.fp_events.specs.Manners.{Manner, by, manner}
use Rattle.fp_events.specs.declared.event.Point.{Point}
use Rattle.fp_tables.specs.declared.component.Full.{Full}
use Rattle.fp_tables.specs.declared.component.Way.TheVariants.{Later}
use Rattle.std.specs.List.{Contains}
use Rattle.std.proofs.lemmas.Bool.Decides.{nat_tests}
use Rattle.fp_cell.specs.Settled.{AreKnown}
use Rattle.fp_events.specs.Queue.{next_call}
use Rattle.fp_events.specs.Waits.{held_by, take_waits, arrival_waits, waits}
use Rattle.fp_events.specs.declared.event.Arrival.{Arrival}
use Rattle.fp_events.specs.declared.event.Ask.TheVariants as ask
use Rattle.fp_events.specs.declared.event.Why.{Why}
use Rattle.fp_formats.specs.Fits.{fits}
use Rattle.fp_cell.specs.Kinded.{IsKinded}
use Rattle.fp_cell.specs.Seen.{holder}
use Rattle.fp_cell.specs.declared.guard.Holding.{Holding as Held}
use Rattle.fp_cell.proofs.Formats.{values_fit}
use Rattle.fp_cell.proofs.KindsOf.{mapped_test_of, there_at}
use Rattle.fp_cell.proofs.Parts.{good_parts}

pub guard_free : (g : Option Held) → held_by (holder g) ≡ None → g ≡ None
guard_free None h = refl
guard_free (Some x) h = absurd (cc)

pub take_free : (turn : Option ℕ) (e : Why) (ps : List Pending) → take_waits turn (Some e) (next_call ps) ≡ None → (turn ≡ None) × (ps ≢ [])
take_free turn e [] h = absurd (cc)
take_free None e (p ∷ ps) h = (refl, λ is. absurd (cc))
take_free (Some holder) e (p ∷ ps) h = absurd (cc)

-- where something waits, a dispatch is as free as a take
pub dispatch_free : (turn : Option ℕ) (e : Why) (ps : List Pending) → take_waits turn None (next_call ps) ≡ None → ps ≢ [] → take_waits turn (Some e) (next_call ps) ≡ None
dispatch_free turn e [] h some = absurd (some refl)
dispatch_free None e (p ∷ ps) h some = refl
dispatch_free (Some holder) e (p ∷ ps) h some = absurd (cc)

module _ (t : Described) (program : Program) (i : ℕ) where
  pub free_manner : (s : Inside) (r : Arrival) (m : Manner) → waits t i s (ask.Arrive r) ≡ None → manner t i r.point ≡ Some m → arrival_waits t i s m ≡ None
  unfolding waits
  free_manner s r m free how = ap (option_and_then (arrival_waits t i s)) (sym how) ∙ free

  pub has_manner : (r : Arrival) → ask_fits t program i (ask.Arrive r) ≡ true → manner t i r.point ≡ None → ⊥
  unfolding ask_fits
  has_manner r can how =
      let fit = (both (point_fits t program i r.point r.with) (origin_fits t program r.origin) can).0 in
      let there : is_some (manner t i r.point) ≡ true =
      (both (is_some (manner t i r.point)) (unwrap_or (option_map (λ ks. have_kinds t.model.types ks r.with) (place_kinds t program i r.point)) false) fit).0 in
      absurd (cc (rw how at there))

  pub has_event : (event : ℕ) (with : List Value) → ask_fits t program i (ask.Emit event with) ≡ true → slice_get (component t i).events event ≡ None → ⊥
  unfolding ask_fits
  has_event event with can none =
      let e : slice_get (component t i).events event ≡ Some (mapped_test_of (event_takes t program with) (slice_get (component t i).events event) can).0 =
      (mapped_test_of (event_takes t program with) (slice_get (component t i).events event) can).1 in
      absurd (cc)

  pub event_filled : IsSound t.model → (event : ℕ) (with : List Value) (e : Event) → ask_fits t program i (ask.Emit event with) ≡ true → slice_get (component t i).events event ≡ Some e
      → fits e.fields.parts with ≡ true
  unfolding ask_fits
  event_filled sound event with e can found =
      let x = mapped_test_of (event_takes t program with) (slice_get (component t i).events event) can in
      let same : x.0 ≡ e = same_some (sym x.1 ∙ found) in
      values_fit t.model.types e.fields.parts e.formals with
      (all_get (agrees_with_formals t.model.types) (component t i).events event e (good_parts t i sound).formats found)
      (ap (event_takes t program with) (sym same) ∙ x.2)

  no_kind : (o : Option Channel) (v : Value) → value_fits t program (option_map (λ (x : Channel). x.kind) o) v ≡ true → o ≡ None → ⊥
  no_kind None v h none = absurd (cc)
  no_kind (Some c) v h none = absurd (cc)

  pub has_channel : (channel : ℕ) (v : Value) → ask_fits t program i (ask.Write channel v) ≡ true → slice_get (component t i).channels channel ≡ None → ⊥
  unfolding ask_fits
  has_channel channel v can none = no_kind (slice_get (component t i).channels channel) v can none

  pub has_param : (s : Inside) (param : ℕ) → IsKinded t program i s → ask_fits t program i (ask.Read param) ≡ true → is_some (slice_get s.params param) ≡ true
  unfolding ask_fits
  has_param s param kinded can = sym (there_at t.model.types (component t i).params s.params param kinded.params) ∙ can

  pub has_machine : (running signal : ℕ) (v : Option Value) → ask_fits t program i (ask.Advance running signal v) ≡ true → is_some (machine t i running) ≡ true
  unfolding ask_fits
  has_machine running signal v can =
      let named = some_of (signal_at t program i running signal) can in
      ap is_some (then_some (λ (m : Machine). slice_get m.signals signal) (machine t i running) named.0 named.1).1

pub not_both : (b : Bool) → b ≡ false → b ≡ true → ⊥
not_both b h k = absurd (cc)

pub some_room : (n m : ℕ) → nat_lt n m ≡ true → 0 < m
some_room n m h = grind (arith, nat_tests)

-- a priority as it is handed on
pub known_as : (t : Described) (i : ℕ) (point : Point) (ps : List ℤ) (p q : ℤ) (policy : Full) → q ≡ p → AreKnown t i ps → manner t i point ≡ Some (by (Later p policy)) → Contains ps q
known_as t i point ps p q policy e known how = subst (λ (x : ℤ). Contains ps x) (sym e) (known point p policy how)

pub treated_as : (t : Described) (i : ℕ) (point : Point) (p q : ℤ) (policy : Full) → q ≡ p → manner t i point ≡ Some (by (Later p policy)) → manner t i point ≡ Some (by (Later q policy))
treated_as t i point p q policy e how = how ∙ ap (λ (x : ℤ). Some (by (Later x policy))) (sym e)
