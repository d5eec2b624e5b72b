-- Each entry that an actor takes leaves frames that suit.
use Rattle.std.proofs.Common.{◌≡◌, ℕ, ℤ, true, false, ◌==◌, nat_lt, List, [], ◌∷◌, ◌++◌, drop, length, Option, Some, None, option_map, option_and_then, is_some, refl, sym, ap, ◌∙◌, subst, slice_get}
use Rattle.fp_events.proofs.StepLaws.{answered_arrival}
use Rattle.fp_tables.specs.Specials.{component}
use Rattle.fp_base.proofs.Options.{mapped_some, no_some}
use Rattle.fp_base.specs.declared.value.Value.{Value}
use Rattle.fp_base.proofs.Sameness.{nat_same}
use Rattle.fp_base.proofs.Bools.{both}
use Rattle.fp_tables.specs.Acts.{bound_to, is_placed}
use Rattle.fp_tables.specs.Arguments.{Scope, with_bound}
use Rattle.fp_tables.specs.Components.{is_later}
use Rattle.fp_tables.specs.Lookup.{Described}
use Rattle.fp_tables.specs.Sound.{IsSoundFor}
use Rattle.fp_tables.specs.SoundPrograms.{IsSoundProgram}
use Rattle.fp_tables.specs.Types.{has_kind}
use Rattle.fp_tables.specs.declared.kind.Kind.{Kind}
use Rattle.fp_tables.specs.declared.component.Full.{Full}
use Rattle.fp_tables.specs.declared.component.Param.{Param}
use Rattle.fp_tables.specs.declared.component.Port.{Port as PortOf}
use Rattle.fp_tables.specs.declared.component.Role.{Role}
use Rattle.fp_tables.specs.declared.component.Role.TheVariants as role
use Rattle.fp_tables.specs.declared.component.Special.{Special}
use Rattle.fp_tables.specs.declared.component.Special.TheVariants as special
use Rattle.fp_tables.specs.declared.component.Way.{Way}
use Rattle.fp_tables.specs.declared.component.Way.TheVariants.{Later, Sync, Guarded}
use Rattle.fp_tables.specs.declared.machine.Machine.{Machine}
use Rattle.fp_tables.specs.declared.machine.Named.{Named}
use Rattle.fp_tables.specs.declared.program.Program.{Program}
use Rattle.fp_tables.specs.declared.program.Spot.{Spot}
use Rattle.fp_events.specs.Actor.{Bindings, Action, advance, Doing, Opened, own, arrived, taken, Frame, Thread}
use Rattle.fp_events.specs.Answers.{suits, answers}
use Rattle.fp_events.specs.Due.{first_action, due_of}
use Rattle.fp_events.specs.Fits.{signal_at, point_fits, origin_fits, arrival_fits, value_fits, actions_fit, going_fits, what_fits}
use Rattle.fp_events.specs.Follows.{without_first, bind, in_frame, doing, removed, bound_below, closed, name_for, value_in, ok_note, handling, returned, opened, sends, parameter_name, performed, sent_as, bound_name, hooking, follows}
use Rattle.fp_events.specs.Lookup.{machine, home, default_of}
use Rattle.fp_events.specs.Manners.{Manner, by, sets, saves, manner, input_manner}
use Rattle.fp_events.specs.declared.event.Arrival.{Arrival}
use Rattle.fp_events.specs.declared.event.Ask.{Ask}
use Rattle.fp_events.specs.declared.event.Ask.TheVariants as ask
use Rattle.fp_events.specs.declared.event.Fate.{Fate}
use Rattle.fp_events.specs.declared.event.Fate.TheVariants.{Sent, Held, Same, Unwired}
use Rattle.fp_events.specs.declared.event.Point.{Point}
use Rattle.fp_events.specs.declared.event.Point.TheVariants.{Port, Command as OfCommand, Post, Signal}
use Rattle.fp_events.specs.declared.event.What.{What}
use Rattle.fp_events.specs.declared.event.What.TheVariants as what
use Rattle.fp_events.proofs.SameArrival.{value_option_same}
use Rattle.fp_run_laws.specs.Suits.{result_of_point, results_by, returns_fit, Source, at, source, AdvanceSuits, ActionSuits, MayReturn, DoingSuits, DoingsSuit, Returns, awaited, Stands, FramesSuit, AllSuit}
use Rattle.fp_base.specs.Names.{is_name}
use Rattle.fp_tables.specs.declared.component.Channel.{Channel}
use Rattle.fp_tables.proofs.Untyped.{none_bound}
use Rattle.fp_events.proofs.Fitting.{kind_there}
use Rattle.fp_run_laws.proofs.Notes.{AreNamed, event_named, channel_named, saved_named}
use Rattle.fp_run_laws.proofs.Asks.{FirstSuits, first_suits}
use Rattle.fp_run_laws.proofs.TypingDues.{IsEnd, BindsFirst, first_binds}
use Rattle.fp_run_laws.proofs.Handling.{spot_of, handling_suits, hooking_suits, sends_suit, Has, has_value, performed_suit}
use Rattle.fp_run_laws.proofs.Removing.{first_answer, same_answer, without_first_suits, bind_suits, frames_same_answer, removed_suits, quietly_removed, bound_below_suits}
use Rattle.fp_run_laws.proofs.Results.{later_returns_nothing, post_is_later, default_is, default_of_result}

-- ---- how places are treated

enter_manner : (m : Option Manner) (r : Arrival) → suits m (what.Enter r) ≡ true → m ≡ Some (by Sync)
enter_manner None r h = absurd (cc)
enter_manner (Some (by Sync)) r h = refl
enter_manner (Some (by Guarded)) r h = absurd (cc)
enter_manner (Some (by (Later priority policy))) r h = absurd (cc)
enter_manner (Some (sets k)) r h = absurd (cc)
enter_manner (Some (saves k)) r h = absurd (cc)

guard_manner : (m : Option Manner) (r : Arrival) → suits m (what.Guard r) ≡ true → m ≡ Some (by Guarded)
guard_manner None r h = absurd (cc)
guard_manner (Some (by Sync)) r h = absurd (cc)
guard_manner (Some (by Guarded)) r h = refl
guard_manner (Some (by (Later priority policy))) r h = absurd (cc)
guard_manner (Some (sets k)) r h = absurd (cc)
guard_manner (Some (saves k)) r h = absurd (cc)

-- an asynchronous entry of an arrival
abbrev IsLater : What → Type 0
IsLater (what.Put number r) = Unit {0}
IsLater (what.Dropped r) = Unit {0}
IsLater (what.Hooked r) = Unit {0}
IsLater _ = ⊥

later_manner : (m : Option Manner) (w : What) → IsLater w → suits m w ≡ true → (priority : ℤ) × (policy : Full) × (m ≡ Some (by (Later priority policy)))
later_manner (Some (by (Later priority policy))) w is h = (priority, policy, refl)
later_manner None (what.Put number r) is h = absurd (cc)
later_manner None (what.Dropped r) is h = absurd (cc)
later_manner None (what.Hooked r) is h = absurd (cc)
later_manner (Some (by Sync)) (what.Put number r) is h = absurd (cc)
later_manner (Some (by Sync)) (what.Dropped r) is h = absurd (cc)
later_manner (Some (by Sync)) (what.Hooked r) is h = absurd (cc)
later_manner (Some (by Guarded)) (what.Put number r) is h = absurd (cc)
later_manner (Some (by Guarded)) (what.Dropped r) is h = absurd (cc)
later_manner (Some (by Guarded)) (what.Hooked r) is h = absurd (cc)
later_manner (Some (sets k)) (what.Put number r) is h = absurd (cc)
later_manner (Some (sets k)) (what.Dropped r) is h = absurd (cc)
later_manner (Some (sets k)) (what.Hooked r) is h = absurd (cc)
later_manner (Some (saves k)) (what.Put number r) is h = absurd (cc)
later_manner (Some (saves k)) (what.Dropped r) is h = absurd (cc)
later_manner (Some (saves k)) (what.Hooked r) is h = absurd (cc)
later_manner _ _ is h = absurd is

-- a set or a save is of a command
abbrev IsImplied : What → Type 0
IsImplied (what.Set r) = Unit {0}
IsImplied (what.Save r v) = Unit {0}
IsImplied _ = ⊥

no_way : (way : Way) (w : What) → IsImplied w → suits (Some (by way)) w ≡ true → ⊥
no_way Sync (what.Set r) is h = cc
no_way Sync (what.Save r v) is h = cc
no_way Guarded (what.Set r) is h = cc
no_way Guarded (what.Save r v) is h = cc
no_way (Later priority policy) (what.Set r) is h = cc
no_way (Later priority policy) (what.Save r v) is h = cc
no_way _ _ is h = is

no_manner : (w : What) → IsImplied w → suits None w ≡ true → ⊥
no_manner (what.Set r) is h = cc
no_manner (what.Save r v) is h = cc
no_manner _ is h = is

no_input : (o : Option PortOf) (w : What) → IsImplied w → suits (option_and_then (λ (p : PortOf). input_manner p.role) o) w ≡ true → ⊥
no_input None w is h = no_manner w is h
no_input (Some p) w is h = go p.role h
  where
    go : (r : Role) → suits (input_manner r) w ≡ true → ⊥
    go (role.Input way) h = no_way way w is h
    go role.Output h = no_manner w is h
    go (role.Special s) h = no_manner w is h
    go (role.Internal way) h = no_manner w is h

implied_returns_nothing : (t : Described) (i : ℕ) (point : Point) (w : What) → IsImplied w → suits (manner t i point) w ≡ true → result_of_point t i point ≡ None
implied_returns_nothing t i (Port n number) w is h = absurd (no_input (slice_get (component t i).ports n) w is h)
implied_returns_nothing t i (OfCommand n) w is h = refl
implied_returns_nothing t i (Post n) w is h = refl
implied_returns_nothing t i (Signal running signal) w is h = refl

inside_source : (o : Opened) (i : ℕ) → (o ≡ own → ⊥) → (p : Spot) → source o i p ≡ at i p
inside_source own i inside p = absurd (inside refl)
inside_source (arrived default name) i inside p = refl
inside_source taken i inside p = refl

module _ (t : Described) (program : Program) (sound : IsSoundFor t.model (Some t.topology)) (good : IsSoundProgram t program) where
  -- ---- what the first action binds

  take_only : (a i : ℕ) (q : Ask) → due_of t program a [] ≡ Some (i, q) → q ≡ ask.Take
  take_only a i q due =
      let k = mapped_some {B = ℕ × Ask} (λ i. (i, ask.Take)) (home t program a) (i, q) due in
      sym (ap (λ (p : ℕ × Ask). p.1) k.2)

  arrival_answer : (ks : List (Option Kind)) (a i : ℕ) (fs : List Frame) (q : Ask) (r : Arrival) → AllSuit t program ks a fs → due_of t program a fs ≡ Some (i, q) → q ≡ ask.Arrive r
      → (scope : Scope) → first_answer t program (first_action (doing fs)) scope ≡ bound_to (name_for (first_action (doing fs))) (result_of_point t i r.point) scope
  arrival_answer ks a i [] q r h due is scope = let e : ask.Take ≡ ask.Arrive r = sym (take_only a i q due) ∙ is in absurd (cc)
  arrival_answer ks a i (f ∷ fs) q r h due is scope =
      go (first_action f.doing) (subst (λ (q : Ask). BindsFirst t program sound f.opened f.instance h.0 (first_action f.doing) i q) is (first_binds t program sound ks a f fs (i, q) h due))
    where
      go : (first : Option (Action × Bindings)) → BindsFirst t program sound f.opened f.instance h.0 first i (ask.Arrive r)
          → first_answer t program first scope ≡ bound_to (name_for first) (result_of_point t i r.point) scope
      go None b = absurd b
      go (Some x) b = b x.1 scope

  -- asks whose actions bind nothing
  abbrev IsPlain : Ask → Type 0
  IsPlain ask.Take = Unit {0}
  IsPlain ask.Dispatch = Unit {0}
  IsPlain (ask.Emit event vs) = Unit {0}
  IsPlain (ask.Write channel v) = Unit {0}
  IsPlain _ = ⊥

  plain_binds : (o : Opened) (k : ℕ) (result : Option Kind) (i : ℕ) (q : Ask) (first : Option (Action × Bindings)) → IsPlain q → BindsFirst t program sound o k result first i q
      → (scope : Scope) → first_answer t program first scope ≡ scope
  plain_binds o k result i ask.Take (Some x) p b scope = absurd b
  plain_binds o k result i ask.Take None p b scope = absurd b
  plain_binds o k result i ask.Dispatch (Some x) p b scope = b.2 scope
  plain_binds o k result i ask.Dispatch None p b scope = absurd b
  plain_binds o k result i (ask.Emit event vs) (Some x) p b scope = b.2 scope
  plain_binds o k result i (ask.Emit event vs) None p b scope = absurd b
  plain_binds o k result i (ask.Write channel v) (Some x) p b scope = b.2 scope
  plain_binds o k result i (ask.Write channel v) None p b scope = absurd b
  plain_binds o k result i _ first p b scope = absurd p

  plain_answer : (ks : List (Option Kind)) (a i : ℕ) (fs : List Frame) (q : Ask) → AllSuit t program ks a fs → due_of t program a fs ≡ Some (i, q) → IsPlain q → (scope : Scope) → first_answer t program (first_action (doing fs)) scope ≡ scope
  plain_answer ks a i [] q h due p scope = refl
  plain_answer ks a i (f ∷ fs) q h due p scope = plain_binds f.opened f.instance h.0 i q (first_action f.doing) p (first_binds t program sound ks a f fs (i, q) h due) scope

  -- ---- frames that open

  open_suits : (ks : List (Option Kind)) (a i : ℕ) (fs : List Frame) (q : Ask) (r : Arrival) (d : Doing) (default : Option Value) → AllSuit t program ks a fs → due_of t program a fs ≡ Some (i, q) → q ≡ ask.Arrive r → is_placed t i ≡ true
      → Returns t program (result_of_point t i r.point) default → ((name : Option (List ℕ)) → DoingSuits t program (arrived default name) i (result_of_point t i r.point) (λ scope. scope) d)
      → AllSuit t program (result_of_point t i r.point ∷ ks) a (opened t program i d default fs)
  open_suits ks a i fs q r d default h due is here returns suits = (
    result_of_point t i r.point,
    (suits (name_for (first_action (doing fs))), tt),
    (
      here,
      returns,
      (
        ks,
        refl,
        frames_same_answer t program ks a (first_answer t program (first_action (doing fs))) (bound_to (name_for (first_action (doing fs))) (result_of_point t i r.point)) (removed fs)
            (arrival_answer ks a i fs q r h due is) (removed_suits t program ks a fs h),
      ),
    ),
  )

  -- a place that isn't an internal port
  abbrev IsOutside : Point → Type 0
  IsOutside (Post n) = ⊥
  IsOutside _ = Unit {0}

  outside : (i : ℕ) (way : Way) (point : Point) → is_later way ≡ false → manner t i point ≡ Some (by way) → IsOutside point
  outside i way (Port n number) later h = tt
  outside i way (OfCommand n) later h = tt
  outside i way (Post n) later h = let e : is_later way ≡ true = post_is_later t sound i n way h in cc
  outside i way (Signal running signal) later h = tt

  may_return : (i : ℕ) (point : Point) (default : Option Value) (name : Option (List ℕ)) → IsOutside point → MayReturn t program (arrived default name) i (result_of_point t i point) (spot_of t program good point)
  may_return i (Port n number) default name out = λ k h. h
  may_return i (OfCommand n) default name out = λ k h. no_some h
  may_return i (Post n) default name out = absurd out
  may_return i (Signal running signal) default name out = λ k h. no_some h

  default_returns : (i : ℕ) (point : Point) → Returns t program (result_of_point t i point) (returned t program i point)
  default_returns i point = subst (λ (v : Option Value). Returns t program (result_of_point t i point) v) (sym (default_is t sound program i point)) (go (result_of_point t i point) refl)
    where
      go : (k : Option Kind) → result_of_point t i point ≡ k → Returns t program k (option_map (default_of t) k)
      go None is = tt
      go (Some k) is = default_of_result t sound i point k is

  handled : (ks : List (Option Kind)) (a i : ℕ) (fs : List Frame) (q : Ask) (r : Arrival) → AllSuit t program ks a fs → due_of t program a fs ≡ Some (i, q) → q ≡ ask.Arrive r → is_placed t i ≡ true → IsOutside r.point
      → point_fits t program i r.point r.with ≡ true → AllSuit t program (result_of_point t i r.point ∷ ks) a (opened t program i (handling t program i r.point r.with) (returned t program i r.point) fs)
  handled ks a i fs q r h due is here out fit =
      open_suits ks a i fs q r (handling t program i r.point r.with) (returned t program i r.point) h due is here (default_returns i r.point)
      (λ name. handling_suits t program good (arrived (returned t program i r.point) name) i (result_of_point t i r.point) r.point r.with (λ p. refl) (may_return i r.point (returned t program i r.point) name out) fit)

  sending : (ks : List (Option Kind)) (a i : ℕ) (fs : List Frame) (q : Ask) (r : Arrival) (ports : List (Special × List ℕ)) → AreNamed ports → AllSuit t program ks a fs → due_of t program a fs ≡ Some (i, q) → q ≡ ask.Arrive r → is_placed t i ≡ true
      → result_of_point t i r.point ≡ None → AllSuit t program (None ∷ ks) a (opened t program i (sends t program i ports) None fs)
  sending ks a i fs q r ports named h due is here none =
      subst (λ (k : Option Kind). AllSuit t program (k ∷ ks) a (opened t program i (sends t program i ports) None fs)) none
      (open_suits ks a i fs q r (sends t program i ports) None h due is here (subst (λ (k : Option Kind). Returns t program k None) (sym none) tt)
      (λ name. sends_suit t program good (arrived None name) i (result_of_point t i r.point) ports named (λ p. refl)))

  hooked : (ks : List (Option Kind)) (a i : ℕ) (fs : List Frame) (q : Ask) (r : Arrival) → AllSuit t program ks a fs → due_of t program a fs ≡ Some (i, q) → q ≡ ask.Arrive r → is_placed t i ≡ true
      → suits (manner t i r.point) (what.Hooked r) ≡ true → point_fits t program i r.point r.with ≡ true → AllSuit t program (None ∷ ks) a (opened t program i (hooking t program i r.point r.with) None fs)
  hooked ks a i fs q r h due is here treated fit =
      let m = later_manner (manner t i r.point) (what.Hooked r) tt treated in
      let none = later_returns_nothing t sound i r.point m.0 m.1 m.2 in
      subst (λ (k : Option Kind). AllSuit t program (k ∷ ks) a (opened t program i (hooking t program i r.point r.with) None fs)) none
      (open_suits ks a i fs q r (hooking t program i r.point r.with) None h due is here (subst (λ (k : Option Kind). Returns t program k None) (sym none) tt)
      (λ name. hooking_suits t program good None name i (result_of_point t i r.point) r.point r.with fit))

  waiting : (ks : List (Option Kind)) (a i : ℕ) (fs : List Frame) (q : Ask) (r : Arrival) (w : What) → AllSuit t program ks a fs → due_of t program a fs ≡ Some (i, q) → q ≡ ask.Arrive r → IsLater w → suits (manner t i r.point) w ≡ true
      → AllSuit t program ks a (removed fs)
  waiting ks a i fs q r w h due is later treated =
      let m = later_manner (manner t i r.point) w later treated in
      let none = later_returns_nothing t sound i r.point m.0 m.1 m.2 in
      quietly_removed t program ks a fs h
      (λ scope. arrival_answer ks a i fs q r h due is scope ∙ ap (λ (k : Option Kind). bound_to (name_for (first_action (doing fs))) k scope) none ∙ none_bound (name_for (first_action (doing fs))) scope)

  taking : (ks : List (Option Kind)) (a i number : ℕ) (point : Point) (vs : List Value) (fs : List Frame) (q : Ask) → AllSuit t program ks a fs → due_of t program a fs ≡ Some (i, q) → IsPlain q → is_placed t i ≡ true → point_fits t program i point vs ≡ true
      → AllSuit t program (None ∷ ks) a (record { instance = i; doing = handling t program i point vs ∷ []; opened = taken } ∷ removed fs)
  taking ks a i number point vs fs q h due p here fit =
      (None, (handling_suits t program good taken i None point vs (λ p. refl) tt fit, tt), (here, tt, (ks, refl, quietly_removed t program ks a fs h (plain_answer ks a i fs q h due p))))

  -- ---- frames that stay

  -- asks at the own instance, whose actions aren't a caller's own
  abbrev IsInner : Ask → Type 0
  IsInner (ask.Emit event vs) = Unit {0}
  IsInner (ask.Write channel v) = Unit {0}
  IsInner (ask.Advance running signal v) = Unit {0}
  IsInner _ = ⊥

  inner_at : (o : Opened) (k : ℕ) (result : Option Kind) (i : ℕ) (q : Ask) (first : Option (Action × Bindings)) → IsInner q → BindsFirst t program sound o k result first i q → (o ≡ own → ⊥) × (i ≡ k)
  inner_at o k result i (ask.Emit event vs) (Some x) p b = (b.0, b.1)
  inner_at o k result i (ask.Emit event vs) None p b = absurd b
  inner_at o k result i (ask.Write channel v) (Some x) p b = (b.0, b.1)
  inner_at o k result i (ask.Write channel v) None p b = absurd b
  inner_at o k result i (ask.Advance running signal v) (Some x) p b = (b.0, b.1)
  inner_at o k result i (ask.Advance running signal v) None p b = absurd b
  inner_at o k result i _ first p b = absurd p

  sent_suits : (ks : List (Option Kind)) (a i : ℕ) (became : Fate) (s : Special) (name : List ℕ) (fs : List Frame) (q : Ask) → is_name name ≡ true → AllSuit t program ks a fs → due_of t program a fs ≡ Some (i, q) → IsPlain q → IsInner q → AllSuit t program ks a (sent_as t program i became s name fs)
  sent_suits ks a i Held s name fs q named h due p inner = quietly_removed t program ks a fs h (plain_answer ks a i fs q h due p)
  sent_suits ks a i Same s name fs q named h due p inner = quietly_removed t program ks a fs h (plain_answer ks a i fs q h due p)
  sent_suits ks a i Unwired s name fs q named h due p inner = quietly_removed t program ks a fs h (plain_answer ks a i fs q h due p)
  sent_suits ks a i Sent s name [] q named h due p inner = h
  sent_suits ks a i Sent s name (f ∷ fs) q named h due p inner =
      let n = inner_at f.opened f.instance h.0 i q (first_action f.doing) inner (first_binds t program sound ks a f fs (i, q) h due) in
      let new : DoingSuits t program f.opened f.instance h.0 (λ scope. scope) (sends t program i ((s, name) ∷ [])) =
      subst (λ (k : ℕ). DoingSuits t program f.opened f.instance h.0 (λ scope. scope) (sends t program k ((s, name) ∷ []))) (sym n.1)
      (sends_suit t program good f.opened f.instance h.0 ((s, name) ∷ []) (named, tt) (inside_source f.opened f.instance n.0)) in (
        h.0,
        (
          new,
          same_answer t program f.opened f.instance h.0 (first_answer t program (first_action f.doing)) (λ scope. scope) (without_first f.doing) (plain_answer ks a i (f ∷ fs) q h due p)
              (without_first_suits t program f.opened f.instance h.0 f.doing h.1),
        ),
        h.2,
      )

  -- an advance comes first, and its value suits its signal
  advance_binds : (o : Opened) (k : ℕ) (result : Option Kind) (i running signal : ℕ) (v : Option Value) (first : Option (Action × Bindings)) → BindsFirst t program sound o k result first i (ask.Advance running signal v)
      → (b : Bindings) × (first ≡ Some (advance running signal v, b))
  advance_binds o k result i running signal v (Some x) h = (x.1, ap (λ (y : Action). Some (y, x.1)) h.2)
  advance_binds o k result i running signal v None h = absurd h

  advance_suits : (o : Opened) (i : ℕ) (result : Option Kind) (running signal : ℕ) (v : Option Value) (b : Bindings) → (o ≡ own → ⊥) → FirstSuits t program o i result (advance running signal v) b → AdvanceSuits t program i running signal v
  advance_suits o i result running signal v b inside h = subst (λ (q : Source). ActionSuits t program q h.scope (advance running signal v)) (inside_source o i inside h.place) h.action

  -- what an advance puts before what is left
  performs : (f : Frame) (result : Option Kind) (i running : ℕ) (k : Option Kind) (v : Option Value) (actions : List ℕ) (leaf : ℕ) (ds : List Doing) → (f.opened ≡ own → ⊥) → i ≡ f.instance
      → going_fits t program k (machine t i running) actions leaf ≡ true → Has t program good sound k v → DoingsSuit t program f.opened f.instance result (λ scope. scope) ds
      → DoingsSuit t program f.opened f.instance result (λ scope. scope) (performed t program i running actions v ++ ds)
  performs f result i running k v actions leaf ds inside here fit has h =
      let m = going (machine t i running) fit in
      subst (λ (n : ℕ). DoingsSuit t program f.opened f.instance result (λ scope. scope) (performed t program n running actions v ++ ds)) (sym here)
      (performed_suit t program good sound f.opened f.instance result running m.0 k v actions ds (inside_source f.opened f.instance inside)
      (ap (λ (n : ℕ). machine t n running) (sym here) ∙ m.1) has m.2 h)
    where
      going : (o : Option Machine) → going_fits t program k o actions leaf ≡ true → (m : Machine) × (o ≡ Some m) × (actions_fit t program k m actions ≡ true)
      going None h = absurd (cc)
      going (Some m) h = (m, refl, (both (actions_fit t program k m actions) (nat_lt leaf (length m.vertices)) h).0)

  starts : (ks : List (Option Kind)) (a i running : ℕ) (actions : List ℕ) (leaf : ℕ) (fs : List Frame) (r s : ℕ) (v : Option Value) → AllSuit t program ks a fs → due_of t program a fs ≡ Some (i, ask.Advance r s v) → going_fits t program None (machine t i running) actions leaf ≡ true
      → AllSuit t program ks a (in_frame (λ old. performed t program i running actions (value_in (first_action old)) ++ old) fs)
  starts ks a i running actions leaf [] r s v h due fit = h
  starts ks a i running actions leaf (f ∷ fs) r s v h due fit =
      let b = first_binds t program sound ks a f fs (i, ask.Advance r s v) h due in
      let n = inner_at f.opened f.instance h.0 i (ask.Advance r s v) (first_action f.doing) tt b in
      (h.0, performs f h.0 i running None (value_in (first_action f.doing)) actions leaf f.doing n.0 n.1 fit tt h.1, h.2)

  moves : (ks : List (Option Kind)) (a i running signal : ℕ) (actions : List ℕ) (leaf : ℕ) (fs : List Frame) (v : Option Value) → AllSuit t program ks a fs → due_of t program a fs ≡ Some (i, ask.Advance running signal v)
      → going_fits t program (option_and_then (λ (s : Named). s.kind) (signal_at t program i running signal)) (machine t i running) actions leaf ≡ true
      → AllSuit t program ks a (in_frame (λ old. performed t program i running actions (value_in (first_action old)) ++ without_first old) fs)
  moves ks a i running signal actions leaf [] v h due fit = h
  moves ks a i running signal actions leaf (f ∷ fs) v h due fit =
      let b = first_binds t program sound ks a f fs (i, ask.Advance running signal v) h due in
      let n = inner_at f.opened f.instance h.0 i (ask.Advance running signal v) (first_action f.doing) tt b in
      let x = advance_binds f.opened f.instance h.0 i running signal v (first_action f.doing) b in
      let suits = advance_suits f.opened f.instance h.0 running signal v x.0 n.0 (first_suits t program f.opened f.instance h.0 f.doing (advance running signal v) x.0 h.1 x.1) in
      let kind : option_and_then (λ (s : Named). s.kind) (signal_at t program i running signal) ≡ suits.named.kind =
      ap (λ (n : ℕ). option_and_then (λ (s : Named). s.kind) (signal_at t program n running signal)) n.1 ∙ ap (option_and_then (λ (s : Named). s.kind)) suits.there in
      let value : v ≡ value_in (first_action f.doing) = ap value_in (sym x.1) in
      let has : Has t program good sound suits.named.kind (value_in (first_action f.doing)) =
      subst (λ (o : Option Value). Has t program good sound suits.named.kind o) value (has_value t program good sound suits.named.kind v suits.value) in
      let quiet : (scope : Scope) → first_answer t program (first_action f.doing) scope ≡ scope = λ scope. ap (λ (o : Option (Action × Bindings)). first_answer t program o scope) x.1 in (
        h.0,
        performs f h.0 i running suits.named.kind (value_in (first_action f.doing)) actions leaf (without_first f.doing) n.0 n.1
            (ap (λ (k : Option Kind). going_fits t program k (machine t i running) actions leaf) (sym kind) ∙ fit) has
            (same_answer t program f.opened f.instance h.0 (first_answer t program (first_action f.doing)) (λ scope. scope) (without_first f.doing) quiet (without_first_suits t program f.opened f.instance h.0 f.doing h.1)),
        h.2,
      )

  -- a value that is read is bound
  read_binds : (o : Opened) (k : ℕ) (result : Option Kind) (i param : ℕ) (first : Option (Action × Bindings)) → BindsFirst t program sound o k result first i (ask.Read param)
      → (i ≡ k) × (name : List ℕ) × (p : Param) × (slice_get (component t k).params param ≡ Some p) × (bound_name t program first ≡ name) × ((scope : Scope) → first_answer t program first scope ≡ with_bound name p.kind scope)
  read_binds o k result i param (Some x) b = (b.here, b.name, b.parameter, b.found, b.named x.1, b.binds)
  read_binds o k result i param None b = absurd b

  reading : (ks : List (Option Kind)) (a i param : ℕ) (v : Value) (fs : List Frame) → AllSuit t program ks a fs → due_of t program a fs ≡ Some (i, ask.Read param) → value_fits t program (option_map (λ (x : Param). x.kind) (slice_get (component t i).params param)) v ≡ true
      → AllSuit t program ks a (in_frame (λ old. bind (bound_name t program (first_action old)) v (without_first old)) fs)
  reading ks a i param v [] h due fit = h
  reading ks a i param v (f ∷ fs) h due fit =
      let r = read_binds f.opened f.instance h.0 i param (first_action f.doing) (first_binds t program sound ks a f fs (i, ask.Read param) h due) in
      let has : has_kind t.model.types r.2.kind v ≡ true =
      ap (λ (o : Option Param). value_fits t program (option_map (λ (x : Param). x.kind) o) v) (sym r.3) ∙ ap (λ (n : ℕ). value_fits t program (option_map (λ (x : Param). x.kind) (slice_get (component t n).params param)) v) (sym r.0) ∙ fit in (
        h.0,
        subst (λ (name : List ℕ). DoingsSuit t program f.opened f.instance h.0 (λ scope. scope) (bind name v (without_first f.doing))) (sym r.4)
            (bind_suits t program f.opened f.instance h.0 r.1 r.2.kind v (without_first f.doing) has
            (same_answer t program f.opened f.instance h.0 (first_answer t program (first_action f.doing)) (with_bound r.1 r.2.kind) (without_first f.doing) r.5
            (without_first_suits t program f.opened f.instance h.0 f.doing h.1))),
        h.2,
      )

  -- ---- frames that close

  left : (ks : List (Option Kind)) (a : ℕ) (o : Opened) (i : ℕ) (result : Option Kind) (v : Option Value) (fs : List Frame) → IsEnd t program sound o result (ask.Leave v) → Stands t program ks a o i result fs (λ rest. FramesSuit t program rest a (awaited t program o result) fs)
      → AllSuit t program (drop 1 ks) a (bound_below o v fs)
  left ks a own i result v fs e stands = absurd (other e.0 e.1 e.2)
    where
      other : (default : Option Value) (name : Option (List ℕ)) → own ≡ arrived default name → ⊥
      other default name h = cc
  left ks a taken i result v fs e stands = absurd (other e.0 e.1 e.2)
    where
      other : (default : Option Value) (name : Option (List ℕ)) → taken ≡ arrived default name → ⊥
      other default name h = cc
  left ks a (arrived default name) i result v fs e stands =
      subst (λ (l : List (Option Kind)). AllSuit t program (drop 1 l) a (bound_below (arrived default name) v fs)) (sym stands.2.1)
      (bound_below_suits t program stands.2.0 a default name result v fs e.3 stands.2.2)

  leave_ends : (o : Opened) (k : ℕ) (result : Option Kind) (i : ℕ) (v : Option Value) (first : Option (Action × Bindings)) → BindsFirst t program sound o k result first i (ask.Leave v) → IsEnd t program sound o result (ask.Leave v)
  leave_ends o k result i v None b = b
  leave_ends o k result i v (Some x) b = b

  leaving : (ks : List (Option Kind)) (a i : ℕ) (v : Option Value) (fs : List Frame) → AllSuit t program ks a fs → due_of t program a fs ≡ Some (i, ask.Leave v) → AllSuit t program (drop 1 ks) a (closed v fs)
  leaving ks a i v [] h due = (h.0, ap (λ (l : List (Option Kind)). drop 1 l) h.1)
  leaving ks a i v (f ∷ fs) h due =
      left ks a f.opened f.instance h.0 v fs (leave_ends f.opened f.instance h.0 i v (first_action f.doing) (first_binds t program sound ks a f fs (i, ask.Leave v) h due)) h.2

  -- what is due, with the ask that the entry shows
  at_ask : (a i : ℕ) (fs : List Frame) (q p : Ask) → due_of t program a fs ≡ Some (i, q) → q ≡ p → due_of t program a fs ≡ Some (i, p)
  at_ask a i fs q p due e = due ∙ ap (λ (x : Ask). Some (i, x)) e

  -- the value that is returned
  of_result : (result : Option Kind) (rest : List (Option Kind)) (v : Value) → Returns t program result (Some v) → returns_fit t (result ∷ rest) (what.Leave (Some v)) ≡ true
  of_result None rest v h = absurd h
  of_result (Some k) rest v h = h

  returned_by : (ks : List (Option Kind)) (a : ℕ) (o : Opened) (i : ℕ) (result : Option Kind) (v : Value) (fs : List Frame) (suits : List (Option Kind) → Type 0) → IsEnd t program sound o result (ask.Leave (Some v)) → Stands t program ks a o i result fs suits
      → returns_fit t ks (what.Leave (Some v)) ≡ true
  returned_by ks a own i result v fs suits e stands = absurd (other e.0 e.1 e.2)
    where
      other : (default : Option Value) (name : Option (List ℕ)) → own ≡ arrived default name → ⊥
      other default name h = cc
  returned_by ks a taken i result v fs suits e stands = absurd (other e.0 e.1 e.2)
    where
      other : (default : Option Value) (name : Option (List ℕ)) → taken ≡ arrived default name → ⊥
      other default name h = cc
  returned_by ks a (arrived default name) i result v fs suits e stands = ap (λ (l : List (Option Kind)). returns_fit t l (what.Leave (Some v))) stands.2.1 ∙ of_result result stands.2.0 v e.3

  leave_only : (a i : ℕ) (v : Option Value) → due_of t program a [] ≡ Some (i, ask.Leave v) → ⊥
  leave_only a i v due = let e : ask.Leave v ≡ ask.Take = take_only a i (ask.Leave v) due in cc

  returning : (ks : List (Option Kind)) (a i : ℕ) (v : Value) (fs : List Frame) → AllSuit t program ks a fs → due_of t program a fs ≡ Some (i, ask.Leave (Some v)) → returns_fit t ks (what.Leave (Some v)) ≡ true
  returning ks a i v [] h due = absurd (leave_only a i (Some v) due)
  returning ks a i v (f ∷ fs) h due =
      returned_by ks a f.opened f.instance h.0 v fs _ (leave_ends f.opened f.instance h.0 i (Some v) (first_action f.doing) (first_binds t program sound ks a f fs (i, ask.Leave (Some v)) h due)) h.2

  -- what returns no value fits
  returned_in : What → Option Value
  returned_in (what.Leave v) = v
  returned_in _ = None

  not_returning : (ks : List (Option Kind)) (w : What) → returned_in w ≡ None → returns_fit t ks w ≡ true
  unfolding returned_in
  not_returning ks (what.Leave (Some v)) h = absurd (cc)
  not_returning [] _ h = refl
  not_returning (None ∷ ks) _ h = refl
  not_returning (Some k ∷ ks) _ h = refl

  pub returns : (ks : List (Option Kind)) (a i : ℕ) (fs : List Frame) (q : Ask) (w : What) → AllSuit t program ks a fs → due_of t program a fs ≡ Some (i, q) → answers t i w q ≡ true → returns_fit t ks w ≡ true
  unfolding answers returned_in
  returns ks a i fs (ask.Leave u) (what.Leave (Some v)) h due answer =
      returning ks a i v fs h (at_ask a i fs (ask.Leave u) (ask.Leave (Some v)) due (ap ask.Leave (sym (value_option_same.equal (Some v) u answer))))
  returns ks a i fs _ (what.Leave (Some v)) h due answer = absurd (cc)
  returns ks a i fs q (what.Leave None) h due answer = not_returning ks (what.Leave None) refl
  returns ks a i fs q w h due answer = not_returning ks w refl

  done : (ks : List (Option Kind)) (a : ℕ) (o : Opened) (i : ℕ) (result : Option Kind) (fs : List Frame) → o ≡ taken → Stands t program ks a o i result fs (λ rest. FramesSuit t program rest a (awaited t program o result) fs) → AllSuit t program (drop 1 ks) a (bound_below o None fs)
  done ks a own i result fs e stands = absurd (cc)
  done ks a (arrived default name) i result fs e stands = absurd (cc)
  done ks a taken i result fs e stands = subst (λ (l : List (Option Kind)). AllSuit t program (drop 1 l) a fs) (sym stands.2.1) stands.2.2

  done_ends : (o : Opened) (k : ℕ) (result : Option Kind) (i : ℕ) (first : Option (Action × Bindings)) → BindsFirst t program sound o k result first i ask.Done → o ≡ taken
  done_ends o k result i None b = b
  done_ends o k result i (Some x) b = b

  finishing : (ks : List (Option Kind)) (a i : ℕ) (fs : List Frame) → AllSuit t program ks a fs → due_of t program a fs ≡ Some (i, ask.Done) → AllSuit t program (drop 1 ks) a (closed None fs)
  finishing ks a i [] h due = (h.0, ap (λ (l : List (Option Kind)). drop 1 l) h.1)
  finishing ks a i (f ∷ fs) h due =
      done ks a f.opened f.instance h.0 fs (done_ends f.opened f.instance h.0 i (first_action f.doing) (first_binds t program sound ks a f fs (i, ask.Done) h due)) h.2

  -- ---- each entry

  point_of : (i : ℕ) (r : Arrival) → arrival_fits t program i r ≡ true → point_fits t program i r.point r.with ≡ true
  point_of i r h = (both (point_fits t program i r.point r.with) (origin_fits t program r.origin) h).0

  pub keeps : (ks : List (Option Kind)) (a i : ℕ) (x : Thread) (q : Ask) (w : What) → AllSuit t program ks a x.frames → due_of t program a x.frames ≡ Some (i, q) → answers t i w q ≡ true → is_placed t i ≡ true → what_fits t program i w ≡ true
      → AllSuit t program (results_by t i ks w) a (follows t program i x w).frames
  unfolding follows what_fits answers
  keeps ks a i x q (what.Enter r) h due answer here fit =
      let s = answered_arrival t program i (what.Enter r) q r refl answer in
      handled ks a i x.frames q r h due s.0 here (outside i Sync r.point refl (enter_manner (manner t i r.point) r s.1)) (point_of i r fit)
  keeps ks a i x q (what.Guard r) h due answer here fit =
      let s = answered_arrival t program i (what.Guard r) q r refl answer in
      handled ks a i x.frames q r h due s.0 here (outside i Guarded r.point refl (guard_manner (manner t i r.point) r s.1)) (point_of i r fit)
  keeps ks a i x q (what.Set r) h due answer here fit =
      let s = answered_arrival t program i (what.Set r) q r refl answer in
      sending ks a i x.frames q r ((special.CmdResp, ok_note) ∷ []) (refl, tt) h due s.0 here (implied_returns_nothing t i r.point (what.Set r) tt s.1)
  keeps ks a i x q (what.Save r v) h due answer here fit =
      let s = answered_arrival t program i (what.Save r v) q r refl answer in
      sending ks a i x.frames q r ((special.PrmSet, parameter_name t program i r.point) ∷ (special.CmdResp, ok_note) ∷ [])
      (saved_named t program sound.0 i r.point v (both (arrival_fits t program i r) _ fit).1, (refl, tt)) h due s.0 here (implied_returns_nothing t i r.point (what.Save r v) tt s.1)
  keeps ks a i x q (what.Put number r) h due answer here fit =
      let s = answered_arrival t program i (what.Put number r) q r refl answer in
      waiting ks a i x.frames q r (what.Put number r) h due s.0 tt s.1
  keeps ks a i x q (what.Dropped r) h due answer here fit =
      let s = answered_arrival t program i (what.Dropped r) q r refl answer in
      waiting ks a i x.frames q r (what.Dropped r) h due s.0 tt s.1
  keeps ks a i x q (what.Hooked r) h due answer here fit =
      let s = answered_arrival t program i (what.Hooked r) q r refl answer in
      hooked ks a i x.frames q r h due s.0 here s.1 (point_of i r fit)
  keeps ks a i x q (what.Asserted r) h due answer here fit = h
  keeps ks a i x (ask.Leave u) (what.Leave v) h due answer here fit =
      leaving ks a i v x.frames h (at_ask a i x.frames (ask.Leave u) (ask.Leave v) due (ap ask.Leave (sym (value_option_same.equal v u answer))))
  keeps ks a i x _ (what.Leave v) h due answer here fit = absurd (cc)
  keeps ks a i x ask.Done what.Done h due answer here fit = finishing ks a i x.frames h due
  keeps ks a i x _ what.Done h due answer here fit = absurd (cc)
  keeps ks a i x ask.Take (what.Take number point vs) h due answer here fit = taking ks a i number point vs x.frames ask.Take h due tt here fit
  keeps ks a i x ask.Dispatch (what.Take number point vs) h due answer here fit = taking ks a i number point vs x.frames ask.Dispatch h due tt here fit
  keeps ks a i x _ (what.Take number point vs) h due answer here fit = absurd (cc)
  keeps ks a i x ask.Dispatch what.Empty h due answer here fit = quietly_removed t program ks a x.frames h (plain_answer ks a i x.frames ask.Dispatch h due tt)
  keeps ks a i x _ what.Empty h due answer here fit = absurd (cc)
  keeps ks a i x (ask.Emit e vs) (what.Emit event became text) h due answer here fit = sent_suits ks a i became special.Event _ x.frames (ask.Emit e vs) (event_named t program sound.0 i event fit) h due tt tt
  keeps ks a i x _ (what.Emit event became text) h due answer here fit = absurd (cc)
  keeps ks a i x (ask.Write c u) (what.Write channel became v) h due answer here fit = sent_suits ks a i became special.Tlm _ x.frames (ask.Write c u)
      (channel_named t program sound.0 i channel (kind_there t program (λ (c : Channel). c.kind) (slice_get (component t i).channels channel) v fit)) h due tt tt
  keeps ks a i x _ (what.Write channel became v) h due answer here fit = absurd (cc)
  keeps ks a i x (ask.Read k) (what.Read param v) h due answer here fit =
      reading ks a i param v x.frames h (at_ask a i x.frames (ask.Read k) (ask.Read param) due (ap ask.Read (sym (nat_same.equal param k answer)))) fit
  keeps ks a i x _ (what.Read param v) h due answer here fit = absurd (cc)
  keeps ks a i x (ask.Advance r s v) (what.Start running actions leaf) h due answer here fit = starts ks a i running actions leaf x.frames r s v h due fit
  keeps ks a i x _ (what.Start running actions leaf) h due answer here fit = absurd (cc)
  keeps ks a i x (ask.Advance r s v) (what.Move running signal actions leaf) h due answer here fit =
      let b = both (running == r) (signal == s) answer in
      let r_is : running ≡ r = nat_same.equal running r b.0 in
      let s_is : signal ≡ s = nat_same.equal signal s b.1 in
      let f = both (is_some (signal_at t program i running signal)) (going_fits t program (option_and_then (λ (s : Named). s.kind) (signal_at t program i running signal)) (machine t i running) actions leaf) fit in
      moves ks a i running signal actions leaf x.frames v h
      (at_ask a i x.frames (ask.Advance r s v) (ask.Advance running signal v) due (ap (λ (n : ℕ). ask.Advance n s v) (sym r_is) ∙ ap (λ (n : ℕ). ask.Advance running n v) (sym s_is))) f.1
  keeps ks a i x _ (what.Move running signal actions leaf) h due answer here fit = absurd (cc)
