-- The system of specs/Core has the laws of a system.
use Rattle.std.proofs.Common.{◌≡◌, ℕ, suc, max, Bool, true, false, cond, ◌&&◌, ◌==◌, nat_lt, length, Option, Some, None, option_map, option_and_then, List, [], refl, sym, ap, ap₂, ◌∙◌, subst, slice_get, ◌||◌, ◌⊎◌, inl, inr, unwrap_or, ℤ}
use Rattle.fp_tables.specs.Specials.{component}
use Rattle.fp_base.proofs.Bools.{both}
use Rattle.fp_base.proofs.Options.{mapped_some, same_some, then_some}
use Rattle.fp_events.specs.System.{Laws, IsTaking, IsOneChange}
use Rattle.fp_base.specs.Same.{same, same_text, same_option}
use Rattle.fp_base.specs.declared.value.Value.{Value}
use Rattle.fp_base.proofs.Sameness.{value_same, text_same, nat_same}
use Rattle.fp_tables.specs.Lookup.{Described}
use Rattle.fp_tables.specs.declared.component.Event.{Event}
use Rattle.fp_tables.specs.declared.component.Full.{Full}
use Rattle.fp_tables.specs.declared.component.Full.TheVariants as full
use Rattle.fp_tables.specs.declared.component.Way.TheVariants.{Later, Sync, Guarded}
use Rattle.fp_tables.specs.declared.program.Program.{Program}
use Rattle.fp_events.specs.Lookup.{queue_size, machine}
use Rattle.fp_events.specs.declared.event.Arrival.{Arrival}
use Rattle.fp_events.specs.declared.event.Fate.{Fate}
use Rattle.fp_events.specs.declared.event.Point.{Point}
use Rattle.fp_events.specs.declared.event.Ask.{Ask}
use Rattle.fp_events.specs.declared.event.Ask.TheVariants as ask
use Rattle.fp_events.specs.declared.event.What.{What}
use Rattle.fp_events.specs.declared.event.What.TheVariants as what
use Rattle.fp_base.specs.Rendered.{rendered}
use Rattle.fp_events.specs.Machine.{Configuration, Walk}
use Rattle.fp_events.specs.declared.event.Entry.{Entry}
use Rattle.fp_events.specs.Instance.{Inside, Pending, Holding, InstanceState}
use Rattle.fp_events.specs.Actor.{ActorState}
use Rattle.fp_events.specs.Manners.{Manner, by, sets, saves, manner}
use Rattle.fp_events.specs.Tells.{arrives, guards, emit_fate, emits, writes, advances, goes_on, tells, configuration_of}
use Rattle.fp_events.specs.Queue.{overflows, takes, next_call}
use Rattle.fp_events.specs.Leaves.{leaves}
use Rattle.fp_events.specs.Due.{due}
use Rattle.fp_events.specs.Follows.{follows}
use Rattle.fp_events.specs.Fits.{fits}
use Rattle.fp_events.specs.Step.{core, fitting, stamped, instance_part, answers_due, taken_by, actor_part}
use Rattle.fp_events.specs.Answers.{arrival_in, suits, same_arrival, answers, text_of_event}
use Rattle.fp_events.proofs.SameArrival.{arrival_itself, arrival_option_same, value_option_same}

-- ---- what an entry says of its ask, by families

-- the arrival in an ask
unfoldable pub arrival_asked : Ask → Option Arrival
arrival_asked (ask.Arrive r) = Some r
arrival_asked _ = None

module _ (t : Described) (program : Program) (i : ℕ) where
  overflow_in : (r : Arrival) (policy : Full) (w : What) → overflows r policy ≡ Some w → arrival_in w ≡ Some r
  overflow_in r full.Dropped w h = sym (ap arrival_in (same_some h))
  overflow_in r full.Hook w h = sym (ap arrival_in (same_some h))
  overflow_in r full.Assert w h = sym (ap arrival_in (same_some h))
  overflow_in r full.Block w h = absurd (cc)

  guard_in : (r : Arrival) (g : Option Holding) (w : What) → guards r g ≡ Some w → arrival_in w ≡ Some r
  guard_in r None w h = sym (ap arrival_in (same_some h))
  guard_in r (Some held) w h = absurd (cc)

  put_in : (b : Bool) (n : ℕ) (r : Arrival) (policy : Full) (w : What) → cond b (Some (what.Put n r)) (overflows r policy) ≡ Some w → arrival_in w ≡ Some r
  put_in true n r policy w h = sym (ap arrival_in (same_some h))
  put_in false n r policy w h = overflow_in r policy w h

  arrives_in : (s : Inside) (r : Arrival) (m : Manner) (w : What) → arrives t i s r m ≡ Some w → arrival_in w ≡ Some r
  arrives_in s r (by Sync) w h = sym (ap arrival_in (same_some h))
  arrives_in s r (by Guarded) w h = guard_in r s.guard w h
  arrives_in s r (by (Later priority policy)) w h = put_in (nat_lt (length s.pending) (queue_size t i)) (suc s.puts) r policy w h
  arrives_in s r (sets k) w h = sym (ap arrival_in (same_some h))
  arrives_in s r (saves k) w h =
      let m = mapped_some (λ v. what.Save r v) (slice_get s.params k) w h in
      sym (ap arrival_in m.2)

  takes_in : (turn : Option ℕ) (otherwise : Option What) (next : Option Pending) (w : What)
      → ((x : What) → otherwise ≡ Some x → arrival_in x ≡ None) → takes turn otherwise next ≡ Some w → arrival_in w ≡ None
  takes_in turn otherwise None w good h = good w h
  takes_in None otherwise (Some p) w good h = sym (ap arrival_in (same_some h))
  takes_in (Some holder) otherwise (Some p) w good h = absurd (cc)

  advances_in : (running signal : ℕ) (c : Option Configuration) (g : Walk) → arrival_in (advances running signal c g) ≡ None
  advances_in running signal None g = refl
  advances_in running signal (Some c) g = refl

  pub tells_in : (s : Inside) (q : Ask) (w : What) → tells t program i s q ≡ Some w → arrival_in w ≡ arrival_asked q
  unfolding tells arrival_asked
  tells_in s (ask.Arrive r) w h =
      let m = then_some (arrives t i s r) (manner t i r.point) w h in
      arrives_in s r m.0 w m.2
  tells_in s (ask.Leave v) w h = sym (ap arrival_in (same_some h))
  tells_in s ask.Done w h = sym (ap arrival_in (same_some h))
  tells_in s ask.Take w h = takes_in s.turn None (next_call s.pending) w (λ x e. absurd (cc)) h
  tells_in s ask.Dispatch w h = takes_in s.turn (Some what.Empty) (next_call s.pending) w (λ x e. sym (ap arrival_in (same_some e))) h
  tells_in s (ask.Emit event with) w h =
      let m = mapped_some (emits t i s event with) (slice_get (component t i).events event) w h in
      sym (ap arrival_in m.2)
  tells_in s (ask.Write channel value) w h =
      let m = mapped_some (writes t i s channel value) (slice_get (component t i).channels channel) w h in
      sym (ap arrival_in m.2)
  tells_in s (ask.Read param) w h =
      let m = mapped_some (λ v. what.Read param v) (slice_get s.params param) w h in
      sym (ap arrival_in m.2)
  tells_in s (ask.Advance running signal value) w h =
      let m = mapped_some (λ n. advances running signal (configuration_of s running) (goes_on t program i running signal (configuration_of s running) n)) (machine t i running) w h in
      sym (ap arrival_in m.2) ∙ advances_in running signal (configuration_of s running) (goes_on t program i running signal (configuration_of s running) m.0)

-- the kinds of entries that answer the same kinds of asks
kind : What → ℕ
kind (what.Leave v) = 1
kind what.Done = 2
kind (what.Take number point with) = 3
kind what.Empty = 4
kind (what.Emit event fate text) = 5
kind (what.Write channel fate v) = 6
kind (what.Read param v) = 7
kind (what.Start running actions leaf) = 8
kind (what.Move running signal actions leaf) = 8
kind _ = 0

of_kind : Ask → ℕ → Bool
of_kind (ask.Arrive r) n = n == 0
of_kind (ask.Leave v) n = n == 1
of_kind ask.Done n = n == 2
of_kind ask.Take n = n == 3
of_kind ask.Dispatch n = (n == 3) || (n == 4)
of_kind (ask.Emit event with) n = n == 5
of_kind (ask.Write channel v) n = n == 6
of_kind (ask.Read param) n = n == 7
of_kind (ask.Advance running signal v) n = n == 8

module _ (t : Described) (program : Program) (i : ℕ) where
  kind_arrival : (w : What) (r : Arrival) → arrival_in w ≡ Some r → kind w ≡ 0
  unfolding kind
  kind_arrival (what.Enter x) r h = refl
  kind_arrival (what.Guard x) r h = refl
  kind_arrival (what.Set x) r h = refl
  kind_arrival (what.Save x v) r h = refl
  kind_arrival (what.Put n x) r h = refl
  kind_arrival (what.Dropped x) r h = refl
  kind_arrival (what.Hooked x) r h = refl
  kind_arrival (what.Asserted x) r h = refl
  kind_arrival _ r h = absurd (cc)

  -- the entry of a take or a dispatch is a take, or the one given besides
  takes_kind : (turn : Option ℕ) (otherwise : Option What) (next : Option Pending) (w : What) → takes turn otherwise next ≡ Some w → (kind w ≡ 3) ⊎ (otherwise ≡ Some w)
  unfolding kind
  takes_kind turn otherwise None w h = inr h
  takes_kind None otherwise (Some p) w h = inl (sym (ap kind (same_some h)))
  takes_kind (Some holder) otherwise (Some p) w h = absurd (cc)

  advances_kind : (running signal : ℕ) (c : Option Configuration) (g : Walk) → kind (advances running signal c g) ≡ 8
  unfolding kind
  advances_kind running signal None g = refl
  advances_kind running signal (Some c) g = refl

  tells_kind : (s : Inside) (q : Ask) (w : What) → tells t program i s q ≡ Some w → of_kind q (kind w) ≡ true
  unfolding tells kind of_kind
  tells_kind s (ask.Arrive r) w h =
      let m = then_some (arrives t i s r) (manner t i r.point) w h in
      rw (kind_arrival w r (arrives_in t program i s r m.0 w m.2)) refl
  tells_kind s (ask.Leave v) w h = rw (sym (same_some h)) refl
  tells_kind s ask.Done w h = rw (sym (same_some h)) refl
  tells_kind s ask.Take w h = go (takes_kind s.turn None (next_call s.pending) w h)
    where
      go : (kind w ≡ 3) ⊎ (None ≡ Some w) → of_kind ask.Take (kind w) ≡ true
      go (inl e) = rw e refl
      go (inr e) = absurd (cc)
  tells_kind s ask.Dispatch w h = go (takes_kind s.turn (Some what.Empty) (next_call s.pending) w h)
    where
      go : (kind w ≡ 3) ⊎ (Some what.Empty ≡ Some w) → of_kind ask.Dispatch (kind w) ≡ true
      go (inl e) = rw e refl
      go (inr e) = rw (sym (same_some e)) refl
  tells_kind s (ask.Emit event with) w h =
      let m = mapped_some (emits t i s event with) (slice_get (component t i).events event) w h in
      rw (sym m.2) refl
  tells_kind s (ask.Write channel value) w h =
      let m = mapped_some (writes t i s channel value) (slice_get (component t i).channels channel) w h in
      rw (sym m.2) refl
  tells_kind s (ask.Read param) w h =
      let m = mapped_some (λ v. what.Read param v) (slice_get s.params param) w h in
      rw (sym m.2) refl
  tells_kind s (ask.Advance running signal value) w h =
      let m = mapped_some (λ n. advances running signal (configuration_of s running) (goes_on t program i running signal (configuration_of s running) n)) (machine t i running) w h in
      rw (sym m.2, advances_kind running signal (configuration_of s running) (goes_on t program i running signal (configuration_of s running) m.0)) refl

  -- ---- what answers an ask is what the instance tells for it, whichever it told it for

  arrival_answers : (w : What) (x : Arrival) → answers t i w (ask.Arrive x) ≡ true → arrival_in w ≡ Some x
  unfolding answers
  arrival_answers w x h =
      let b = both (same_option same_arrival (arrival_in w) (Some x)) (suits (manner t i x.point) w) h in
      arrival_option_same.equal (arrival_in w) (Some x) b.0

  pub asked_arrival : (q : Ask) (x : Arrival) → arrival_asked q ≡ Some x → q ≡ ask.Arrive x
  unfolding arrival_asked
  asked_arrival (ask.Arrive r) x h = ap ask.Arrive (same_some h)
  asked_arrival _ x h = absurd (cc)

  pub answered_arrival : (w : What) (q : Ask) (r : Arrival) → arrival_in w ≡ Some r → answers t i w q ≡ true → (q ≡ ask.Arrive r) × (suits (manner t i r.point) w ≡ true)
  unfolding answers
  answered_arrival w (ask.Arrive q) r is h =
      let b = both (same_option same_arrival (arrival_in w) (Some q)) (suits (manner t i q.point) w) h in
      let e : arrival_in w ≡ Some q = arrival_option_same.equal (arrival_in w) (Some q) b.0 in
      let s : q ≡ r = same_some (sym e ∙ is) in
      (ap ask.Arrive s, subst (λ (x : Arrival). suits (manner t i x.point) w ≡ true) s b.1)
  answered_arrival (what.Enter x) _ r is h = absurd (cc)
  answered_arrival (what.Guard x) _ r is h = absurd (cc)
  answered_arrival (what.Set x) _ r is h = absurd (cc)
  answered_arrival (what.Save x v) _ r is h = absurd (cc)
  answered_arrival (what.Put number x) _ r is h = absurd (cc)
  answered_arrival (what.Dropped x) _ r is h = absurd (cc)
  answered_arrival (what.Hooked x) _ r is h = absurd (cc)
  answered_arrival (what.Asserted x) _ r is h = absurd (cc)
  answered_arrival _ _ r is h = absurd (cc)

  one_arrive : (s : Inside) (q : Ask) (x : Arrival) (w : What) → tells t program i s q ≡ Some w → answers t i w (ask.Arrive x) ≡ true → tells t program i s (ask.Arrive x) ≡ Some w
  one_arrive s q x w h is =
      let e : q ≡ ask.Arrive x = asked_arrival q x (sym (tells_in t program i s q w h) ∙ arrival_answers w x is) in
      subst (λ (a : Ask). tells t program i s a ≡ Some w) e h

  one_leave : (s : Inside) (v : Option Value) (w : What) → answers t i w (ask.Leave v) ≡ true → tells t program i s (ask.Leave v) ≡ Some w
  unfolding tells answers
  one_leave s v (what.Leave u) is = ap (λ (o : Option Value). Some (what.Leave o)) (sym (value_option_same.equal u v is))
  one_leave s v _ is = absurd (cc)

  one_done : (s : Inside) (w : What) → answers t i w ask.Done ≡ true → tells t program i s ask.Done ≡ Some w
  unfolding tells answers
  one_done s what.Done is = refl
  one_done s _ is = absurd (cc)

  takes_again : (turn : Option ℕ) (o1 o2 : Option What) (next : Option Pending) (w : What) → (o1 ≡ Some w → ⊥) → takes turn o1 next ≡ Some w → takes turn o2 next ≡ Some w
  takes_again turn o1 o2 None w no_take h = absurd (no_take h)
  takes_again None o1 o2 (Some p) w no_take h = h
  takes_again (Some holder) o1 o2 (Some p) w no_take h = absurd (cc)

  take_again : (s : Inside) (q : Ask) (n : ℕ) (point : Point) (with : List Value) (o : Option What) → of_kind q 3 ≡ true
      → tells t program i s q ≡ Some (what.Take n point with) → takes s.turn o (next_call s.pending) ≡ Some (what.Take n point with)
  unfolding tells of_kind
  take_again s ask.Take n point with o k h = takes_again s.turn None o (next_call s.pending) _ (λ e. absurd (cc)) h
  take_again s ask.Dispatch n point with o k h = takes_again s.turn (Some what.Empty) o (next_call s.pending) _ (λ e. absurd (cc)) h
  take_again s _ n point with o k h = absurd (cc)

  one_take : (s : Inside) (q : Ask) (w : What) → tells t program i s q ≡ Some w → answers t i w ask.Take ≡ true → tells t program i s ask.Take ≡ Some w
  unfolding tells answers kind
  one_take s q (what.Take n point with) h is = take_again s q n point with None (tells_kind s q _ h) h
  one_take s q _ h is = absurd (cc)

  empty_again : (s : Inside) (q : Ask) → of_kind q 4 ≡ true → tells t program i s q ≡ Some what.Empty → tells t program i s ask.Dispatch ≡ Some what.Empty
  unfolding of_kind
  empty_again s ask.Dispatch k h = h
  empty_again s _ k h = absurd (cc)

  one_dispatch : (s : Inside) (q : Ask) (w : What) → tells t program i s q ≡ Some w → answers t i w ask.Dispatch ≡ true → tells t program i s ask.Dispatch ≡ Some w
  unfolding tells answers kind
  one_dispatch s q (what.Take n point with) h is = take_again s q n point with (Some what.Empty) (tells_kind s q _ h) h
  one_dispatch s q what.Empty h is = empty_again s q (tells_kind s q _ h) h
  one_dispatch s q _ h is = absurd (cc)

  read_again : (s : Inside) (q : Ask) (k : ℕ) (v : Value) → of_kind q 7 ≡ true → tells t program i s q ≡ Some (what.Read k v) → tells t program i s (ask.Read k) ≡ Some (what.Read k v)
  unfolding tells of_kind
  read_again s (ask.Read j) k v is h =
      let m = mapped_some (λ u. what.Read j u) (slice_get s.params j) (what.Read k v) h in
      let e : j ≡ k = cc in
      subst (λ (n : ℕ). tells t program i s (ask.Read n) ≡ Some (what.Read k v)) e h
  read_again s _ k v is h = absurd (cc)

  one_read : (s : Inside) (q : Ask) (k : ℕ) (w : What) → tells t program i s q ≡ Some w → answers t i w (ask.Read k) ≡ true → tells t program i s (ask.Read k) ≡ Some w
  unfolding answers kind
  one_read s q k (what.Read j v) h is =
      let e : j ≡ k = nat_same.equal j k is in
      subst (λ (n : ℕ). tells t program i s (ask.Read n) ≡ Some (what.Read j v)) e (read_again s q j v (tells_kind s q _ h) h)
  one_read s q k _ h is = absurd (cc)

  write_again : (s : Inside) (q : Ask) (c : ℕ) (fate : Fate) (v : Value) → of_kind q 6 ≡ true → tells t program i s q ≡ Some (what.Write c fate v) → tells t program i s (ask.Write c v) ≡ Some (what.Write c fate v)
  unfolding tells of_kind
  write_again s (ask.Write d u) c fate v is h =
      let m = mapped_some (writes t i s d u) (slice_get (component t i).channels d) (what.Write c fate v) h in
      let e : d ≡ c = cc in
      let f : u ≡ v = cc in
      subst (λ (p : ℕ × Value). tells t program i s (ask.Write p.0 p.1) ≡ Some (what.Write c fate v)) (ap₂ (λ (a : ℕ) (b : Value). (a, b)) e f) h
  write_again s _ c fate v is h = absurd (cc)

  one_write : (s : Inside) (q : Ask) (c : ℕ) (v : Value) (w : What) → tells t program i s q ≡ Some w → answers t i w (ask.Write c v) ≡ true → tells t program i s (ask.Write c v) ≡ Some w
  unfolding answers kind
  one_write s q c v (what.Write d fate u) h is =
      let b = both (d == c) (same u v) is in
      let e : d ≡ c = nat_same.equal d c b.0 in
      let f : u ≡ v = value_same.equal u v b.1 in
      subst (λ (p : ℕ × Value). tells t program i s (ask.Write p.0 p.1) ≡ Some (what.Write d fate u)) (ap₂ (λ (a : ℕ) (b : Value). (a, b)) e f) (write_again s q d fate u (tells_kind s q _ h) h)
  one_write s q c v _ h is = absurd (cc)

  emit_text : (e : ℕ) (with : List Value) (x : Event) → slice_get (component t i).events e ≡ Some x → text_of_event t i e with ≡ rendered x.fields.parts with
  emit_text e with x found = ap (λ (o : Option Event). unwrap_or (option_map (λ (y : Event). rendered y.fields.parts with) o) []) found

  emit_same : (s : Inside) (e : ℕ) (other with : List Value) (fate : Fate) (text : List ℕ) (x : Event) → slice_get (component t i).events e ≡ Some x
      → emits t i s e other x ≡ what.Emit e fate text → text ≡ text_of_event t i e with
      → option_map (emits t i s e with) (slice_get (component t i).events e) ≡ Some (what.Emit e fate text)
  emit_same s e other with fate text x found h is =
      let f : emit_fate t i s e x ≡ fate = cc in
      let g : rendered x.fields.parts with ≡ text = sym (is ∙ emit_text e with x found) in
      ap (option_map (emits t i s e with)) found ∙ ap₂ (λ (a : Fate) (b : List ℕ). Some (what.Emit e a b)) f g

  emit_again : (s : Inside) (q : Ask) (e : ℕ) (fate : Fate) (text : List ℕ) (with : List Value) → of_kind q 5 ≡ true → tells t program i s q ≡ Some (what.Emit e fate text)
      → text ≡ text_of_event t i e with → tells t program i s (ask.Emit e with) ≡ Some (what.Emit e fate text)
  unfolding tells of_kind
  emit_again s (ask.Emit d other) e fate text with is h same_text =
      let m = mapped_some (emits t i s d other) (slice_get (component t i).events d) (what.Emit e fate text) h in
      let p : d ≡ e = cc in
      go p m.0 m.1 m.2
    where
      go : d ≡ e → (x : Event) → slice_get (component t i).events d ≡ Some x → emits t i s d other x ≡ what.Emit e fate text → option_map (emits t i s e with) (slice_get (component t i).events e) ≡ Some (what.Emit e fate text)
      go p x found told =
          emit_same s e other with fate text x (sym (ap (λ (n : ℕ). slice_get (component t i).events n) p) ∙ found) (sym (ap (λ (n : ℕ). emits t i s n other x) p) ∙ told) same_text
  emit_again s _ e fate text with is h same_text = absurd (cc)

  one_emit : (s : Inside) (q : Ask) (e : ℕ) (with : List Value) (w : What) → tells t program i s q ≡ Some w → answers t i w (ask.Emit e with) ≡ true → tells t program i s (ask.Emit e with) ≡ Some w
  unfolding answers kind
  one_emit s q e with (what.Emit d fate text) h is =
      let b = both (d == e) (same_text text (text_of_event t i e with)) is in
      let p : d ≡ e = nat_same.equal d e b.0 in
      let told : text ≡ text_of_event t i d with = text_same.equal text (text_of_event t i e with) b.1 ∙ ap (λ (n : ℕ). text_of_event t i n with) (sym p) in
      subst (λ (n : ℕ). tells t program i s (ask.Emit n with) ≡ Some (what.Emit d fate text)) p (emit_again s q d fate text with (tells_kind s q _ h) h told)
  one_emit s q e with _ h is = absurd (cc)

  -- how a machine is told to go does not depend on the signal's value, and from not started not on the signal
  goes_from : ℕ → ℕ → Option Configuration → Option What
  goes_from running signal c = option_map (λ m. advances running signal c (goes_on t program i running signal c m)) (machine t i running)

  start_again : (running signal other : ℕ) (c : Option Configuration) (actions : List ℕ) (leaf : ℕ) → goes_from running signal c ≡ Some (what.Start running actions leaf) → goes_from running other c ≡ Some (what.Start running actions leaf)
  unfolding goes_from
  start_again running signal other None actions leaf e = e
  start_again running signal other (Some c) actions leaf e =
      let m = mapped_some (λ m. advances running signal (Some c) (goes_on t program i running signal (Some c) m)) (machine t i running) (what.Start running actions leaf) e in
      absurd (cc)

  -- the machine and, of a move, the signal that are told
  start_running : (running signal k : ℕ) (c : Option Configuration) (actions : List ℕ) (leaf : ℕ) → goes_from running signal c ≡ Some (what.Start k actions leaf) → running ≡ k
  unfolding goes_from
  start_running running signal k c actions leaf e =
      let m = mapped_some (λ m. advances running signal c (goes_on t program i running signal c m)) (machine t i running) (what.Start k actions leaf) e in
      go c (goes_on t program i running signal c m.0) m.2
    where
      go : (d : Option Configuration) (g : Walk) → advances running signal d g ≡ what.Start k actions leaf → running ≡ k
      go None g told = cc
      go (Some d) g told = absurd (cc)

  move_running : (running signal k j : ℕ) (c : Option Configuration) (actions : List ℕ) (leaf : ℕ) → goes_from running signal c ≡ Some (what.Move k j actions leaf) → (running ≡ k) × (signal ≡ j)
  unfolding goes_from
  move_running running signal k j c actions leaf e =
      let m = mapped_some (λ m. advances running signal c (goes_on t program i running signal c m)) (machine t i running) (what.Move k j actions leaf) e in
      go c (goes_on t program i running signal c m.0) m.2
    where
      go : (d : Option Configuration) (g : Walk) → advances running signal d g ≡ what.Move k j actions leaf → (running ≡ k) × (signal ≡ j)
      go None g told = absurd (cc)
      go (Some d) g told = (cc, cc)

  start_told : (s : Inside) (q : Ask) (k : ℕ) (actions : List ℕ) (leaf other : ℕ) (v : Option Value) → of_kind q 8 ≡ true → tells t program i s q ≡ Some (what.Start k actions leaf)
      → tells t program i s (ask.Advance k other v) ≡ Some (what.Start k actions leaf)
  unfolding tells of_kind goes_from
  start_told s (ask.Advance running signal u) k actions leaf other v is h =
      let p : running ≡ k = start_running running signal k (configuration_of s running) actions leaf h in
      subst (λ (n : ℕ). goes_from n other (configuration_of s n) ≡ Some (what.Start k actions leaf)) p
      (subst (λ (n : ℕ). goes_from running other (configuration_of s running) ≡ Some (what.Start n actions leaf)) p
      (start_again running signal other (configuration_of s running) actions leaf (subst (λ (n : ℕ). goes_from running signal (configuration_of s running) ≡ Some (what.Start n actions leaf)) (sym p) h)))
  start_told s _ k actions leaf other v is h = absurd (cc)

  move_told : (s : Inside) (q : Ask) (k j : ℕ) (actions : List ℕ) (leaf : ℕ) (v : Option Value) → of_kind q 8 ≡ true → tells t program i s q ≡ Some (what.Move k j actions leaf)
      → tells t program i s (ask.Advance k j v) ≡ Some (what.Move k j actions leaf)
  unfolding tells of_kind goes_from
  move_told s (ask.Advance running signal u) k j actions leaf v is h =
      let p = move_running running signal k j (configuration_of s running) actions leaf h in
      subst (λ (n : ℕ × ℕ). goes_from n.0 n.1 (configuration_of s n.0) ≡ Some (what.Move k j actions leaf)) (ap₂ (λ (a : ℕ) (b : ℕ). (a, b)) p.0 p.1) h
  move_told s _ k j actions leaf v is h = absurd (cc)

  one_advance : (s : Inside) (q : Ask) (running signal : ℕ) (v : Option Value) (w : What) → tells t program i s q ≡ Some w → answers t i w (ask.Advance running signal v) ≡ true → tells t program i s (ask.Advance running signal v) ≡ Some w
  unfolding answers kind
  one_advance s q running signal v (what.Start k actions leaf) h is =
      let p : k ≡ running = nat_same.equal k running is in
      subst (λ (n : ℕ). tells t program i s (ask.Advance n signal v) ≡ Some (what.Start k actions leaf)) p (start_told s q k actions leaf signal v (tells_kind s q _ h) h)
  one_advance s q running signal v (what.Move k j actions leaf) h is =
      let b = both (k == running) (j == signal) is in
      let p = nat_same.equal k running b.0 in
      let r = nat_same.equal j signal b.1 in
      subst (λ (n : ℕ × ℕ). tells t program i s (ask.Advance n.0 n.1 v) ≡ Some (what.Move k j actions leaf)) (ap₂ (λ (a : ℕ) (b : ℕ). (a, b)) p r) (move_told s q k j actions leaf v (tells_kind s q _ h) h)
  one_advance s q running signal v _ h is = absurd (cc)

  pub one_answer : (s : Inside) (q r : Ask) (w : What) → tells t program i s q ≡ Some w → answers t i w r ≡ true → tells t program i s r ≡ Some w
  one_answer s q (ask.Arrive x) w h is = one_arrive s q x w h is
  one_answer s q (ask.Leave v) w h is = one_leave s v w is
  one_answer s q ask.Done w h is = one_done s w is
  one_answer s q ask.Take w h is = one_take s q w h is
  one_answer s q ask.Dispatch w h is = one_dispatch s q w h is
  one_answer s q (ask.Emit event with) w h is = one_emit s q event with w h is
  one_answer s q (ask.Write channel v) w h is = one_write s q channel v w h is
  one_answer s q (ask.Read param) w h is = one_read s q param w h is
  one_answer s q (ask.Advance running signal v) w h is = one_advance s q running signal v w h is

  -- ---- what the instance tells for an ask answers it

  overflow_suits : (r : Arrival) (priority : ℤ) (policy : Full) (w : What) → overflows r policy ≡ Some w → suits (Some (by (Later priority policy))) w ≡ true
  overflow_suits r priority full.Dropped w h = rw (sym (same_some h)) refl
  overflow_suits r priority full.Hook w h = rw (sym (same_some h)) refl
  overflow_suits r priority full.Assert w h = rw (sym (same_some h)) refl
  overflow_suits r priority full.Block w h = absurd (cc)

  put_suits : (b : Bool) (n : ℕ) (r : Arrival) (priority : ℤ) (policy : Full) (w : What) → cond b (Some (what.Put n r)) (overflows r policy) ≡ Some w → suits (Some (by (Later priority policy))) w ≡ true
  put_suits true n r priority policy w h = rw (sym (same_some h)) refl
  put_suits false n r priority policy w h = overflow_suits r priority policy w h

  guard_suits : (r : Arrival) (g : Option Holding) (w : What) → guards r g ≡ Some w → suits (Some (by Guarded)) w ≡ true
  guard_suits r None w h = rw (sym (same_some h)) refl
  guard_suits r (Some held) w h = absurd (cc)

  arrives_suits : (s : Inside) (r : Arrival) (m : Manner) (w : What) → arrives t i s r m ≡ Some w → suits (Some m) w ≡ true
  arrives_suits s r (by Sync) w h = rw (sym (same_some h)) refl
  arrives_suits s r (by Guarded) w h = guard_suits r s.guard w h
  arrives_suits s r (by (Later priority policy)) w h = put_suits (nat_lt (length s.pending) (queue_size t i)) (suc s.puts) r priority policy w h
  arrives_suits s r (sets k) w h = rw (sym (same_some h)) refl
  arrives_suits s r (saves k) w h =
      let m = mapped_some (λ v. what.Save r v) (slice_get s.params k) w h in
      rw (sym m.2) refl

  answers_arrival : (s : Inside) (r : Arrival) (w : What) → option_and_then (arrives t i s r) (manner t i r.point) ≡ Some w → answers t i w (ask.Arrive r) ≡ true
  unfolding answers
  answers_arrival s r w h =
      let m = then_some (arrives t i s r) (manner t i r.point) w h in
      rw (arrives_in t program i s r m.0 w m.2, m.1, arrival_itself r, arrives_suits s r m.0 w m.2) refl

  answers_take : (w : What) → kind w ≡ 3 → (answers t i w ask.Take ≡ true) × (answers t i w ask.Dispatch ≡ true)
  unfolding answers kind
  answers_take (what.Take n point with) h = (refl, refl)
  answers_take _ h = absurd (cc)

  answers_emit : (s : Inside) (e : ℕ) (with : List Value) (x : Event) → slice_get (component t i).events e ≡ Some x → answers t i (emits t i s e with x) (ask.Emit e with) ≡ true
  unfolding answers
  answers_emit s e with x found = rw (nat_same.itself e, emit_text e with x found) (text_same.itself (rendered x.fields.parts with))

  answers_advance : (running signal : ℕ) (v : Option Value) (c : Option Configuration) (g : Walk) → answers t i (advances running signal c g) (ask.Advance running signal v) ≡ true
  unfolding answers
  answers_advance running signal v None g = nat_same.itself running
  answers_advance running signal v (Some c) g = rw (nat_same.itself running) (nat_same.itself signal)

  pub answered : (s : Inside) (q : Ask) (w : What) → tells t program i s q ≡ Some w → answers t i w q ≡ true
  unfolding tells answers kind arrival_asked
  answered s (ask.Arrive r) w h = answers_arrival s r w h
  answered s (ask.Leave v) w h = rw (sym (same_some h)) (value_option_same.itself v)
  answered s ask.Done w h = rw (sym (same_some h)) refl
  answered s ask.Take w h = go (takes_kind s.turn None (next_call s.pending) w h)
    where
      go : (kind w ≡ 3) ⊎ (None ≡ Some w) → answers t i w ask.Take ≡ true
      go (inl e) = (answers_take w e).0
      go (inr e) = absurd (cc)
  answered s ask.Dispatch w h = go (takes_kind s.turn (Some what.Empty) (next_call s.pending) w h)
    where
      go : (kind w ≡ 3) ⊎ (Some what.Empty ≡ Some w) → answers t i w ask.Dispatch ≡ true
      go (inl e) = (answers_take w e).1
      go (inr e) = rw (sym (same_some e)) refl
  answered s (ask.Emit event with) w h =
      let m = mapped_some (emits t i s event with) (slice_get (component t i).events event) w h in
      subst (λ (x : What). answers t i x (ask.Emit event with) ≡ true) m.2 (answers_emit s event with m.0 m.1)
  answered s (ask.Write channel value) w h =
      let m = mapped_some (writes t i s channel value) (slice_get (component t i).channels channel) w h in
      rw (sym m.2, nat_same.itself channel) (value_same.itself value)
  answered s (ask.Read param) w h =
      let m = mapped_some (λ v. what.Read param v) (slice_get s.params param) w h in
      rw (sym m.2) (nat_same.itself param)
  answered s (ask.Advance running signal value) w h =
      let m = mapped_some (λ n. advances running signal (configuration_of s running) (goes_on t program i running signal (configuration_of s running) n)) (machine t i running) w h in
      subst (λ (x : What). answers t i x (ask.Advance running signal value) ≡ true) m.2 (answers_advance running signal value (configuration_of s running) (goes_on t program i running signal (configuration_of s running) m.0))

-- ---- the laws

module _ (t : Described) (program : Program) where
  -- what stands in what an instance part gives
  pub record Given (i a seen : ℕ) (s : InstanceState) (q : Ask) (e : Entry) (u : InstanceState) : Type 0 where
    pub told : tells t program i s.inside q ≡ Some e.what
    pub fit : fits t program a i e.what ≡ true
    pub actor : e.actor ≡ a
    pub instance : e.instance ≡ i
    pub stamp : e.stamp ≡ suc (max s.last seen)
    pub inside : u.inside ≡ leaves t program i s.inside a e.what
    pub last : u.last ≡ e.stamp

  fit_is : (a i : ℕ) (w v : What) (b : Bool) → fits t program a i w ≡ b → cond b (Some w) None ≡ Some v → (w ≡ v) × (fits t program a i w ≡ true)
  fit_is a i w v true is h = (same_some h, is)
  fit_is a i w v false is h = absurd (cc)

  pub given : (i a seen : ℕ) (s u : InstanceState) (q : Ask) (e : Entry) → instance_part t program i s a q seen ≡ Some (e, u) → Given i a seen s q e u
  unfolding instance_part
  given i a seen s u q e h =
      let m = mapped_some (stamped t program (suc (max s.last seen)) a i s.inside) (option_and_then (fitting t program a i) (tells t program i s.inside q)) (e, u) h in
      let n = then_some (fitting t program a i) (tells t program i s.inside q) m.0 m.1 in
      go m.0 n.0 n.1 (fit_is a i n.0 m.0 (fits t program a i n.0) refl n.2) m.2
    where
      go : (w v : What) → tells t program i s.inside q ≡ Some v → (v ≡ w) × (fits t program a i v ≡ true) → stamped t program (suc (max s.last seen)) a i s.inside w ≡ (e, u) → Given i a seen s q e u
      go w v told fit made =
          let is : w ≡ e.what = ap (λ (p : Entry × InstanceState). p.0.what) made in
          record {
            told = told ∙ ap Some (fit.0 ∙ is);
            fit = subst (λ (x : What). fits t program a i x ≡ true) (fit.0 ∙ is) fit.1;
            actor = sym (ap (λ (p : Entry × InstanceState). p.0.actor) made);
            instance = sym (ap (λ (p : Entry × InstanceState). p.0.instance) made);
            stamp = sym (ap (λ (p : Entry × InstanceState). p.0.stamp) made);
            inside = sym (ap (λ (p : Entry × InstanceState). p.1.inside) made) ∙ ap (leaves t program i s.inside a) is;
            last = sym (ap (λ (p : Entry × InstanceState). p.1.last) made) ∙ ap (λ (p : Entry × InstanceState). p.0.stamp) made;
          }

  pub gives_it : (i a seen : ℕ) (s u : InstanceState) (q : Ask) (e : Entry) → Given i a seen s q e u → instance_part t program i s a q seen ≡ Some (e, u)
  unfolding instance_part
  gives_it i a seen s u q e g =
      let told : option_and_then (fitting t program a i) (tells t program i s.inside q) ≡ Some e.what = rw (g.told, g.fit) refl in
      let actor = g.actor in
      let instance = g.instance in
      let stamp = g.stamp in
      let inside = g.inside in
      let last = g.last ∙ g.stamp in
      ap (option_map (stamped t program (suc (max s.last seen)) a i s.inside)) told
      ∙ λ j. Some (record { stamp = sym stamp j; actor = sym actor j; instance = sym instance j; what = e.what }, record { inside = sym inside j; last = sym last j })

  -- what stands in what an actor part takes
  pub record Taken (a : ℕ) (x : ActorState) (e : Entry) (z : ActorState) : Type 0 where
    pub asked : ℕ × Ask
    pub due : due t program a x.thread ≡ Some asked
    pub actor : e.actor ≡ a
    pub instance : e.instance ≡ asked.0
    pub answer : answers t asked.0 e.what asked.1 ≡ true
    pub fit : fits t program a asked.0 e.what ≡ true
    pub thread : z.thread ≡ follows t program asked.0 x.thread e.what
    pub last : z.last ≡ e.stamp

  pub taken : (a : ℕ) (x z : ActorState) (e : Entry) → actor_part t program a x e ≡ Some z → Taken a x e z
  unfolding actor_part
  taken a x z e h = go (due t program a x.thread) refl h
    where
      by_test : (d : ℕ × Ask) → due t program a x.thread ≡ Some d → (b : Bool) → answers_due t program a e d ≡ b
          → cond b (Some (record { thread = follows t program d.0 x.thread e.what; last = e.stamp })) None ≡ Some z → Taken a x e z
      by_test d is true test took =
          let p = both ((e.actor == a) && (e.instance == d.0) && answers t d.0 e.what d.1) (fits t program a d.0 e.what) test in
          let q = both ((e.actor == a) && (e.instance == d.0)) (answers t d.0 e.what d.1) p.0 in
          let r = both (e.actor == a) (e.instance == d.0) q.0 in
          let made = same_some took in
          record {
            asked = d;
            due = is;
            actor = nat_same.equal e.actor a r.0;
            instance = nat_same.equal e.instance d.0 r.1;
            answer = q.1;
            fit = p.1;
            thread = sym (ap (λ (y : ActorState). y.thread) made);
            last = sym (ap (λ (y : ActorState). y.last) made);
          }
      by_test d is false test took = absurd (cc)

      go : (o : Option (ℕ × Ask)) → due t program a x.thread ≡ o → taken_by t program a x e o ≡ Some z → Taken a x e z
      go None is took = absurd (cc)
      go (Some d) is took = by_test d is (answers_due t program a e d) refl took

  core_due_gives : (i a seen : ℕ) (s u : InstanceState) (q asked : Ask) (e : Entry) (x z : ActorState)
      → instance_part t program i s a q seen ≡ Some (e, u) → actor_part t program a x e ≡ Some z → due t program a x.thread ≡ Some (i, asked)
      → e.stamp ≡ suc (max s.last x.last) → instance_part t program i s a asked x.last ≡ Some (e, u)
  core_due_gives i a seen s u q asked e x z gives takes is_due stamp =
      let g = given i a seen s u q e gives in
      let k = taken a x z e takes in
      let same_due : Some k.asked ≡ Some (i, asked) = sym k.due ∙ is_due in
      let pairs : k.asked ≡ (i, asked) = same_some same_due in
      let answer : answers t i e.what asked ≡ true = subst (λ (p : ℕ × Ask). answers t p.0 e.what p.1 ≡ true) pairs k.answer in
      gives_it i a x.last s u asked e
      (record { told = one_answer t program i s.inside q asked e.what g.told answer; fit = g.fit; actor = g.actor; instance = g.instance; stamp = stamp; inside = g.inside; last = g.last })

  pub core_laws : Laws (core t program)
  core_laws = record {
    first_instance = λ i. refl;
    first_actor = λ a. refl;
    gives = λ i a seen s u q e h. let g = given i a seen s u q e h in record { instance = g.instance; stamp = g.stamp; last = g.last };
    takes = λ a x z e h.
        let k = taken a x z e h in
        record { last = k.last; ask = k.asked.1; due = k.due ∙ ap (λ (n : ℕ). Some (n, k.asked.1)) (sym k.instance) };
    due_gives = core_due_gives;
  }

  pub core_one_change : IsOneChange (core t program)
  core_one_change i a m n s u v q r e g h =
      let x = given i a m s u q e g in
      let y = given i a n s v r e h in
      let inside = x.inside ∙ sym y.inside in
      let last = x.last ∙ sym y.last in
      λ j. record { inside = inside j; last = last j }

  pub core_taking : IsTaking (core t program)
  unfolding actor_part
  core_taking a i x q s u e is_due gives =
      let g = given i a x.last s u q e gives in
      let answer : answers t i e.what q ≡ true = answered t program i s.inside q e.what g.told in (
        g.actor,
        g.instance,
        (record { thread = follows t program i x.thread e.what; last = e.stamp }, rw (is_due, g.actor, g.instance, nat_same.itself a, nat_same.itself i, answer, g.fit) refl),
      )
