-- A guarded arrival comes only where no frame of a guarded arrival is open at its instance.
use Rattle.std.proofs.Common.{◌≡◌, ℕ, suc, Bool, true, false, cond, ◌==◌, ◌-◌, ◌&&◌, nat_lt, length, Option, Some, None, List, [], ◌∷◌, ◌++◌, refl, sym, ap, ◌∙◌, subst, slice_get, drop, arith}
use Rattle.std.specs.Bool.{⊤}
use Rattle.std.specs.List.{list_any}
use Rattle.std.proofs.lemmas.Bool.Decides.{nat_tests}
use Rattle.fp_base.proofs.Options.{mapped_some, same_some, then_some}
use Rattle.fp_base.proofs.Sameness.{nat_same}
use Rattle.fp_events.specs.SystemRun.{InTurn, Step, updated}
use Rattle.fp_tables.specs.Lookup.{Described}
use Rattle.fp_tables.specs.declared.component.Full.{Full}
use Rattle.fp_tables.specs.declared.component.Full.TheVariants as full
use Rattle.fp_tables.specs.declared.component.Way.TheVariants.{Later, Sync, Guarded}
use Rattle.fp_tables.specs.declared.program.Program.{Program}
use Rattle.fp_events.specs.Lookup.{queue_size}
use Rattle.fp_events.specs.declared.event.Arrival.{Arrival}
use Rattle.fp_events.specs.declared.event.Ask.{Ask}
use Rattle.fp_events.specs.declared.event.Ask.TheVariants as ask
use Rattle.fp_events.specs.declared.event.What.{What}
use Rattle.fp_events.specs.declared.event.What.TheVariants as what
use Rattle.fp_events.specs.declared.event.Entry.{Entry}
use Rattle.fp_events.specs.Frames.{closes, opens, ends_a_frame, open_after, open_from, Pairs}
use Rattle.fp_events.specs.GuardOrder.{is_guard, guards_at, IsLetIn}
use Rattle.fp_events.specs.Instance.{Inside, Holding}
use Rattle.fp_events.specs.Manners.{Manner, by, sets, saves, manner}
use Rattle.fp_events.specs.Run.{World, opening, RunTo, by as entries_by}
use Rattle.fp_events.specs.Tells.{arrives, guards, tells}
use Rattle.fp_events.specs.Queue.{overflows}
use Rattle.fp_events.specs.Leaves.{counted, freed, leaves}
use Rattle.fp_events.specs.Step.{core}
use Rattle.fp_events.proofs.FramesPair.{Stack, step_pairs, opening_stack}
use Rattle.fp_events.proofs.StepLaws.{given, taken, arrival_asked, tells_in, asked_arrival}

-- ---- what an instance tells while its guard is held

abbrev LetsIn : Option Holding → What → Type 0
LetsIn g (what.Guard r) = g ≡ None
LetsIn g _ = ⊤

overflow_free : (g : Option Holding) (r : Arrival) (policy : Full) (w : What) → overflows r policy ≡ Some w → LetsIn g w
overflow_free g r full.Dropped w h = subst (LetsIn g) (same_some h) tt
overflow_free g r full.Hook w h = subst (LetsIn g) (same_some h) tt
overflow_free g r full.Assert w h = subst (LetsIn g) (same_some h) tt
overflow_free g r full.Block w h = absurd (cc)

put_free : (g : Option Holding) (b : Bool) (n : ℕ) (r : Arrival) (policy : Full) (w : What) → cond b (Some (what.Put n r)) (overflows r policy) ≡ Some w → LetsIn g w
put_free g true n r policy w h = subst (LetsIn g) (same_some h) tt
put_free g false n r policy w h = overflow_free g r policy w h

guard_free : (g : Option Holding) (r : Arrival) (w : What) → guards r g ≡ Some w → LetsIn g w
guard_free None r w h = subst (LetsIn None) (same_some h) refl
guard_free (Some held) r w h = absurd (cc)

module _ (t : Described) (program : Program) (i : ℕ) where
  arrives_free : (s : Inside) (r : Arrival) (m : Manner) (w : What) → arrives t i s r m ≡ Some w → LetsIn s.guard w
  arrives_free s r (by Sync) w h = subst (LetsIn s.guard) (same_some h) tt
  arrives_free s r (by Guarded) w h = guard_free s.guard r w h
  arrives_free s r (by (Later priority policy)) w h = put_free s.guard (nat_lt (length s.pending) (queue_size t i)) (suc s.puts) r policy w h
  arrives_free s r (sets k) w h = subst (LetsIn s.guard) (same_some h) tt
  arrives_free s r (saves k) w h =
      let m = mapped_some (λ v. what.Save r v) (slice_get s.params k) w h in
      subst (LetsIn s.guard) m.2 tt

  -- an entry with a guarded arrival was told for an arrival
  guard_told : (s : Inside) (q : Ask) (r : Arrival) → tells t program i s q ≡ Some (what.Guard r) → LetsIn s.guard (what.Guard r)
  unfolding tells arrival_asked
  guard_told s q r h =
      let e : q ≡ ask.Arrive r = asked_arrival t program i q r (sym (tells_in t program i s q (what.Guard r) h)) in
      let again : tells t program i s (ask.Arrive r) ≡ Some (what.Guard r) = subst (λ (a : Ask). tells t program i s a ≡ Some (what.Guard r)) e h in
      let m = then_some (arrives t i s r) (manner t i r.point) (what.Guard r) again in
      arrives_free s r m.0 (what.Guard r) m.2

  tells_free : (s : Inside) (q : Ask) (w : What) → tells t program i s q ≡ Some w → LetsIn s.guard w
  tells_free s q (what.Guard r) h = guard_told s q r h
  tells_free s q _ h = tt

-- who holds the guard after an entry of this actor
guard_after : Option Holding → ℕ → What → Option Holding
guard_after g a (what.Guard r) = Some (record { actor = a; frames = 0 })
guard_after g a (what.Enter r) = counted a g
guard_after g a (what.Set r) = counted a g
guard_after g a (what.Save r v) = counted a g
guard_after g a (what.Hooked r) = counted a g
guard_after g a (what.Leave v) = freed a g
guard_after g a _ = g

module _ (t : Described) (program : Program) (i : ℕ) where
  leaves_guard : (s : Inside) (a : ℕ) (w : What) → (leaves t program i s a w).guard ≡ guard_after s.guard a w
  unfolding leaves guard_after
  leaves_guard s a (what.Guard r) = refl
  leaves_guard s a (what.Enter r) = refl
  leaves_guard s a (what.Set r) = refl
  leaves_guard s a (what.Save r v) = refl
  leaves_guard s a (what.Hooked r) = refl
  leaves_guard s a (what.Leave v) = refl
  leaves_guard s a _ = refl

-- ---- open frames beside the guard

-- of an entry whose frame is open: of a guarded arrival at the instance, of another at it that a leave closes, or neither
data Sort : Type 0 where
  guarding : Sort
  counting : Sort
  passing : Sort

sort_of : What → Sort
sort_of (what.Guard r) = guarding
sort_of (what.Enter r) = counting
sort_of (what.Set r) = counting
sort_of (what.Save r v) = counting
sort_of (what.Hooked r) = counting
sort_of _ = passing

module _ (i : ℕ) where
  sort : Entry → Sort
  sort f = cond (f.instance == i) (sort_of f.what) passing

  FreeBy : Sort → Type 0 → Type 0
  FreeBy guarding below = ⊥
  FreeBy counting below = below
  FreeBy passing below = below

  -- no frame of a guarded arrival at the instance
  Free : List Entry → Type 0
  Free [] = Unit {0}
  Free (f ∷ fs) = FreeBy (sort f) (Free fs)

  AtBy : Sort → ℕ → Type 0 → (ℕ → Type 0) → Type 0
  AtBy guarding n free below = (n ≡ 0) × free
  AtBy counting n free below = (m : ℕ) × (n ≡ suc m) × below m
  AtBy passing n free below = below n

  -- one such frame, with so many over it that a leave closes
  At : ℕ → List Entry → Type 0
  At n [] = ⊥
  At n (f ∷ fs) = AtBy (sort f) n (Free fs) (λ m. At m fs)

  HeldBy : Bool → ℕ → List Entry → Type 0
  HeldBy true n fs = At n fs
  HeldBy false n fs = Free fs

  -- the open frames of an actor, by who holds the guard
  Held : Option Holding → ℕ → List Entry → Type 0
  Held None a fs = Free fs
  Held (Some h) a fs = HeldBy (h.actor == a) h.frames fs

  -- ---- the frames of the actor of an entry

  sort_here : (f : Entry) → f.instance ≡ i → sort f ≡ sort_of f.what
  unfolding sort
  sort_here f h = rw (h, nat_same.itself i) refl

  sort_else : (f : Entry) → (f.instance == i) ≡ false → sort f ≡ passing
  unfolding sort
  sort_else f h = rw h refl

  free_passing : (f : Entry) (fs : List Entry) → sort f ≡ passing → Free fs → Free (f ∷ fs)
  unfolding Free FreeBy
  free_passing f fs is h = subst (λ s. FreeBy s (Free fs)) (sym is) h

  free_counting : (f : Entry) (fs : List Entry) → sort f ≡ counting → Free fs → Free (f ∷ fs)
  unfolding Free FreeBy
  free_counting f fs is h = subst (λ s. FreeBy s (Free fs)) (sym is) h

  free_below : (f : Entry) (fs : List Entry) → Free (f ∷ fs) → Free fs
  unfolding Free FreeBy
  free_below f fs h = go (sort f) h
    where
      go : (s : Sort) → FreeBy s (Free fs) → Free fs
      go guarding h = absurd h
      go counting h = h
      go passing h = h

  free_drop : (fs : List Entry) → Free fs → Free (drop 1 fs)
  unfolding Free
  free_drop [] h = tt
  free_drop (f ∷ fs) h = free_below f fs h

  at_of : (f : Entry) (fs : List Entry) (n : ℕ) (s : Sort) → sort f ≡ s → AtBy s n (Free fs) (λ m. At m fs) → At n (f ∷ fs)
  unfolding At
  at_of f fs n s is h = subst (λ r. AtBy r n (Free fs) (λ m. At m fs)) (sym is) h

  of_at : (f : Entry) (fs : List Entry) (n : ℕ) (s : Sort) → sort f ≡ s → At n (f ∷ fs) → AtBy s n (Free fs) (λ m. At m fs)
  unfolding At
  of_at f fs n s is h = subst (λ r. AtBy r n (Free fs) (λ m. At m fs)) is h

  -- a frame more, or the innermost one less, that neither guards nor counts
  passing_more : (b : Bool) (n : ℕ) (f : Entry) (fs : List Entry) → sort f ≡ passing → HeldBy b n fs → HeldBy b n (f ∷ fs)
  unfolding HeldBy AtBy
  passing_more true n f fs is h = at_of f fs n passing is h
  passing_more false n f fs is h = free_passing f fs is h

  passing_less : (b : Bool) (n : ℕ) (f : Entry) (fs : List Entry) → sort f ≡ passing → HeldBy b n (f ∷ fs) → HeldBy b n fs
  unfolding HeldBy AtBy
  passing_less true n f fs is h = of_at f fs n passing is h
  passing_less false n f fs is h = free_below f fs h

  held_more : (g : Option Holding) (a : ℕ) (f : Entry) (fs : List Entry) → sort f ≡ passing → Held g a fs → Held g a (f ∷ fs)
  unfolding Held
  held_more None a f fs is h = free_passing f fs is h
  held_more (Some x) a f fs is h = passing_more (x.actor == a) x.frames f fs is h

  held_less : (g : Option Holding) (a : ℕ) (f : Entry) (fs : List Entry) → sort f ≡ passing → Held g a (f ∷ fs) → Held g a fs
  unfolding Held
  held_less None a f fs is h = free_below f fs h
  held_less (Some x) a f fs is h = passing_less (x.actor == a) x.frames f fs is h

  -- a counted frame more
  counted_more : (b : Bool) (a n : ℕ) (f : Entry) (fs : List Entry) → sort f ≡ counting → (g : Holding) → g.frames ≡ n → (g.actor == a) ≡ b → HeldBy b n fs
      → Held (cond b (Some (record { actor = a; frames = suc n })) (Some g)) a (f ∷ fs)
  unfolding HeldBy AtBy Held
  counted_more true a n f fs is g frames mine h = rw (nat_same.itself a) (at_of f fs (suc n) counting is (n, refl, h))
  counted_more false a n f fs is g frames mine h = rw mine (free_counting f fs is h)

  held_counted : (g : Option Holding) (a : ℕ) (f : Entry) (fs : List Entry) → sort f ≡ counting → Held g a fs → Held (counted a g) a (f ∷ fs)
  unfolding Held
  held_counted None a f fs is h = free_counting f fs is h
  held_counted (Some x) a f fs is h = counted_more (x.actor == a) a x.frames f fs is x refl refl h

  -- a leave at the instance
  guard_left : (g : Option Holding) (a : ℕ) (f : Entry) (fs : List Entry) → sort f ≡ guarding → Held g a (f ∷ fs) → Held (freed a g) a fs
  unfolding Held HeldBy Free FreeBy AtBy
  guard_left None a f fs is h = absurd (subst (λ s. FreeBy s (Free fs)) is h)
  guard_left (Some x) a f fs is h = go (x.actor == a) refl h
    where
      freed_at : (n : ℕ) → n ≡ 0 → Free fs → Held (cond (n == 0) None (Some (record { actor = a; frames = n - 1 }))) a fs
      freed_at n zero free = subst (λ (k : ℕ). Held (cond (k == 0) None (Some (record { actor = a; frames = k - 1 }))) a fs) (sym zero) free

      go : (b : Bool) → (x.actor == a) ≡ b → HeldBy b x.frames (f ∷ fs) → Held (cond b (cond (x.frames == 0) None (Some (record { actor = a; frames = x.frames - 1 }))) (Some x)) a fs
      go true mine h = let p = of_at f fs x.frames guarding is h in freed_at x.frames p.0 p.1
      go false mine h = absurd (subst (λ s. FreeBy s (Free fs)) is h)

  counted_left : (g : Option Holding) (a : ℕ) (f : Entry) (fs : List Entry) → sort f ≡ counting → Held g a (f ∷ fs) → Held (freed a g) a fs
  unfolding Held HeldBy AtBy
  counted_left None a f fs is h = free_below f fs h
  counted_left (Some x) a f fs is h = go (x.actor == a) refl h
    where
      one_less : (n m : ℕ) → n ≡ suc m → At m fs → Held (cond (n == 0) None (Some (record { actor = a; frames = n - 1 }))) a fs
      one_less n m next h =
          let more : (n == 0) ≡ false = grind (arith, nat_tests) in
          let less : n - 1 ≡ m = omega arith in
          subst (λ (c : Bool). Held (cond c None (Some (record { actor = a; frames = n - 1 }))) a fs) (sym more)
          (subst (λ (k : ℕ). HeldBy (a == a) k fs) (sym less) (subst (λ (b : Bool). HeldBy b m fs) (sym (nat_same.itself a)) h))

      go : (b : Bool) → (x.actor == a) ≡ b → HeldBy b x.frames (f ∷ fs) → Held (cond b (cond (x.frames == 0) None (Some (record { actor = a; frames = x.frames - 1 }))) (Some x)) a fs
      go true mine h = let p = of_at f fs x.frames counting is h in one_less x.frames p.0 p.1 p.2
      go false mine h = subst (λ (b : Bool). HeldBy b x.frames fs) (sym mine) (free_below f fs h)

  leave_frees : (g : Option Holding) (a : ℕ) (v : _) (f : Entry) (fs : List Entry) → closes (what.Leave v) f.what ≡ true → f.instance ≡ i → Held g a (f ∷ fs) → Held (freed a g) a fs
  unfolding sort_of
  leave_frees g a v f fs closed here h = go f.what closed (sort_here f here)
    where
      go : (w : What) → closes (what.Leave v) w ≡ true → sort f ≡ sort_of w → Held (freed a g) a fs
      go (what.Guard r) c is = guard_left g a f fs is h
      go (what.Enter r) c is = counted_left g a f fs is h
      go (what.Set r) c is = counted_left g a f fs is h
      go (what.Save r u) c is = counted_left g a f fs is h
      go (what.Hooked r) c is = counted_left g a f fs is h
      go _ c is = absurd (cc)

  done_passes : (g : Option Holding) (a : ℕ) (f : Entry) (fs : List Entry) → closes what.Done f.what ≡ true → f.instance ≡ i → Held g a (f ∷ fs) → Held g a fs
  unfolding sort_of
  done_passes g a f fs closed here h = go f.what closed (sort_here f here)
    where
      go : (w : What) → closes what.Done w ≡ true → sort f ≡ sort_of w → Held g a fs
      go (what.Take number point with) c is = held_less g a f fs is h
      go _ c is = absurd (cc)

  guarded_more : (g : Option Holding) (a : ℕ) (e : Entry) (fs : List Entry) → sort e ≡ guarding → g ≡ None → Held g a fs → Held (Some (record { actor = a; frames = 0 })) a (e ∷ fs)
  unfolding Held HeldBy AtBy
  guarded_more g a e fs is none h =
      let free : Free fs = subst (λ (o : Option Holding). Held o a fs) none h in
      subst (λ (b : Bool). HeldBy b 0 (e ∷ fs)) (sym (nat_same.itself a)) (at_of e fs 0 guarding is (refl, free))

  -- the frames of the actor, after its entry at the instance
  mine : (g : Option Holding) (n a : ℕ) (w : What) (fs : List Entry) → LetsIn g w → Pairs fs (record { stamp = n; actor = a; instance = i; what = w }) → Held g a fs
      → Held (guard_after g a w) a (open_after fs (record { stamp = n; actor = a; instance = i; what = w }))
  unfolding guard_after sort_of
  mine g n a (what.Guard r) fs free p h = guarded_more g a _ fs (sort_here _ refl) free h
  mine g n a (what.Enter r) fs free p h = held_counted g a _ fs (sort_here _ refl) h
  mine g n a (what.Set r) fs free p h = held_counted g a _ fs (sort_here _ refl) h
  mine g n a (what.Save r v) fs free p h = held_counted g a _ fs (sort_here _ refl) h
  mine g n a (what.Hooked r) fs free p h = held_counted g a _ fs (sort_here _ refl) h
  mine g n a (what.Take number point with) fs free p h = held_more g a _ fs (sort_here _ refl) h
  mine g n a (what.Leave v) [] free p h = absurd (cc)
  mine g n a (what.Leave v) (f ∷ fs) free p h = let q = p refl in leave_frees g a v f fs q.0 q.1 h
  mine g n a what.Done [] free p h = absurd (cc)
  mine g n a what.Done (f ∷ fs) free p h = let q = p refl in done_passes g a f fs q.0 q.1 h
  mine g n a _ fs free p h = h

  -- the frames of another actor
  another : (g : Holding) (a b : ℕ) (fs : List Entry) → (a == b) ≡ false → (g.actor == a) ≡ true → Held (Some g) b fs → Free fs
  unfolding Held HeldBy
  another g a b fs apart same h = let is : g.actor ≡ a = nat_same.equal g.actor a same in subst (λ (c : Bool). HeldBy c g.frames fs) (ap (λ (k : ℕ). k == b) is ∙ apart) h

  held_apart : (n a b : ℕ) (fs : List Entry) → (a == b) ≡ false → Free fs → Held (Some (record { actor = a; frames = n })) b fs
  unfolding Held HeldBy
  held_apart n a b fs apart free = subst (λ (c : Bool). HeldBy c n fs) (sym apart) free

  counted_apart : (g : Option Holding) (a b : ℕ) (fs : List Entry) → (a == b) ≡ false → Held g b fs → Held (counted a g) b fs
  counted_apart None a b fs apart h = h
  counted_apart (Some x) a b fs apart h = go (x.actor == a) refl
    where
      go : (c : Bool) → (x.actor == a) ≡ c → Held (cond c (Some (record { actor = a; frames = suc x.frames })) (Some x)) b fs
      go true same = held_apart (suc x.frames) a b fs apart (another x a b fs apart same h)
      go false same = h

  freed_apart : (g : Option Holding) (a b : ℕ) (fs : List Entry) → (a == b) ≡ false → Held g b fs → Held (freed a g) b fs
  unfolding Held
  freed_apart None a b fs apart h = h
  freed_apart (Some x) a b fs apart h = go (x.actor == a) refl
    where
      by_count : (c : Bool) → Free fs → Held (cond c None (Some (record { actor = a; frames = x.frames - 1 }))) b fs
      by_count true free = free
      by_count false free = held_apart (x.frames - 1) a b fs apart free

      go : (c : Bool) → (x.actor == a) ≡ c → Held (cond c (cond (x.frames == 0) None (Some (record { actor = a; frames = x.frames - 1 }))) (Some x)) b fs
      go true same = by_count (x.frames == 0) (another x a b fs apart same h)
      go false same = h

  theirs : (g : Option Holding) (a b : ℕ) (w : What) (fs : List Entry) → (a == b) ≡ false → LetsIn g w → Held g b fs → Held (guard_after g a w) b fs
  unfolding guard_after Held
  theirs g a b (what.Guard r) fs apart free h = held_apart 0 a b fs apart (subst (λ (o : Option Holding). Held o b fs) free h)
  theirs g a b (what.Enter r) fs apart free h = counted_apart g a b fs apart h
  theirs g a b (what.Set r) fs apart free h = counted_apart g a b fs apart h
  theirs g a b (what.Save r v) fs apart free h = counted_apart g a b fs apart h
  theirs g a b (what.Hooked r) fs apart free h = counted_apart g a b fs apart h
  theirs g a b (what.Leave v) fs apart free h = freed_apart g a b fs apart h
  theirs g a b _ fs apart free h = h

  -- the frames of the actor, after its entry at another instance
  elsewhere : (g : Option Holding) (a : ℕ) (e : Entry) (fs : List Entry) → (e.instance == i) ≡ false → Pairs fs e → Held g a fs → Held g a (open_after fs e)
  elsewhere g a e fs other p h = go (opens e.what) (ends_a_frame e.what) refl
    where
      closing : (fs : List Entry) → Pairs fs e → ends_a_frame e.what ≡ true → Held g a fs → Held g a (drop 1 fs)
      closing [] p end h = h
      closing (f ∷ fs) p end h = held_less g a f fs (sort_else f (ap (λ (k : ℕ). k == i) (p end).1 ∙ other)) h

      go : (b c : Bool) → ends_a_frame e.what ≡ c → Held g a (cond b (e ∷ fs) (cond c (drop 1 fs) fs))
      go true c end = held_more g a e fs (sort_else e other) h
      go false true end = closing fs p end h
      go false false end = h

  not_guarding : (w : What) (b : Bool) (below : Type 0) → FreeBy (cond b (sort_of w) passing) below → (is_guard w && b) ≡ false
  unfolding FreeBy sort_of
  not_guarding (what.Guard r) true below h = absurd h
  not_guarding (what.Guard r) false below h = refl
  not_guarding _ b below h = refl

  none_guarding : (fs : List Entry) → Free fs → list_any (guards_at i) fs ≡ false
  unfolding Free sort
  none_guarding [] h = refl
  none_guarding (f ∷ fs) h = rw (not_guarding f.what (f.instance == i) (Free fs) h) (none_guarding fs (free_below f fs h))

-- ---- runs

pushed : (ℕ → List Entry) → Entry → ℕ → List Entry
pushed stacks e a = cond (e.actor == a) (open_after (stacks a) e) (stacks a)

module _ (t : Described) (program : Program) where
  -- the frames that are open beside the state that they leave
  record Stands (stacks : ℕ → List Entry) (w : World) : Type 0 where
    pub actors : (a : ℕ) → Stack (stacks a) (w.actors a).thread.frames
    pub guards : (i a : ℕ) → Held i (w.instances i).inside.guard a (stacks a)

  stands_first : Stands (λ a. []) (opening t program)
  unfolding Held Free
  stands_first = record { actors = λ a. opening_stack t program a; guards = λ i a. tt }

  module _ (w v : World) (e : Entry) (step : Step (core t program) w e v) (stacks : ℕ → List Entry) (stands : Stands stacks w) where
    actor_step : Pairs (stacks e.actor) e × Stack (open_after (stacks e.actor) e) step.x.thread.frames
    actor_step = step_pairs t program e.actor (w.actors e.actor) step.x e (stacks e.actor) (taken t program e.actor (w.actors e.actor) step.x e step.actor_part) (stands.actors e.actor)

    lets_in : LetsIn (w.instances e.instance).inside.guard e.what
    lets_in =
        let g = given t program e.instance e.actor _ (w.instances e.instance) step.s step.ask e step.instance_part in
        tells_free t program e.instance (w.instances e.instance).inside step.ask e.what g.told

    let_in : is_guard e.what ≡ true → (a : ℕ) → list_any (guards_at e.instance) (stacks a) ≡ false
    unfolding Held
    let_in is a = go e.what is lets_in
      where
        go : (x : What) → is_guard x ≡ true → LetsIn (w.instances e.instance).inside.guard x → list_any (guards_at e.instance) (stacks a) ≡ false
        go (what.Guard r) is none = none_guarding e.instance (stacks a) (subst (λ (o : Option Holding). Held e.instance o a (stacks a)) none (stands.guards e.instance a))
        go _ is none = absurd (cc)

    stack_after : (a : ℕ) → Stack (pushed stacks e a) (updated w.actors e.actor step.x a).thread.frames
    unfolding pushed
    stack_after a = go (e.actor == a) refl
      where
        go : (b : Bool) → (e.actor == a) ≡ b → Stack (cond b (open_after (stacks a) e) (stacks a)) (cond b step.x (w.actors a)).thread.frames
        go true is = subst (λ (k : ℕ). Stack (open_after (stacks k) e) step.x.thread.frames) (nat_same.equal e.actor a is) actor_step.1
        go false is = stands.actors a

    guard_of : step.s.inside.guard ≡ guard_after (w.instances e.instance).inside.guard e.actor e.what
    guard_of =
        let g = given t program e.instance e.actor _ (w.instances e.instance) step.s step.ask e step.instance_part in
        ap (λ (x : Inside). x.guard) g.inside ∙ leaves_guard t program e.instance (w.instances e.instance).inside e.actor e.what

    here : (a : ℕ) → Held e.instance step.s.inside.guard a (pushed stacks e a)
    unfolding pushed
    here a = subst (λ (o : Option Holding). Held e.instance o a (pushed stacks e a)) (sym guard_of) (go (e.actor == a) refl)
      where
        go : (b : Bool) → (e.actor == a) ≡ b → Held e.instance (guard_after (w.instances e.instance).inside.guard e.actor e.what) a (cond b (open_after (stacks a) e) (stacks a))
        go true is =
            subst (λ (k : ℕ). Held e.instance (guard_after (w.instances e.instance).inside.guard e.actor e.what) k (open_after (stacks k) e)) (nat_same.equal e.actor a is)
            (mine e.instance (w.instances e.instance).inside.guard e.stamp e.actor e.what (stacks e.actor) lets_in actor_step.0 (stands.guards e.instance e.actor))
        go false is = theirs e.instance (w.instances e.instance).inside.guard e.actor a e.what (stacks a) is lets_in (stands.guards e.instance a)

    there : (i a : ℕ) → (e.instance == i) ≡ false → Held i (w.instances i).inside.guard a (pushed stacks e a)
    unfolding pushed
    there i a other = go (e.actor == a) refl
      where
        go : (b : Bool) → (e.actor == a) ≡ b → Held i (w.instances i).inside.guard a (cond b (open_after (stacks a) e) (stacks a))
        go true is =
            subst (λ (k : ℕ). Held i (w.instances i).inside.guard k (open_after (stacks k) e)) (nat_same.equal e.actor a is)
            (elsewhere i (w.instances i).inside.guard e.actor e (stacks e.actor) other actor_step.0 (stands.guards i e.actor))
        go false is = stands.guards i a

    guard_after_step : (i a : ℕ) → Held i (updated w.instances e.instance step.s i).inside.guard a (pushed stacks e a)
    guard_after_step i a = go (e.instance == i) refl
      where
        go : (b : Bool) → (e.instance == i) ≡ b → Held i (cond b step.s (w.instances i)).inside.guard a (pushed stacks e a)
        go true is = subst (λ (k : ℕ). Held k step.s.inside.guard a (pushed stacks e a)) (nat_same.equal e.instance i is) (here a)
        go false is = there i a is

    stands_after : Stands (pushed stacks e) v
    stands_after = subst (λ (x : World). Stands (pushed stacks e) x) (sym step.next) (record { actors = stack_after; guards = guard_after_step })

  pushed_by : (stacks : ℕ → List Entry) (e : Entry) (es : List Entry) (a : ℕ) → open_from (pushed stacks e a) (entries_by a es) ≡ open_from (stacks a) (entries_by a (e ∷ es))
  unfolding pushed
  pushed_by stacks e es a = go (e.actor == a)
    where
      go : (b : Bool) → open_from (cond b (open_after (stacks a) e) (stacks a)) (entries_by a es) ≡ open_from (stacks a) (cond b (e ∷ entries_by a es) (entries_by a es))
      go true = refl
      go false = refl

  let_in_from : (stacks : ℕ → List Entry) (before rest : List Entry) (e : Entry) (w v : World) → Stands stacks w → InTurn (Step (core t program)) w (before ++ e ∷ rest) v
      → is_guard e.what ≡ true → (a : ℕ) → list_any (guards_at e.instance) (open_from (stacks a) (entries_by a before)) ≡ false
  let_in_from stacks [] rest e w v stands run is a = let_in w run.0 e run.1 stacks stands is a
  let_in_from stacks (b ∷ before) rest e w v stands run is a =
      subst (λ (l : List Entry). list_any (guards_at e.instance) l ≡ false) (pushed_by stacks b before a)
      (let_in_from (pushed stacks b) before rest e run.0 v (stands_after w run.0 b run.1 stacks stands) run.2 is a)

  pub run_lets_in : (es : List Entry) (w : World) → RunTo t program es w → (before rest : List Entry) (e : Entry) → es ≡ before ++ e ∷ rest → IsLetIn before e
  run_lets_in es w run before rest e is kind a =
      let_in_from (λ k. []) before rest e (opening t program) w stands_first (subst (λ (l : List Entry). InTurn (Step (core t program)) (opening t program) l w) is run) kind a
