-- What is due of an actor whose frames suit.
use Rattle.std.proofs.Common.{◌≡◌, ℕ, zero, suc, Bool, true, false, cond, ◌&&◌, ◌||◌, ◌==◌, ◌-◌, nat_lt, List, [], ◌∷◌, length, filter, Option, Some, None, option_map, is_none, is_some, refl, sym, ap, ◌∙◌, subst, slice_get, arith}
use Rattle.std.proofs.lemmas.Bool.Decides.{nat_tests}
use Rattle.fp_base.proofs.Lists.{get_below}
use Rattle.fp_tables.specs.Specials.{component, special_wire}
use Rattle.fp_base.proofs.Options.{mapped_some, same_some, some_of, no_some}
use Rattle.fp_base.specs.declared.value.Value.{Value}
use Rattle.fp_base.proofs.Sameness.{nat_same}
use Rattle.fp_base.proofs.Bools.{both}
use Rattle.fp_tables.specs.Arguments.{Scope}
use Rattle.fp_tables.specs.Lookup.{Described, placed}
use Rattle.fp_tables.specs.Programs.{verb_suits}
use Rattle.fp_tables.specs.Sound.{IsSoundFor}
use Rattle.fp_tables.specs.declared.kind.Kind.{Kind}
use Rattle.fp_tables.specs.declared.program.Program.{Program}
use Rattle.fp_tables.specs.declared.program.Spot.{Spot}
use Rattle.fp_events.specs.Actor.{Bindings, Action, act, send, advance, Doing, Opened, own, arrived, taken, Frame}
use Rattle.fp_events.specs.Due.{values, first_action, sent_from, through, asks_in, due_in, due_of}
use Rattle.fp_events.specs.Ends.{is_own, is_through}
use Rattle.fp_events.specs.Fits.{actor_count, ask_fits}
use Rattle.fp_tables.specs.Acts.{is_placed}
use Rattle.fp_events.specs.Lookup.{is_active, actives, callers, home}
use Rattle.fp_tables.specs.Lists.{is_in}
use Rattle.fp_events.specs.declared.event.Ask.{Ask}
use Rattle.fp_events.specs.declared.event.Ask.TheVariants as ask
use Rattle.fp_run_laws.specs.Notes.{ask_note_fits}
use Rattle.fp_run_laws.specs.Suits.{BoundSuits, at, AdvanceSuits, ActionSuits, MayReturn, DoingsSuit, Returns, Stands, AllSuit}
use Rattle.fp_run_laws.proofs.Asks.{FirstSuits, first_suits, Binds, DueSuits, send_suits, caller_suits, inside_suits}

module _ (t : Described) (program : Program) (sound : IsSoundFor t.model (Some t.topology)) where
  fits_end : (i : ℕ) (v : Option Value) → (ask_fits t program i (ask.Leave v) ≡ true) × (ask_fits t program i ask.Done ≡ true) × (ask_fits t program i ask.Take ≡ true)
  unfolding ask_fits
  fits_end i v = (refl, refl, refl)

  fits_advance : (i running signal : ℕ) (v : Option Value) → AdvanceSuits t program i running signal v → ask_fits t program i (ask.Advance running signal v) ≡ true
  unfolding ask_fits
  fits_advance i running signal v h = ap is_some h.there

  -- ---- an action that comes first

  own_due : (i : ℕ) (ds : List Doing) (result : Option Kind) (x : Action) (b : Bindings) → FirstSuits t program own i result x b
      → DueSuits t program own i result x (due_in t program (record { instance = i; doing = ds; opened = own }) (Some (x, b)))
  own_due i ds result (act x) b h = caller_suits t program sound h.scope b h.bound i result x.verb x.subject x.name x.with x.bind h.action
  own_due i ds result (send s name) b h = absurd h.action
  own_due i ds result (advance running signal v) b h = absurd h.action

  -- what an action asks that isn't a caller's own
  asked : Opened → ℕ → Action → Bindings → Option (ℕ × Ask)
  asked o i (act x) b = asks_in t program o i x (values b x.with) x.verb
  asked o i (send s name) b = sent_from t program (special_wire t i s) name
  asked o i (advance running signal v) b = Some (i, ask.Advance running signal v)

  inside_due : (o : Opened) (i : ℕ) (result : Option Kind) (x : Action) (b : Bindings) (place : Spot) (scope : Scope) → (o ≡ own → ⊥) → is_placed t i ≡ true → MayReturn t program o i result place
      → ActionSuits t program (at i place) scope x → BoundSuits t.model.types scope b → DueSuits t program o i result x (asked o i x b)
  unfolding asked
  inside_due o i result (act x) b place scope inside here may h suits =
      let s = both (x.subject.instance == i) (verb_suits t place scope x) h in
      let e : x.subject.instance ≡ i = nat_same.equal x.subject.instance i s.0 in
      subst (λ (n : ℕ). DueSuits t program o n result (act x) (asks_in t program o n x (values b x.with) x.verb)) e
      (inside_suits t program sound scope b suits o result place x.verb x.subject x.name x.with x.bind inside
      (ap (is_placed t) e ∙ here)
      (subst (λ (n : ℕ). MayReturn t program o n result place) (sym e) may) s.1)
  inside_due o i result (send s name) b place scope inside here may h suits = send_suits t program sound o i result (send s name) s name (λ bound. refl, λ scope. refl) h.0 h.1
  inside_due o i result (advance running signal v) b place scope inside here may h suits = record { placed = here; fits = fits_advance i running signal v h; noted = refl; binds = (inside, refl, refl) }

  asked_is : (o : Opened) (i : ℕ) (ds : List Doing) (x : Action) (b : Bindings) → (o ≡ own → ⊥) → asked o i x b ≡ due_in t program (record { instance = i; doing = ds; opened = o }) (Some (x, b))
  unfolding asked
  asked_is own i ds x b inside = absurd (inside refl)
  asked_is (arrived default name) i ds (act x) b inside = refl
  asked_is (arrived default name) i ds (send s note) b inside = refl
  asked_is (arrived default name) i ds (advance running signal v) b inside = refl
  asked_is taken i ds (act x) b inside = refl
  asked_is taken i ds (send s note) b inside = refl
  asked_is taken i ds (advance running signal v) b inside = refl

  arrived_own : (default : Option Value) (name : Option (List ℕ)) → arrived default name ≡ own → ⊥
  arrived_own default name h = cc

  taken_own : taken ≡ own → ⊥
  taken_own h = cc

  pub first_due : (ks : List (Option Kind)) (a : ℕ) (o : Opened) (i : ℕ) (ds : List Doing) (fs : List Frame) (rest : List (Option Kind) → Type 0) (result : Option Kind) (x : Action) (b : Bindings) → Stands t program ks a o i result fs rest → DoingsSuit t program o i result (λ scope. scope) ds
      → first_action ds ≡ Some (x, b) → DueSuits t program o i result x (due_in t program (record { instance = i; doing = ds; opened = o }) (Some (x, b)))
  first_due ks a own i ds fs rest result x b stands h first = own_due i ds result x b (first_suits t program own i result ds x b h first)
  first_due ks a (arrived default name) i ds fs rest result x b stands h first =
      let f = first_suits t program (arrived default name) i result ds x b h first in
      subst (λ (d : Option (ℕ × Ask)). DueSuits t program (arrived default name) i result x d) (asked_is (arrived default name) i ds x b (arrived_own default name))
      (inside_due (arrived default name) i result x b f.place f.scope (arrived_own default name) stands.0 f.returns f.action f.bound)
  first_due ks a taken i ds fs rest result x b stands h first =
      let f = first_suits t program taken i result ds x b h first in
      subst (λ (d : Option (ℕ × Ask)). DueSuits t program taken i result x d) (asked_is taken i ds x b taken_own)
      (inside_due taken i result x b f.place f.scope taken_own stands.0 f.returns f.action f.bound)

  -- ---- the ask that is due

  abbrev IsFine : ℕ × Ask → Type 0
  IsFine d = (is_placed t d.0 ≡ true) × (ask_fits t program d.0 d.1 ≡ true) × (ask_note_fits t.model d.1 ≡ true)

  fine_at : (o : Opened) (i : ℕ) (result : Option Kind) (x : Action) (q : Option (ℕ × Ask)) (d : ℕ × Ask) → DueSuits t program o i result x q → q ≡ Some d → IsFine d
  fine_at o i result x None d h e = absurd h
  fine_at o i result x (Some p) d h e = subst IsFine (same_some e) (h.placed, h.fits, h.noted)

  through_fine : (ks : List (Option Kind)) (a : ℕ) (o : Opened) (i : ℕ) (fs : List Frame) (rest : List (Option Kind) → Type 0) (result : Option Kind) (d : ℕ × Ask) → Stands t program ks a o i result fs rest → through t program o i ≡ Some d → IsFine d
  through_fine ks a own i fs rest result d stands e = no_some e
  through_fine ks a (arrived default name) i fs rest result d stands e = subst IsFine (same_some e) (stands.0, (fits_end i default).0, refl)
  through_fine ks a taken i fs rest result d stands e = subst IsFine (same_some e) (stands.0, (fits_end i None).1, refl)

  -- the instances of dispatchers are of the topology
  of_filter : (p : ℕ → Bool) (xs : List ℕ) (k i : ℕ) → slice_get (filter p xs) k ≡ Some i → is_in i xs ≡ true
  of_filter p [] k i h = no_some h
  of_filter p (x ∷ xs) k i h = go (p x) k h (λ k h. of_filter p xs k i h)
    where
      in_rest : (b : Bool) → is_in i xs ≡ true → (b || is_in i xs) ≡ true
      in_rest true h = refl
      in_rest false h = h

      go : (b : Bool) (k : ℕ) → slice_get (cond b (x ∷ filter p xs) (filter p xs)) k ≡ Some i → ((k : ℕ) → slice_get (filter p xs) k ≡ Some i → is_in i xs ≡ true) → is_in i (x ∷ xs) ≡ true
      go true zero h rest = let e : x ≡ i = same_some h in ap (λ (b : Bool). b || is_in i xs) (ap (λ (n : ℕ). n == i) e ∙ nat_same.itself i)
      go true (suc k) h rest = in_rest (x == i) (rest k h)
      go false k h rest = in_rest (x == i) (rest k h)

  home_placed : (a i : ℕ) → home t program a ≡ Some i → is_placed t i ≡ true
  home_placed a i h = go (nat_lt a (callers program)) h
    where
      go : (b : Bool) → cond b None (slice_get (actives t) (a - callers program)) ≡ Some i → is_placed t i ≡ true
      go true h = no_some h
      go false h = of_filter (λ i. is_active (component t i).queueing) (placed t) (a - callers program) i h

  pub due_fine : (ks : List (Option Kind)) (a : ℕ) (fs : List Frame) (d : ℕ × Ask) → AllSuit t program ks a fs → due_of t program a fs ≡ Some d → IsFine d
  due_fine ks a [] d h e =
      let i = mapped_some {B = ℕ × Ask} (λ i. (i, ask.Take)) (home t program a) d e in
      subst IsFine i.2 (home_placed a i.0 i.1, (fits_end i.0 None).2, refl)
  due_fine ks a (f ∷ fs) d h e = go (first_action f.doing) refl e
    where
      go : (first : Option (Action × Bindings)) → first_action f.doing ≡ first → due_in t program f first ≡ Some d → IsFine d
      go None is e = through_fine ks a f.opened f.instance fs _ h.0 d h.2 e
      go (Some x) is e = fine_at f.opened f.instance h.0 x.0 (due_in t program f (Some x)) d (first_due ks a f.opened f.instance f.doing fs _ h.0 x.0 x.1 h.2 h.1 is) e

  -- ---- what the action binds that comes first

  -- a frame without actions ends
  abbrev pub IsEnd : Opened → Option Kind → Ask → Type 0
  IsEnd o result (ask.Leave v) = (default : Option Value) × (name : Option (List ℕ)) × (o ≡ arrived default name) × Returns t program result v
  IsEnd o result ask.Done = o ≡ taken
  IsEnd o result _ = ⊥

  abbrev pub BindsFirst : Opened → ℕ → Option Kind → Option (Action × Bindings) → ℕ → Ask → Type 0
  BindsFirst o i result None j q = IsEnd o result q
  BindsFirst o i result (Some (x, b)) j q = Binds t program o i result x j q

  through_ends : (ks : List (Option Kind)) (a : ℕ) (o : Opened) (i : ℕ) (fs : List Frame) (rest : List (Option Kind) → Type 0) (result : Option Kind) (d : ℕ × Ask) → Stands t program ks a o i result fs rest → through t program o i ≡ Some d → IsEnd o result d.1
  through_ends ks a own i fs rest result d stands e = no_some e
  through_ends ks a (arrived default name) i fs rest result d stands e =
      subst (λ (p : ℕ × Ask). IsEnd (arrived default name) result p.1) (same_some e) (default, name, refl, stands.1)
  through_ends ks a taken i fs rest result d stands e = subst (λ (p : ℕ × Ask). IsEnd taken result p.1) (same_some e) refl

  binds_at : (o : Opened) (i : ℕ) (result : Option Kind) (x : Action) (q : Option (ℕ × Ask)) (d : ℕ × Ask) → DueSuits t program o i result x q → q ≡ Some d → Binds t program o i result x d.0 d.1
  binds_at o i result x None d h e = absurd h
  binds_at o i result x (Some p) d h e = subst (λ (p : ℕ × Ask). Binds t program o i result x p.0 p.1) (same_some e) h.binds

  pub first_binds : (ks : List (Option Kind)) (a : ℕ) (f : Frame) (fs : List Frame) (d : ℕ × Ask) → (h : AllSuit t program ks a (f ∷ fs)) → due_of t program a (f ∷ fs) ≡ Some d → BindsFirst f.opened f.instance h.0 (first_action f.doing) d.0 d.1
  first_binds ks a f fs d h e = go (first_action f.doing) refl e
    where
      go : (first : Option (Action × Bindings)) → first_action f.doing ≡ first → due_in t program f first ≡ Some d → BindsFirst f.opened f.instance h.0 first d.0 d.1
      go None is e = through_ends ks a f.opened f.instance fs _ h.0 d h.2 e
      go (Some x) is e = binds_at f.opened f.instance h.0 x.0 (due_in t program f (Some x)) d (first_due ks a f.opened f.instance f.doing fs _ h.0 x.0 x.1 h.2 h.1 is) e

  -- ---- nothing is due

  home_is : (a i : ℕ) → nat_lt a (callers program) ≡ false → slice_get (actives t) (a - callers program) ≡ Some i → home t program a ≡ Some i
  home_is a i h k = ap (λ (b : Bool). cond b None (slice_get (actives t) (a - callers program))) h ∙ k

  clash : {X : Type 0} (o : Option X) (x : X) → o ≡ None → o ≡ Some x → ⊥
  clash None x h k = no_some k
  clash (Some y) x h k = no_some (sym h)

  home_there : (a : ℕ) → nat_lt a (callers program) ≡ false → nat_lt a (actor_count t program) ≡ true → home t program a ≡ None → ⊥
  home_there a h k e =
      let below : nat_lt (a - callers program) (length (actives t)) ≡ true = grind (arith, nat_tests) in
      let i = some_of (slice_get (actives t) (a - callers program)) (get_below (actives t) (a - callers program) below) in
      clash (home t program a) i.0 e (home_is a i.0 h i.1)

  through_none : (ks : List (Option Kind)) (a : ℕ) (o : Opened) (i : ℕ) (fs : List Frame) (rest : List (Option Kind) → Type 0) (result : Option Kind) → Stands t program ks a o i result fs rest → through t program o i ≡ None
      → (is_own o ≡ true) × (nat_lt a (callers program) ≡ true) × (fs ≡ [])
  through_none ks a own i fs rest result stands e = (refl, stands.0, stands.1)
  through_none ks a (arrived default name) i fs rest result stands e = no_some (sym e)
  through_none ks a taken i fs rest result stands e = no_some (sym e)

  none_fine : (o : Opened) (i : ℕ) (result : Option Kind) (x : Action) (q : Option (ℕ × Ask)) → DueSuits t program o i result x q → q ≡ None → ⊥
  none_fine o i result x None h e = h
  none_fine o i result x (Some p) h e = no_some (sym e)

  pub none_due : (ks : List (Option Kind)) (a : ℕ) (fs : List Frame) → nat_lt a (actor_count t program) ≡ true → AllSuit t program ks a fs → due_of t program a fs ≡ None → (is_through fs ≡ true) × (nat_lt a (callers program) ≡ true)
  none_due ks a [] here h e = absurd (home_there a h.0 here (no_home (home t program a) e))
    where
      no_home : (o : Option ℕ) → option_map {U = ℕ × Ask} (λ i. (i, ask.Take)) o ≡ None → o ≡ None
      no_home None e = refl
      no_home (Some i) e = no_some (sym e)
  none_due ks a (f ∷ fs) here h e = go (first_action f.doing) refl e
    where
      go : (first : Option (Action × Bindings)) → first_action f.doing ≡ first → due_in t program f first ≡ None → (is_through (f ∷ fs) ≡ true) × (nat_lt a (callers program) ≡ true)
      go None is e =
          let s = through_none ks a f.opened f.instance fs _ h.0 h.2 e in
          (ap (λ (l : List Frame). is_through (f ∷ l)) s.2 ∙ ap (λ (b : Bool). b && is_none (first_action f.doing)) s.0 ∙ ap is_none is, s.1)
      go (Some x) is e = absurd (none_fine f.opened f.instance h.0 x.0 (due_in t program f (Some x)) (first_due ks a f.opened f.instance f.doing fs _ h.0 x.0 x.1 h.2 h.1 is) e)
