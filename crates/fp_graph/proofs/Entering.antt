-- A vertex is opened.
use Rattle.std.proofs.Common.{◌≡◌, ◌≢◌, ℕ, suc, ◌<◌, ◌≤◌, ◌⊎◌, Bool, List, [], ◌∷◌, ◌++◌, length, set, Option, Some, None, slice_get, refl, sym, ap, ◌∙◌, subst, inl, inr, arith, length-set}
use Rattle.std.proofs.lemmas.Option.{slice_get_within}
use Rattle.fp_base.proofs.Lists.{get_front, get_last}
use Rattle.fp_graph.specs.declared.stretch.Stretch.{Stretch}
use Rattle.fp_graph.specs.declared.visit.Mark.{Mark}
use Rattle.fp_graph.specs.declared.visit.Mark.TheVariants.{Unseen, Open, Done}
use Rattle.fp_graph.specs.declared.visit.Frame.{Frame}
use Rattle.fp_graph.specs.Graph.{Edge}
use Rattle.fp_graph.specs.Chains.{LeadsThrough}
use Rattle.fp_graph.specs.Visits.{Among, places, State, Waits, IsDone, IsMet, TargetIs, IsFrame, Stage, entered}
use Rattle.fp_base.proofs.Spots.{get_set_same, get_set_other, same_or_other, get_push}
use Rattle.fp_graph.proofs.Stages.{place_within, head_within}

module _ (stretches : List Stretch) (targets : List ℕ) (s : State) (v : ℕ) (stretch : Stretch) (stage : Stage stretches targets (Some v) s)
    (at : slice_get stretches v ≡ Some stretch) (unseen : slice_get s.marks v ≡ Some Unseen) where
  abbrev n : ℕ
  n = length s.opened

  abbrev after : List Mark
  after = set s.marks v (Open n)

  within : v < length s.marks
  within = slice_get_within s.marks v Unseen unseen

  here : slice_get after v ≡ Some (Open n)
  here = get_set_same s.marks v (Open n) within

  elsewhere : (w : ℕ) → w ≢ v → slice_get after w ≡ slice_get s.marks w
  elsewhere w ne = get_set_other s.marks v w (Open n) ne

  -- another mark is that of another
  not_here : (w : ℕ) (m : Mark) → slice_get s.marks w ≡ Some m → (m ≡ Unseen → ⊥) → w ≢ v
  not_here w m e other = λ same.
      let there : slice_get s.marks v ≡ Some m = subst (λ (x : ℕ). slice_get s.marks x ≡ Some m) same e in
      let u : m ≡ Unseen = cc in
      other u

  stays : (w : ℕ) (m : Mark) → slice_get s.marks w ≡ Some m → (m ≡ Unseen → ⊥) → slice_get after w ≡ Some m
  stays w m e other = elsewhere w (not_here w m e other) ∙ e

  stays_open : (w other : ℕ) → slice_get s.marks w ≡ Some (Open other) → slice_get after w ≡ Some (Open other)
  stays_open w other e = stays w (Open other) e (λ u. cc)

  stays_done : (w : ℕ) → IsDone s.marks w → IsDone after w
  stays_done w (c, e) = (c, stays w (Done c) e (λ u. cc))

  was : (w : ℕ) (m : Mark) → slice_get after w ≡ Some m → (w ≡ v) ⊎ (w ≢ v) → (m ≡ Open n → w ≡ v → ⊥) → slice_get s.marks w ≡ Some m
  was w m e (inl same) not =
      let there : slice_get after v ≡ Some m = subst (λ (x : ℕ). slice_get after x ≡ Some m) same e in
      let o : m ≡ Open n = some_same m (Open n) (sym there ∙ here) in
      absurd (not o same)
    where
      some_same : (a b : Mark) → Some a ≡ Some b → a ≡ b
      some_same a b h = cc
  was w m e (inr ne) not = sym (elsewhere w ne) ∙ e

  was_done_as : (w : ℕ) (c : Bool) → slice_get after w ≡ Some (Done c) → slice_get s.marks w ≡ Some (Done c)
  was_done_as w c e = was w (Done c) e (same_or_other w v) (λ o same. cc)

  was_done : (w : ℕ) → IsDone after w → IsDone s.marks w
  was_done w (c, e) = (c, was_done_as w c e)

  abbrev top : Frame
  top = record { vertex = v; at = n; next = stretch.first; end = stretch.end }

  top_frame : IsFrame stretches (s.opened ++ v ∷ []) top
  top_frame = record { here = get_last s.opened v; stretch = stretch; of_stretch = at; since = omega arith; end_is = refl }

  frames : (g : Frame) → Among (top ∷ s.frames) g → IsFrame stretches (s.opened ++ v ∷ []) g
  frames g (inl e) = subst (λ (x : Frame). IsFrame stretches (s.opened ++ v ∷ []) x) e top_frame
  frames g (inr h) =
      let old = stage.of_frames g h in
      record { here = get_front s.opened (v ∷ []) g.at g.vertex old.here; stretch = old.stretch; of_stretch = old.of_stretch; since = old.since; end_is = old.end_is }

  open_here : (place u : ℕ) → (slice_get s.opened place ≡ Some u) ⊎ ((place ≡ n) × (v ≡ u)) → slice_get after u ≡ Some (Open place)
  open_here place u (inl h) = stays_open u place (stage.open_here place u h)
  open_here place u (inr (p, e)) =
      subst (λ (x : ℕ). slice_get after u ≡ Some (Open x)) (sym p) (subst (λ (x : ℕ). slice_get after x ≡ Some (Open n)) e here)

  open_at : (u place : ℕ) → slice_get after u ≡ Some (Open place) → (u ≡ v) ⊎ (u ≢ v) → slice_get (s.opened ++ v ∷ []) place ≡ Some u
  open_at u place e (inl same) =
      let there : slice_get after v ≡ Some (Open place) = subst (λ (x : ℕ). slice_get after x ≡ Some (Open place)) same e in
      let now = here in
      let p : n ≡ place = cc in
      subst (λ (x : ℕ). slice_get (s.opened ++ v ∷ []) x ≡ Some u) p (get_last s.opened v ∙ ap Some (sym same))
  open_at u place e (inr ne) = get_front s.opened (v ∷ []) place u (stage.open_at u place (sym (elsewhere u ne) ∙ e))

  heads_in : (head : ℕ) → Among (n ∷ s.heads) head → Among (places (top ∷ s.frames)) head
  heads_in head (inl e) = inl e
  heads_in head (inr h) = inr (stage.heads_in head h)

  bottom : (n ≡ 0) ⊎ (n ≢ 0) → Among (n ∷ s.heads) 0
  bottom (inl e) = inl e
  bottom (inr ne) = inr (stage.bottom (omega arith))

  abbrev Before : Type 0
  Before = (place u : ℕ) → suc place ≡ n → slice_get s.opened place ≡ Some u → LeadsThrough (Edge stretches targets) u v

  down : Before → (place u w : ℕ) → (slice_get s.opened place ≡ Some u) ⊎ ((place ≡ n) × (v ≡ u)) → (slice_get s.opened (suc place) ≡ Some w) ⊎ ((suc place ≡ n) × (v ≡ w))
      → LeadsThrough (Edge stretches targets) u w
  down before place u w (inl h) (inl k) = stage.down place u w h k
  down before place u w (inl h) (inr (p, e)) = subst (λ (x : ℕ). LeadsThrough (Edge stretches targets) u x) e (before place u p h)
  down before place u w (inr (p, e)) (inl k) = let lt = slice_get_within s.opened (suc place) w k in absurd (omega arith)
  down before place u w (inr (p, e)) (inr (q, f)) = absurd (omega arith)

  up : (place u w : ℕ) → (slice_get s.opened place ≡ Some u) ⊎ ((place ≡ n) × (v ≡ u)) → (slice_get s.opened (suc place) ≡ Some w) ⊎ ((suc place ≡ n) × (v ≡ w))
      → (Among (n ∷ s.heads) (suc place) → ⊥) → LeadsThrough (Edge stretches targets) w u
  up place u w (inl h) (inl k) none = stage.up place u w h k (λ a. none (inr a))
  up place u w (inl h) (inr (p, e)) none = absurd (none (inl (sym p)))
  up place u w (inr (p, e)) (inl k) none = let lt = slice_get_within s.opened (suc place) w k in absurd (omega arith)
  up place u w (inr (p, e)) (inr (q, f)) none = absurd (omega arith)

  heads_met : (place other : ℕ) → place < n → ((head : ℕ) → Among s.heads head → head ≤ place → head ≤ other)
      → (head : ℕ) → Among (n ∷ s.heads) head → head ≤ place → head ≤ other
  heads_met place other lt all head (inl e) le = absurd (omega arith)
  heads_met place other lt all head (inr h) le = all head h le

  heads_new : (head : ℕ) → Among (n ∷ s.heads) head → head ≤ n
  heads_new head (inl e) = omega arith
  heads_new head (inr h) = let lt = head_within stretches targets (Some v) s stage head h in omega arith

  abbrev next_state : State
  next_state = entered v stretch s

  met_old : (place at' w : ℕ) → place < n → Waits s.frames place at' ⊎ (IsMet s place w ⊎ (◌≡◌ {A = Option ℕ} (Some v) (Some w)))
      → Waits (top ∷ s.frames) place at' ⊎ (IsMet next_state place w ⊎ (◌≡◌ {A = Option ℕ} None (Some w)))
  met_old place at' w lt (inl (g, h, p, le)) = inl (g, inr h, p, le)
  met_old place at' w lt (inr (inl (inl d))) = inr (inl (inl (stays_done w d)))
  met_old place at' w lt (inr (inl (inr (other, m, all)))) = inr (inl (inr (other, stays_open w other m, heads_met place other lt all)))
  met_old place at' w lt (inr (inr e)) =
      let same : v ≡ w = cc in
      inr (inl (inr (n, subst (λ (x : ℕ). slice_get after x ≡ Some (Open n)) same here, λ head h le. heads_new head h)))

  met : (place u at' w : ℕ) (stretch' : Stretch) → (slice_get s.opened place ≡ Some u) ⊎ ((place ≡ n) × (v ≡ u)) → slice_get stretches u ≡ Some stretch'
      → stretch'.first ≤ at' → at' < stretch'.end → TargetIs stretches targets at' w
      → Waits (top ∷ s.frames) place at' ⊎ (IsMet next_state place w ⊎ (◌≡◌ {A = Option ℕ} None (Some w)))
  met place u at' w stretch' (inl h) o since before t =
      met_old place at' w (slice_get_within s.opened place u h) (stage.met place u at' w stretch' h o since before t)
  met place u at' w stretch' (inr (p, e)) o since before t =
      let there : slice_get stretches v ≡ Some stretch' = subst (λ (x : ℕ). slice_get stretches x ≡ Some stretch') (sym e) o in
      let same : stretch ≡ stretch' = cc in
      let first : stretch.first ≡ stretch'.first = ap (λ (x : Stretch). x.first) same in
      inl (top, inl refl, sym p, omega arith)

  pub entered_stage : Before → Stage stretches targets None (entered v stretch s)
  entered_stage before =
      record {
        each = length-set s.marks v (Open n) ∙ stage.each;
        open_here = λ place u e. open_here place u (get_push s.opened v u place e);
        open_at = λ u place e. open_at u place e (same_or_other u v);
        of_frames = frames;
        frames_fall = (place_within stretches targets (Some v) s stage, stage.frames_fall);
        heads_fall = (head_within stretches targets (Some v) s stage, stage.heads_fall);
        heads_in = heads_in;
        bottom = λ h. bottom (same_or_other n 0);
        down = λ place u w h k. down before place u w (get_push s.opened v u place h) (get_push s.opened v w (suc place) k);
        up = λ place u w h k none. up place u w (get_push s.opened v u place h) (get_push s.opened v w (suc place) k) none;
        met = λ place u at' w stretch' e o since before' t. met place u at' w stretch' (get_push s.opened v u place e) o since before' t;
        closed = λ u w d e. stays_done w (stage.closed u w (was_done u d) e);
        exact = λ u b e. stage.exact u b (was_done_as u b e);
        in_order = λ u d. stage.in_order u (was_done u d);
        of_order = λ k u e. stays_done u (stage.of_order k u e);
        once = stage.once;
        behind = stage.behind;
      }
