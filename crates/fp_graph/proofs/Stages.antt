-- What a moment of the walk says of heads, frames and ways.
use Rattle.std.proofs.Common.{◌≡◌, ◌≢◌, ℕ, zero, suc, ◌+◌, ◌<◌, ◌≤◌, ◌⊎◌, List, ◌∷◌, length, Option, Some, None, slice_get, refl, sym, ap, ◌∙◌, subst, inl, inr, arith}
use Rattle.std.proofs.lemmas.Option.{slice_get_within}
use Rattle.fp_graph.specs.declared.stretch.Stretch.{Stretch}
use Rattle.fp_graph.specs.declared.visit.Mark.TheVariants.{Open}
use Rattle.fp_graph.specs.declared.visit.Frame.{Frame}
use Rattle.fp_graph.specs.Graph.{Edge}
use Rattle.fp_graph.specs.Visits.{Among, Falls, places, State, Waits, IsDone, IsMet, TargetIs, IsFrame, Stage, under, moved}
use Rattle.fp_graph.proofs.Reaching.{Reaches, reaches_leads, leads_reaches}
use Rattle.fp_base.proofs.Spots.{item_below, same_or_other}
use Rattle.fp_graph.proofs.Marks.{among_map}

pub top_most : (x : ℕ) (xs : List ℕ) → Falls (x ∷ xs) → (y : ℕ) → Among (x ∷ xs) y → y ≤ x
top_most x xs h y (inl e) = omega arith
top_most x xs h y (inr a) = let lt = h.0 y a in omega arith

module _ (stretches : List Stretch) (targets : List ℕ) where
  module _ (p : Option ℕ) (s : State) (stage : Stage stretches targets p s) where
    pub place_within : (y : ℕ) → Among (places s.frames) y → y < length s.opened
    place_within y h =
        let t = among_map (λ (f : Frame). f.at) s.frames y h in
        let w = slice_get_within s.opened t.0.at t.0.vertex (stage.of_frames t.0 t.1).here in
        let e = t.2 in
        omega arith

    pub head_within : (y : ℕ) → Among s.heads y → y < length s.opened
    head_within y h = place_within y (stage.heads_in y h)

    -- from an earlier place to a later one
    pub downs : (d i j v w : ℕ) → j ≡ i + d → slice_get s.opened i ≡ Some v → slice_get s.opened j ≡ Some w → Reaches stretches targets v w
    downs zero i j v w e h k =
        let same : i ≡ j = omega arith in
        let again : slice_get s.opened j ≡ Some v = subst (λ (x : ℕ). slice_get s.opened x ≡ Some v) same h in
        inl (cc)
    downs (suc d) i zero v w e h k = absurd (omega arith)
    downs (suc d) i (suc j) v w e h k =
        let below = slice_get_within s.opened (suc j) w k in
        let t = item_below s.opened j (omega arith) in
        inr (reaches_leads stretches targets (downs d i j v t.0 (omega arith) h t.1) (stage.down j t.0 w t.1 k))

    -- from a later place to an earlier one of the same part
    pub ups : (d i j v w : ℕ) → j ≡ i + d → slice_get s.opened i ≡ Some v → slice_get s.opened j ≡ Some w
        → ((head : ℕ) → Among s.heads head → i < head → head ≤ j → ⊥) → Reaches stretches targets w v
    ups zero i j v w e h k none =
        let same : i ≡ j = omega arith in
        let again : slice_get s.opened j ≡ Some v = subst (λ (x : ℕ). slice_get s.opened x ≡ Some v) same h in
        inl (cc)
    ups (suc d) i zero v w e h k none = absurd (omega arith)
    ups (suc d) i (suc j) v w e h k none =
        let below = slice_get_within s.opened (suc j) w k in
        let t = item_below s.opened j (omega arith) in
        inr (leads_reaches stretches targets (stage.up j t.0 w t.1 k (λ a. none (suc j) a (omega arith) (omega arith)))
        (ups d i j v t.0 (omega arith) h t.1 (λ head a lt le. none head a lt (omega arith))))

  module _ (p : Option ℕ) (s : State) (f : Frame) (stage : Stage stretches targets p (under f s)) where
    pub top_frame : IsFrame stretches s.opened f
    top_frame = stage.of_frames f (inl refl)

    pub head_below_top : (head : ℕ) → Among s.heads head → head ≤ f.at
    head_below_top head h = top_most f.at (places s.frames) stage.frames_fall head (stage.heads_in head h)

    -- the edge that the frame on top looks at
    pub top_edge : (w : ℕ) → f.next < f.end → TargetIs stretches targets f.next w → Edge stretches targets f.vertex w
    top_edge w lt t =
        let is = top_frame.end_is in
        record { stretch = top_frame.stretch; here = top_frame.of_stretch; at = f.next; since = top_frame.since; before = omega arith; target = t.0; within = t.1 }

  -- the frame on top is behind its use
  pub moved_on : (p : Option ℕ) (s : State) (f : Frame) → Stage stretches targets None (under f s)
      → ((w : ℕ) → TargetIs stretches targets f.next w → p ≡ Some w) → Stage stretches targets p (under (moved f) s)
  moved_on p s f stage pending =
      record {
        each = stage.each;
        open_here = stage.open_here;
        open_at = stage.open_at;
        of_frames = frames;
        frames_fall = stage.frames_fall;
        heads_fall = stage.heads_fall;
        heads_in = stage.heads_in;
        bottom = stage.bottom;
        down = stage.down;
        up = stage.up;
        met = λ place v at w stretch e o since before t. go place at w t (stage.met place v at w stretch e o since before t);
        closed = stage.closed;
        exact = stage.exact;
        in_order = stage.in_order;
        of_order = stage.of_order;
        once = stage.once;
        behind = stage.behind;
      }
    where
      top : IsFrame stretches s.opened f
      top = stage.of_frames f (inl refl)

      later : IsFrame stretches s.opened (moved f)
      later = let le = top.since in record { here = top.here; stretch = top.stretch; of_stretch = top.of_stretch; since = omega arith; end_is = top.end_is }

      frames : (g : Frame) → Among (moved f ∷ s.frames) g → IsFrame stretches s.opened g
      frames g (inl e) = subst (λ (x : Frame). IsFrame stretches s.opened x) e later
      frames g (inr h) = stage.of_frames g (inr h)

      here : (place at w : ℕ) → TargetIs stretches targets at w → (f.next ≡ at) ⊎ (f.next ≢ at) → f.at ≡ place → f.next ≤ at
          → Waits (moved f ∷ s.frames) place at ⊎ (IsMet s place w ⊎ (p ≡ Some w))
      here place at w t (inl e) same le = inr (inr (pending w (subst (λ (x : ℕ). TargetIs stretches targets x w) (sym e) t)))
      here place at w t (inr n) same le = inl (moved f, inl refl, same, omega arith)

      go : (place at w : ℕ) → TargetIs stretches targets at w → Waits (f ∷ s.frames) place at ⊎ (IsMet s place w ⊎ (◌≡◌ {A = Option ℕ} None (Some w)))
          → Waits (moved f ∷ s.frames) place at ⊎ (IsMet s place w ⊎ (p ≡ Some w))
      go place at w t (inl (g, inl e, same, le)) =
          here place at w t (same_or_other f.next at) (ap (λ (x : Frame). x.at) e ∙ same)
          (subst (λ (x : Frame). x.next ≤ at) (sym e) le)
      go place at w t (inl (g, inr h, same, le)) = inl (g, inr h, same, le)
      go place at w t (inr (inl m)) = inr (inl m)
      go place at w t (inr (inr e)) = cc

  -- what is pending is met
  pub met_then : (s : State) (v : ℕ) → Stage stretches targets (Some v) s
      → IsDone s.marks v ⊎ ((other : ℕ) × (slice_get s.marks v ≡ Some (Open other)) × ((head : ℕ) → Among s.heads head → head ≤ other))
      → Stage stretches targets None s
  met_then s v stage now =
      record {
        each = stage.each;
        open_here = stage.open_here;
        open_at = stage.open_at;
        of_frames = stage.of_frames;
        frames_fall = stage.frames_fall;
        heads_fall = stage.heads_fall;
        heads_in = stage.heads_in;
        bottom = stage.bottom;
        down = stage.down;
        up = stage.up;
        met = λ place u at w stretch e o since before t. go place at w now (stage.met place u at w stretch e o since before t);
        closed = stage.closed;
        exact = stage.exact;
        in_order = stage.in_order;
        of_order = stage.of_order;
        once = stage.once;
        behind = stage.behind;
      }
    where
      known : (place w : ℕ) → v ≡ w → IsDone s.marks v ⊎ ((other : ℕ) × (slice_get s.marks v ≡ Some (Open other)) × ((head : ℕ) → Among s.heads head → head ≤ other)) → IsMet s place w
      known place w e (inl d) = inl (subst (λ (x : ℕ). IsDone s.marks x) e d)
      known place w e (inr (other, m, all)) = inr (other, subst (λ (x : ℕ). slice_get s.marks x ≡ Some (Open other)) e m, λ head h le. all head h)

      go : (place at w : ℕ) → IsDone s.marks v ⊎ ((other : ℕ) × (slice_get s.marks v ≡ Some (Open other)) × ((head : ℕ) → Among s.heads head → head ≤ other))
          → Waits s.frames place at ⊎ (IsMet s place w ⊎ (◌≡◌ {A = Option ℕ} (Some v) (Some w)))
          → Waits s.frames place at ⊎ (IsMet s place w ⊎ (◌≡◌ {A = Option ℕ} None (Some w)))
      go place at w now (inl h) = inl h
      go place at w now (inr (inl m)) = inr (inl m)
      go place at w now (inr (inr e)) = let same : v ≡ w = cc in inr (inl (known place w same now))

  -- nothing is pending: then it may be anything
  pub any_pending : (s : State) (p : Option ℕ) → Stage stretches targets None s → Stage stretches targets p s
  any_pending s p stage =
      record {
        each = stage.each;
        open_here = stage.open_here;
        open_at = stage.open_at;
        of_frames = stage.of_frames;
        frames_fall = stage.frames_fall;
        heads_fall = stage.heads_fall;
        heads_in = stage.heads_in;
        bottom = stage.bottom;
        down = stage.down;
        up = stage.up;
        met = λ place u at w stretch e o since before t. go place at w (stage.met place u at w stretch e o since before t);
        closed = stage.closed;
        exact = stage.exact;
        in_order = stage.in_order;
        of_order = stage.of_order;
        once = stage.once;
        behind = stage.behind;
      }
    where
      go : (place at w : ℕ) → Waits s.frames place at ⊎ (IsMet s place w ⊎ (◌≡◌ {A = Option ℕ} None (Some w)))
          → Waits s.frames place at ⊎ (IsMet s place w ⊎ (p ≡ Some w))
      go place at w (inl h) = inl h
      go place at w (inr (inl m)) = inr (inl m)
      go place at w (inr (inr e)) = cc
