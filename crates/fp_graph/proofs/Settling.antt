-- The last part is done.
use Rattle.std.proofs.Common.{◌≡◌, ◌≢◌, ℕ, suc, ◌+◌, ◌-◌, ◌<◌, ◌≤◌, ◌⊎◌, Bool, true, false, MatchBool, List, [], ◌∷◌, ◌++◌, length, take, drop, Option, Some, None, slice_get, refl, sym, ap, ◌∙◌, subst, inl, inr, arith, length-take}
use Rattle.std.proofs.lemmas.Option.{slice_get_within}
use Rattle.fp_base.proofs.Lists.{get_front}
use Rattle.fp_graph.specs.declared.stretch.Stretch.{Stretch}
use Rattle.fp_graph.specs.declared.visit.Mark.{Mark}
use Rattle.fp_graph.specs.declared.visit.Mark.TheVariants.{Unseen, Open, Done}
use Rattle.fp_graph.specs.declared.visit.Frame.{Frame}
use Rattle.fp_graph.specs.Graph.{Edge}
use Rattle.fp_graph.specs.Chains.{IsOnCycle, one}
use Rattle.fp_graph.specs.Visits.{Among, places, State, Waits, IsDone, IsMet, IsFrame, Stage, under, with_heads, settled, marked, IsRing}
use Rattle.fp_graph.proofs.Reaching.{Reaches, leads_reaches, first_edge, kept_or_same}
use Rattle.fp_base.proofs.Spots.{item_below, same_or_other, before_or_not}
use Rattle.fp_graph.proofs.Places.{get_drop, get_take, take_below, get_right, get_joined}
use Rattle.fp_graph.proofs.Marks.{marked_length, marked_other, marked_same}
use Rattle.fp_graph.proofs.Stages.{downs, ups, top_frame}
use Rattle.fp_graph.proofs.Joining.{no_wait}

pub among_places : (fs : List Frame) (g : Frame) → Among fs g → Among (places fs) g.at
among_places [] g h = h
among_places (f ∷ fs) g (inl e) = inl (ap (λ (x : Frame). x.at) e)
among_places (f ∷ fs) g (inr h) = inr (among_places fs g h)

module _ (stretches : List Stretch) (targets : List ℕ) (s : State) (f : Frame) (heads : List ℕ)
    (stage : Stage stretches targets None (under f (with_heads (f.at ∷ heads) s))) (over : f.end ≤ f.next) where
  abbrev before : State
  before = under f (with_heads (f.at ∷ heads) s)

  abbrev part : List ℕ
  part = drop f.at s.opened

  low_heads : (head : ℕ) → Among heads head → head < f.at
  low_heads = stage.heads_fall.0

  no_head : (head i : ℕ) → f.at ≤ i → Among (f.at ∷ heads) head → i < head → ⊥
  no_head head i le (inl e) lt = omega arith
  no_head head i le (inr a) lt = let h = low_heads head a in omega arith

  part_reaches : (i j v w : ℕ) → f.at ≤ i → f.at ≤ j → slice_get s.opened i ≡ Some v → slice_get s.opened j ≡ Some w → Reaches stretches targets v w
  part_reaches i j v w hi hj h k = go (before_or_not i j)
    where
      go : (i < j) ⊎ (j ≤ i) → Reaches stretches targets v w
      go (inl lt) = downs stretches targets None before stage (j - i) i j v w (omega arith) h k
      go (inr le) = ups stretches targets None before stage (i - j) j i w v (omega arith) k h (λ head a lt le'. no_head head j hj a lt)

  same_place : (i j v : ℕ) → slice_get s.opened i ≡ Some v → slice_get s.opened j ≡ Some v → i ≡ j
  same_place i j v h k =
      let one = stage.open_here i v h in
      let two = stage.open_here j v k in
      cc

  -- an edge within the part
  edge_within : (i j v w : ℕ) → f.at ≤ i → f.at ≤ j → slice_get s.opened i ≡ Some v → slice_get s.opened j ≡ Some w → Edge stretches targets v w
      → IsOnCycle (Edge stretches targets) v
  edge_within i j v w hi hj h k e = leads_reaches stretches targets (one e) (part_reaches j i w v hj hi k h)

  top_here : slice_get s.opened f.at ≡ Some f.vertex
  top_here = (top_frame stretches targets None (with_heads (f.at ∷ heads) s) f stage).here

  -- where its edges lead
  edges_of_part : (i v w : ℕ) → f.at ≤ i → slice_get s.opened i ≡ Some v → Edge stretches targets v w
      → IsDone s.marks w ⊎ ((j : ℕ) × (slice_get s.opened j ≡ Some w) × (f.at ≤ j))
  edges_of_part i v w le h e = go (stage.met i v e.at w e.stretch h e.here e.since e.before (e.target, e.within))
    where
      go : Waits (f ∷ s.frames) i e.at ⊎ (IsMet before i w ⊎ (◌≡◌ {A = Option ℕ} None (Some w)))
          → IsDone s.marks w ⊎ ((j : ℕ) × (slice_get s.opened j ≡ Some w) × (f.at ≤ j))
      go (inl (g, inl k, same, next)) =
          absurd (no_wait stretches targets (with_heads (f.at ∷ heads) s) f stage over i v e.at e.stretch h e.here e.before
          (ap (λ (x : Frame). x.at) k ∙ same) (subst (λ (x : Frame). x.next ≤ e.at) (sym k) next))
      go (inl (g, inr k, same, next)) = let lt = stage.frames_fall.0 g.at (among_places s.frames g k) in absurd (omega arith)
      go (inr (inl (inl d))) = inl d
      go (inr (inl (inr (j, m, all)))) = inr (j, stage.open_at w j m, all f.at (inl refl) le)
      go (inr (inr k)) = cc

  -- each vertex is of the part or isn't
  kind : (v : ℕ) → ((i : ℕ) × (slice_get s.opened i ≡ Some v) × (f.at ≤ i)) ⊎ ((i : ℕ) → slice_get s.opened i ≡ Some v → i < f.at)
  kind v = go (slice_get s.marks v) refl
    where
      go : (o : Option Mark) → slice_get s.marks v ≡ o → ((i : ℕ) × (slice_get s.opened i ≡ Some v) × (f.at ≤ i)) ⊎ ((i : ℕ) → slice_get s.opened i ≡ Some v → i < f.at)
      go None e = inr (λ i h. let o = stage.open_here i v h in cc)
      go (Some Unseen) e = inr (λ i h. let o = stage.open_here i v h in cc)
      go (Some (Done c)) e = inr (λ i h. let o = stage.open_here i v h in cc)
      go (Some (Open p)) e = split (before_or_not p f.at)
        where
          split : (p < f.at) ⊎ (f.at ≤ p) → ((i : ℕ) × (slice_get s.opened i ≡ Some v) × (f.at ≤ i)) ⊎ ((i : ℕ) → slice_get s.opened i ≡ Some v → i < f.at)
          split (inl lt) = inr (λ i h. let o = stage.open_here i v h in let same : i ≡ p = cc in omega arith)
          split (inr le) = inl (p, stage.open_at v p e, le)

  module _ (cyclic : Bool) (ring : IsRing stretches targets (length s.opened) f cyclic) where
    abbrev after : List Mark
    after = marked part cyclic s.marks

    abbrev next_state : State
    next_state = settled f.at heads cyclic s

    in_part : (i v : ℕ) → slice_get s.opened i ≡ Some v → f.at ≤ i → slice_get after v ≡ Some (Done cyclic)
    in_part i v h le =
        marked_same part cyclic s.marks v (i - f.at) (get_drop s.opened f.at (i - f.at) i (omega arith) ∙ h)
        (slice_get_within s.marks v (Open i) (stage.open_here i v h))

    elsewhere : (v : ℕ) → ((i : ℕ) → slice_get s.opened i ≡ Some v → i < f.at) → slice_get after v ≡ slice_get s.marks v
    elsewhere v out =
        marked_other part cyclic s.marks v (λ k e.
        let lt = out (f.at + k) (sym (get_drop s.opened f.at k (f.at + k) refl) ∙ e) in
        omega arith)

    -- a mark of the part or one that was
    was : (v : ℕ) (m : Mark) → slice_get after v ≡ Some m
        → ((i : ℕ) × (slice_get s.opened i ≡ Some v) × (f.at ≤ i) × (m ≡ Done cyclic)) ⊎ (((i : ℕ) → slice_get s.opened i ≡ Some v → i < f.at) × (slice_get s.marks v ≡ Some m))
    was v m e = go (kind v)
      where
        go : ((i : ℕ) × (slice_get s.opened i ≡ Some v) × (f.at ≤ i)) ⊎ ((i : ℕ) → slice_get s.opened i ≡ Some v → i < f.at)
            → ((i : ℕ) × (slice_get s.opened i ≡ Some v) × (f.at ≤ i) × (m ≡ Done cyclic)) ⊎ (((i : ℕ) → slice_get s.opened i ≡ Some v → i < f.at) × (slice_get s.marks v ≡ Some m))
        go (inl (i, h, le)) = let now = in_part i v h le in inl (i, h, le, cc)
        go (inr out) = inr (out, sym (elsewhere v out) ∙ e)

    done_stays : (v : ℕ) → IsDone s.marks v → IsDone after v
    done_stays v (c, e) = go (kind v)
      where
        go : ((i : ℕ) × (slice_get s.opened i ≡ Some v) × (f.at ≤ i)) ⊎ ((i : ℕ) → slice_get s.opened i ≡ Some v → i < f.at) → IsDone after v
        go (inl (i, h, le)) = (cyclic, in_part i v h le)
        go (inr out) = (c, elsewhere v out ∙ e)

    -- ---- cycles

    other_place : (i : ℕ) → f.at ≤ i → suc f.at < length s.opened → (j : ℕ) × (f.at ≤ j) × (j < length s.opened) × (j ≢ i)
    other_place i le long = go (same_or_other f.at i)
      where
        go : (f.at ≡ i) ⊎ (f.at ≢ i) → (j : ℕ) × (f.at ≤ j) × (j < length s.opened) × (j ≢ i)
        go (inl e) = (suc f.at, omega arith, long, omega arith)
        go (inr n) = (f.at, omega arith, omega arith, n)

    long_ring : (i v : ℕ) → f.at ≤ i → slice_get s.opened i ≡ Some v → suc f.at < length s.opened → IsOnCycle (Edge stretches targets) v
    long_ring i v le h long =
        let t = other_place i le long in
        let u = item_below s.opened t.0 t.2 in
        go t.0 u.0 t.1 u.1 t.3 (part_reaches i t.0 v u.0 le t.1 h u.1)
      where
        go : (j u : ℕ) → f.at ≤ j → slice_get s.opened j ≡ Some u → (j ≢ i) → Reaches stretches targets v u → IsOnCycle (Edge stretches targets) v
        go j u le' k ne (inl e) = absurd (ne (same_place j i v (k ∙ ap Some (sym e)) h))
        go j u le' k ne (inr a) = leads_reaches stretches targets a (part_reaches j i u v le' le k h)

    lone : (i v : ℕ) → f.at ≤ i → slice_get s.opened i ≡ Some v → length s.opened ≤ suc f.at → f.vertex ≡ v
    lone i v le h short =
        let lt = slice_get_within s.opened i v h in
        let same : i ≡ f.at = omega arith in
        let there : slice_get s.opened f.at ≡ Some v = subst (λ (x : ℕ). slice_get s.opened x ≡ Some v) same h in
        let here = top_here in
        cc

    is_ring : (i v : ℕ) → f.at ≤ i → slice_get s.opened i ≡ Some v → (suc f.at < length s.opened) ⊎ Edge stretches targets f.vertex f.vertex → IsOnCycle (Edge stretches targets) v
    is_ring i v le h (inl long) = long_ring i v le h long
    is_ring i v le h (inr e) = go (before_or_not (suc f.at) (length s.opened))
      where
        go : (suc f.at < length s.opened) ⊎ (length s.opened ≤ suc f.at) → IsOnCycle (Edge stretches targets) v
        go (inl long) = long_ring i v le h long
        go (inr short) = subst (λ (x : ℕ). IsOnCycle (Edge stretches targets) x) (lone i v le h short) (one e)

    no_ring : (i v : ℕ) → f.at ≤ i → slice_get s.opened i ≡ Some v → length s.opened ≤ suc f.at → (Edge stretches targets f.vertex f.vertex → ⊥) → IsOnCycle (Edge stretches targets) v → ⊥
    no_ring i v le h short none cycle = go t.0 t.1 t.2 (edges_of_part i v t.0 le h t.1)
      where
        t : (w : ℕ) × Edge stretches targets v w × Reaches stretches targets w v
        t = first_edge stretches targets cycle

        go : (w : ℕ) → Edge stretches targets v w → Reaches stretches targets w v → IsDone s.marks w ⊎ ((j : ℕ) × (slice_get s.opened j ≡ Some w) × (f.at ≤ j)) → ⊥
        go w e back (inl d) =
            let done = kept_or_same stretches targets (IsDone s.marks) stage.closed back d in
            let opened = stage.open_here i v h in
            let is = done.1 in
            cc
        go w e back (inr (j, k, le')) =
            none (subst (λ (x : ℕ). Edge stretches targets x f.vertex) (sym (lone i v le h short))
            (subst (λ (x : ℕ). Edge stretches targets v x) (sym (lone j w le' k short)) e))

    exact_here : (c : Bool) → IsRing stretches targets (length s.opened) f c → (i v : ℕ) → f.at ≤ i → slice_get s.opened i ≡ Some v
        → MatchBool c (IsOnCycle (Edge stretches targets) v) (IsOnCycle (Edge stretches targets) v → ⊥)
    exact_here true r i v le h = is_ring i v le h r
    exact_here false r i v le h = no_ring i v le h r.0 r.1

    exact : (v : ℕ) (b : Bool) → ((i : ℕ) × (slice_get s.opened i ≡ Some v) × (f.at ≤ i) × (Done b ≡ Done cyclic)) ⊎ (((i : ℕ) → slice_get s.opened i ≡ Some v → i < f.at) × (slice_get s.marks v ≡ Some (Done b)))
        → MatchBool b (IsOnCycle (Edge stretches targets) v) (IsOnCycle (Edge stretches targets) v → ⊥)
    exact v b (inl (i, h, le, e)) =
        let same : cyclic ≡ b = cc in
        subst (λ (x : Bool). MatchBool x (IsOnCycle (Edge stretches targets) v) (IsOnCycle (Edge stretches targets) v → ⊥)) same (exact_here cyclic ring i v le h)
    exact v b (inr (out, e)) = stage.exact v b e

    -- ---- what is done, and its order

    part_at : (k v : ℕ) → slice_get part k ≡ Some v → slice_get s.opened (f.at + k) ≡ Some v
    part_at k v e = sym (get_drop s.opened f.at k (f.at + k) refl) ∙ e

    closed : (v w : ℕ) → IsDone after v → Edge stretches targets v w → IsDone after w
    closed v w (c, d) e = go (was v (Done c) d)
      where
        next : IsDone s.marks w ⊎ ((j : ℕ) × (slice_get s.opened j ≡ Some w) × (f.at ≤ j)) → IsDone after w
        next (inl h) = done_stays w h
        next (inr (j, h, le)) = (cyclic, in_part j w h le)

        go : ((i : ℕ) × (slice_get s.opened i ≡ Some v) × (f.at ≤ i) × (Done c ≡ Done cyclic)) ⊎ (((i : ℕ) → slice_get s.opened i ≡ Some v → i < f.at) × (slice_get s.marks v ≡ Some (Done c))) → IsDone after w
        go (inl (i, h, le, k)) = next (edges_of_part i v w le h e)
        go (inr (out, k)) = done_stays w (stage.closed v w (c, k) e)

    in_order : (v : ℕ) → IsDone after v → (k : ℕ) × (slice_get (s.order ++ part) k ≡ Some v)
    in_order v (c, d) = go (was v (Done c) d)
      where
        go : ((i : ℕ) × (slice_get s.opened i ≡ Some v) × (f.at ≤ i) × (Done c ≡ Done cyclic)) ⊎ (((i : ℕ) → slice_get s.opened i ≡ Some v → i < f.at) × (slice_get s.marks v ≡ Some (Done c)))
            → (k : ℕ) × (slice_get (s.order ++ part) k ≡ Some v)
        go (inl (i, h, le, e)) =
            (length s.order + (i - f.at), get_right s.order part v (length s.order + (i - f.at)) (i - f.at) refl (get_drop s.opened f.at (i - f.at) i (omega arith) ∙ h))
        go (inr (out, e)) = let t = stage.in_order v (c, e) in (t.0, get_front s.order part t.0 v t.1)

    abbrev Joined : ℕ → ℕ → Type 0
    Joined k v = (slice_get s.order k ≡ Some v) ⊎ ((i : ℕ) × (k ≡ length s.order + i) × (slice_get part i ≡ Some v))

    of_order : (k v : ℕ) → Joined k v → IsDone after v
    of_order k v (inl e) = done_stays v (stage.of_order k v e)
    of_order k v (inr (i, same, e)) = (cyclic, in_part (f.at + i) v (part_at i v e) (omega arith))

    apart : (k i v : ℕ) → slice_get s.order k ≡ Some v → slice_get part i ≡ Some v → ⊥
    apart k i v e h =
        let done = stage.of_order k v e in
        let is = done.1 in
        let opened = stage.open_here (f.at + i) v (part_at i v h) in
        cc

    once : (j k v : ℕ) → Joined j v → Joined k v → j ≡ k
    once j k v (inl a) (inl b) = stage.once j k v a b
    once j k v (inl a) (inr (i, e, b)) = absurd (apart j i v a b)
    once j k v (inr (i, e, a)) (inl b) = absurd (apart k i v b a)
    once j k v (inr (h, d, a)) (inr (i, e, b)) =
        let same = same_place (f.at + h) (f.at + i) v (part_at h v a) (part_at i v b) in
        omega arith

    behind : (k v w : ℕ) → Joined k v → ¬ IsOnCycle (Edge stretches targets) v → Edge stretches targets v w → (j : ℕ) × (j < k) × (slice_get (s.order ++ part) j ≡ Some w)
    behind k v w (inl a) out e = let t = stage.behind k v w a out e in (t.0, t.1, get_front s.order part t.0 w t.2)
    behind k v w (inr (i, same, a)) out e = go (edges_of_part (f.at + i) v w (omega arith) (part_at i v a) e)
      where
        go : IsDone s.marks w ⊎ ((j : ℕ) × (slice_get s.opened j ≡ Some w) × (f.at ≤ j)) → (j : ℕ) × (j < k) × (slice_get (s.order ++ part) j ≡ Some w)
        go (inl d) =
            let t = stage.in_order w d in
            let lt = slice_get_within s.order t.0 w t.1 in
            (t.0, omega arith, get_front s.order part t.0 w t.1)
        go (inr (j, h, le)) = absurd (out (edge_within (f.at + i) j v w (omega arith) le (part_at i v a) h e))

    -- ---- what is still open

    was_open : (i v : ℕ) → slice_get (take f.at s.opened) i ≡ Some v → (i < f.at) × (slice_get s.opened i ≡ Some v)
    was_open i v e = let lt = take_below s.opened f.at i v e in (lt, sym (get_take s.opened f.at i lt) ∙ e)

    still : (i v : ℕ) → i < f.at → slice_get s.opened i ≡ Some v → slice_get (take f.at s.opened) i ≡ Some v
    still i v lt e = get_take s.opened f.at i lt ∙ e

    open_here : (i v : ℕ) → i < f.at → slice_get s.opened i ≡ Some v → slice_get after v ≡ Some (Open i)
    open_here i v lt h = elsewhere v (λ j k. let same = same_place j i v k h in omega arith) ∙ stage.open_here i v h

    open_at : (v i : ℕ) → slice_get after v ≡ Some (Open i) → slice_get (take f.at s.opened) i ≡ Some v
    open_at v i e = go (was v (Open i) e)
      where
        go : ((j : ℕ) × (slice_get s.opened j ≡ Some v) × (f.at ≤ j) × (Open i ≡ Done cyclic)) ⊎ (((j : ℕ) → slice_get s.opened j ≡ Some v → j < f.at) × (slice_get s.marks v ≡ Some (Open i)))
            → slice_get (take f.at s.opened) i ≡ Some v
        go (inl (j, h, le, k)) = cc
        go (inr (out, k)) = let h = stage.open_at v i k in still i v (out i h) h

    frames : (g : Frame) → Among s.frames g → IsFrame stretches (take f.at s.opened) g
    frames g h =
        let old = stage.of_frames g (inr h) in
        let lt = stage.frames_fall.0 g.at (among_places s.frames g h) in
        record { here = still g.at g.vertex lt old.here; stretch = old.stretch; of_stretch = old.of_stretch; since = old.since; end_is = old.end_is }

    heads_in : (head : ℕ) → Among heads head → Among (places (f ∷ s.frames)) head → Among (places s.frames) head
    heads_in head a (inl e) = let lt = low_heads head a in absurd (omega arith)
    heads_in head a (inr h) = h

    bottom : 0 < f.at → Among (f.at ∷ heads) 0 → Among heads 0
    bottom lt (inl e) = absurd (omega arith)
    bottom lt (inr a) = a

    lower : (i : ℕ) → suc i < f.at → (Among heads (suc i) → ⊥) → Among (f.at ∷ heads) (suc i) → ⊥
    lower i lt none (inl e) = absurd (omega arith)
    lower i lt none (inr a) = none a

    met : (i at w : ℕ) → i < f.at → Waits (f ∷ s.frames) i at ⊎ (IsMet before i w ⊎ (◌≡◌ {A = Option ℕ} None (Some w)))
        → Waits s.frames i at ⊎ (IsMet next_state i w ⊎ (◌≡◌ {A = Option ℕ} None (Some w)))
    met i at w lt (inl (g, inl e, same, le)) = let at_ = ap (λ (x : Frame). x.at) e in absurd (omega arith)
    met i at w lt (inl (g, inr h, same, le)) = inl (g, h, same, le)
    met i at w lt (inr (inl (inl d))) = inr (inl (inl (done_stays w d)))
    met i at w lt (inr (inl (inr (j, m, all)))) = go (before_or_not j f.at)
      where
        go : (j < f.at) ⊎ (f.at ≤ j) → Waits s.frames i at ⊎ (IsMet next_state i w ⊎ (◌≡◌ {A = Option ℕ} None (Some w)))
        go (inl lt') = inr (inl (inr (j, open_here j w lt' (stage.open_at w j m), λ head a le. all head (inr a) le)))
        go (inr le) = inr (inl (inl (cyclic, in_part j w (stage.open_at w j m) le)))
    met i at w lt (inr (inr e)) = cc

    pub settled_stage : Stage stretches targets None (settled f.at heads cyclic s)
    settled_stage =
        record {
          each = marked_length part cyclic s.marks ∙ stage.each;
          open_here = λ i v e. let t = was_open i v e in open_here i v t.0 t.1;
          open_at = open_at;
          of_frames = frames;
          frames_fall = stage.frames_fall.1;
          heads_fall = stage.heads_fall.1;
          heads_in = λ head a. heads_in head a (stage.heads_in head (inr a));
          bottom = λ h. let long = length-take f.at s.opened in bottom (omega arith) (stage.bottom (omega arith));
          down = λ i v w h k. let t = was_open i v h in let u = was_open (suc i) w k in stage.down i v w t.1 u.1;
          up = λ i v w h k none. let t = was_open i v h in let u = was_open (suc i) w k in stage.up i v w t.1 u.1 (lower i u.0 none);
          met = λ i v at w stretch e o since before' t. let u = was_open i v e in met i at w u.0 (stage.met i v at w stretch u.1 o since before' t);
          closed = closed;
          exact = λ v b e. exact v b (was v (Done b) e);
          in_order = in_order;
          of_order = λ k v e. of_order k v (get_joined s.order part v k e);
          once = λ j k v a b. once j k v (get_joined s.order part v j a) (get_joined s.order part v k b);
          behind = λ k v w a out e. behind k v w (get_joined s.order part v k a) out e;
        }
