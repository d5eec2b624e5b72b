-- Two parts become one; a frame is left.
use Rattle.std.proofs.Common.{◌≡◌, ◌≢◌, ℕ, suc, ◌-◌, ◌<◌, ◌≤◌, ◌⊎◌, List, [], ◌∷◌, Option, Some, None, slice_get, refl, sym, ap, ◌∙◌, subst, inl, inr, arith}
use Rattle.fp_graph.specs.declared.stretch.Stretch.{Stretch}
use Rattle.fp_graph.specs.declared.visit.Mark.TheVariants.{Open}
use Rattle.fp_graph.specs.declared.visit.Frame.{Frame}
use Rattle.fp_graph.specs.Graph.{Edge}
use Rattle.fp_graph.specs.Chains.{LeadsThrough}
use Rattle.fp_graph.specs.Visits.{Among, Falls, places, State, Waits, IsMet, TargetIs, Stage, under, with_heads}
use Rattle.fp_graph.proofs.Reaching.{Reaches, leads_reaches, reaches_edge}
use Rattle.fp_base.proofs.Spots.{same_or_other}
use Rattle.fp_graph.proofs.Stages.{downs, top_frame, top_edge, head_below_top, top_most}

module _ (stretches : List Stretch) (targets : List ℕ) where
  -- an edge to what stands below the last head: the last two parts are one
  module _ (s : State) (f : Frame) (head : ℕ) (heads : List ℕ) (stage : Stage stretches targets None (under f (with_heads (head ∷ heads) s)))
      (place w : ℕ) (lt : f.next < f.end) (target : TargetIs stretches targets f.next w) (at : slice_get s.marks w ≡ Some (Open place)) (below : place < head) where
    abbrev before : State
    before = under f (with_heads (head ∷ heads) s)

    head_low : head ≤ f.at
    head_low = head_below_top stretches targets None (with_heads (head ∷ heads) s) f stage head (inl refl)

    -- all the way round
    round : (i v u : ℕ) → head ≡ suc i → slice_get s.opened i ≡ Some v → slice_get s.opened head ≡ Some u → LeadsThrough (Edge stretches targets) u v
    round i v u e h k =
        let low = head_low in
        let top = top_frame stretches targets None (with_heads (head ∷ heads) s) f stage in
        let there = stage.open_at w place at in
        let to_top : Reaches stretches targets u f.vertex = downs stretches targets None before stage (f.at - head) head f.at u f.vertex (omega arith) k top.here in
        let edge = top_edge stretches targets None (with_heads (head ∷ heads) s) f stage w lt target in
        let back : Reaches stretches targets w v = downs stretches targets None before stage (i - place) place i w v (omega arith) there h in
        leads_reaches stretches targets (reaches_edge stretches targets to_top edge) back

    up : (i v u : ℕ) → slice_get s.opened i ≡ Some v → slice_get s.opened (suc i) ≡ Some u → (Among heads (suc i) → ⊥) → (head ≡ suc i) ⊎ (head ≢ suc i)
        → LeadsThrough (Edge stretches targets) u v
    up i v u h k none (inl e) = round i v u e h (subst (λ (x : ℕ). slice_get s.opened x ≡ Some u) (sym e) k)
    up i v u h k none (inr ne) = stage.up i v u h k (λ a. go a)
      where
        go : Among (head ∷ heads) (suc i) → ⊥
        go (inl e) = ne e
        go (inr a) = none a

    bottom : Among (head ∷ heads) 0 → Among heads 0
    bottom (inl e) = absurd (omega arith)
    bottom (inr a) = a

    met : (place' at' w' : ℕ) → Waits (f ∷ s.frames) place' at' ⊎ (IsMet before place' w' ⊎ (◌≡◌ {A = Option ℕ} None (Some w')))
        → Waits (f ∷ s.frames) place' at' ⊎ (IsMet (under f (with_heads heads s)) place' w' ⊎ (◌≡◌ {A = Option ℕ} None (Some w')))
    met place' at' w' (inl h) = inl h
    met place' at' w' (inr (inl (inl d))) = inr (inl (inl d))
    met place' at' w' (inr (inl (inr (other, m, all)))) = inr (inl (inr (other, m, λ h a le. all h (inr a) le)))
    met place' at' w' (inr (inr e)) = cc

    pub joined_stage : Stage stretches targets None (under f (with_heads heads s))
    joined_stage =
        record {
          each = stage.each;
          open_here = stage.open_here;
          open_at = stage.open_at;
          of_frames = stage.of_frames;
          frames_fall = stage.frames_fall;
          heads_fall = stage.heads_fall.1;
          heads_in = λ h a. stage.heads_in h (inr a);
          bottom = λ h. bottom (stage.bottom h);
          down = stage.down;
          up = λ i v u h k none. up i v u h k none (same_or_other head (suc i));
          met = λ place' v at' w' stretch e o since before' t. met place' at' w' (stage.met place' v at' w' stretch e o since before' t);
          closed = stage.closed;
          exact = stage.exact;
          in_order = stage.in_order;
          of_order = stage.of_order;
          once = stage.once;
          behind = stage.behind;
        }

  -- an edge to what stands in the last part or above its head is met
  pub all_heads : (s : State) (f : Frame) → Stage stretches targets None (under f s) → (place : ℕ)
      → ((head : ℕ) (rest : List ℕ) → s.heads ≡ head ∷ rest → head ≤ place) → (head : ℕ) → Among s.heads head → head ≤ place
  all_heads s f stage place last head h = go s.heads refl h
    where
      go : (hs : List ℕ) → s.heads ≡ hs → Among hs head → head ≤ place
      go [] e a = absurd a
      go (x ∷ xs) e a =
          let falls : Falls (x ∷ xs) = subst Falls e stage.heads_fall in
          let le = top_most x xs falls head a in
          let lo = last x xs e in
          omega arith

  -- a frame without edges left waits for nothing
  pub no_wait : (s : State) (f : Frame) → Stage stretches targets None (under f s) → f.end ≤ f.next → (place v at : ℕ) (stretch : Stretch) → slice_get s.opened place ≡ Some v → slice_get stretches v ≡ Some stretch → at < stretch.end
      → f.at ≡ place → f.next ≤ at → ⊥
  no_wait s f stage over place v at stretch e o before same le =
      let top = top_frame stretches targets None s f stage in
      let there : slice_get s.opened place ≡ Some f.vertex = subst (λ (x : ℕ). slice_get s.opened x ≡ Some f.vertex) same top.here in
      let one : f.vertex ≡ v = cc in
      let two : slice_get stretches v ≡ Some top.stretch = subst (λ (x : ℕ). slice_get stretches x ≡ Some top.stretch) one top.of_stretch in
      let three : top.stretch ≡ stretch = some_same top.stretch stretch (sym two ∙ o) in
      let ends : top.stretch.end ≡ stretch.end = ap (λ (x : Stretch). x.end) three in
      let is = top.end_is in
      omega arith
    where
      some_same : (a b : Stretch) → Some a ≡ Some b → a ≡ b
      some_same a b h = cc

  -- a frame without edges left that is no head
  module _ (s : State) (f : Frame) (stage : Stage stretches targets None (under f s)) (over : f.end ≤ f.next) (none : Among s.heads f.at → ⊥) where
    heads_in : (head : ℕ) → Among s.heads head → Among (places (f ∷ s.frames)) head → Among (places s.frames) head
    heads_in head a (inl e) = absurd (none (subst (λ (x : ℕ). Among s.heads x) (sym e) a))
    heads_in head a (inr h) = h

    left_met : (place v at w : ℕ) (stretch : Stretch) → slice_get s.opened place ≡ Some v → slice_get stretches v ≡ Some stretch → at < stretch.end
        → Waits (f ∷ s.frames) place at ⊎ (IsMet s place w ⊎ (◌≡◌ {A = Option ℕ} None (Some w)))
        → Waits s.frames place at ⊎ (IsMet s place w ⊎ (◌≡◌ {A = Option ℕ} None (Some w)))
    left_met place v at w stretch e o lt (inl (g, inl i, same, le)) =
        absurd (no_wait s f stage over place v at stretch e o lt (ap (λ (x : Frame). x.at) i ∙ same) (subst (λ (x : Frame). x.next ≤ at) (sym i) le))
    left_met place v at w stretch e o lt (inl (g, inr h, same, le)) = inl (g, h, same, le)
    left_met place v at w stretch e o lt (inr m) = inr m

    pub left_stage : Stage stretches targets None s
    left_stage =
        record {
          each = stage.each;
          open_here = stage.open_here;
          open_at = stage.open_at;
          of_frames = λ g h. stage.of_frames g (inr h);
          frames_fall = stage.frames_fall.1;
          heads_fall = stage.heads_fall;
          heads_in = λ head a. heads_in head a (stage.heads_in head a);
          bottom = stage.bottom;
          down = stage.down;
          up = stage.up;
          met = λ place v at w stretch e o since before t. left_met place v at w stretch e o before (stage.met place v at w stretch e o since before t);
          closed = stage.closed;
          exact = stage.exact;
          in_order = stage.in_order;
          of_order = stage.of_order;
          once = stage.once;
          behind = stage.behind;
        }
