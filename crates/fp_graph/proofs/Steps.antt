-- The steps of the walk: each keeps its stage, forgets nothing, and leaves less to do.
use Rattle.std.proofs.Common.{◌≡◌, ◌≢◌, ℕ, zero, suc, ◌+◌, ◌-◌, ◌<◌, ◌≤◌, ◌⊎◌, Bool, MatchBool, MatchOption, List, [], ◌∷◌, ◌++◌, length, set, map, drop, reverse, replicate, Option, Some, None, slice_get, refl, sym, ap, ◌∙◌, subst, inl, inr, arith, length-set}
use Rattle.std.specs.Option.{option_to_list}
use Rattle.std.proofs.lemmas.List.{nil_from_length}
use Rattle.std.proofs.lemmas.Option.{slice_get_within}
use Rattle.fp_graph.specs.declared.stretch.Stretch.{Stretch}
use Rattle.fp_graph.specs.declared.visit.Mark.{Mark}
use Rattle.fp_graph.specs.declared.visit.Mark.TheVariants.{Unseen, Open, Done}
use Rattle.fp_graph.specs.declared.visit.Frame.{Frame}
use Rattle.fp_graph.specs.Graph.{Edge}
use Rattle.fp_graph.specs.Chains.{LeadsThrough, IsOnCycle, IsSorted}
use Rattle.fp_graph.specs.Visits.{Among, Falls, places, State, IsDone, Stage, Seen, Progress, under, moved, entered, with_heads, settled, marked, IsRing, IsStep, IsResting, begun, is_cyclic, waiting}
use Rattle.fp_graph.proofs.Reaching.{reaches_edge}
use Rattle.fp_base.proofs.Spots.{get_set_same, get_set_other, same_or_other, item_below}
use Rattle.fp_graph.proofs.Places.{reverse_push_as}
use Rattle.fp_graph.proofs.Stages.{ups, top_edge, top_frame, head_below_top, moved_on, met_then, any_pending}
use Rattle.fp_graph.proofs.Entering.{entered_stage}
use Rattle.fp_graph.proofs.Joining.{joined_stage, all_heads, left_stage}
use Rattle.fp_graph.proofs.Settling.{settled_stage}

-- ---- what was reached stays reached

pub progress_set : (marks : List Mark) (j : ℕ) (m : Mark) → (m ≡ Unseen → ⊥) → Progress marks (set marks j m)
progress_set marks j m other k seen e = go (same_or_other k j)
  where
    reached : j < length marks → k ≡ j → ⊥
    reached h i =
        let now = get_set_same marks j m h in
        let there : slice_get (set marks j m) j ≡ Some Unseen = subst (λ (x : ℕ). slice_get (set marks j m) x ≡ Some Unseen) i e in
        let same : m ≡ Unseen = cc in
        other same

    go : (k ≡ j) ⊎ (k ≢ j) → ⊥
    go (inl i) =
        let below = slice_get_within (set marks j m) k Unseen e in
        let long = length-set marks j m in
        reached (omega arith) i
    go (inr n) = seen (sym (get_set_other marks j k m n) ∙ e)

pub progress_marked : (vs : List ℕ) (c : Bool) (marks : List Mark) → Progress marks (marked vs c marks)
progress_marked [] c marks k seen = seen
progress_marked (v ∷ vs) c marks k seen = progress_marked vs c (set marks v (Done c)) k (progress_set marks v (Done c) (λ e. cc) k seen)

-- ---- what is left to do

pub waiting_open : (stretches : List Stretch) (marks : List Mark) (j n : ℕ) (s : Stretch) → slice_get stretches j ≡ Some s → slice_get marks j ≡ Some Unseen
    → waiting stretches (set marks j (Open n)) + (s.end - s.first) + 3 ≡ waiting stretches marks
waiting_open [] marks j n s at unseen = cc
waiting_open (x ∷ xs) [] j n s at unseen = cc
waiting_open (x ∷ xs) (Unseen ∷ marks) zero n s at unseen =
    let same : x ≡ s = cc in
    let first : x.first ≡ s.first = ap (λ (y : Stretch). y.first) same in
    let last : x.end ≡ s.end = ap (λ (y : Stretch). y.end) same in
    omega arith
waiting_open (x ∷ xs) (Open place ∷ marks) zero n s at unseen = cc
waiting_open (x ∷ xs) (Done c ∷ marks) zero n s at unseen = cc
waiting_open (x ∷ xs) (Unseen ∷ marks) (suc j) n s at unseen = omega (arith, waiting_open xs marks j n s at unseen)
waiting_open (x ∷ xs) (Open place ∷ marks) (suc j) n s at unseen = waiting_open xs marks j n s at unseen
waiting_open (x ∷ xs) (Done c ∷ marks) (suc j) n s at unseen = waiting_open xs marks j n s at unseen

waiting_done : (stretches : List Stretch) (marks : List Mark) (j : ℕ) (c : Bool) → waiting stretches (set marks j (Done c)) ≤ waiting stretches marks
waiting_done [] marks j c = omega arith
waiting_done (x ∷ xs) [] j c = omega arith
waiting_done (x ∷ xs) (Unseen ∷ marks) zero c = omega arith
waiting_done (x ∷ xs) (Open place ∷ marks) zero c = omega arith
waiting_done (x ∷ xs) (Done d ∷ marks) zero c = omega arith
waiting_done (x ∷ xs) (Unseen ∷ marks) (suc j) c = omega (arith, waiting_done xs marks j c)
waiting_done (x ∷ xs) (Open place ∷ marks) (suc j) c = waiting_done xs marks j c
waiting_done (x ∷ xs) (Done d ∷ marks) (suc j) c = waiting_done xs marks j c

waiting_marked : (stretches : List Stretch) (vs : List ℕ) (c : Bool) (marks : List Mark) → waiting stretches (marked vs c marks) ≤ waiting stretches marks
waiting_marked stretches [] c marks = omega arith
waiting_marked stretches (v ∷ vs) c marks =
    omega (arith, waiting_marked stretches vs c (set marks v (Done c)), waiting_done stretches marks v c)

-- ---- what a stage says of its top

module _ (stretches : List Stretch) (targets : List ℕ) (s : State) (f : Frame) (stage : Stage stretches targets None (under f s)) where
  pub top_within : f.vertex < length stretches
  top_within =
      let top = top_frame stretches targets None s f stage in
      slice_get_within stretches f.vertex top.stretch top.of_stretch

  pub top_open : f.at < length s.opened
  top_open =
      let top = top_frame stretches targets None s f stage in
      slice_get_within s.opened f.at f.vertex top.here

  pub open_within : (k v : ℕ) → slice_get s.opened k ≡ Some v → v < length s.marks
  open_within k v e = slice_get_within s.marks v (Open k) (stage.open_here k v e)

-- ---- the steps

module _ (stretches : List Stretch) (targets : List ℕ) (s : State) (f : Frame) where
  -- an edge that leads to nothing, or to what is done
  pub passed_step : Stage stretches targets None (under f s) → f.next < f.end
      → ((w : ℕ) → slice_get targets f.next ≡ Some w → w < length s.marks → IsDone s.marks w) → IsStep stretches targets (under f s) (under (moved f) s)
  passed_step stage lt done =
      record {
        stage = go (slice_get targets f.next) refl;
        seen = λ v seen. seen;
        falls = omega arith;
      }
    where
      out : (w : ℕ) → slice_get targets f.next ≡ Some w → (w < length stretches → ⊥) → Stage stretches targets None (under (moved f) s)
      out w e not = moved_on stretches targets None s f stage (λ u t. let same : w ≡ u = cc in let within = t.1 in absurd (not (omega arith)))

      split : (w : ℕ) → slice_get targets f.next ≡ Some w → (w < length stretches) ⊎ (length stretches ≤ w) → Stage stretches targets None (under (moved f) s)
      split w e (inl within) =
          met_then stretches targets (under (moved f) s) w
          (moved_on stretches targets (Some w) s f stage (λ u t. let a = t.0 in cc))
          (inl (done w e (let each = stage.each in omega arith)))
      split w e (inr past) = out w e (λ h. omega arith)

      go : (o : Option ℕ) → slice_get targets f.next ≡ o → Stage stretches targets None (under (moved f) s)
      go None e = moved_on stretches targets None s f stage (λ u t. let a = t.0 in cc)
      go (Some w) e = split w e (lt_or_le w (length stretches))
        where
          lt_or_le : (i j : ℕ) → (i < j) ⊎ (j ≤ i)
          lt_or_le i j = grind arith

  -- an edge that leads to one of the last part
  pub met_step : Stage stretches targets None (under f s) → f.next < f.end → (w place : ℕ) → slice_get targets f.next ≡ Some w
      → slice_get s.marks w ≡ Some (Open place) → ((head : ℕ) (rest : List ℕ) → s.heads ≡ head ∷ rest → head ≤ place) → IsStep stretches targets (under f s) (under (moved f) s)
  met_step stage lt w place e at last =
      record {
        stage =
            met_then stretches targets (under (moved f) s) w
            (moved_on stretches targets (Some w) s f stage (λ u t. let a = t.0 in cc))
            (inr (place, at, all_heads stretches targets s f stage place last));
        seen = λ v seen. seen;
        falls = omega arith;
      }

  -- the last two parts become one
  pub joined_step : (head : ℕ) (heads : List ℕ) → Stage stretches targets None (under f (with_heads (head ∷ heads) s)) → f.next < f.end → (w place : ℕ) → slice_get targets f.next ≡ Some w
      → slice_get s.marks w ≡ Some (Open place) → place < head → IsStep stretches targets (under f (with_heads (head ∷ heads) s)) (under f (with_heads heads s))
  joined_step head heads stage lt w place e at below =
      let within = slice_get_within s.marks w (Open place) at in
      let each = stage.each in
      record {
        stage = joined_stage stretches targets s f head heads stage place w lt (e, omega arith) at below;
        seen = λ v seen. seen;
        falls = omega arith;
      }

  -- a vertex is opened
  pub entered_step : Stage stretches targets None (under f s) → f.next < f.end → (v : ℕ) (stretch : Stretch) → slice_get targets f.next ≡ Some v
      → slice_get s.marks v ≡ Some Unseen → slice_get stretches v ≡ Some stretch → IsStep stretches targets (under f s) (entered v stretch (under (moved f) s))
  entered_step stage lt v stretch e unseen at =
      record {
        stage = entered_stage stretches targets (under (moved f) s) v stretch (moved_on stretches targets (Some v) s f stage (λ u t. let a = t.0 in cc)) at unseen leads;
        seen = progress_set s.marks v (Open (length s.opened)) (λ u. cc);
        falls = let less = waiting_open stretches s.marks v (length s.opened) stretch at unseen in omega arith;
      }
    where
      within : v < length stretches
      within = slice_get_within stretches v stretch at

      leads : (place u : ℕ) → suc place ≡ length s.opened → slice_get s.opened place ≡ Some u → LeadsThrough (Edge stretches targets) u v
      leads place u last k =
          let top = top_frame stretches targets None s f stage in
          let below = slice_get_within s.opened f.at f.vertex top.here in
          reaches_edge stretches targets
          (ups stretches targets None (under f s) stage (place - f.at) f.at place f.vertex u (omega arith) top.here k
          (λ head a up le. let low = head_below_top stretches targets None s f stage head a in omega arith))
          (top_edge stretches targets None s f stage v lt (e, within))

  -- a frame is left
  pub left_step : Stage stretches targets None (under f s) → f.end ≤ f.next → ((rest : List ℕ) → s.heads ≡ f.at ∷ rest → ⊥) → IsStep stretches targets (under f s) s
  left_step stage over not_last =
      record {
        stage = left_stage stretches targets s f stage over none;
        seen = λ v seen. seen;
        falls = omega arith;
      }
    where
      none : Among s.heads f.at → ⊥
      none h = go s.heads refl h
        where
          go : (hs : List ℕ) → s.heads ≡ hs → Among hs f.at → ⊥
          go [] e a = a
          go (x ∷ xs) e (inl same) = not_last xs (e ∙ ap (λ (y : ℕ). y ∷ xs) same)
          go (x ∷ xs) e (inr a) =
              let falls : Falls (x ∷ xs) = subst Falls e stage.heads_fall in
              let lt = falls.0 f.at a in
              let low = head_below_top stretches targets None s f stage x (subst (λ (l : List ℕ). Among l x) (sym e) (inl refl)) in
              omega arith

  -- a part is done
  pub settled_step : (heads : List ℕ) (cyclic : Bool) → Stage stretches targets None (under f (with_heads (f.at ∷ heads) s)) → f.end ≤ f.next
      → IsRing stretches targets (length s.opened) f cyclic → IsStep stretches targets (under f (with_heads (f.at ∷ heads) s)) (settled f.at heads cyclic s)
  settled_step heads cyclic stage over ring =
      record {
        stage = settled_stage stretches targets s f heads stage over cyclic ring;
        seen = progress_marked (drop f.at s.opened) cyclic s.marks;
        falls = let less = waiting_marked stretches (drop f.at s.opened) cyclic s.marks in omega arith;
      }

-- ---- a frame is taken

pub taken_is : (o : Option Frame) (s : State) (old new : List Frame) (m n : ℕ) → old ≡ new ++ option_to_list o → MatchOption o ((m ≡ 0) × (n ≡ 0)) (λ f. n + 1 ≡ m)
    → m ≡ length old → n ≡ length new
    → MatchOption o ((record s { frames = reverse new } ≡ record s { frames = reverse old }) × (reverse old ≡ []))
    (λ f. record s { frames = reverse old } ≡ under f (record s { frames = reverse new }))
taken_is None s old new m n e h p q =
    let one : old ≡ [] = nil_from_length old (omega arith) in
    let two : new ≡ [] = nil_from_length new (omega arith) in
    (ap (λ (fs : List Frame). record s { frames = reverse fs }) (two ∙ sym one), ap (λ (fs : List Frame). reverse fs) one)
taken_is (Some f) s old new m n e h p q = ap (λ (fs : List Frame). record s { frames = fs }) (reverse_push_as new old f e)

-- ---- roots, the beginning and the end

pub root_progress : (s : State) (v : ℕ) (stretch : Stretch) → Progress s.marks (entered v stretch s).marks
root_progress s v stretch = progress_set s.marks v (Open (length s.opened)) (λ u. cc)

pub root_seen : (s : State) (v : ℕ) (stretch : Stretch) → slice_get s.marks v ≡ Some Unseen → Seen (entered v stretch s).marks v
root_seen s v stretch unseen e =
    let now = get_set_same s.marks v (Open (length s.opened)) (slice_get_within s.marks v Unseen unseen) in
    cc

module _ (stretches : List Stretch) (targets : List ℕ) where
  none_open : (s : State) → IsResting stretches targets s → length s.opened ≡ 0
  none_open s rest = go (length s.opened) refl
    where
      go : (n : ℕ) → length s.opened ≡ n → length s.opened ≡ 0
      go zero e = e
      go (suc n) e =
          let a = rest.stage.heads_in 0 (rest.stage.bottom (omega arith)) in
          absurd (subst (λ (fs : List Frame). Among (places fs) 0) rest.empty a)

  pub root_stage : (s : State) (v : ℕ) (stretch : Stretch) → IsResting stretches targets s → slice_get stretches v ≡ Some stretch → slice_get s.marks v ≡ Some Unseen
      → Stage stretches targets None (entered v stretch s)
  root_stage s v stretch rest at unseen =
      entered_stage stretches targets s v stretch (any_pending stretches targets s (Some v) rest.stage) at unseen
      (λ place u last k. let none = none_open s rest in absurd (omega arith))

  only_unseen : (n v : ℕ) (m : Mark) → slice_get (replicate n Unseen) v ≡ Some m → m ≡ Unseen
  only_unseen zero v m e = cc
  only_unseen (suc n) zero m e = cc
  only_unseen (suc n) (suc v) m e = only_unseen n v m e

  pub begun_rests : (n : ℕ) → n ≡ length stretches → length (replicate n Unseen) ≡ n → IsResting stretches targets (begun n)
  begun_rests n e long =
      record {
        stage = record {
          each = long ∙ e;
          open_here = λ place v h. cc;
          open_at = λ v place h. let m = only_unseen n v (Open place) h in cc;
          of_frames = λ f h. absurd h;
          frames_fall = tt;
          heads_fall = tt;
          heads_in = λ head h. absurd h;
          bottom = λ h. absurd (omega arith);
          down = λ place v w h k. cc;
          up = λ place v w h k none. cc;
          met = λ place v at w stretch h o since before t. cc;
          closed = λ v w d e. let m = only_unseen n v (Done d.0) d.1 in cc;
          exact = λ v b h. let m = only_unseen n v (Done b) h in cc;
          in_order = λ v d. let m = only_unseen n v (Done d.0) d.1 in cc;
          of_order = λ k v h. cc;
          once = λ j k v h i. cc;
          behind = λ k v w h none e. cc;
        };
        empty = refl;
      }

  -- all was reached
  module _ (s : State) (rest : IsResting stretches targets s) (all : (v : ℕ) → v < length stretches → Seen s.marks v) where
    all_done : (v : ℕ) → v < length stretches → IsDone s.marks v
    all_done v lt =
        let each = rest.stage.each in
        let t = item_below s.marks v (omega arith) in
        go t.0 t.1
      where
        go : (m : Mark) → slice_get s.marks v ≡ Some m → IsDone s.marks v
        go Unseen e = absurd (all v lt e)
        go (Open place) e =
            let none = none_open s rest in
            let within = slice_get_within s.opened place v (rest.stage.open_at v place e) in
            absurd (omega arith)
        go (Done c) e = (c, e)

    flag_of : (marks : List Mark) (v : ℕ) (b c : Bool) → slice_get (map is_cyclic marks) v ≡ Some b → slice_get marks v ≡ Some (Done c) → b ≡ c
    flag_of [] v b c h k = cc
    flag_of (m ∷ marks) zero b c h k =
        let same : m ≡ Done c = cc in
        let flag : is_cyclic m ≡ c = ap is_cyclic same in
        cc
    flag_of (m ∷ marks) (suc v) b c h k = flag_of marks v b c h k

    flag_within : (marks : List Mark) (v : ℕ) (b : Bool) → slice_get (map is_cyclic marks) v ≡ Some b → v < length marks
    flag_within [] v b h = cc
    flag_within (m ∷ marks) zero b h = omega arith
    flag_within (m ∷ marks) (suc v) b h = let lt = flag_within marks v b h in omega arith

    flags_long : (marks : List Mark) → length (map is_cyclic marks) ≡ length marks
    flags_long [] = refl
    flags_long (m ∷ marks) = ap suc (flags_long marks)

    exact : (v : ℕ) (b : Bool) → slice_get (map is_cyclic s.marks) v ≡ Some b → MatchBool b (IsOnCycle (Edge stretches targets) v) (IsOnCycle (Edge stretches targets) v → ⊥)
    exact v b h =
        let lt = flag_within s.marks v b h in
        let each = rest.stage.each in
        let done = all_done v (omega arith) in
        let same = flag_of s.marks v b done.0 h done.1 in
        subst (λ (x : Bool). MatchBool x (IsOnCycle (Edge stretches targets) v) (IsOnCycle (Edge stretches targets) v → ⊥)) (sym same) (rest.stage.exact v done.0 done.1)

    pub is_sorted : IsSorted (length stretches) (Edge stretches targets) s.order (map is_cyclic s.marks)
    is_sorted = record {
      ordered = record {
        all = λ v lt. rest.stage.in_order v (all_done v lt);
        within = λ k v e. let d = rest.stage.of_order k v e in let lt = slice_get_within s.marks v (Done d.0) d.1 in let each = rest.stage.each in omega arith;
        once = rest.stage.once;
        behind = rest.stage.behind;
      };
      flagged = record { each = flags_long s.marks ∙ rest.stage.each; exact = exact };
    }
