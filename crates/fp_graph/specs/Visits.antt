-- A moment of the walk that finds the cycles. The vertices that are open stand in the order in which they were reached. They fall into parts:
-- those of a part reach one another, as far as is known, and the head of a part is the place where it begins.
use Rattle.std.specs.Prelude.{◌≡◌, ℕ, suc, ◌+◌, ◌-◌, ◌<◌, ◌≤◌, ◌⊎◌, Bool, false, MatchBool, List, [], ◌∷◌, ◌++◌, length, map, slice_get, set, Option, Some, None, take, drop, reverse, replicate}
use Rattle.fp_graph.specs.declared.stretch.Stretch.{Stretch}
use Rattle.fp_graph.specs.declared.visit.Mark.{Mark}
use Rattle.fp_graph.specs.declared.visit.Mark.TheVariants.{Unseen, Open, Done}
use Rattle.fp_graph.specs.declared.visit.Met.{Met}
use Rattle.fp_graph.specs.declared.visit.Met.TheVariants as met
use Rattle.fp_graph.specs.declared.visit.Frame.{Frame}
use Rattle.fp_graph.specs.declared.visit.Walk.{Walk}
use Rattle.fp_graph.specs.Graph.{Edge}
use Rattle.fp_graph.specs.Chains.{LeadsThrough, IsOnCycle}

abbrev pub Among : {A : Type 0} → List A → A → Type 0
Among [] x = ⊥
Among (y ∷ ys) x = (y ≡ x) ⊎ Among ys x

-- each is more than those behind it
abbrev pub Falls : List ℕ → Type 0
Falls [] = Unit {0}
Falls (x ∷ xs) = ((y : ℕ) → Among xs y → y < x) × Falls xs

abbrev pub places : List Frame → List ℕ
places frames = map (λ (f : Frame). f.at) frames

-- the marks; what is open; from the top down the heads, and the frames; and what is done
pub record State : Type 0 where
  pub marks : List Mark
  pub opened : List ℕ
  pub heads : List ℕ
  pub frames : List Frame
  pub order : List ℕ

-- a frame is left to look at this use
abbrev pub Waits : List Frame → ℕ → ℕ → Type 0
Waits frames place at = (f : Frame) × Among frames f × (f.at ≡ place) × (f.next ≤ at)

abbrev pub IsDone : List Mark → ℕ → Type 0
IsDone marks v = (cyclic : Bool) × (slice_get marks v ≡ Some (Done cyclic))

-- seen from this place, it is done or stands in the same part or a later one
abbrev pub IsMet : State → ℕ → ℕ → Type 0
IsMet s place w = IsDone s.marks w
    ⊎ ((other : ℕ) × (slice_get s.marks w ≡ Some (Open other)) × ((head : ℕ) → Among s.heads head → head ≤ place → head ≤ other))

-- a frame is of an open vertex
pub record IsFrame (stretches : List Stretch) (opened : List ℕ) (f : Frame) : Type 0 where
  pub here : slice_get opened f.at ≡ Some f.vertex
  pub stretch : Stretch
  pub of_stretch : slice_get stretches f.vertex ≡ Some stretch
  pub since : stretch.first ≤ f.next
  pub end_is : f.end ≡ stretch.end

module _ (stretches : List Stretch) (targets : List ℕ) where
  abbrev pub TargetIs : ℕ → ℕ → Type 0
  TargetIs at w = (slice_get targets at ≡ Some w) × (w < length stretches)

  -- all edges that no frame waits for are met, but for those of one that is pending
  pub record Stage (pending : Option ℕ) (s : State) : Type 0 where
    pub each : length s.marks ≡ length stretches
    pub open_here : (place v : ℕ) → slice_get s.opened place ≡ Some v → slice_get s.marks v ≡ Some (Open place)
    pub open_at : (v place : ℕ) → slice_get s.marks v ≡ Some (Open place) → slice_get s.opened place ≡ Some v
    pub of_frames : (f : Frame) → Among s.frames f → IsFrame stretches s.opened f
    pub frames_fall : Falls (places s.frames)
    pub heads_fall : Falls s.heads
    pub heads_in : (head : ℕ) → Among s.heads head → Among (places s.frames) head
    pub bottom : 0 < length s.opened → Among s.heads 0
    pub down : (place v w : ℕ) → slice_get s.opened place ≡ Some v → slice_get s.opened (suc place) ≡ Some w → LeadsThrough (Edge stretches targets) v w
    pub up : (place v w : ℕ) → slice_get s.opened place ≡ Some v → slice_get s.opened (suc place) ≡ Some w
        → (Among s.heads (suc place) → ⊥) → LeadsThrough (Edge stretches targets) w v
    pub met : (place v at w : ℕ) (stretch : Stretch) → slice_get s.opened place ≡ Some v → slice_get stretches v ≡ Some stretch
        → stretch.first ≤ at → at < stretch.end → TargetIs at w → Waits s.frames place at ⊎ (IsMet s place w ⊎ (pending ≡ Some w))
    pub closed : (v w : ℕ) → IsDone s.marks v → Edge stretches targets v w → IsDone s.marks w
    pub exact : (v : ℕ) (b : Bool) → slice_get s.marks v ≡ Some (Done b) → MatchBool b (IsOnCycle (Edge stretches targets) v) (IsOnCycle (Edge stretches targets) v → ⊥)
    pub in_order : (v : ℕ) → IsDone s.marks v → (k : ℕ) × (slice_get s.order k ≡ Some v)
    pub of_order : (k v : ℕ) → slice_get s.order k ≡ Some v → IsDone s.marks v
    pub once : (j k v : ℕ) → slice_get s.order j ≡ Some v → slice_get s.order k ≡ Some v → j ≡ k
    pub behind : (k v w : ℕ) → slice_get s.order k ≡ Some v → ¬ IsOnCycle (Edge stretches targets) v → Edge stretches targets v w
        → (j : ℕ) × (j < k) × (slice_get s.order j ≡ Some w)

abbrev pub state_of : Walk → State
state_of walk = record {
  marks = walk.marks.items;
  opened = walk.opened.items;
  heads = reverse walk.heads.items;
  frames = reverse walk.frames.items;
  order = walk.order.items;
}

-- with a frame on top
abbrev pub under : Frame → State → State
under f s = record s { frames = f ∷ s.frames }

-- a frame behind its use
abbrev pub moved : Frame → Frame
moved f = record f { next = f.next + 1 }

-- a vertex is opened
abbrev pub entered : ℕ → Stretch → State → State
entered v stretch s = record {
  marks = set s.marks v (Open (length s.opened));
  opened = s.opened ++ v ∷ [];
  heads = length s.opened ∷ s.heads;
  frames = record { vertex = v; at = length s.opened; next = stretch.first; end = stretch.end } ∷ s.frames;
  order = s.order;
}

-- vertices are done
abbrev pub marked : List ℕ → Bool → List Mark → List Mark
marked [] cyclic marks = marks
marked (v ∷ vs) cyclic marks = marked vs cyclic (set marks v (Done cyclic))

abbrev pub with_heads : List ℕ → State → State
with_heads heads s = record s { heads = heads }

-- the part from the place of the last head on is done, and these heads are left
abbrev pub settled : ℕ → List ℕ → Bool → State → State
settled at heads cyclic s = record {
  marks = marked (drop at s.opened) cyclic s.marks;
  opened = take at s.opened;
  heads = heads;
  frames = s.frames;
  order = s.order ++ drop at s.opened;
}

-- whether the part that begins with a frame's vertex is a ring, when so many are open
abbrev pub IsRing : List Stretch → List ℕ → ℕ → Frame → Bool → Type 0
IsRing stretches targets count f cyclic = MatchBool cyclic
    ((suc f.at < count) ⊎ Edge stretches targets f.vertex f.vertex)
    ((count ≤ suc f.at) × (Edge stretches targets f.vertex f.vertex → ⊥))

-- what an edge leads to
abbrev pub IsLook : List Mark → List ℕ → ℕ → Met → Type 0
IsLook marks targets at (met.New v) = (slice_get targets at ≡ Some v) × (slice_get marks v ≡ Some Unseen)
IsLook marks targets at (met.Open place) = (v : ℕ) × (slice_get targets at ≡ Some v) × (slice_get marks v ≡ Some (Open place))
IsLook marks targets at met.Nothing = (v : ℕ) → slice_get targets at ≡ Some v → v < length marks → IsDone marks v

-- the walk has reached it
abbrev pub Seen : List Mark → ℕ → Type 0
Seen marks v = slice_get marks v ≡ Some Unseen → ⊥

abbrev pub Progress : List Mark → List Mark → Type 0
Progress before after = (v : ℕ) → Seen before v → Seen after v

-- the steps that are left: for each vertex that isn't reached one for each of its edges and three, and those of the frames
abbrev pub waiting : List Stretch → List Mark → ℕ
waiting [] marks = 0
waiting (s ∷ ss) [] = 0
waiting (s ∷ ss) (Unseen ∷ marks) = s.end - s.first + 3 + waiting ss marks
waiting (s ∷ ss) (Open place ∷ marks) = waiting ss marks
waiting (s ∷ ss) (Done cyclic ∷ marks) = waiting ss marks

abbrev pub in_frames : List Frame → ℕ
in_frames [] = 0
in_frames (f ∷ fs) = f.end - f.next + 1 + in_frames fs

abbrev pub work : List Stretch → State → ℕ
work stretches s = waiting stretches s.marks + in_frames s.frames + length s.heads

-- a step of the walk
pub record IsStep (stretches : List Stretch) (targets : List ℕ) (before after : State) : Type 0 where
  pub stage : Stage stretches targets None after
  pub seen : Progress before.marks after.marks
  pub falls : work stretches after < work stretches before

-- nothing was reached
abbrev pub begun : ℕ → State
begun n = record { marks = replicate n Unseen; opened = []; heads = []; frames = []; order = [] }

-- between two roots
pub record IsResting (stretches : List Stretch) (targets : List ℕ) (s : State) : Type 0 where
  pub stage : Stage stretches targets None s
  pub empty : s.frames ≡ []

abbrev pub is_cyclic : Mark → Bool
is_cyclic (Done cyclic) = cyclic
is_cyclic _ = false
