-- Lists of entries that hold in turn, and projections of one entry more, over any states.
use Rattle.std.proofs.Common.{append-nil, append_assoc, ◌≡◌, ℕ, ◌<◌, List, [], ◌∷◌, ◌++◌, length, get_or, set, eqb, true, false, refl, sym, ap, subst, ◌∙◌, ◌≢◌, ◌⊎◌, inl, inr, eq-eqb, ne_eqb}
use Rattle.std.proofs.lemmas.Bool.Decides.{eqb_tells}
use Rattle.std.proofs.Math.Path.{fun_ext}
use Rattle.std.proofs.lemmas.List.{get_or-set_same, get_or-set_other}
use Rattle.std.proofs.lemmas.List.Elements.{filter-append}
use Rattle.fp_events.specs.SystemRun.{InTurn, projection, filled, updated, last_or, Rises}

-- a prefix holds in turn, and so does the rest after it
pub InTurn-split : {X E : Type 0} (R : X → E → X → Type 0) → (xs ys : List E) (s t : X) → InTurn R s (xs ++ ys) t → (mid : X) × InTurn R s xs mid × InTurn R mid ys t
InTurn-split R [] ys s t h = (s, refl, h)
InTurn-split R (x ∷ xs) ys s t h =
    let r = InTurn-split R xs ys h.0 t h.2 in
    (r.0, (h.0, h.1, r.1), r.2)

pub InTurn-join : {X E : Type 0} (R : X → E → X → Type 0) → (xs ys : List E) (s mid t : X) → InTurn R s xs mid → InTurn R mid ys t → InTurn R s (xs ++ ys) t
InTurn-join R [] ys s mid t h k = subst (λ u. InTurn R u ys t) h k
InTurn-join R (x ∷ xs) ys s mid t h k = (h.0, h.1, InTurn-join R xs ys h.0 mid t h.2 k)

pub InTurn-more : {X E : Type 0} (R : X → E → X → Type 0) → (xs : List E) (s mid t : X) (e : E) → InTurn R s xs mid → R mid e t → InTurn R s (xs ++ e ∷ []) t
InTurn-more R xs s mid t e h step = InTurn-join R xs (e ∷ []) s mid t h (t, step, refl)

-- a property of the first state and the empty list that each step keeps
pub InTurn-induction : {X E : Type 0} (R : X → E → X → Type 0) (first : X) (P : List E → X → Type 0) → P [] first
    → ((es : List E) (s t : X) (e : E) → InTurn R first es s → P es s → R s e t → P (es ++ e ∷ []) t)
    → (es : List E) (t : X) → InTurn R first es t → P es t
InTurn-induction {X} {E} R first P none more es t h = go es [] first t refl none h
  where
    go : (es before : List E) (s t : X) → InTurn R first before s → P before s → InTurn R s es t → P (before ++ es) t
    go [] before s t made holds h = subst (λ l. P l t) (sym (append-nil before)) (subst (P before) (sym h) holds)
    go (e ∷ es) before s t made holds h =
        subst (λ l. P l t) (append_assoc before (e ∷ []) es)
        (go es (before ++ e ∷ []) h.0 t (InTurn-more R before first s h.0 e made h.1) (more before s h.0 e made holds h.1) h.2)

-- where each step leaves its stamp in the state, the state has the last stamp
pub InTurn-last : {X E : Type 0} (R : X → E → X → Type 0) (clock : X → ℕ) (stamp : E → ℕ) (leaves : (s t : X) (e : E) → R s e t → clock t ≡ stamp e) → (es : List E) (s t : X) → InTurn R s es t → clock t ≡ last_or stamp (clock s) es
InTurn-last R clock stamp leaves [] s t h = ap clock h
InTurn-last R clock stamp leaves (e ∷ es) s t h =
    InTurn-last R clock stamp leaves es h.0 t h.2 ∙ ap (λ n. last_or stamp n es) (leaves s h.0 e h.1)

-- where each step also raises it, the stamps rise
pub InTurn-rises : {X E : Type 0} (R : X → E → X → Type 0) (clock : X → ℕ) (stamp : E → ℕ) (leaves : (s t : X) (e : E) → R s e t → clock t ≡ stamp e) (raises : (s t : X) (e : E) → R s e t → clock s < stamp e) → (es : List E) (s t : X) → InTurn R s es t → Rises stamp (clock s) es
InTurn-rises R clock stamp leaves raises [] s t h = tt
InTurn-rises R clock stamp leaves raises (e ∷ es) s t h =
    (raises s h.0 e h.1, subst (λ n. Rises stamp n es) (leaves s h.0 e h.1) (InTurn-rises R clock stamp leaves raises es h.0 t h.2))

pub updated-here : {X : Type 0} (f : ℕ → X) (k : ℕ) (x : X) → updated f k x k ≡ x
updated-here f k x = rw (eq-eqb k k refl)

pub updated-other : {X : Type 0} (f : ℕ → X) (k : ℕ) (x : X) (n : ℕ) → k ≢ n → updated f k x n ≡ f n
updated-other f k x n h = rw (ne_eqb k n h)

-- a state changed in a list is changed by its number
pub filled-set : {X : Type 0} (xs : List X) (f : ℕ → X) (k : ℕ) (x : X) → k < length xs → filled (set xs k x) f ≡ updated (filled xs f) k x
filled-set {X} xs f k x within = fun_ext (λ n. go n (eqb_tells k n))
  where
    go : (n : ℕ) → ((eqb k n ≡ true) × (k ≡ n)) ⊎ ((eqb k n ≡ false) × (k ≢ n)) → filled (set xs k x) f n ≡ updated (filled xs f) k x n
    go n (inl t) = rw t.0 (subst (λ m. get_or (set xs k x) m (f m) ≡ x) t.1 (get_or-set_same xs k x (f k) within))
    go n (inr t) = rw t.0 (get_or-set_other xs k n x (f n) (λ is. t.1 (sym is)))

pub last_or-append : {E : Type 0} (stamp : E → ℕ) → (n : ℕ) (xs : List E) (e : E) → last_or stamp n (xs ++ e ∷ []) ≡ stamp e
last_or-append stamp n [] e = refl
last_or-append stamp n (x ∷ xs) e = last_or-append stamp (stamp x) xs e

module _ {X E : Type 0} (number : E → ℕ) where
  -- steps of the whole are, for each number, steps of its part
  pub project : {W : Type 0} (step : W → E → W → Type 0) (R : ℕ → X → E → X → Type 0) (state : W → ℕ → X)
      (here : (w v : W) (e : E) → step w e v → R (number e) (state w (number e)) e (state v (number e)))
      (other : (w v : W) (e : E) (k : ℕ) → step w e v → number e ≢ k → state v k ≡ state w k)
      → (es : List E) (w v : W) → InTurn step w es v → (k : ℕ) → InTurn (R k) (state w k) (projection number k es) (state v k)
  project step R state here other [] w v h k = ap (λ u. state u k) h
  project step R state here other (e ∷ es) w v h k = go (eqb_tells (number e) k) (project step R state here other es h.0 v h.2 k)
    where
      go : ((eqb (number e) k ≡ true) × (number e ≡ k)) ⊎ ((eqb (number e) k ≡ false) × (number e ≢ k)) → InTurn (R k) (state h.0 k) (projection number k es) (state v k) → InTurn (R k) (state w k) (projection number k (e ∷ es)) (state v k)
      go (inl t) rest = rw t.0 (state h.0 k, subst (λ n. R n (state w n) e (state h.0 n)) t.1 (here w h.0 e h.1), rest)
      go (inr t) rest = rw t.0 (subst (λ x. InTurn (R k) x (projection number k es) (state v k)) (other w h.0 e k h.1 t.1) rest)

  -- the parts of one entry more: its own part begins with it, and the others are those of the rest
  pub peel : (R : ℕ → X → E → X → Type 0) (e : E) (es : List E) (f g : ℕ → X)
      → ((k : ℕ) → InTurn (R k) (f k) (projection number k (e ∷ es)) (g k))
      → (x : X) × R (number e) (f (number e)) e x × ((k : ℕ) → InTurn (R k) (updated f (number e) x k) (projection number k es) (g k))
  peel R e es f g h =
      let first = rw (eq-eqb (number e) (number e) refl) at (h (number e)) in
      (first.0, first.1, λ k. rest first.0 first.2 k (eqb_tells (number e) k))
    where
      rest : (x : X) → InTurn (R (number e)) x (projection number (number e) es) (g (number e)) → (k : ℕ) → ((eqb (number e) k ≡ true) × (number e ≡ k)) ⊎ ((eqb (number e) k ≡ false) × (number e ≢ k)) → InTurn (R k) (updated f (number e) x k) (projection number k es) (g k)
      rest x left k (inl t) = rw t.0 (subst (λ n. InTurn (R n) x (projection number n es) (g n)) t.1 left)
      rest x left k (inr t) = rw t.0 (rw t.0 at (h k))

  -- the last stamps after one entry more
  pub clock_more : (clock : X → ℕ) (stamp : E → ℕ) (f : ℕ → X) (before : List E) (e : E) (x : X)
      → ((k : ℕ) → clock (f k) ≡ last_or stamp 0 (projection number k before)) → clock x ≡ stamp e
      → (k : ℕ) → clock (updated f (number e) x k) ≡ last_or stamp 0 (projection number k (before ++ e ∷ []))
  clock_more clock stamp f before e x known new k = rw (filter-append (λ e. eqb (number e) k) before (e ∷ [])) (go (eqb_tells (number e) k))
    where
      go : ((eqb (number e) k ≡ true) × (number e ≡ k)) ⊎ ((eqb (number e) k ≡ false) × (number e ≢ k)) → clock (updated f (number e) x k) ≡ last_or stamp 0 (projection number k before ++ projection number k (e ∷ []))
      go (inl t) = rw t.0 (new ∙ sym (last_or-append stamp 0 (projection number k before) e))
      go (inr t) = rw (t.0, append-nil) (known k)

pub projection-here : {E : Type 0} (number : E → ℕ) (k : ℕ) (e : E) (es : List E) → number e ≡ k → projection number k (e ∷ es) ≡ e ∷ projection number k es
projection-here number k e es is = rw (eq-eqb (number e) k is)

pub projection-other : {E : Type 0} (number : E → ℕ) (k : ℕ) (e : E) (es : List E) → number e ≢ k → projection number k (e ∷ es) ≡ projection number k es
projection-other number k e es is_not = rw (ne_eqb (number e) k is_not)

pub projection-split : {E : Type 0} (number : E → ℕ) (before : List E) (e : E) (rest : List E) → projection number (number e) (before ++ e ∷ rest) ≡ projection number (number e) before ++ e ∷ projection number (number e) rest
projection-split number before e rest =
    filter-append (λ x. eqb (number x) (number e)) before (e ∷ rest) ∙ ap (λ l. projection number (number e) before ++ l) (projection-here number (number e) e rest refl)
