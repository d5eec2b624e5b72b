-- Runs of a system, histories of its instances and traces of its actors.
use Rattle.std.specs.Prelude.{◌≡◌, ℕ, suc, max, ◌≤◌, ◌<◌, Some, List, [], ◌∷◌, ◌++◌, filter, ◌==◌, cond, Bool, get_or, flat_map, ⊤}
use Rattle.std.specs.Ordering.{nat_cmp, ordering_then, is_lt}
use Rattle.fp_events.specs.System.{System}

-- the entries are steps one after the other, from s to t
abbrev pub InTurn : {X E : Type 0} → (X → E → X → Type 0) → X → List E → X → Type 0
InTurn step s [] t = t ≡ s
InTurn {X} step s (e ∷ es) t = (mid : X) × step s e mid × InTurn step mid es t

-- the entries whose number is k
abbrev pub projection : {E : Type 0} → (E → ℕ) → ℕ → List E → List E
projection number k es = filter (λ e. number e == k) es

-- the stamp of the last entry, n where there is none
abbrev pub last_or : {E : Type 0} → (E → ℕ) → ℕ → List E → ℕ
last_or stamp n [] = n
last_or stamp n (e ∷ es) = last_or stamp (stamp e) es

-- an entry has the stamp m
abbrev pub HasStamp : {E : Type 0} → (E → ℕ) → ℕ → List E → Type 0
HasStamp {E} stamp m es = (before : List E) × (e : E) × (rest : List E) × (es ≡ before ++ e ∷ rest) × (stamp e ≡ m)

-- the stamps rise, from above n on
abbrev pub Rises : {E : Type 0} → (E → ℕ) → ℕ → List E → Type 0
Rises stamp n [] = ⊤
Rises stamp n (e ∷ es) = (n < stamp e) × Rises stamp (stamp e) es

-- each entry with the stamp before it, n before the first
abbrev pub with_before : {E : Type 0} → (E → ℕ) → ℕ → List E → List (E × ℕ)
with_before stamp n [] = []
with_before stamp n (e ∷ es) = (e, n) ∷ with_before stamp (stamp e) es

-- each stamp is one more than the greater of the one before it, n before the first, and the one seen
abbrev pub IsTimed : {E : Type 0} → (E → ℕ) → ℕ → List (E × ℕ) → Type 0
IsTimed stamp n [] = ⊤
IsTimed stamp n (p ∷ ps) = (stamp p.0 ≡ suc (max n p.1)) × IsTimed stamp (stamp p.0) ps

-- the list of this number, where there is none the empty one
abbrev pub row : {E : Type 0} → List (List E) → ℕ → List E
row rows i = get_or rows i []

-- the list that stands where this number stands among these, where there is none the empty one
abbrev pub row_of : {E : Type 0} → List ℕ → List (List E) → ℕ → List E
row_of (n ∷ ns) (es ∷ rows) i = cond (i == n) es (row_of ns rows i)
row_of _ _ i = []

-- the lists one after the other
abbrev pub joined : {E : Type 0} → List (List E) → List E
joined rows = flat_map (λ es. es) rows

-- the states of a list, by number, and those of f past its end
abbrev pub filled : {X : Type 0} → List X → (ℕ → X) → ℕ → X
filled xs f n = get_or xs n (f n)

-- the state of all instances and all actors, by number
pub record World (S A : Type 0) : Type 0 where
  pub instances : ℕ → S
  pub actors : ℕ → A

abbrev pub updated : {X : Type 0} → (ℕ → X) → ℕ → X → ℕ → X
updated f k x n = cond (k == n) x (f n)

module _ {S A Q E : Type 0} (system : System S A Q E) where
  -- the projections to an instance and to an actor
  abbrev pub at : ℕ → List E → List E
  at = projection system.instance

  abbrev pub by : ℕ → List E → List E
  by = projection system.actor

  abbrev pub opening : World S A
  opening = record { instances = system.first_instance; actors = system.first_actor }

  -- the world after an entry that leaves its instance as s and its actor as x
  abbrev pub after : World S A → E → S → A → World S A
  after w e s x = record { instances = updated w.instances (system.instance e) s; actors = updated w.actors (system.actor e) x }

  -- the instance part and the actor part both hold for the entry and its actor's due ask
  pub record Step (w : World S A) (e : E) (v : World S A) : Type 0 where
    pub ask : Q
    pub s : S
    pub x : A
    pub due : system.due (system.actor e) (w.actors (system.actor e)) ≡ Some (system.instance e, ask)
    pub instance_part : system.instance_part (system.instance e) (w.instances (system.instance e)) (system.actor e) ask (system.actor_stamp (w.actors (system.actor e))) ≡ Some (e, s)
    pub actor_part : system.actor_part (system.actor e) (w.actors (system.actor e)) e ≡ Some x
    pub within : system.stamp e ≤ system.steps
    pub next : v ≡ after w e s x

  -- the instance part holds for some ask and some last stamp of the actor
  pub record InstanceStep (i : ℕ) (s : S) (e : E) (t : S) : Type 0 where
    pub ask : Q
    pub seen : ℕ
    pub part : system.instance_part i s (system.actor e) ask seen ≡ Some (e, t)
    pub within : system.stamp e ≤ system.steps

  -- the actor part holds for some last stamp of the instance
  pub record ActorStep (a : ℕ) (x : A) (e : E) (z : A) : Type 0 where
    pub seen : ℕ
    pub part : system.actor_part a x e ≡ Some z
    pub stamp : system.stamp e ≡ suc (max seen (system.actor_stamp x))

  abbrev pub Run : World S A → List E → World S A → Type 0
  Run = InTurn Step

  abbrev pub IsRun : List E → Type 0
  IsRun es = (v : World S A) × Run opening es v

  -- a history of the instance, and what it leaves
  abbrev pub Kept : ℕ → List E → S → Type 0
  Kept i es t = InTurn (InstanceStep i) (system.first_instance i) es t

  abbrev pub IsKept : ℕ → List E → Type 0
  IsKept i es = (t : S) × Kept i es t

  -- a trace of the actor, and what it leaves
  abbrev pub Told : ℕ → List E → A → Type 0
  Told a es z = InTurn (ActorStep a) (system.first_actor a) es z

  abbrev pub IsTold : ℕ → List E → Type 0
  IsTold a es = (z : A) × Told a es z

  -- Lamport's clock: each stamp is one more than the greater of the last ones before it at its instance and by its actor, 0 where there is none
  abbrev pub IsStamped : List E → Type 0
  IsStamped es = (e : E) (before rest : List E) → es ≡ before ++ e ∷ rest →
      system.stamp e ≡ suc (max (last_or system.stamp 0 (at (system.instance e) before)) (last_or system.stamp 0 (by (system.actor e) before)))

  -- the entries of an actor in a history are those at the instance in the trace, in order, and each stamp is one more than the greater of those just before it
  pub record Agree (histories traces : ℕ → List E) : Type 0 where
    pub entries : (i a : ℕ) → by a (histories i) ≡ at i (traces a)
    pub stamps : (e : E) (earlier later before rest : List E) →
        histories (system.instance e) ≡ earlier ++ e ∷ later → traces (system.actor e) ≡ before ++ e ∷ rest →
        system.stamp e ≡ suc (max (last_or system.stamp 0 earlier) (last_or system.stamp 0 before))

  -- a history for each instance and a trace for each actor, which agree and leave the world v
  pub record Mergeable (histories traces : ℕ → List E) (v : World S A) : Type 0 where
    pub kept : (i : ℕ) → Kept i (histories i) (v.instances i)
    pub told : (a : ℕ) → Told a (traces a) (v.actors a)
    pub agree : Agree histories traces

  -- by stamp and then actor
  abbrev pub entry_lt : E → E → Bool
  entry_lt e f = is_lt (ordering_then (nat_cmp (system.stamp e) (system.stamp f)) (nat_cmp (system.actor e) (system.actor f)))

  -- from this world no step within the limit exists
  abbrev pub IsStuck : World S A → Type 0
  IsStuck w = (e : E) (v : World S A) → Step w e v → ⊥

  -- each actor's due ask has no answer, or one with a stamp above the limit
  abbrev pub NoDueStep : World S A → Type 0
  NoDueStep w = (a i : ℕ) (ask : Q) (s : S) (e : E) → system.due a (w.actors a) ≡ Some (i, ask) →
      system.instance_part i (w.instances i) a ask (system.actor_stamp (w.actors a)) ≡ Some (e, s) → system.steps < system.stamp e

  -- no entry goes on from the list as a run
  abbrev pub IsEnded : List E → Type 0
  IsEnded es = (e : E) → IsRun (es ++ e ∷ []) → ⊥

  -- histories whose entries stand with the stamp of their actor that was seen, and traces: what an actor left in a history is, in order, what its trace has there, each entry with the stamp before it in the trace
  pub record IsSeen (held : ℕ → List (E × ℕ)) (traces : ℕ → List E) : Type 0 where
    pub timed : (i : ℕ) → IsTimed system.stamp 0 (held i)
    pub left : (i a : ℕ) → projection (λ p. system.actor p.0) a (held i) ≡ projection (λ p. system.instance p.0) i (with_before system.stamp 0 (traces a))
