-- Runs of a topology by a program, the histories of its instances and the traces of its actors.
use Rattle.std.specs.Prelude.{◌≡◌, ◌<◌, ℕ, suc, max, Bool, true, List, ◌∷◌, ◌++◌, length}
use Rattle.std.specs.List.{range_with_len}
use Rattle.std.specs.Ordering.{nat_cmp, ordering_then, is_lt}
use Rattle.fp_events.specs.SystemRun as system
use Rattle.fp_tables.specs.Lookup.{Described, placed}
use Rattle.fp_tables.specs.declared.program.Program.{Program}
use Rattle.fp_events.specs.declared.event.Entry.{Entry}
use Rattle.fp_events.specs.Instance.{InstanceState}
use Rattle.fp_events.specs.Actor.{ActorState}
use Rattle.fp_events.specs.Fits.{actor_count}
use Rattle.fp_tables.specs.Acts.{is_placed}
use Rattle.fp_events.specs.Step.{core}

-- the state of all instances and all actors
abbrev pub World : Type 0
World = system.World InstanceState ActorState

-- the entries at an instance, and those of an actor
abbrev pub at : ℕ → List Entry → List Entry
at i es = system.projection (λ e. e.instance) i es

abbrev pub by : ℕ → List Entry → List Entry
by a es = system.projection (λ e. e.actor) a es

-- the stamp of the last entry, 0 where there is none
abbrev pub last_stamp : List Entry → ℕ
last_stamp es = system.last_or (λ e. e.stamp) 0 es

-- the stamps rise, and none is 0
abbrev pub IsRising : List Entry → Type 0
IsRising es = system.Rises (λ e. e.stamp) 0 es

-- the order of a log: by stamp and then actor
abbrev pub entry_lt : Entry → Entry → Bool
entry_lt e f = is_lt (ordering_then (nat_cmp e.stamp f.stamp) (nat_cmp e.actor f.actor))

-- an entry has this stamp
abbrev pub HasStamp : ℕ → List Entry → Type 0
HasStamp n es = system.HasStamp (λ e. e.stamp) n es

module _ (t : Described) (program : Program) where
  -- the numbers of the actors: the callers, and then a dispatcher for each active instance
  abbrev pub actors : List ℕ
  actors = range_with_len 0 (actor_count t program)

  abbrev pub opening : World
  opening = system.opening (core t program)

  -- the entries are steps one after the other on the state of all instances and actors, from the opening to this state, none with a stamp above the limit
  abbrev pub RunTo : List Entry → World → Type 0
  RunTo es w = system.Run (core t program) opening es w

  abbrev pub IsRun : List Entry → Type 0
  IsRun es = (w : World) × RunTo es w

  -- a history of the instance: the instance parts hold in turn from the opening, for some asks and some last stamps of the actors, no stamp being above
  -- the limit
  abbrev pub IsKept : ℕ → List Entry → Type 0
  IsKept i es = system.IsKept (core t program) i es

  -- a trace of the actor: the actor parts hold in turn from the opening, for some last stamps of the instances
  abbrev pub IsTold : ℕ → List Entry → Type 0
  IsTold a es = system.IsTold (core t program) a es

  -- histories and traces, by the numbers of instances and actors: the entries of an actor in a history are, in order, those at the instance in the trace,
  -- and each stamp is one more than the greater of the stamps just before it in its history and in its trace, 0 where there is none
  pub record Agree (histories traces : ℕ → List Entry) : Type 0 where
    pub entries : (i a : ℕ) → by a (histories i) ≡ at i (traces a)
    pub stamps : (e : Entry) (earlier later before rest : List Entry) →
        histories e.instance ≡ earlier ++ e ∷ later → traces e.actor ≡ before ++ e ∷ rest → e.stamp ≡ suc (max (last_stamp earlier) (last_stamp before))

  -- of a list with a history for each instance of the topology, in its order, the one of this instance
  abbrev pub history : List (List Entry) → ℕ → List Entry
  history rows i = system.row_of (placed t) rows i

  -- of a list with a trace for each actor the one of this actor
  abbrev pub trace : List (List Entry) → ℕ → List Entry
  trace rows a = system.row rows a

  -- one kept history for each instance of the topology and one told trace for each actor, which agree
  pub record AreRecords (histories traces : List (List Entry)) : Type 0 where
    pub instances : length histories ≡ length (placed t)
    pub actors : length traces ≡ actor_count t program
    pub kept : (i : ℕ) → is_placed t i ≡ true → IsKept i (history histories i)
    pub told : (a : ℕ) → a < actor_count t program → IsTold a (trace traces a)
    pub entries : (i a : ℕ) → is_placed t i ≡ true → a < actor_count t program → by a (history histories i) ≡ at i (trace traces a)
    pub stamps : (e : Entry) (earlier later before rest : List Entry) →
        history histories e.instance ≡ earlier ++ e ∷ later → trace traces e.actor ≡ before ++ e ∷ rest → e.stamp ≡ suc (max (last_stamp earlier) (last_stamp before))
