-- The graph of handlers, and that of guards and turns, with the actions that are on their cycles. Scenarios are this profile's own.
use Rattle.std.specs.Prelude.{◌≡◌, ℕ, slice_get, Option, Some, None}
use Rattle.fp_graph.specs.Visits.{Among}
use Rattle.fp_tables.specs.Lookup.{Described}
use Rattle.fp_tables.specs.declared.program.Act.{Act}
use Rattle.fp_tables.specs.declared.program.Verb.TheVariants as verb
use Rattle.fp_tables.specs.declared.program.Spot.{Spot}
use Rattle.fp_tables.specs.declared.program.Handler.{Handler}
use Rattle.fp_tables.specs.declared.program.Program.{Program}
use Rattle.fp_reach.specs.declared.node.Node.{Node}
use Rattle.fp_reach.specs.declared.node.Node.TheVariants.{At, Implied}
use Rattle.fp_reach.specs.declared.node.Arrival.{Arrival}
use Rattle.fp_reach.specs.declared.node.Lock.{Lock}
use Rattle.fp_reach.specs.declared.node.Lock.TheVariants.{Turn}
use Rattle.fp_reach.specs.declared.cycles.Cycle.{Cycle}
use Rattle.fp_reach.specs.declared.cycles.Cycle.TheVariants.{Synchronous, Locks}
use Rattle.fp_reach.specs.Nodes.{leads, led, guards, taken, opens, sends}
use Rattle.fp_reach.specs.Reaching.{Reaches, Comes}

module _ (t : Described) where
  -- the handlers to which an action of a handler of the instance leads: that of what arrives, and by `dispatch` each asynchronous one
  pub data ActLeads (i : ℕ) (a : Act) : Node → Type 0 where
    arriving : {v : Node} → led t i a ≡ Some v → ActLeads i a v
    dispatching : {place : Spot} → a.verb ≡ verb.Dispatch → opens t i place ≡ Some (Turn i) → ActLeads i a (At i place)

  module _ (program : Program) where
    -- the handler of the program with a position has an action at another one
    pub record Acts (n k : ℕ) (h : Handler) (a : Act) : Type 0 where
      pub handler : slice_get program.handlers n ≡ Some h
      pub action : slice_get h.acts k ≡ Some a

    -- ---- handlers

    -- what a handler's actions lead to, and a set or save command's sends
    pub data Edge : Node → Node → Type 0 where
      of_action : {n k : ℕ} {h : Handler} {a : Act} {v : Node} → Acts n k h a → ActLeads h.instance a v → Edge (At h.instance h.place) v
      of_sending : {i n : ℕ} {v : Node} (x : Arrival) → Among (sends t i n) x → leads t x ≡ Some v → Edge (Implied i n) v

    -- no handler leads to itself, perhaps through others
    abbrev pub HasNoCycle : Type 0
    HasNoCycle = (u : Node) → Reaches Edge u u → ⊥

    -- an action leads on along a cycle
    abbrev pub IsOnCycle : Handler → Act → Type 0
    IsOnCycle h a = (v : Node) × ActLeads h.instance a v × Comes Edge v (At h.instance h.place)

    -- ---- guards and turns

    -- what a handler's actions take, and a set or save command's sends
    pub data Takes : Node → Lock → Type 0 where
      action_takes : {n k : ℕ} {h : Handler} {a : Act} {m : Lock} → Acts n k h a → taken t h.instance a ≡ Some m → Takes (At h.instance h.place) m
      sending_takes : {i n : ℕ} {m : Lock} (x : Arrival) → Among (sends t i n) x → guards t x ≡ Some m → Takes (Implied i n) m

    -- a handler that opens with the one held reaches what takes the other
    pub data Holds : Lock → Lock → Type 0 where
      holds : {l m : Lock} {v : Node} (i : ℕ) (place : Spot) → opens t i place ≡ Some l → Comes Edge (At i place) v → Takes v m → Holds l m

    abbrev pub HasNoLockCycle : Type 0
    HasNoLockCycle = (l : Lock) → Reaches Holds l l → ⊥

    -- what an action takes itself or through what it leads to
    pub data TakesAlong (i : ℕ) (a : Act) (m : Lock) : Type 0 where
      itself : taken t i a ≡ Some m → TakesAlong i a m
      through : {v w : Node} → ActLeads i a v → Comes Edge v w → Takes w m → TakesAlong i a m

    -- an action is reached from what opens with one of the cycle held, and goes on to take the next
    pub record IsOnLockCycle (h : Handler) (a : Act) : Type 0 where
      pub lock : Lock
      pub instance : ℕ
      pub place : Spot
      pub opening : opens t instance place ≡ Some lock
      pub reached : Comes Edge (At instance place) (At h.instance h.place)
      pub next : Lock
      pub taken : TakesAlong h.instance a next
      pub back : Comes Holds next lock

    -- ---- what is found

    -- no cycle, or an action on one; of guards and turns only where there is none of handlers
    abbrev pub IsCycle : Option Cycle → Type 0
    IsCycle None = HasNoCycle × HasNoLockCycle
    IsCycle (Some (Synchronous ring)) = (h : Handler) × (a : Act) × Acts ring.handler ring.action h a × IsOnCycle h a
    IsCycle (Some (Locks ring)) = HasNoCycle × ((h : Handler) × (a : Act) × Acts ring.handler ring.action h a × IsOnLockCycle h a)
