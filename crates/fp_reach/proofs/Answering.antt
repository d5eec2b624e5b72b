-- What the vertices that are on cycles say of a program.
use Rattle.std.proofs.Common.{ℕ, Bool, true, false, List, Some, None}
use Rattle.fp_tables.specs.Lookup.{Described}
use Rattle.fp_tables.specs.declared.program.Program.{Program}
use Rattle.fp_reach.specs.declared.vertex.Vertex.{Vertex}
use Rattle.fp_reach.specs.declared.vertex.Vertex.TheVariants.{Action}
use Rattle.fp_reach.specs.declared.cycles.Ring.{Ring}
use Rattle.fp_reach.specs.declared.cycles.Cycle.TheVariants.{Synchronous, Locks}
use Rattle.fp_reach.specs.Reaching.{Reaches}
use Rattle.fp_reach.specs.Rings.{Step}
use Rattle.fp_reach.specs.Vertices.{handlers_from}
use Rattle.fp_reach.specs.Found.{IsRing}
use Rattle.fp_reach.specs.Cycles.{IsCycle, HasNoCycle}
use Rattle.fp_reach.proofs.Amid.{reaches_each}
use Rattle.fp_reach.proofs.Vertices.{Goes, listed_goes, goes_listed}
use Rattle.fp_reach.proofs.Following.{cycle_round, holds_round, on_cycle, on_lock_cycle, acts_on}

module _ (t : Described) (program : Program) where
  abbrev pub edges : Bool → List (Vertex × Vertex)
  edges b = handlers_from t b 0 program.handlers

  goes_of : (b : Bool) (n k : ℕ) → Reaches (Step (edges b)) (Action n k) (Action n k) → Reaches (Goes t program b) (Action n k) (Action n k)
  goes_of b n k p = reaches_each (listed_goes t program b) p

  steps_of : (b : Bool) (n k : ℕ) → Reaches (Goes t program b) (Action n k) (Action n k) → Reaches (Step (edges b)) (Action n k) (Action n k)
  steps_of b n k p = reaches_each (goes_listed t program b) p

  no_cycle : IsRing (edges false) None → HasNoCycle t program
  no_cycle none = λ u p. let r = cycle_round t program false u p in none r.0 r.1 (steps_of false r.0 r.1 r.2)

  pub is_synchronous : (ring : Ring) → IsRing (edges false) (Some ring) → IsCycle t program (Some (Synchronous ring))
  is_synchronous ring p =
      let q = goes_of false ring.handler ring.action p in
      let s = acts_on t program false ring.handler ring.action q in
      (s.0, s.1, s.2, on_cycle t program ring.handler ring.action s.0 s.1 s.2 q)

  pub is_of_locks : (ring : Ring) → IsRing (edges false) None → IsRing (edges true) (Some ring) → IsCycle t program (Some (Locks ring))
  is_of_locks ring none p =
      let q = goes_of true ring.handler ring.action p in
      let s = acts_on t program true ring.handler ring.action q in
      (no_cycle none, (s.0, s.1, s.2, on_lock_cycle t program ring.handler ring.action s.0 s.1 s.2 (no_cycle none) q))

  pub is_none : IsRing (edges false) None → IsRing (edges true) None → IsCycle t program None
  is_none none no_locks = (no_cycle none, λ l p. let r = holds_round t program l p in no_locks r.0 r.1 (steps_of true r.0 r.1 r.2))
