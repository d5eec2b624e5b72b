-- Histories whose entries stand with the stamp of their actor that was seen, listed for the instances of a topology, and the traces of its actors.
use Rattle.std.specs.Prelude.{◌≡◌, ℕ, List, map, length, Some, slice_get}
use Rattle.fp_events.specs.SystemRun as system
use Rattle.fp_tables.specs.Lookup.{Described, placed}
use Rattle.fp_tables.specs.declared.program.Program.{Program}
use Rattle.fp_events.specs.declared.event.Entry.{Entry}
use Rattle.fp_events.specs.Fits.{actor_count}
use Rattle.fp_events.specs.Run.{IsKept, IsTold}

-- the entries alone
abbrev pub entries : List (Entry × ℕ) → List Entry
entries ps = map (λ (p : Entry × ℕ). p.0) ps

-- each entry of a trace with the stamp before it, 0 before the first
abbrev pub with_stamps : List Entry → List (Entry × ℕ)
with_stamps es = system.with_before (λ (e : Entry). e.stamp) 0 es

-- each stamp is one more than the greater of the one before it, 0 before the first, and the one seen
abbrev pub IsTimed : List (Entry × ℕ) → Type 0
IsTimed ps = system.IsTimed (λ (e : Entry). e.stamp) 0 ps

-- those of an actor, and those at an instance
abbrev pub seen_by : ℕ → List (Entry × ℕ) → List (Entry × ℕ)
seen_by a ps = system.projection (λ (p : Entry × ℕ). p.0.actor) a ps

abbrev pub seen_at : ℕ → List (Entry × ℕ) → List (Entry × ℕ)
seen_at i ps = system.projection (λ (p : Entry × ℕ). p.0.instance) i ps

module _ (t : Described) (program : Program) where
  -- a timed and kept history for each instance of the topology, in its order, and a told trace for each actor: what an actor left in a history is, in
  -- order, what its trace has there, each entry with the stamp before it in the trace
  pub record AreSeen (held : List (List (Entry × ℕ))) (traces : List (List Entry)) : Type 0 where
    pub instances : length held ≡ length (placed t)
    pub actors : length traces ≡ actor_count t program
    pub timed : (k : ℕ) (ps : List (Entry × ℕ)) → slice_get held k ≡ Some ps → IsTimed ps
    pub kept : (k i : ℕ) (ps : List (Entry × ℕ)) → slice_get (placed t) k ≡ Some i → slice_get held k ≡ Some ps → IsKept t program i (entries ps)
    pub told : (a : ℕ) (es : List Entry) → slice_get traces a ≡ Some es → IsTold t program a es
    pub left : (k i a : ℕ) (ps : List (Entry × ℕ)) (es : List Entry) → slice_get (placed t) k ≡ Some i → slice_get held k ≡ Some ps →
        slice_get traces a ≡ Some es → seen_by a ps ≡ seen_at i (with_stamps es)
