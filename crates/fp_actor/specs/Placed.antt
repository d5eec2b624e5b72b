-- How levels stand over one another, with all places before the end of the trace.
use Rattle.std.specs.Prelude.{◌≡◌, ◌<◌, ℕ, true, is_some, List, [], ◌∷◌, ◌++◌, length, take, Some, slice_get}
use Rattle.fp_tables.specs.Lookup.{Described}
use Rattle.fp_tables.specs.declared.program.Program.{Program}
use Rattle.fp_events.specs.declared.event.Entry.{Entry}
use Rattle.fp_events.specs.Actor.{Thread}
use Rattle.fp_events.specs.Follows.{follows}
use Rattle.fp_actor.specs.declared.level.Source.{Source}
use Rattle.fp_actor.specs.declared.level.Source.TheVariants as source
use Rattle.fp_actor.specs.declared.level.Base.{Base}
use Rattle.fp_actor.specs.declared.level.Base.TheVariants as base
use Rattle.fp_actor.specs.declared.level.Level.{Level}
use Rattle.fp_actor.specs.declared.level.Binding.{Binding}
use Rattle.fp_actor.specs.Stacked.{lists_in, frames}
use Rattle.fp_actor.specs.Levels.{IsWithin, AreUpTo}

abbrev pub IsBefore : ℕ → Source → Type 0
IsBefore n source.Own = Unit {0}
IsBefore n (source.Entry k m) = (k < n) × (m < n)

abbrev pub IsBaseBefore : ℕ → Base → Type 0
IsBaseBefore n (base.Arrived (Some p)) = IsBefore n p.source
IsBaseBefore n _ = Unit {0}

-- the places of all levels are among the first n entries
abbrev pub AreBefore : ℕ → List Level → Type 0
AreBefore n ls = (k : ℕ) (l : Level) → slice_get ls k ≡ Some l → IsBaseBefore n l.base × IsBefore n l.next.source

-- the places of all bindings are among the first n entries
abbrev pub AreBoundBefore : ℕ → List Binding → Type 0
AreBoundBefore n bs = (k : ℕ) (b : Binding) → slice_get bs k ≡ Some b → IsBefore n b.name.source × (b.value < n)

-- a level that begins a frame
abbrev pub IsBeginning : Base → Type 0
IsBeginning base.Inside = ⊥
IsBeginning _ = Unit {0}

module _ (t : Described) (program : Program) (number : ℕ) (trace : List Entry) where
  -- the list of this level in which a value is bound is there
  abbrev pub HasList : Level → Type 0
  HasList l = is_some (slice_get (lists_in t program number trace l.next.source) l.next.list) ≡ true

  -- a level over those: its bindings are among the first n, and those of the others come no later; its places are in the trace; and where it begins a
  -- frame, what the frame returns can be bound below
  pub record Stands (n : ℕ) (lower : List Level) (l : Level) : Type 0 where
    pub within : IsWithin n l
    pub lowest : AreUpTo l.past lower
    pub opened : IsBaseBefore (length trace) l.base
    pub placed : IsBefore (length trace) l.next.source
    pub below : IsBeginning l.base → (under : List Level) (m : Level) → lower ≡ under ++ m ∷ [] → HasList m

  -- each level stands so over those below it
  abbrev pub AreStanding : ℕ → List Level → Type 0
  AreStanding n ls = (k : ℕ) (l : Level) → slice_get ls k ≡ Some l → Stands n (take k ls) l

  pub record AreKept (bindings : List Binding) (ls : List Level) : Type 0 where
    pub standing : AreStanding (length bindings) ls
    pub bound : AreBoundBefore (length trace) bindings

  -- levels and bindings after an entry: their frames are those that follow, and they are kept so
  pub record Goes (e : Entry) (old_bindings : List Binding) (old : List Level) (bindings : List Binding) (ls : List Level) : Type 0 where
    pub follow : (x : Thread) → x.frames ≡ frames t program number trace old_bindings old → frames t program number trace bindings ls ≡ (follows t program e.instance x e.what).frames
    pub kept : AreKept bindings ls
