-- How the cells and the actors of a run stand after its entries.
use Rattle.std.specs.Prelude.{◌≡◌, ◌≢◌, ℕ, Bool, List, length, Some, slice_get}
use Rattle.fp_tables.specs.Lookup.{Described, placed}
use Rattle.fp_tables.specs.Sound.{IsSoundFor}
use Rattle.fp_tables.specs.SoundPrograms.{IsSoundProgram}
use Rattle.fp_tables.specs.declared.program.Program.{Program}
use Rattle.fp_events.specs.declared.event.Entry.{Entry}
use Rattle.fp_events.specs.Fits.{actor_count}
use Rattle.fp_events.specs.Run.{World, at, by, RunTo}
use Rattle.fp_actor.specs.Acting.{Acting}
use Rattle.fp_cell.specs.Cells.{Standing}
use Rattle.fp_running.specs.Progress.{Progress}

-- an actor, the cells, and the entries done so far
pub record Scene : Type 0 where
  pub actor : Acting
  pub cells : List Standing
  pub entries : List Entry

module _ (t : Described) (p : Program) where
  abbrev pub progress : List Entry → Progress
  progress es = record { tables = t; program = p; entries = es }

  -- the cell of an instance after the entries, which leave this world
  abbrev pub cell_of : List Entry → World → ℕ → Standing
  cell_of es w i = record { seat = record { tables = t; program = p; instance = i }; state = w.instances i; history = at i es }

  -- the actor of a number, with room or not
  abbrev pub actor_of : List Entry → World → ℕ → Bool → Acting
  actor_of es w n room = record { tables = t; program = p; number = n; state = w.actors n; trace = by n es; has_room = room }

  -- a cell for each instance of the topology, in its order
  pub record AreCells (es : List Entry) (w : World) (cells : List Standing) : Type 0 where
    pub each : (k i : ℕ) (c : Standing) → slice_get (placed t) k ≡ Some i → slice_get cells k ≡ Some c → c ≡ cell_of es w i
    pub count : length cells ≡ length (placed t)

  -- each actor at its number
  pub record AreActors (es : List Entry) (w : World) (actors : List Acting) : Type 0 where
    pub each : (n : ℕ) (x : Acting) → slice_get actors n ≡ Some x → x ≡ actor_of es w n x.has_room
    pub count : length actors ≡ actor_count t p

  -- what the runner keeps
  pub record IsSet (es : List Entry) (cs : List Standing) (xs : List Acting) : Type 0 where
    pub sound : IsSoundFor t.model (Some t.topology)
    pub good : IsSoundProgram t p
    pub world : World
    pub run : RunTo t p es world
    pub cells : AreCells es world cs
    pub actors : AreActors es world xs

  module _ (n : ℕ) where
    -- the actor n and the cells stand so
    pub record Stands (s : Scene) (w : World) : Type 0 where
      pub run : RunTo t p s.entries w
      pub cells : AreCells s.entries w s.cells
      pub actor : s.actor ≡ actor_of s.entries w n s.actor.has_room

    -- and so after a turn of it, in which no other actor changes
    pub record StandsOn (old : Scene) (w : World) (new : Scene) : Type 0 where
      pub world : World
      pub stands : Stands new world
      pub states : (m : ℕ) → n ≢ m → world.actors m ≡ w.actors m
      pub traces : (m : ℕ) → n ≢ m → by m new.entries ≡ by m old.entries
