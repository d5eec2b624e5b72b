-- The state of an actor: a caller of the scenario, or the dispatcher of an active instance.
use Rattle.std.specs.Prelude.{ℕ, Bool, false, List, [], ◌∷◌, map, Option, Some, None, slice_get}
use Rattle.fp_base.specs.declared.value.Value.{Value}
use Rattle.fp_tables.specs.declared.component.Special.{Special}
use Rattle.fp_tables.specs.declared.program.Act.{Act}
use Rattle.fp_tables.specs.declared.program.Caller.{Caller}
use Rattle.fp_tables.specs.declared.program.Program.{Program}

-- values by their names, the latest first
abbrev pub Bindings : Type 0
Bindings = List (List ℕ × Value)

-- an action that is left in a frame: one of a handler; a send, which is an arrival from a special port, with its note; an advance of a machine instance on a
-- signal with its value
pub data Action : Type 0 where
  act : Act → Action
  send : Special → List ℕ → Action
  advance : ℕ → ℕ → Option Value → Action

-- what is left of a list of actions, with its bindings
pub record Doing : Type 0 where
  pub actions : List Action
  pub bound : Bindings

-- how a frame was opened: as a caller's own list; by an arrival, with the value that is returned where no action returns one, and the name to which the call
-- below binds it; by a take
pub data Opened : Type 0 where
  own : Opened
  arrived : Option Value → Option (List ℕ) → Opened
  taken : Opened

-- a caller's own list stands at no instance: its number there means nothing
pub record Frame : Type 0 where
  pub instance : ℕ
  -- the list that is worked on first
  pub doing : List Doing
  pub opened : Opened

-- what an actor has beside its last stamp
pub record Thread : Type 0 where
  -- the innermost first
  pub frames : List Frame
  pub halted : Bool

pub record ActorState : Type 0 where
  pub thread : Thread
  pub last : ℕ

-- at the opening a caller has its own list, and a dispatcher no frame
abbrev pub first_frames : Program → ℕ → List Frame
first_frames program a = frames_of (slice_get program.callers a)
  where
    frames_of : Option Caller → List Frame
    frames_of None = []
    frames_of (Some c) = record { instance = 0; doing = record { actions = map act c.acts; bound = [] } ∷ []; opened = own } ∷ []

abbrev pub opened_actor : Program → ℕ → Thread
opened_actor program a = record { frames = first_frames program a; halted = false }
