-- The edges between handlers, their actions, and guards and turns.
use Rattle.std.specs.Prelude.{ℕ, suc, Bool, true, cond, List, [], ◌∷◌, ◌++◌, flat_map, Option, Some, None}
use Rattle.fp_tables.specs.Lookup.{Described}
use Rattle.fp_tables.specs.declared.program.Act.{Act}
use Rattle.fp_tables.specs.declared.program.Handler.{Handler as Handled}
use Rattle.fp_reach.specs.declared.node.Node.{Node}
use Rattle.fp_reach.specs.declared.node.Node.TheVariants.{At, Implied}
use Rattle.fp_reach.specs.declared.node.Arrival.{Arrival}
use Rattle.fp_reach.specs.declared.node.Lock.{Lock as Held}
use Rattle.fp_reach.specs.declared.node.Lock.TheVariants.{Guard, Turn}
use Rattle.fp_reach.specs.declared.vertex.Vertex.{Vertex}
use Rattle.fp_reach.specs.declared.vertex.Vertex.TheVariants.{Handler, Action, Lock}
use Rattle.fp_reach.specs.Nodes.{leads, guards, led, taken, opens, sends}

-- turns, and guards too
abbrev pub counts : Bool → Held → Bool
counts with_guards (Turn i) = true
counts with_guards (Guard i) = with_guards

abbrev pub leading : Vertex → Option Node → List (Vertex × Vertex)
leading from None = []
leading from (Some v) = (from, Handler v) ∷ []

abbrev pub taking : Bool → Vertex → Option Held → List (Vertex × Vertex)
taking with_guards from None = []
taking with_guards from (Some m) = cond (counts with_guards m) ((from, Lock m) ∷ []) []

abbrev pub opening : Bool → Node → Option Held → List (Vertex × Vertex)
opening with_guards u None = []
opening with_guards u (Some m) = cond (counts with_guards m) ((Lock m, Handler u) ∷ []) []

module _ (t : Described) (with_guards : Bool) where
  -- from what is sent by the implied handler of a set or save command
  abbrev pub sending : Node → Arrival → List (Vertex × Vertex)
  sending u x = leading (Handler u) (leads t x) ++ taking with_guards (Handler u) (guards t x)

  abbrev pub going_on : Option Node → List (Vertex × Vertex)
  going_on (Some (Implied i n)) = flat_map (sending (Implied i n)) (sends t i n)
  going_on _ = []

  -- to and from an action
  abbrev pub of_act : ℕ → Handled → ℕ → Act → List (Vertex × Vertex)
  of_act n h k a =
      (Handler (At h.instance h.place), Action n k) ∷ (leading (Action n k) (led t h.instance a) ++ taking with_guards (Action n k) (taken t h.instance a) ++ going_on (led t h.instance a))

  abbrev pub acts_from : ℕ → Handled → ℕ → List Act → List (Vertex × Vertex)
  acts_from n h k [] = []
  acts_from n h k (a ∷ rest) = of_act n h k a ++ acts_from n h (suc k) rest

  abbrev pub of_handler : ℕ → Handled → List (Vertex × Vertex)
  of_handler n h = opening with_guards (At h.instance h.place) (opens t h.instance h.place) ++ acts_from n h 0 h.acts

  abbrev pub handlers_from : ℕ → List Handled → List (Vertex × Vertex)
  handlers_from n [] = []
  handlers_from n (h ∷ hs) = of_handler n h ++ handlers_from (suc n) hs
