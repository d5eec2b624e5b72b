-- What a state machine does: how it starts, and how it moves on a signal.
use Rattle.std.specs.Prelude.{◌≡◌, ◌<◌, ℕ, zero, suc, Bool, true, cond, not, ◌&&◌, ◌==◌, List, [], ◌∷◌, ◌++◌, filter, find, reverse, flat_map, length, get_or, set, replicate, Option, Some, None, option_map, option_and_then, unwrap_or, slice_get}
use Rattle.std.specs.Option.{option_or}
use Rattle.fp_tables.specs.Lists.{is_in}
use Rattle.fp_tables.specs.declared.machine.Machine.{Machine}
use Rattle.fp_tables.specs.declared.machine.Vertex.{Vertex}
use Rattle.fp_tables.specs.declared.machine.Node.{Node}
use Rattle.fp_tables.specs.declared.machine.Node.TheVariants.{State, Choice}
use Rattle.fp_tables.specs.declared.machine.Step.{Step}
use Rattle.fp_tables.specs.declared.machine.On.{On}

-- a started machine: its leaf and, for each guard, how often it was asked
pub record Configuration : Type 0 where
  pub leaf : ℕ
  pub asked : List ℕ

-- the actions that stand on the way of a start or a move, in order, and where it ends
pub record Walk : Type 0 where
  pub actions : List ℕ
  pub reached : Configuration

abbrev pub stays : List ℕ → ℕ → List ℕ → Walk
stays actions leaf asked = record { actions = actions; reached = record { leaf = leaf; asked = asked } }

-- these actions, and then the walk
abbrev pub first_these : List ℕ → Walk → Walk
first_these actions w = record { actions = actions ++ w.actions; reached = w.reached }

-- initial transitions and branches have a target
abbrev pub target_of : Step → ℕ
target_of step = unwrap_or step.target 0

-- the answer to the k-th asking, from 0 on: after the last one the last again, true where there is none
abbrev pub answer_at : List Bool → ℕ → Bool
answer_at [] k = true
answer_at (b ∷ []) k = b
answer_at (b ∷ c ∷ rest) zero = b
answer_at (b ∷ c ∷ rest) (suc k) = answer_at (c ∷ rest) k

abbrev pub entry_of : Node → List ℕ
entry_of (State initial entry exit transitions) = entry
entry_of (Choice guard positive negative) = []

abbrev pub exit_of : Node → List ℕ
exit_of (State initial entry exit transitions) = exit
exit_of (Choice guard positive negative) = []

abbrev pub transitions_of : Node → List On
transitions_of (State initial entry exit transitions) = transitions
transitions_of (Choice guard positive negative) = []

module _ (m : Machine) where
  abbrev pub node : ℕ → Option Node
  node v = option_map (λ (x : Vertex). x.node) (slice_get m.vertices v)

  abbrev pub parent : ℕ → Option ℕ
  parent v = option_and_then (λ (x : Vertex). x.parent) (slice_get m.vertices v)

  -- a vertex and those that contain it, upward, at most as many as the first argument says
  abbrev pub climb : ℕ → Option ℕ → List ℕ
  climb zero v = []
  climb (suc n) None = []
  climb (suc n) (Some v) = v ∷ climb n (parent v)

  -- all of them, since a machine has no more vertices than it lists
  abbrev pub upward : Option ℕ → List ℕ
  upward v = climb (length m.vertices) v

  abbrev pub lists : (Node → List ℕ) → List ℕ → List ℕ
  lists of vs = flat_map (λ v. unwrap_or (option_map of (node v)) []) vs

  -- the actions of one crossing: the exit lists of `source` upward, as far as and not including the innermost state that properly contains both
  -- ends, then the step's actions, then the entry lists below that state down to the target. `around` has the states that properly contain the
  -- place where the step is declared, and all lists of states go upward. A choice has no entry list
  abbrev pub crossing : List ℕ → List ℕ → List ℕ → ℕ → List ℕ
  crossing around source actions target =
      let inside : ℕ → Bool = λ v. not (is_in v around && is_in v (upward (parent target))) in
      lists exit_of (filter inside source) ++ actions ++ lists entry_of (reverse (filter inside (upward (Some target))))

  -- the transition on a signal of the nearest of these states, and that state
  abbrev pub nearest : ℕ → List ℕ → Option (ℕ × On)
  nearest signal [] = None
  nearest signal (v ∷ vs) = option_or (option_map (λ o. (v, o)) (option_and_then (λ x. find (λ o. o.signal == signal) (transitions_of x)) (node v))) (nearest signal vs)

  -- no guard was asked yet
  abbrev pub unasked : List ℕ
  unasked = replicate (length m.guards) 0

  -- each initial transition and each branch goes to a vertex of lower rank
  pub record IsRanked (rank : ℕ → ℕ) : Type 0 where
    pub initial : (v : ℕ) (step : Step) (entry exit : List ℕ) (transitions : List On) → node v ≡ Some (State (Some step) entry exit transitions) → rank (target_of step) < rank v
    pub branches : (v guard : ℕ) (positive negative : Step) → node v ≡ Some (Choice guard positive negative) → (rank (target_of positive) < rank v) × (rank (target_of negative) < rank v)

module _ (m : Machine) (answers : ℕ → List Bool) where
  abbrev pub answer : List ℕ → ℕ → Bool
  answer asked guard = answer_at (answers guard) (get_or asked guard 0)

  abbrev pub ask : List ℕ → ℕ → List ℕ
  ask asked guard = set asked guard (suc (get_or asked guard 0))

  -- on from a target: by the initial transition of a state that has one, by the branch of a choice that its guard tells
  abbrev pub onward : (List ℕ → List ℕ → Step → List ℕ → Walk) → ℕ → List ℕ → Option Node → Walk
  onward again target asked None = stays [] target asked
  onward again target asked (Some (State None entry exit transitions)) = stays [] target asked
  onward again target asked (Some (State (Some initial) entry exit transitions)) = again (upward m (Some target)) (upward m (Some target)) initial asked
  onward again target asked (Some (Choice guard positive negative)) =
      again (upward m (parent m target)) (upward m (parent m target)) (cond (answer asked guard) positive negative) (ask asked guard)

  -- to the target of a step, and on from there. No vertex comes twice on the way, since initial transitions go inward and choices don't go
  -- round: so as many crossings as there are vertices, which the first argument counts, are enough
  abbrev pub goes : ℕ → List ℕ → List ℕ → Step → List ℕ → Walk
  goes zero around source step asked = stays [] (target_of step) asked
  goes (suc n) around source step asked = first_these (crossing m around source step.actions (target_of step)) (onward (goes n) (target_of step) asked (node m (target_of step)))

  -- a transition that state v declares, with the leaf as source: without a target nothing is left or entered
  abbrev pub transits : ℕ → Step → ℕ → List ℕ → Walk
  transits v step leaf asked = by step.target
    where
      by : Option ℕ → Walk
      by None = stays step.actions leaf asked
      by (Some target) = goes (length m.vertices) (upward m (parent m v)) (upward m (Some leaf)) step asked

  -- the initial transition of the machine
  abbrev pub starts : Walk
  starts = unwrap_or (option_map (λ step. goes (length m.vertices) [] [] step (unasked m)) m.initial) (stays [] 0 (unasked m))

  -- the transition on the signal of the nearest state from the leaf upward. Where there is none, or its guard answers false, there are no actions and
  -- the leaf stays
  abbrev pub moves : Configuration → ℕ → Walk
  moves c signal = by (nearest m signal (upward m (Some c.leaf)))
    where
      guarded : ℕ → Step → Option ℕ → Walk
      guarded v step None = transits v step c.leaf c.asked
      guarded v step (Some guard) = cond (answer c.asked guard) (transits v step c.leaf (ask c.asked guard)) (stays [] c.leaf (ask c.asked guard))

      by : Option (ℕ × On) → Walk
      by None = stays [] c.leaf c.asked
      by (Some found) = guarded found.0 found.1.step found.1.guard
