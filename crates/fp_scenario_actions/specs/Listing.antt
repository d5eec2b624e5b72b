-- The actions of a handler's list, in turn.
use Rattle.std.specs.Prelude.{ℕ, zero, suc, Bool, true, false, not, ◌&&◌, List, [], ◌∷◌, is_some, ⊤}
use Rattle.fp_base.specs.declared.rule.Rule.{Rule}
use Rattle.fp_tables.specs.Lookup.{Described}
use Rattle.fp_tables.specs.Arguments.{Scope}
use Rattle.fp_tables.specs.Programs.{returned_at}
use Rattle.fp_tables.specs.declared.component.Component.{Component}
use Rattle.fp_tables.specs.declared.program.Act.{Act}
use Rattle.fp_tables.specs.declared.program.Spot.{Spot}
use Rattle.fp_scenario.specs.declared.scenario.ActText.{ActText}
use Rattle.fp_scenario.specs.declared.first_key.FirstKey.{FirstKey}
use Rattle.fp_scenario.specs.declared.first_key.FirstKey.TheVariants as key
use Rattle.fp_scenario_actions.specs.Acting.{Breaks, Plans, scope_after}
use Rattle.fp_scenario_actions.specs.declared.halt.Halt.{Halt}
use Rattle.fp_scenario_actions.specs.declared.halt.Halt.TheVariants as halt
use Rattle.fp_scenario_actions.specs.declared.listing.ListHalt.{ListHalt}
use Rattle.fp_scenario_actions.specs.declared.listing.ListHalt.TheVariants.{Broken, NoMemory}

abbrev pub is_end : {A : Type 0} → List A → Bool
is_end [] = true
is_end (x ∷ xs) = false

abbrev pub is_return : FirstKey → Bool
is_return key.Return = true
is_return _ = false

-- the last action is a return
abbrev pub ends_in_return : List ActText → Bool
ends_in_return [] = false
ends_in_return (a ∷ []) = is_return a.key
ends_in_return (a ∷ b ∷ rest) = ends_in_return (b ∷ rest)

abbrev pub at_position : Halt → ℕ → ListHalt
at_position (halt.Broken rule) n = Broken rule n
at_position halt.NoMemory n = NoMemory

module _ (t : Described) (i : ℕ) (c : Component) (place : Spot) where
  -- each action is planned, given what those before it bind
  abbrev pub ActsPlan : Scope → List ActText → List Act → Type 0
  ActsPlan scope [] [] = ⊤
  ActsPlan scope (a ∷ rest) (x ∷ acts) = Plans t i c place a.key scope (is_end rest) a x × ActsPlan (scope_after t i c place a.key a scope) rest acts
  ActsPlan scope _ _ = ⊥

  -- the action at a position breaks a rule, given what those before it bind
  abbrev pub BreaksAt : Rule → ℕ → Scope → List ActText → Type 0
  BreaksAt rule n scope [] = ⊥
  BreaksAt rule zero scope (a ∷ rest) = Breaks t i c place rule a.key scope (is_end rest) a
  BreaksAt rule (suc n) scope (a ∷ rest) = BreaksAt rule n (scope_after t i c place a.key a scope) rest

  -- a handler whose place has a result returns it at last
  abbrev pub lacks_return : List ActText → Bool
  lacks_return texts = is_some (returned_at t i place) && not (ends_in_return texts)

  -- want of memory, or a rule that the action at the position breaks
  abbrev pub IsListHalt : Scope → List ActText → ListHalt → Type 0
  IsListHalt scope texts (Broken rule at) = BreaksAt rule at scope texts
  IsListHalt scope texts NoMemory = ⊤
