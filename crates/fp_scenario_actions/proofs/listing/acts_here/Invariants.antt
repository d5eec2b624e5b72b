use Rattle.std.proofs.Common.{◌≡◌, ℕ, ◌+◌, List, ◌++◌, drop}
use Rattle.fp_base.specs.declared.rule.Rule.{Rule}
use Rattle.fp_tables.specs.declared.program.Act.{Act}
use Rattle.fp_tables.specs.Bound.{scope_of}
use Rattle.fp_scenario_actions.specs.Listing.{ActsPlan, BreaksAt}
use Rattle.fp_scenario_actions.proofs.listing.acts_here.Given as goal

-- what is left to plan completes the plan, and what is left to break breaks the list
abbrev pub invariant-loop-at : goal.invariant-loop-at
invariant-loop-at l =
    ((acts : List Act) → ActsPlan l.tables l.instance l.component l.place (scope_of l.scope) (drop l.at l.texts) acts → ActsPlan l.tables l.instance l.component l.place (scope_of l.fn.bound) l.texts (l.row ++ acts))
    × ((rule : Rule) (n : ℕ) → BreaksAt l.tables l.instance l.component l.place rule n (scope_of l.scope) (drop l.at l.texts) → BreaksAt l.tables l.instance l.component l.place rule (l.at + n) (scope_of l.fn.bound) l.texts)
