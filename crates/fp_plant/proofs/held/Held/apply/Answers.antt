use Rattle.std.proofs.Common.{rules, ◌≡◌, ◌++◌, ◌∷◌, [], subst}
use Rattle.fp_cell.specs.Replies.{Answered, IsStep}
use Rattle.fp_cell.specs.declared.cell.Reply.{Reply}
use Rattle.fp_plant.specs.Noted.{NotedCell, noted, booked}
use Rattle.fp_plant.proofs.Noting.{stepped}
use Rattle.fp_plant.proofs.held.Held.apply.Goals as goal

pub invariant_of-self-in-Stepped : goal.invariant_of-self-in-Stepped
invariant_of-self-in-Stepped c =
    let old : NotedCell = record { cell = c.self.inside.cell; seen = c.self.inside.seen.items } in
    let step : IsStep old.cell c.args.actor c.args.ask.now c.args.seen c.in-Stepped.entry c.apply.new.self =
    subst (λ (x : Reply). Answered old.cell c.args.actor c.args.ask.now c.args.seen x c.apply.new.self) c.in-Stepped.is c.in_ok-entry.ensures.answered in
    let more : c.push_reserved.new.self.items ≡ old.seen ++ c.args.seen ∷ [] = search rules in
    (stepped old c.apply.new.self c.args.actor c.args.seen c.args.ask.now c.in-Stepped.entry c.self.invariant step c.push_reserved.new.self.items more).known

pub returns-in-Stepped-clause-notes : goal.returns-in-Stepped-clause-notes
returns-in-Stepped-clause-notes c =
    let old : NotedCell = record { cell = c.self.inside.cell; seen = c.self.inside.seen.items } in
    let step : IsStep old.cell c.args.actor c.args.ask.now c.args.seen c.in-Stepped.entry c.apply.new.self =
    subst (λ (x : Reply). Answered old.cell c.args.actor c.args.ask.now c.args.seen x c.apply.new.self) c.in-Stepped.is c.in_ok-entry.ensures.answered in
    let more : c.push_reserved.new.self.items ≡ old.seen ++ c.args.seen ∷ [] = search rules in
    subst (λ (z : NotedCell). booked (record { cell = c.apply.new.self; seen = c.push_reserved.new.self.items }) ≡ booked z ++ noted (c.in-Stepped.entry, c.args.seen) ∷ []) c.self.view_is
    (stepped old c.apply.new.self c.args.actor c.args.seen c.args.ask.now c.in-Stepped.entry c.self.invariant step c.push_reserved.new.self.items more).booked
