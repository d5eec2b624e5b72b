use Rattle.std.proofs.Common.{◌≡◌, ◌∙◌, sym, ap, subst, ℕ, List, Option, Some, IfOk, is_some}
use Rattle.fp_events.specs.Lookup.{answers_of}
use Rattle.fp_events.specs.Machine.{Walk, answer}
use Rattle.fp_cell.proofs.Guarded.{when_met, when_unmet}
use Rattle.fp_cell.proofs.walking.walk_guarded.Goals as goal

pub walk_from-requires : goal.walk_from-requires
walk_from-requires c =
    sym
    (ap (λ (o : Option Walk). is_some o)
    (when_met c.args.flat.now.machine c.args.flat.now.nodes (answers_of c.args.program.now c.args.instance c.args.running) c.args.leaf c.args.guard c.args.node c.args.asked.items
    c.count_asking.new.asked.items c.answer_of-met.result
    (c.answer_of-met.ensures c.args.flat.now.machine
    ∙ ap (λ (xs : List ℕ). answer c.args.flat.now.machine (answers_of c.args.program.now c.args.instance c.args.running) xs c.args.guard) c.as_slice.ensures.value)
    (c.in_ok-count_asking.ensures c.args.flat.now.machine (answers_of c.args.program.now c.args.instance c.args.running)) c.if-met.true))
    ∙ c.requires

pub returns-then-met : goal.returns-then-met
returns-then-met c =
    subst (λ (o : Option Walk). IfOk c.walk_from.result (λ w. o ≡ Some w))
    (sym
    (when_met c.args.flat.now.machine c.args.flat.now.nodes (answers_of c.args.program.now c.args.instance c.args.running) c.args.leaf c.args.guard c.args.node c.args.asked.items
    c.count_asking.new.asked.items c.answer_of-met.result
    (c.answer_of-met.ensures c.args.flat.now.machine
    ∙ ap (λ (xs : List ℕ). answer c.args.flat.now.machine (answers_of c.args.program.now c.args.instance c.args.running) xs c.args.guard) c.as_slice.ensures.value)
    (c.in_ok-count_asking.ensures c.args.flat.now.machine (answers_of c.args.program.now c.args.instance c.args.running)) c.if-met.true))
    c.walk_from.ensures

pub returns : goal.returns
returns c =
    when_unmet c.args.flat.now.machine c.args.flat.now.nodes (answers_of c.args.program.now c.args.instance c.args.running) c.args.leaf c.args.guard c.args.node c.args.asked.items
    c.count_asking.new.asked.items c.answer_of-met.result
    (c.answer_of-met.ensures c.args.flat.now.machine
    ∙ ap (λ (xs : List ℕ). answer c.args.flat.now.machine (answers_of c.args.program.now c.args.instance c.args.running) xs c.args.guard) c.as_slice.ensures.value)
    (c.in_ok-count_asking.ensures c.args.flat.now.machine (answers_of c.args.program.now c.args.instance c.args.running)) c.if-met.false
    ∙ ap (λ (w : Walk). Some w) (sym c.stay.ensures)
