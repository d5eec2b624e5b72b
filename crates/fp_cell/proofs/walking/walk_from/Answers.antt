use Rattle.std.proofs.Common.{◌≡◌, ◌∙◌, ℕ, ◌-◌, length, List, ◌++◌, Bool, true, false, cond, sym, ap, arith}
use Rattle.fp_events.specs.Lookup.{answers_of}
use Rattle.fp_events.specs.Machine.{answer}
use Rattle.fp_machine_flat.specs.Walking.{walk}
use Rattle.fp_cell.proofs.NodeByNode.{asked_on, ended, lost, spent}
use Rattle.fp_cell.proofs.walking.walk_from.Goals as goal
use Rattle.fp_cell.proofs.walking.walk_from.Goals.{then-met, else-met}

on_true : (met : Bool) (later a b : ℕ) → met ≡ true → later ≡ a → later ≡ cond met a b
on_true met later a b e h = rw e h

on_false : (met : Bool) (later a b : ℕ) → met ≡ false → later ≡ b → later ≡ cond met a b
on_false met later a b e h = rw e h

pub unreachable-requires : goal.unreachable-requires
unreachable-requires c =
    lost c.args.flat.now.machine (answers_of c.args.program.now c.args.instance c.args.running) c.nodes-nodes.result.now (length c.nodes-nodes.result.now) c.loop-passed._passed
    c.loop-passed.at c.loop-passed.asked.items c.loop-passed.actions
    (walk c.args.flat.now.machine (answers_of c.args.program.now c.args.instance c.args.running) c.nodes-nodes.result.now c.args.at c.args.asked.items)
    (omega (arith, c.loop-passed-test.true, c.len-passed-end.ensures)) c.loop-passed.invariant c.in_default.ensures.value (rw c.nodes-nodes.ensures c.requires)

pub returns-in-Leaf : goal.returns-in-Leaf
returns-in-Leaf c =
    rw (sym c.nodes-nodes.ensures)
    (ended c.args.flat.now.machine (answers_of c.args.program.now c.args.instance c.args.running) c.nodes-nodes.result.now (length c.nodes-nodes.result.now) c.loop-passed._passed
    c.loop-passed.at c.in-Leaf.leaf c.loop-passed.asked.items c.loop-passed.actions c.extend_from_slice.new.self
    (walk c.args.flat.now.machine (answers_of c.args.program.now c.args.instance c.args.running) c.nodes-nodes.result.now c.args.at c.args.asked.items) c.in-Some.node.now
    (omega (arith, c.loop-passed-test.true, c.len-passed-end.ensures)) c.loop-passed.invariant c.in-Some.ensures.value
    (c.in_ok-extend_from_slice.ensures.ok ∙ ap (λ (ys : List ℕ). c.loop-passed.actions ++ ys) c.as_slice.ensures) c.in-Leaf.is)

pub loop-passed-preserved : goal.loop-passed-preserved
loop-passed-preserved c =
    asked_on c.args.flat.now.machine (answers_of c.args.program.now c.args.instance c.args.running) c.nodes-nodes.result.now (length c.nodes-nodes.result.now) c.loop-passed._passed
    c.loop-passed.at c.in-Ask.guard c.in-Ask.yes c.in-Ask.no c.if-met.at c.loop-passed.asked.items c.loop-passed.actions c.extend_from_slice.new.self c.count_asking.new.asked.items
    (walk c.args.flat.now.machine (answers_of c.args.program.now c.args.instance c.args.running) c.nodes-nodes.result.now c.args.at c.args.asked.items) c.in-Some.node.now
    c.answer_of-met.result (omega (arith, c.loop-passed-test.true, c.len-passed-end.ensures)) c.loop-passed.invariant c.in-Some.ensures.value
    (c.in_ok-extend_from_slice.ensures.ok ∙ ap (λ (ys : List ℕ). c.loop-passed.actions ++ ys) c.as_slice.ensures) c.in-Ask.is
    (c.answer_of-met.ensures c.args.flat.now.machine
    ∙ ap (λ (xs : List ℕ). answer c.args.flat.now.machine (answers_of c.args.program.now c.args.instance c.args.running) xs c.in-Ask.guard) c.as_slice-in-Ask.ensures.value)
    (elim c.if-met.branch [
      | then-met w ↦ on_true c.answer_of-met.result c.if-met.at c.in-Ask.yes c.in-Ask.no w.if-met.true w.at-is
      | else-met w ↦ on_false c.answer_of-met.result c.if-met.at c.in-Ask.yes c.in-Ask.no w.if-met.false w.at-is
    ])
    (c.in_ok-count_asking-in-Ask.ensures c.args.flat.now.machine (answers_of c.args.program.now c.args.instance c.args.running))

pub unreachable-requires-2 : goal.unreachable-requires-2
unreachable-requires-2 c =
    spent c.args.flat.now.machine (answers_of c.args.program.now c.args.instance c.args.running) c.nodes-nodes.result.now
    (length c.nodes-nodes.result.now - c.loop-passed._passed) c.loop-passed.at c.loop-passed.asked.items c.loop-passed.actions
    (walk c.args.flat.now.machine (answers_of c.args.program.now c.args.instance c.args.running) c.nodes-nodes.result.now c.args.at c.args.asked.items)
    (omega (arith, c.loop-passed-test.false, c.len-passed-end.ensures)) c.loop-passed.invariant (rw c.nodes-nodes.ensures c.requires)
