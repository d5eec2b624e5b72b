use Rattle.std.proofs.Common.{List, take, length, subst, sym}
use Rattle.fp_base.proofs.Lists.{taken_next}
use Rattle.fp_tree.specs.declared.machine.BehaviorElement.{BehaviorElement}
use Rattle.fp_machines.specs.Gathered.{AreGathered}
use Rattle.fp_machines.proofs.gathering.gather.Goals as goal

pub loop-element-preserved : goal.loop-element-preserved
loop-element-preserved c = λ es a.
    let elements = c.args.elements.now in
    let at = c.loop-element.element-index in
    subst (λ (xs : List BehaviorElement). AreGathered es xs (length elements) c.gather_one.new.gathered.table.items c.gather_one.new.gathered.top)
    (sym (taken_next elements at c.element-item.result c.loop-element-test.true c.element-item.is))
    (c.in_ok-gather_one.ensures es a (take at elements) (length elements) (c.loop-element.invariant es a))
