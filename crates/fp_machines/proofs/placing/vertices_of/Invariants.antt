use Rattle.std.proofs.Common.{◌≡◌, ◌++◌, List}
use Rattle.std.specs.Slice.Iter.{iter_rest}
use Rattle.std.specs.Iterator.Adapters.{zip_first, zip_second}
use Rattle.std.specs.Vec.Iter.{into_iter_items}
use Rattle.fp_tree.specs.declared.machine.BehaviorElement.{BehaviorElement}
use Rattle.fp_machines.specs.Gathered.{vertices_by}
use Rattle.fp_machines.specs.Named.{AreNames}
use Rattle.fp_machines.proofs.placing.vertices_of.Given as goal

abbrev pub invariant-loop-element : goal.invariant-loop-element
invariant-loop-element l =
    (es : List BehaviorElement) → AreNames es l.names
    → l.vertices ++ vertices_by es (iter_rest (zip_first l.element-iterator)) (into_iter_items (zip_second l.element-iterator)) ≡ vertices_by es l.elements l.fn.table.items
