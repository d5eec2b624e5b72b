use Rattle.std.proofs.Common.{List, sym, subst}
use Rattle.std.specs.Prelude.{IfOk}
use Rattle.fp_base.specs.Least.{IsLeast}
use Rattle.fp_tree.specs.declared.component.Part.{Part}
use Rattle.fp_tree.specs.declared.dictionary.Event.{Event}
use Rattle.fp_meaning.specs.declared.item.Item.{Item}
use Rattle.fp_type_formats.specs.Broken.{BrokenByEvent, BrokenByPart}
use Rattle.fp_type_formats.specs.Sorted.{AreFound}
use Rattle.fp_type_formats.proofs.components.part_fault.Goals as goal

pub returns-in-Event : goal.returns-in-Event
returns-in-Event c =
    let names = c.args.names.now in
    let sorts = c.args.sorts.now in
    let scope = c.args.scope.now in
    subst (λ (p : Part). IfOk c.event_fault.result (λ one. (is : List Item) → AreFound is names sorts → IsLeast (BrokenByPart is scope p) one)) (sym c.in-Event.is)
    (subst (λ (e : Event). IfOk c.event_fault.result (λ one. (is : List Item) → AreFound is names sorts → IsLeast (BrokenByEvent is scope e) one)) c.get.ensures c.event_fault.ensures)
