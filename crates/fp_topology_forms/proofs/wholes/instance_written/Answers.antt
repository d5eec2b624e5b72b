use Rattle.std.proofs.Common.{ℕ, List, ◌++◌, refl, sym, subst}
use Rattle.fp_meaning.specs.declared.group.Group.TheVariants as group
use Rattle.fp_meaning.specs.Layout.{expression_items, use_items, value_items}
use Rattle.fp_meaning.specs.Names.{definitions}
use Rattle.fp_type_forms.proofs.Taking.{taken_all, taken_then}
use Rattle.fp_component_forms.specs.Positions.{RanksAre}
use Rattle.fp_topology_forms.proofs.wholes.instance_written.Goals as goal

pub returns : goal.returns
returns c source ready h =
    let scope = c.args.scope.now in
    let d = c.args.instance.now in
    let marks = c.args.marks.now in
    let rs = c.args.resolutions.now in
    let start = c.args.start in
    let one = use_items group.Component scope d.of in
    let two = one ++ expression_items 0 scope d.base in
    let three = two ++ value_items scope d.queue in
    let four = three ++ value_items scope d.stack in
    let five = four ++ value_items scope d.priority in
    let t = taken_all source marks rs (five ++ value_items scope d.cpu) start _
    (taken_then source marks rs five (value_items scope d.cpu) start _ _
    (taken_then source marks rs four (value_items scope d.priority) start _ _
    (taken_then source marks rs three (value_items scope d.stack) start _ _
    (taken_then source marks rs two (value_items scope d.queue) start _ _
    (taken_then source marks rs one (expression_items 0 scope d.base) start _ _
    (c.position_taken-component.ensures source marks group.Component scope d.of refl (subst (λ (ns : List ℕ). RanksAre group.Component (definitions source) ns) (sym c.as_slice.ensures) ready.components))
    (c.given_taken-base.ensures source scope))
    (c.optional_taken-queue.ensures source scope))
    (c.optional_taken-stack.ensures source scope))
    (c.optional_taken-priority.ensures source scope))
    (c.optional_taken-cpu.ensures source scope)) h in
    record {
      name = c.in_ok-name.ensures;
      at = refl;
      component = t.0.0.0.0.0;
      base = t.0.0.0.0.1;
      queue = t.0.0.0.1;
      stack = t.0.0.1;
      priority = t.0.1;
      cpu = t.1;
    }
