use Rattle.std.proofs.Common.{[], Some, None, flat_map, sym}
use Rattle.fp_meaning.specs.Names.{in_optional}
use Rattle.fp_meaning.specs.Layout.{behavior_items, element_items}
use Rattle.fp_part_values.specs.Names.{behavior_names, element_names}
use Rattle.fp_part_values.proofs.Joining.{nothing_there, faults_at}
use Rattle.fp_part_values.proofs.machines.behavior_fault.Goals as goal

pub returns-in-Some : goal.returns-in-Some
returns-in-Some c source scope =
    faults_at source c.args.marks.now c.args.resolutions.now scope (in_optional (behavior_items scope)) (in_optional behavior_names) (λ x. []) c.args.behavior.now (Some c.in-Some.behavior) c.args.next.now c.elements_fault.new.next c.elements_fault.result c.in-Some.is
    (faults_at source c.args.marks.now c.args.resolutions.now scope (flat_map (element_items scope)) (flat_map element_names) (λ x. []) c.in-Some.behavior.elements c.as_slice.result.now c.args.next.now c.elements_fault.new.next c.elements_fault.result
    (sym c.as_slice.ensures) (c.elements_fault.ensures source scope))

pub returns-in-None : goal.returns-in-None
returns-in-None c source scope =
    faults_at source c.args.marks.now c.args.resolutions.now scope (in_optional (behavior_items scope)) (in_optional behavior_names) (λ x. []) c.args.behavior.now None c.args.next.now c.args.next.now None c.in-None.is (nothing_there source c.args.marks.now c.args.resolutions.now scope c.args.next.now)
