use Rattle.std.proofs.Common.{List, flat_map, Option, None, Some, sym, subst}
use Rattle.fp_base.specs.Least.{IsLeast}
use Rattle.fp_base.proofs.Calculus.{least_none}
use Rattle.fp_base.proofs.Options.{if_ok_then}
use Rattle.fp_tree.specs.declared.machine.Behavior.{Behavior}
use Rattle.fp_tree.specs.declared.machine.BehaviorElement.{BehaviorElement}
use Rattle.fp_meaning.specs.Layout.{element_items}
use Rattle.fp_names.specs.Named.{elements_in}
use Rattle.fp_type_forms.specs.Resolved.{AreResolved}
use Rattle.fp_machines.specs.Outline.{outline}
use Rattle.fp_machines.specs.Ordered.{AreInOrder}
use Rattle.fp_source_parts.specs.MachineBroken.{BrokenElements}
use Rattle.fp_source_parts.proofs.MachineLeast.{behavior_by}
use Rattle.fp_source_parts.proofs.faults.fault_in.Goals as goal

pub fault_among-requires : goal.fault_among-requires
fault_among-requires c =
    subst (λ (es : List BehaviorElement). AreInOrder (outline es)) (sym c.as_slice-elements.ensures)
    (subst (λ (b : Option Behavior). AreInOrder (outline (elements_in b))) c.in-Some.is c.requires)

pub returns-in-None : goal.returns-in-None
returns-in-None c source scope =
    behavior_by c.args.types.now source c.args.marks.now c.args.resolutions.now c.args.start scope c.args.place c.args.behavior.now None None c.in-None.is (λ h. least_none (λ f b. b))

pub returns-in-Some : goal.returns-in-Some
returns-in-Some c =
    if_ok_then c.fault_among.result _ _
    (λ o l source scope.
    behavior_by c.args.types.now source c.args.marks.now c.args.resolutions.now c.args.start scope c.args.place c.args.behavior.now (Some c.in-Some.behavior) o c.in-Some.is
    (subst (λ (es : List BehaviorElement). AreResolved source c.args.marks.now c.args.resolutions.now (flat_map (element_items scope) es) c.args.start → IsLeast (BrokenElements c.args.types.now source scope c.args.place es) o) c.as_slice-elements.ensures (l source scope)))
    c.fault_among.ensures
