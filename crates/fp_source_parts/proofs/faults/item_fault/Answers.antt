use Rattle.std.proofs.Common.{None, subst, sym, ◌∙◌}
use Rattle.fp_base.specs.Least.{IsLeast}
use Rattle.fp_base.proofs.Calculus.{least_none}
use Rattle.fp_base.proofs.Options.{if_ok_then}
use Rattle.fp_meaning.specs.declared.item.Item.{Item}
use Rattle.fp_meaning.specs.Layout.{model_own_items}
use Rattle.fp_meaning.specs.Sites.{ModelDef}
use Rattle.fp_type_forms.specs.Resolved.{AreResolved}
use Rattle.fp_source_parts.specs.MachineBroken.{BrokenModel}
use Rattle.fp_source_parts.specs.Ordered.{IsOrdered, IsOrderedModel}
use Rattle.fp_source_parts.proofs.MachineLeast.{item_by}
use Rattle.fp_source_parts.proofs.faults.item_fault.Goals as goal

pub definition_fault-requires : goal.definition_fault-requires
definition_fault-requires c =
    subst (λ (m : ModelDef). IsOrderedModel m) (sym c.definition.ensures) (subst (λ (i : Item). IsOrdered i) c.in-Declared.is c.requires)

pub returns-in-Declared : goal.returns-in-Declared
returns-in-Declared c =
    let d = c.in-Declared.declared in
    if_ok_then c.definition_fault.result _ _
    (λ o l source.
    item_by c.args.types.now source c.args.marks.now c.args.resolutions.now c.args.start c.args.item.now _ o c.in-Declared.is
    (subst (λ (m : ModelDef). AreResolved source c.args.marks.now c.args.resolutions.now (model_own_items d.scope m) c.args.start → IsLeast (BrokenModel c.args.types.now source d.scope m) o) c.definition.ensures (l source d.scope)))
    c.definition_fault.ensures

pub returns-in-Defined : goal.returns-in-Defined
returns-in-Defined c source =
    item_by c.args.types.now source c.args.marks.now c.args.resolutions.now c.args.start c.args.item.now _ None c.in-Defined.is (λ h. least_none (λ f b. b))

pub returns-in-Enumerated : goal.returns-in-Enumerated
returns-in-Enumerated c source =
    item_by c.args.types.now source c.args.marks.now c.args.resolutions.now c.args.start c.args.item.now _ None c.in-Enumerated.is (λ h. least_none (λ f b. b))

pub returns-in-Used : goal.returns-in-Used
returns-in-Used c source =
    item_by c.args.types.now source c.args.marks.now c.args.resolutions.now c.args.start c.args.item.now _ None c.in-Used.is (λ h. least_none (λ f b. b))

pub returns-in-Written : goal.returns-in-Written
returns-in-Written c source =
    item_by c.args.types.now source c.args.marks.now c.args.resolutions.now c.args.start c.args.item.now _ None c.in-Written.is (λ h. least_none (λ f b. b))
