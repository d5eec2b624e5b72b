use Rattle.std.proofs.Common.{List, Option, ℕ, flat_map, subst, ◌∙◌}
use Rattle.std.proofs.Common.{ap}
use Rattle.fp_base.specs.Least.{IsLeast}
use Rattle.fp_base.proofs.Options.{if_ok_then}
use Rattle.fp_tables.specs.declared.kind.Kind.{Kind}
use Rattle.fp_meaning.specs.Layout.{element_items}
use Rattle.fp_type_forms.proofs.Taking.{taken_all}
use Rattle.fp_machine_rules.specs.Broken.{MachineBroken}
use Rattle.fp_machines.specs.Layout.{laid}
use Rattle.fp_machines.specs.Outline.{outline}
use Rattle.fp_machines.specs.Numbers.{type_numbers}
use Rattle.fp_source_parts.proofs.MachineLeast.{elements_least, laid_in_order}
use Rattle.fp_source_parts.proofs.faults.fault_among.Goals as goal

pub behavior_fault-requires : goal.behavior_fault-requires
behavior_fault-requires c = laid_in_order (outline c.args.elements.now) c.requires

pub returns : goal.returns
returns c =
    let place = c.args.place in
    let es = c.args.elements.now in
    let types = c.args.types.now in
    if_ok_then c.behavior_fault.result _ _
    (λ o l source scope h.
    elements_least types source scope place es c.in_ok-kinds.kinds o
    (taken_all source c.args.marks.now c.args.resolutions.now (flat_map (element_items scope) es) c.args.start c.kinds_taken.new.next (c.in_ok-kinds.ensures source scope) h)
    (subst (λ (ts : List (Option ℕ)). IsLeast (MachineBroken (laid place es ts)) o)
    (c.as_slice-2.ensures ∙ c.in_ok-numbers.ensures ∙ ap (λ (ks : List (Option Kind)). type_numbers types ks) c.as_slice.ensures) l))
    c.behavior_fault.ensures
