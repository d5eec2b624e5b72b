use Rattle.std.proofs.Common.{◌++◌, List, None, flat_map, length, sym, ap, subst, ◌∙◌}
use Rattle.fp_base.specs.Least.{Either, InSome, IsLeast}
use Rattle.fp_tree.specs.declared.part.Field.{Field as Member}
use Rattle.fp_tree.specs.declared.part.Formal.{Formal}
use Rattle.fp_meaning.specs.Layout.{constant_items, expression_items, field_items, formal_items, type_items}
use Rattle.fp_meaning.specs.Names.{in_optional}
use Rattle.fp_type_forms.specs.Broken.{BrokenByMember, BrokenByName, BrokenByParts, ByOptional}
use Rattle.fp_type_forms.specs.Resolved.{Takes}
use Rattle.fp_type_forms.proofs.Taking.{taken_all}
use Rattle.fp_type_forms.proofs.Adding.{resolved_front}
use Rattle.fp_type_forms.proofs.Breaking.{fault_by}
use Rattle.fp_base.proofs.Calculus.{least_none}
use Rattle.fp_tree.specs.declared.definition.Def.TheVariants as def
use Rattle.fp_type_forms.proofs.faults.fault_in.Goals as goal

pub returns-in-Constant : goal.returns-in-Constant
returns-in-Constant c source scope = fault_by (BrokenByParts source scope) source c.args.marks.now c.args.resolutions.now c.args.start scope c.args.definition.now (def.Constant c.in-Constant.field-0) None c.in-Constant.is (λ h. least_none (λ f x. x))

pub returns-in-Abstract : goal.returns-in-Abstract
returns-in-Abstract c source scope = fault_by (BrokenByParts source scope) source c.args.marks.now c.args.resolutions.now c.args.start scope c.args.definition.now (def.Abstract c.in-Abstract.field-0) None c.in-Abstract.is (λ h. least_none (λ f x. x))

pub returns-in-Alias : goal.returns-in-Alias
returns-in-Alias c source scope =
    let d = c.get.result.now in
    fault_by (BrokenByParts source scope) source c.args.marks.now c.args.resolutions.now c.args.start scope c.args.definition.now (def.Alias d) c.name_fault.result (c.in-Alias.is ∙ ap (λ x. def.Alias x) (sym c.get.ensures))
    (taken_all source c.args.marks.now c.args.resolutions.now (type_items 0 scope d.target) c.args.start c.name_fault.new.next (c.name_fault.ensures source scope 0))

pub returns-in-Array : goal.returns-in-Array
returns-in-Array c source scope =
    let d = c.get-kind.result.now in
    let parts = expression_items 0 scope d.size ++ type_items 0 scope d.element in
    fault_by (BrokenByParts source scope) source c.args.marks.now c.args.resolutions.now c.args.start scope c.args.definition.now (def.Array d) c.array_fault.result (c.in-Array.is ∙ ap (λ x. def.Array x) (sym c.get-kind.ensures))
    (λ h. taken_all source c.args.marks.now c.args.resolutions.now parts c.args.start c.array_fault.new.next (c.array_fault.ensures source scope) (resolved_front source c.args.marks.now c.args.resolutions.now parts (in_optional (expression_items 0 scope) d.default) c.args.start h))

pub returns-in-Struct : goal.returns-in-Struct
returns-in-Struct c source scope =
    let d = c.get-in-Struct.result.now in
    let parts = flat_map (field_items scope) d.fields in
    fault_by (BrokenByParts source scope) source c.args.marks.now c.args.resolutions.now c.args.start scope c.args.definition.now (def.Struct d) c.members_fault.result (c.in-Struct.is ∙ ap (λ x. def.Struct x) (sym c.get-in-Struct.ensures))
    (λ h. taken_all source c.args.marks.now c.args.resolutions.now parts c.args.start c.members_fault.new.next
    (subst (λ (fs : List Member). Takes source c.args.marks.now c.args.resolutions.now (flat_map (field_items scope) fs) c.args.start c.members_fault.new.next (IsLeast (InSome (λ k. BrokenByMember source scope) fs) c.members_fault.result))
    c.as_slice-fields.ensures (c.members_fault.ensures source scope))
    (resolved_front source c.args.marks.now c.args.resolutions.now parts (in_optional (expression_items 0 scope) d.default) c.args.start h))

pub returns-in-Enum : goal.returns-in-Enum
returns-in-Enum c source scope =
    let d = c.get-in-Enum.result.now in
    let parts = in_optional (type_items 0 scope) d.repr ++ constant_items scope d 0 d.constants in
    fault_by (BrokenByParts source scope) source c.args.marks.now c.args.resolutions.now c.args.start scope c.args.definition.now (def.Enum d) c.enum_fault.result (c.in-Enum.is ∙ ap (λ x. def.Enum x) (sym c.get-in-Enum.ensures))
    (λ h. taken_all source c.args.marks.now c.args.resolutions.now parts c.args.start c.enum_fault.new.next (c.enum_fault.ensures source scope)
    (resolved_front source c.args.marks.now c.args.resolutions.now parts (in_optional (expression_items (length d.constants) scope) d.default) c.args.start h))

pub returns-in-Port : goal.returns-in-Port
returns-in-Port c source scope =
    let d = c.get-port.result.now in
    let parts = flat_map (formal_items scope) d.formals ++ in_optional (type_items 0 scope) d.result in
    fault_by (BrokenByParts source scope) source c.args.marks.now c.args.resolutions.now c.args.start scope c.args.definition.now (def.Port d) c.port_fault.result (c.in-Port.is ∙ ap (λ x. def.Port x) (sym c.get-port.ensures))
    (taken_all source c.args.marks.now c.args.resolutions.now parts c.args.start c.port_fault.new.next
    (subst (λ (ps : List Formal). Takes source c.args.marks.now c.args.resolutions.now (flat_map (formal_items scope) ps ++ in_optional (type_items 0 scope) d.result) c.args.start c.port_fault.new.next
    (IsLeast (Either (InSome (λ k (p : Formal). BrokenByName source scope p.of) ps) (ByOptional (BrokenByName source scope) d.result)) c.port_fault.result))
    c.as_slice-formals.ensures (c.port_fault.ensures source scope)))
