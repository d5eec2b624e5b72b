use Rattle.std.proofs.Common.{None, sym, ap, ◌∙◌}
use Rattle.fp_base.proofs.Calculus.{least_none}
use Rattle.fp_tree.specs.declared.definition.Def.TheVariants as def
use Rattle.fp_type_forms.specs.Broken.{BrokenByEnum}
use Rattle.fp_type_forms.proofs.Breaking.{fault_by}
use Rattle.fp_type_forms.proofs.representations.definition_fault.Goals as goal

pub returns-in-Constant : goal.returns-in-Constant
returns-in-Constant c ws are source scope =
    fault_by (BrokenByEnum source scope ws) source c.args.marks.now c.args.resolutions.now c.args.start scope c.args.definition.now (def.Constant c.in-Constant.field-0) None c.in-Constant.is (λ h. least_none (λ f x. x))

pub returns-in-Abstract : goal.returns-in-Abstract
returns-in-Abstract c ws are source scope =
    fault_by (BrokenByEnum source scope ws) source c.args.marks.now c.args.resolutions.now c.args.start scope c.args.definition.now (def.Abstract c.in-Abstract.field-0) None c.in-Abstract.is (λ h. least_none (λ f x. x))

pub returns-in-Alias : goal.returns-in-Alias
returns-in-Alias c ws are source scope =
    fault_by (BrokenByEnum source scope ws) source c.args.marks.now c.args.resolutions.now c.args.start scope c.args.definition.now (def.Alias c.in-Alias.field-0) None c.in-Alias.is (λ h. least_none (λ f x. x))

pub returns-in-Array : goal.returns-in-Array
returns-in-Array c ws are source scope =
    fault_by (BrokenByEnum source scope ws) source c.args.marks.now c.args.resolutions.now c.args.start scope c.args.definition.now (def.Array c.in-Array.field-0) None c.in-Array.is (λ h. least_none (λ f x. x))

pub returns-in-Struct : goal.returns-in-Struct
returns-in-Struct c ws are source scope =
    fault_by (BrokenByEnum source scope ws) source c.args.marks.now c.args.resolutions.now c.args.start scope c.args.definition.now (def.Struct c.in-Struct.field-0) None c.in-Struct.is (λ h. least_none (λ f x. x))

pub returns-in-Port : goal.returns-in-Port
returns-in-Port c ws are source scope =
    fault_by (BrokenByEnum source scope ws) source c.args.marks.now c.args.resolutions.now c.args.start scope c.args.definition.now (def.Port c.in-Port.field-0) None c.in-Port.is (λ h. least_none (λ f x. x))

pub returns-in-Enum : goal.returns-in-Enum
returns-in-Enum c ws are source scope =
    fault_by (BrokenByEnum source scope ws) source c.args.marks.now c.args.resolutions.now c.args.start scope c.args.definition.now (def.Enum c.get.result.now) c.enum_fault.result (c.in-Enum.is ∙ ap (λ d. def.Enum d) (sym c.get.ensures))
    (c.enum_fault.ensures ws are source scope)
