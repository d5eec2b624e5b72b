use Rattle.std.proofs.Common.{[], sym, subst}
use Rattle.fp_tree.specs.declared.definition.Def.{Def}
use Rattle.fp_type_forms.specs.Written.{AllAt}
use Rattle.fp_component_forms.specs.Written.{PortDefIs, port_in}
use Rattle.fp_component_forms.proofs.writing.port_in.Goals as goal

pub returns-in-Constant : goal.returns-in-Constant
returns-in-Constant c source named h =
    subst (λ (d : Def). AllAt (λ position. PortDefIs source) 0 (port_in c.args.scope.now d) []) (sym c.in-Constant.is) tt

pub returns-in-Abstract : goal.returns-in-Abstract
returns-in-Abstract c source named h =
    subst (λ (d : Def). AllAt (λ position. PortDefIs source) 0 (port_in c.args.scope.now d) []) (sym c.in-Abstract.is) tt

pub returns-in-Alias : goal.returns-in-Alias
returns-in-Alias c source named h =
    subst (λ (d : Def). AllAt (λ position. PortDefIs source) 0 (port_in c.args.scope.now d) []) (sym c.in-Alias.is) tt

pub returns-in-Array : goal.returns-in-Array
returns-in-Array c source named h =
    subst (λ (d : Def). AllAt (λ position. PortDefIs source) 0 (port_in c.args.scope.now d) []) (sym c.in-Array.is) tt

pub returns-in-Struct : goal.returns-in-Struct
returns-in-Struct c source named h =
    subst (λ (d : Def). AllAt (λ position. PortDefIs source) 0 (port_in c.args.scope.now d) []) (sym c.in-Struct.is) tt

pub returns-in-Enum : goal.returns-in-Enum
returns-in-Enum c source named h =
    subst (λ (d : Def). AllAt (λ position. PortDefIs source) 0 (port_in c.args.scope.now d) []) (sym c.in-Enum.is) tt
