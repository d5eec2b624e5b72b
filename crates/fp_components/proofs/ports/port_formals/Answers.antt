use Rattle.std.proofs.Common.{◌∙◌, sym}
use Rattle.fp_components.proofs.Roles.{own_formals, defined_formals}
use Rattle.fp_components.proofs.ports.port_formals.Goals as goal

pub returns-then-is_internal : goal.returns-then-is_internal
returns-then-is_internal c within =
    own_formals c.formals_of.result c.args.definitions.now c.args.port.now c.as_slice.result.now (sym c.is_internal.ensures ∙ c.if-is_internal.true) c.as_slice.ensures c.formals_of.ensures

pub returns-else-is_internal : goal.returns-else-is_internal
returns-else-is_internal c within =
    defined_formals c.defined_formals.result c.args.definitions.now c.args.port.now (sym c.is_internal.ensures ∙ c.if-is_internal.false) (c.defined_formals.ensures within)
