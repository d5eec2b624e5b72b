use Rattle.fp_type_formats.proofs.Followed.{told}
use Rattle.fp_type_formats.proofs.sorts.names_no_integer.Goals as goal

pub returns : goal.returns
returns c is found =
    told is c.args.names.now c.args.sorts.now found 256 c.args.scope.now c.args.form.now c.in_ok-sort.sort c.in_ok-sort.ensures c.is_other.result c.is_other.ensures
