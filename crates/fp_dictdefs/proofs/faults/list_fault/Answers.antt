use Rattle.std.proofs.Common.{List, sym, subst}
use Rattle.fp_base.specs.Least.{IsLeast}
use Rattle.fp_base.proofs.Calculus.{least_along, least_either}
use Rattle.fp_dictdefs.specs.declared.listed.Listed.{Listed}
use Rattle.fp_dictdefs.specs.Broken.{BrokenList}
use Rattle.fp_dictdefs.proofs.faults.list_fault.Goals as goal

pub returns : goal.returns
returns c =
    subst (λ (xs : List Listed). IsLeast (BrokenList xs) c.lesser.result) c.as_slice-items.ensures
    (least_along (sym c.lesser.ensures) (least_either c.in_ok-names.names c.in_ok-ids.ids c.in_ok-names.ensures c.in_ok-ids.ensures))
