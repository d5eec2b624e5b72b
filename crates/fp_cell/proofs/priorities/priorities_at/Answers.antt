use Rattle.std.proofs.Common.{ℤ, List, sym, subst}
use Rattle.std.specs.List.{Contains}
use Rattle.fp_base.proofs.Options.{if_ok_then}
use Rattle.fp_cell.proofs.Waitable.{known}
use Rattle.fp_cell.proofs.priorities.priorities_at.Goals as goal

pub returns-clause-known : goal.returns-clause-known
returns-clause-known c =
    if_ok_then c.distinct.result _ _
    (λ v h point p policy how. h p (subst (λ (ps : List ℤ). Contains ps p) (sym c.in_ok-found.ensures) (known c.args.tables.now c.args.instance point p policy how))) c.distinct.ensures.same
