use Rattle.std.proofs.Common.{None, sym, subst}
use Rattle.std.specs.Option.{option_copied}
use Rattle.fp_consts.specs.Settled.{SettlesWith}
use Rattle.fp_consts.proofs.Valued.{settled_by, settled_to_none}
use Rattle.fp_consts.proofs.defining.value_of.Goals as goal

pub returns-in_ok-found-in-Some : goal.returns-in_ok-found-in-Some
returns-in_ok-found-in-Some c =
    subst (λ o. SettlesWith c.args.table.now c.args.meanings.now (option_copied o) c.args.next c.in_ok-found-in-Some.found.value) (sym c.in-Some.is)
    (settled_by c.args.table.now c.args.meanings.now c.in-Some.expression.now c.args.next c.in_ok-found-in-Some.found c.in_ok-found-in-Some.ensures)

pub returns-in-None : goal.returns-in-None
returns-in-None c =
    subst (λ o. SettlesWith c.args.table.now c.args.meanings.now (option_copied o) c.args.next None) (sym c.in-None.is) (settled_to_none c.args.table.now c.args.meanings.now c.args.next)
