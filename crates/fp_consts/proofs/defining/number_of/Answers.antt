use Rattle.fp_consts.proofs.Valued.{number_of_position, number_written}
use Rattle.fp_consts.proofs.defining.number_of.Goals as goal

pub returns-in_ok-found-in-Some : goal.returns-in_ok-found-in-Some
returns-in_ok-found-in-Some c =
    number_written c.args.table.now c.args.meanings.now c.args.listed.now c.args.next c.in-Some.expression.now c.in_ok-found-in-Some.found c.number_found.result
    c.in-Some.ensures c.in_ok-found-in-Some.ensures c.number_found.ensures

pub returns-in-None : goal.returns-in-None
returns-in-None c =
    number_of_position c.args.table.now c.args.meanings.now c.args.listed.now c.args.next c.number_implied.result c.in-None.ensures c.number_implied.ensures
