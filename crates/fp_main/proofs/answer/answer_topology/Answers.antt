use Rattle.fp_base.proofs.Options.{if_ok_then}
use Rattle.fp_main.proofs.Dues.{due_no_topology, due_topology}
use Rattle.std.proofs.Common.{inl}
use Rattle.fp_main.proofs.answer.answer_topology.Goals as goal

pub returns-in_ok-output-in-Some : goal.returns-in_ok-output-in-Some
returns-in_ok-output-in-Some c words names named =
    due_topology words names c.args.model.now c.done.result c.args.text c.in_ok-output-in-Some.output c.args.name.now c.in-Some.topology c.done.ensures
    c.in_ok-output-in-Some.ensures c.in-Some.ensures named

pub returns-in-None : goal.returns-in-None
returns-in-None c words names named =
    if_ok_then c.no_topology.result _ _ (λ due is. due_no_topology words names c.args.model.now due c.args.name.now is c.in-None.ensures (inl (c.args.text, named))) c.no_topology.ensures
