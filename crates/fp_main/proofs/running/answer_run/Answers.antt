use Rattle.std.proofs.Common.{inl, inr, refl}
use Rattle.fp_base.proofs.Options.{if_ok_then}
use Rattle.fp_main.proofs.Dues.{due_no_topology}
use Rattle.fp_main.proofs.Scenarios.{sound_at}
use Rattle.fp_main.proofs.running.answer_run.Goals as goal

pub topology_named-requires : goal.topology_named-requires
topology_named-requires g c = c.requires.sound.lists.lists_are_short

pub run_file-requires-clause-sound : goal.run_file-requires-clause-sound
run_file-requires-clause-sound g c κs within = sound_at c.args.model c.args.asked.topology.now c.in-Some.topology c.requires.sound c.requires.sound_with c.in-Some.ensures

pub returns-in-Some : goal.returns-in-Some
returns-in-Some g c words names run =
    if_ok_then c.run_file.result _ _
    (λ due d. inr (record { topology = c.args.asked.topology.now; scenario = c.args.asked.scenario.now; asked = run; at = c.in-Some.topology; there = c.in-Some.ensures; due = d })) c.run_file.ensures

pub returns-in-None : goal.returns-in-None
returns-in-None g c words names run =
    if_ok_then c.no_topology.result _ _
    (λ due is. inl ((refl, refl), due_no_topology words names c.args.model due c.args.asked.topology.now is c.in-None.ensures (inr (c.args.asked.scenario.now, run)))) c.no_topology.ensures
