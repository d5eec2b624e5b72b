-- What an instance makes of an actor's due ask is an entry that the actor takes.
use Rattle.std.proofs.Common.{◌≡◌, ℕ, suc, max, ◌<◌, true, Some, option_map, refl, arith}
use Rattle.fp_base.proofs.Sameness.{nat_same}
use Rattle.fp_tables.specs.Lookup.{Described}
use Rattle.fp_tables.specs.declared.program.Program.{Program}
use Rattle.fp_events.specs.declared.event.Ask.{Ask}
use Rattle.fp_events.specs.declared.event.Entry.{Entry}
use Rattle.fp_events.specs.Actor.{ActorState}
use Rattle.fp_events.specs.Due.{due}
use Rattle.fp_events.specs.Instance.{InstanceState}
use Rattle.fp_events.specs.Step.{instance_part, answers_due}
use Rattle.fp_events.proofs.StepLaws.{answered, given}

module _ (t : Described) (program : Program) (a i : ℕ) (s u : InstanceState) (x : ActorState) (q : Ask) (e : Entry) where
  pub answers_it : due t program a x.thread ≡ Some (i, q) → instance_part t program i s a q x.last ≡ Some (e, u)
      → option_map (answers_due t program a e) (due t program a x.thread) ≡ Some true
  answers_it is_due part =
      let g = given t program i a x.last s u q e part in
      rw (is_due, g.actor, g.instance, nat_same.itself a, nat_same.itself i, answered t program i s.inside q e.what g.told, g.fit) refl

  pub is_above : instance_part t program i s a q x.last ≡ Some (e, u) → x.last < e.stamp
  is_above part = let g = given t program i a x.last s u q e part in let stamp : e.stamp ≡ suc (max s.last x.last) = g.stamp in omega arith
