use Rattle.fp_gate.specs.Locks.{id_of, seats_of}
use Rattle.fp_plant.proofs.Beginning.{AreLocks}
use Rattle.fp_plant.proofs.opening.add_locks.Given as goal

abbrev pub invariant-loop-instance : goal.invariant-loop-instance
invariant-loop-instance l = AreLocks l.tables l.program (λ k. id_of k) (λ k. seats_of k) l.count l.instances l.instance-index l.locks.items l.rows.items
