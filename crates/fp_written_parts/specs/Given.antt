-- Where each expression in whose place a number is wanted has one.
use Rattle.std.specs.Prelude.{◌≡◌, ℕ, slice_get, Option, Some}
use Rattle.fp_written_parts.specs.declared.port.Given.{Given}
use Rattle.fp_written_parts.specs.Numbered.{HasNumber}
use Rattle.fp_written_parts.specs.declared.instance.WrittenInstance.{WrittenInstance}
use Rattle.fp_written_parts.specs.declared.topology.WrittenConnection.{WrittenConnection}
use Rattle.fp_written_parts.specs.declared.topology.WrittenDeployment.{WrittenDeployment}
use Rattle.fp_written_parts.specs.declared.topology.WrittenTopology.{WrittenTopology}

-- one that may be left out
abbrev pub HasNumberWhereGiven : Option Given → Type 0
HasNumberWhereGiven o = (g : Given) → o ≡ Some g → HasNumber g

pub record InstanceHasNumbers (i : WrittenInstance) : Type 0 where
  pub base : HasNumber i.base
  pub queue : HasNumberWhereGiven i.queue
  pub stack : HasNumberWhereGiven i.stack
  pub priority : HasNumberWhereGiven i.priority
  pub cpu : HasNumberWhereGiven i.cpu

pub record ConnectionHasNumbers (c : WrittenConnection) : Type 0 where
  pub from : HasNumberWhereGiven c.from.number
  pub to : HasNumberWhereGiven c.to.number

pub record DeploymentHasNumbers (d : WrittenDeployment) : Type 0 where
  pub instances : (k : ℕ) (i : WrittenInstance) → slice_get d.instances k ≡ Some i → InstanceHasNumbers i
  pub connections : (t : ℕ) (o : WrittenTopology) (k : ℕ) (c : WrittenConnection) → slice_get d.topologies t ≡ Some o → slice_get o.connections k ≡ Some c → ConnectionHasNumbers c
