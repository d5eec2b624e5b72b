use Rattle.std.proofs.Common.{◌≡◌, ◌++◌, take}
use Rattle.std.specs.Prelude.{flat_map}
use Rattle.fp_listing.specs.Members.{member_port}
use Rattle.fp_listing.proofs.members.push_ports.Given as goal

abbrev pub invariant-loop-port : goal.invariant-loop-port
invariant-loop-port l = l.out ≡ l.initial.out ++ flat_map (member_port l.model) (take l.port-index l.ports)
