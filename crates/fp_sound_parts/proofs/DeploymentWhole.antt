-- That unbroken topologies are sound with their numbers.
use Rattle.std.proofs.Common.{◌≡◌, ℕ, true, List, Some, slice_get}
use Rattle.fp_base.specs.Least.{IsUnbroken}
use Rattle.fp_tables.specs.Components.{is_from_1_to}
use Rattle.fp_tables.specs.Names.{numbers_differ}
use Rattle.fp_tables.specs.Sound.{each_port, IsSoundWith}
use Rattle.fp_tables.specs.declared.model.Model.{Model}
use Rattle.fp_tables.specs.declared.topology.Topology.{Topology}
use Rattle.fp_numbering.specs.Answers.{AreNumbered}
use Rattle.fp_numbering.specs.Links.{LinksAreSound}
use Rattle.fp_written_parts.specs.declared.topology.WrittenTopology.{WrittenTopology}
use Rattle.fp_topologies.specs.ImportLaws.{UnbrokenAreClosed}
use Rattle.fp_topologies.specs.Broken.{TopologiesBroken}
use Rattle.fp_topologies.specs.Laws.{InstancesDiffer, LinksJoinMembers}
use Rattle.fp_topologies.specs.Resolved.{AreTopologies}
use Rattle.fp_sound_parts.specs.Premises.{HasSuitingPorts}
use Rattle.fp_sound_parts.proofs.Holding.{all_held, have_closures}
use Rattle.fp_sound_parts.proofs.Linked.{links_sound}

abbrev pub SoundWithNumbers : Type 0
SoundWithNumbers = (m : Model) (o : Topology) → AreNumbered m o.links o.wires → numbers_differ o.instances ≡ true → LinksAreSound m o → each_port (λ p. is_from_1_to 1024 p.size) m ≡ true → IsSoundWith m o

pub all_sound : UnbrokenAreClosed → InstancesDiffer → LinksJoinMembers → SoundWithNumbers → (m : Model) (ts : List WrittenTopology) → HasSuitingPorts m
    → AreTopologies m.ports m.components m.instances ts m.topologies → IsUnbroken (TopologiesBroken m.ports m.components m.instances ts) → (t : ℕ) (o : Topology) → slice_get m.topologies t ≡ Some o
    → AreNumbered m o.links o.wires → IsSoundWith m o
all_sound closed differ join with_numbers m ts ports are unbroken t o at numbered =
    let have = have_closures m.ports m.components m.instances ts unbroken closed in
    let uses = all_held m.ports m.components m.instances ts unbroken in
    with_numbers m o numbered (differ m.ports m.components m.instances ts m.topologies have are t o at)
    (links_sound m ports ts m.topologies unbroken have are t o at (join m.ports m.components m.instances ts m.topologies have uses are t o at)) ports.are_of_size
