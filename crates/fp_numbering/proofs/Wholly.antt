-- That a topology is sound with its numbers.
use Rattle.std.specs.Prelude.{◌≡◌, true}
use Rattle.fp_tables.specs.Components.{is_from_1_to}
use Rattle.fp_tables.specs.Names.{numbers_differ}
use Rattle.fp_tables.specs.Sound.{each_port, IsSoundWith}
use Rattle.fp_tables.specs.declared.model.Model.{Model}
use Rattle.fp_tables.specs.declared.topology.Topology.{Topology}
use Rattle.fp_numbering.specs.Answers.{AreNumbered}
use Rattle.fp_numbering.specs.Links.{LinksAreSound}
use Rattle.fp_numbering.proofs.Apart.{all_differ}
use Rattle.fp_numbering.proofs.Below.{all_below}
use Rattle.fp_numbering.proofs.Carried.{links_lie, all_members, all_directions, all_definitions}

pub all_sound : (m : Model) (o : Topology) → AreNumbered m o.links o.wires → numbers_differ o.instances ≡ true → LinksAreSound m o → each_port (λ p. is_from_1_to 1024 p.size) m ≡ true → IsSoundWith m o
all_sound m o are differ sound sizes =
    record {
      instances_differ = differ;
      wires_join_members = all_members m o are sound;
      wires_go_from_outputs_to_inputs = all_directions m o are sound;
      wires_join_one_definition = all_definitions m o are sound;
      wires_are_numbered_below_sizes = all_below m o are (links_lie m o are sound) sizes;
      beginnings_differ = all_differ m o are;
    }
