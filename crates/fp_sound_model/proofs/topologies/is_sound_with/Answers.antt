use Rattle.std.proofs.Common.{◌∙◌, ap, sym}
use Rattle.std.specs.List.{list_all}
use Rattle.fp_tables.specs.Names.{numbers_differ}
use Rattle.fp_tables.specs.Instances.{goes_from_output_to_input, joins_one_definition, is_numbered_below_sizes}
use Rattle.fp_sound_model.proofs.Joining.{six, six_back}
use Rattle.fp_sound_model.proofs.topologies.is_sound_with.Goals as goal

pub returns : goal.returns
returns c =
    let m = c.args.model.now in
    let o = c.args.topology.now in
    let same = (c.as_slice-wires).ensures in
    let differ = c.in_ok-differ.ensures ∙ ap numbers_differ (c.in_ok-instances.ensures.items ∙ c.as_slice.ensures) in
    let outputs = (c.wires_go_from_outputs_to_inputs-outputs).ensures ∙ ap (list_all (goes_from_output_to_input m o)) same in
    let one = (c.wires_join_one_definition-definition).ensures ∙ ap (list_all (joins_one_definition m o)) same in
    let numbers = (c.wires_are_numbered_below_sizes-numbers).ensures ∙ ap (list_all (is_numbered_below_sizes m o)) same in (
      λ h.
          let k = six _ _ _ _ _ _ h in
          record {
            instances_differ = sym differ ∙ k.0;
            wires_join_members = sym c.in_ok-join.ensures ∙ k.1;
            wires_go_from_outputs_to_inputs = sym outputs ∙ k.2;
            wires_join_one_definition = sym one ∙ k.3;
            wires_are_numbered_below_sizes = sym numbers ∙ k.4;
            beginnings_differ = sym c.in_ok-begin.ensures ∙ k.5;
          },
      λ s. six_back _ _ _ _ _ _ (differ ∙ s.instances_differ) (c.in_ok-join.ensures ∙ s.wires_join_members) (outputs ∙ s.wires_go_from_outputs_to_inputs)
          (one ∙ s.wires_join_one_definition) (numbers ∙ s.wires_are_numbered_below_sizes) (c.in_ok-begin.ensures ∙ s.beginnings_differ),
    )
