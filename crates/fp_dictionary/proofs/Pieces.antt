-- A dictionary's text from the pieces that are added.
use Rattle.std.proofs.Common.{◌≡◌, ℕ, List, [], ◌++◌, codes, refl, sym, ◌∙◌}
use Rattle.fp_tables.specs.declared.component.Channel.{Channel}
use Rattle.fp_tables.specs.declared.component.Command.{Command}
use Rattle.fp_tables.specs.declared.component.Component.{Component}
use Rattle.fp_tables.specs.declared.component.Event.{Event}
use Rattle.fp_tables.specs.declared.component.Param.{Param}
use Rattle.fp_tables.specs.declared.model.Model.{Model}
use Rattle.fp_tables.specs.declared.topology.Topology.{Topology}
use Rattle.serde_json.specs.Written.{compact_text}
use Rattle.fp_dictionary.specs.Dictionary.{AreInOrder, IsDictionary, IsTextOf, Numbered, members_listed, metadata, said, types_data}
use Rattle.fp_dictionary.specs.Members.{channel_data, command_data, event_data, parameter_data}
use Rattle.fp_dictionary.specs.Printed.{Adds, AddsTypes}
use Rattle.fp_dictionary.proofs.Texts.{at_first, behind, root_text}

module _ (m : Model) (o : Topology) where
  abbrev pub AreCommands : List Numbered → Type 0
  AreCommands = AreInOrder (members_listed m (λ (c : Component). c.commands) (λ (x : Command). x.opcode) (command_data m.types) o)

  abbrev pub AreParameters : List Numbered → Type 0
  AreParameters = AreInOrder (members_listed m (λ (c : Component). c.params) (λ (p : Param). p.id) (parameter_data m.types) o)

  abbrev pub AreEvents : List Numbered → Type 0
  AreEvents = AreInOrder (members_listed m (λ (c : Component). c.events) (λ (e : Event). e.id) (event_data m.types) o)

  abbrev pub AreChannels : List Numbered → Type 0
  AreChannels = AreInOrder (members_listed m (λ (c : Component). c.channels) (λ (t : Channel). t.id) (channel_data m.types) o)

  pub whole_text : (nothing with_head with_commands with_containers with_events before_metadata with_metadata before_parameters with_parameters with_records with_channels with_packets with_types whole : List ℕ)
      → nothing ≡ []
      → with_head ≡ nothing ++ codes "{\"commands\":[" → Adds AreCommands with_head with_commands
      → with_containers ≡ with_commands ++ codes "],\"containers\":[],\"events\":[" → Adds AreEvents with_containers with_events
      → before_metadata ≡ with_events ++ codes "],\"metadata\":" → with_metadata ≡ before_metadata ++ compact_text (metadata o.name)
      → before_parameters ≡ with_metadata ++ codes ",\"parameters\":[" → Adds AreParameters before_parameters with_parameters
      → with_records ≡ with_parameters ++ codes "],\"records\":[],\"telemetryChannels\":[" → Adds AreChannels with_records with_channels
      → with_packets ≡ with_channels ++ codes "],\"telemetryPacketSets\":[],\"typeDefinitions\":[" → AddsTypes m o with_packets with_types → whole ≡ with_types ++ codes "]}\n" → IsTextOf m o whole
  whole_text a b c d e f g h i j k l n z begun p0 cs p1 es p2 p3 p4 ps p5 ts p6 ks p7 =
      let is : IsDictionary m o _ =
      record {
        types = ks.0;
        commands = cs.0;
        parameters = ps.0;
        events = es.0;
        channels = ts.0;
        types_are = ks.1;
        commands_are = cs.1;
        parameters_are = ps.1;
        events_are = es.1;
        channels_are = ts.1;
        is = refl;
      }
      in
      let text =
      p7 ∙ behind l n _ _ ks.2 ∙ behind k l _ _ p6 ∙ behind j k _ _ ts.2 ∙ behind i j _ _ p5 ∙ behind h i _ _ ps.2 ∙ behind g h _ _ p4 ∙ behind f g _ _ p3
      ∙ behind e f _ _ p2 ∙ behind d e _ _ es.2 ∙ behind c d _ _ p1 ∙ behind b c _ _ cs.2 ∙ behind a b _ _ p0 ∙ at_first a _ begun
      in
      (_, is, text ∙ sym (root_text o.name (types_data m.types ks.0) (said cs.0) (said ps.0) (said es.0) (said ts.0)))
