-- What has an id or an opcode of its own in a component, kind by kind, in source order. FPP Language Specification, "Command Specifiers", "Event
-- Specifiers", "Telemetry Channel Specifiers", "Parameter Specifiers".
use Rattle.std.specs.Prelude.{ℕ, List, [], ◌∷◌, ◌++◌, codes}
use Rattle.fp_written_parts.specs.declared.dictionary.WrittenParam.{WrittenParam}
use Rattle.fp_written_parts.specs.declared.member.WrittenMember.{WrittenMember}
use Rattle.fp_written_parts.specs.declared.member.WrittenMember.TheVariants.{Command, Event, Channel, Param}
use Rattle.fp_dictdefs.specs.declared.listed.Listed.{Listed}

-- the commands that set a parameter and save it
abbrev pub set_name : List ℕ → List ℕ
set_name name = name ++ codes "_PRM_SET"

abbrev pub save_name : List ℕ → List ℕ
save_name name = name ++ codes "_PRM_SAVE"

-- those of a parameter stand where it stands, first the one that sets it
abbrev pub commands_of : WrittenParam → List Listed
commands_of p = record { name = set_name p.name; id = p.set; at = p.at } ∷ record { name = save_name p.name; id = p.save; at = p.at } ∷ []

abbrev pub commands_in : WrittenMember → List Listed
commands_in (Command c) = record { name = c.name; id = c.opcode; at = c.at } ∷ []
commands_in (Param p) = commands_of p
commands_in _ = []

abbrev pub events_in : WrittenMember → List Listed
events_in (Event e) = record { name = e.name; id = e.id; at = e.at } ∷ []
events_in _ = []

abbrev pub channels_in : WrittenMember → List Listed
channels_in (Channel t) = record { name = t.name; id = t.id; at = t.at } ∷ []
channels_in _ = []

abbrev pub params_in : WrittenMember → List Listed
params_in (Param p) = record { name = p.name; id = p.id; at = p.at } ∷ []
params_in _ = []
