use Rattle.std.proofs.Common.{◌≡◌, map, take}
use Rattle.std.specs.List.{enumerate_from}
use Rattle.serde_json.specs.Data.{no_members}
use Rattle.fp_dictionary.specs.Objects.{held, with_entries}
use Rattle.fp_dictionary.specs.Types.{member_entry}
use Rattle.fp_dictionary.proofs.descriptor_types.members_value.Given as goal

abbrev pub invariant-loop-at : goal.invariant-loop-at
invariant-loop-at l = held l.object ≡ with_entries (map (member_entry l.types) (take l.at (enumerate_from 0 l.fields))) no_members
