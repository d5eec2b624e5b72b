use Rattle.std.proofs.Common.{◌≡◌, drop, map}
use Rattle.serde_json.specs.Data.{no_members}
use Rattle.fp_dictionary.specs.Objects.{held, with_entries}
use Rattle.fp_dictionary.specs.Members.{color_entry, side}
use Rattle.fp_dictionary.proofs.channels.side_value.Given as goal

abbrev pub invariant-loop-limit : goal.invariant-loop-limit
invariant-loop-limit l =
    with_entries (map color_entry (side l.high (drop l.limit-index l.limits))) (held l.colors) ≡ with_entries (map color_entry (side l.high l.limits)) no_members
