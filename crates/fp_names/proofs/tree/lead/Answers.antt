use Rattle.std.proofs.Common.{Some, refl}
use Rattle.std.specs.String.{string_bytes}
use Rattle.std.proofs.lemmas.Map.Text.{hash_map_updates_text}
use Rattle.fp_names.proofs.tree.lead.Goals as goal

pub returns : goal.returns
returns c = record {
  next = λ other. hash_map_updates_text (string_bytes c.args.name) c.args.node.now.next c.insert.new.self (Some c.args.to) c.in_ok-insert.ensures.updates other;
  meaning = refl;
}
