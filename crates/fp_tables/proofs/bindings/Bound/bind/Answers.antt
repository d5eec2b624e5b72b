use Rattle.std.proofs.lemmas.Map.Text.{btree_map_updates_str}
use Rattle.fp_tables.proofs.bindings.Bound.bind.Goals as goal

pub returns : goal.returns
returns c = λ j q. btree_map_updates_str c.args.name.now c.args.self.now.kinds c.insert.new.self _ c.in_ok-insert.ensures.updates q j
