use Rattle.fp_base.proofs.KeySets.{name_added}
use Rattle.fp_component_rules.proofs.firsts.note.Goals as goal

pub returns-clause-names : goal.returns-clause-names
returns-clause-names c = name_added c.args.names.now c.insert.new.self c.args.name c.in_ok-added.ensures.keys
