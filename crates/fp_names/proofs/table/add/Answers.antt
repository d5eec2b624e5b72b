use Rattle.std.proofs.Common.{ℕ, subst}
use Rattle.fp_names.specs.Tree.{Says}
use Rattle.fp_names.proofs.Tables.{within_nodes, finish, earlier_said}
use Rattle.fp_names.proofs.table.add.Goals as goal

pub say-requires : goal.say-requires
say-requires c = within_nodes _ _ c.enter_all.new.nodes.items _ _ c.in_ok-at.at c.in_ok-at.ensures

pub returns-clause-table : goal.returns-clause-table
returns-clause-table c =
    finish c.args.before.now c.args.definition.now c.enter_all.new.nodes.items c.say.new.nodes.items c.in_ok-at.at c.in_ok-at.ensures
    (subst (λ (n : ℕ). Says c.enter_all.new.nodes.items c.say.new.nodes.items c.in_ok-at.at n) c.in_ok-number.ensures c.say.ensures.says)

pub returns-clause-again : goal.returns-clause-again
returns-clause-again c = earlier_said c.args.before.now c.args.definition.now c.enter_all.new.nodes.items c.in_ok-at.at c.say.result c.say.ensures.before c.in_ok-at.ensures
