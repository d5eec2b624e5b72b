use Rattle.std.proofs.Common.{◌≡◌, ◌<◌, length, subst, get_or}
use Rattle.fp_meaning.specs.Names.{Path}
use Rattle.fp_names.proofs.Tables.{within_nodes, begin_within, enter_step}
use Rattle.fp_names.proofs.table.enter_all.Goals as goal

pub enter-requires : goal.enter-requires
enter-requires c = within_nodes _ _ c.loop-name.nodes.items _ _ c.loop-name.at c.loop-name.invariant

pub loop-name-init : goal.loop-name-init
loop-name-init c = begin_within c.args.before.now c.args.definition.now c.args.nodes.now.items c.root_of-at.result c.requires c.root_of-at.ensures

pub loop-name-preserved : goal.loop-name-preserved
loop-name-preserved c =
    let same : c.as_slice-name-items.result.now ≡ c.args.definition.now.name = c.as_slice-name-items.ensures in
    enter_step c.args.before.now c.args.definition.now c.loop-name.nodes.items c.enter.new.nodes.items c.loop-name.at c.in_ok-at.at c.loop-name.name-index c.name-item.result
    (subst (λ (xs : Path). c.loop-name.name-index < length xs) same c.loop-name-test.true)
    (subst (λ (xs : Path). c.name-item.result ≡ get_or xs c.loop-name.name-index c.name-item.result) same c.name-item.is)
    c.loop-name.invariant c.in_ok-at.ensures
