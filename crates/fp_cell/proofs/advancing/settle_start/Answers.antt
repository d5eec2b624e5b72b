use Rattle.fp_cell.specs.Stepping.{inside}
use Rattle.fp_cell.proofs.Advanced.{started}
use Rattle.fp_cell.proofs.advancing.settle_start.Goals as goal

pub returns-clause-ok : goal.returns-clause-ok
returns-clause-ok c =
    λ t program i actor signal value m is none e.
    started t program i actor c.args.running signal value m (inside c.args.state.now) c.args.walked is c.in_ok-told.told c.put_at.new.items.items _ c.leaf-leaf.result _
    c.into_parts-actions.ensures.actions c.leaf-leaf.ensures c.into_parts-actions.ensures.reached c.put_at.ensures c.in_ok-told.ensures none e
