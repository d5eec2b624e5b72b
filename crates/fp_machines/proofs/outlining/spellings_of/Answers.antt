use Rattle.std.proofs.Common.{◌∙◌, ap, sym, ℕ, Option}
use Rattle.fp_tables.proofs.Firsts.{position_at}
use Rattle.fp_machines.specs.Outline.{is_spelled}
use Rattle.fp_machines.specs.Found.{or_first}
use Rattle.fp_machines.proofs.outlining.spellings_of.Goals as goal

pub loop-at-preserved : goal.loop-at-preserved
loop-at-preserved c = λ t.
    let element = c.index-elements-at.result in
    c.in_ok-note.ensures t ∙ ap (λ (o : Option ℕ). or_first o (is_spelled t element) c.loop-at.at) (c.loop-at.invariant t)
    ∙ sym (position_at (is_spelled t) c.args.elements.now c.loop-at.at element c.loop-at-test.true c.index-elements-at.is)
