use Rattle.std.proofs.Common.{sym, ◌∙◌}
use Rattle.fp_machine_rules.proofs.Outward.{parent_before}
use Rattle.fp_machine_rules.proofs.Choices.{inside_here, inside_deeper, inside_goes_on}
use Rattle.fp_machine_rules.proofs.rings.is_inside.Goals as goal

pub returns-then-around-state : goal.returns-then-around-state
returns-then-around-state c =
    c.line.invariant.0 (inside_here c.args.items.now c.args.state c.line.at c.in-Some.around (sym c.parent_of.ensures ∙ c.in-Some.is) c.if-around-state.true)

pub line-smaller : goal.line-smaller
line-smaller c = parent_before c.args.items.now c.args.vertex c.requires c.line.at c.in-Some.around (sym c.parent_of.ensures ∙ c.in-Some.is)

pub line-preserved : goal.line-preserved
line-preserved c =
    let e = sym c.parent_of.ensures ∙ c.in-Some.is in (
      λ i. c.line.invariant.0 (inside_deeper c.args.items.now c.args.state c.line.at c.in-Some.around e i),
      λ i. inside_goes_on c.args.items.now c.args.state c.line.at c.in-Some.around e c.if-around-state.false (c.line.invariant.1 i),
    )
