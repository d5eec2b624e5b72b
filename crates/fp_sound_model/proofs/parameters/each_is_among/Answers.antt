use Rattle.std.proofs.Common.{◌∙◌, ℕ, Bool, sym, arith}
use Rattle.std.specs.Ordering.{nat_cmp}
use Rattle.std.specs.BTreeSet.{contains}
use Rattle.fp_sound_model.proofs.Numbered.{holds_here, fails_here}
use Rattle.fp_sound_model.proofs.parameters.each_is_among.Goals as goal

pub returns-then-not-contains : goal.returns-then-not-contains
returns-then-not-contains c =
    let test : ℕ → Bool = λ at. contains nat_cmp c.args.numbers.now at in
    sym (c.loop-at.invariant ∙ fails_here test c.loop-at.at-counter c.args.params.now (omega arith) (sym c.contains.ensures ∙ c.if-not-contains.true))

pub loop-at-preserved : goal.loop-at-preserved
loop-at-preserved c =
    let test : ℕ → Bool = λ at. contains nat_cmp c.args.numbers.now at in
    c.loop-at.invariant ∙ holds_here test c.loop-at.at-counter c.args.params.now (omega arith) (sym c.contains.ensures ∙ c.if-not-contains.false)
