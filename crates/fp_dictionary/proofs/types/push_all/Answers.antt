use Rattle.std.proofs.Common.{◌++◌, ◌+◌, ◌∙◌, ap, drop, sym, ℕ, List}
use Rattle.std.proofs.lemmas.List.{drop_more}
use Rattle.fp_dictionary.specs.Dictionary.{types_data}
use Rattle.fp_dictionary.specs.Printed.{items_printed}
use Rattle.fp_dictionary.proofs.types.push_all.Goals as goal

pub loop-at-preserved : goal.loop-at-preserved
loop-at-preserved c =
    let ks = c.args.positions.now in
    let i = c.loop-at.at-index in
    c.in_ok-later.ensures (drop (i + 1) ks)
    ∙ ap (λ (xs : List ℕ). c.loop-at.out ++ items_printed c.loop-at.later (types_data c.args.types.now xs)) (sym (drop_more ks i _ c.loop-at-test.true)) ∙ c.loop-at.invariant
