use Rattle.std.proofs.Common.{◌≡◌, ℕ, ◌+◌, ◌<◌, List, Some, length, flat_map, slice_get, get_or, Option, sym, ap, subst, ◌∙◌, arith, length-set}
use Rattle.std.proofs.lemmas.Option.{slice_get-get_or}
use Rattle.fp_consts.specs.declared.measured.Measured.{Measured}
use Rattle.fp_graph.specs.Chains.{IsSorted}
use Rattle.fp_meaning.specs.Names.{definitions_of}
use Rattle.fp_meaning.specs.Uses.{Uses}
use Rattle.fp_consts.specs.Tabled.{IsDefined, AreExactFirst}
use Rattle.fp_consts.proofs.Tabled.{exact_next, exact_all}
use Rattle.fp_consts.proofs.tabling.table_of.Goals as goal

pub loop-number-preserved : goal.loop-number-preserved
loop-number-preserved c =
    let order = c.as_slice-order.result.now in
    let k = c.loop-number.number-index in
    let firsts = c.args.laid.now.firsts in
    let cyclic = c.args.chained.now.cyclic.items in
    let table = c.loop-number.table.items in
    let sorted : IsSorted (length (flat_map definitions_of c.args.items.now)) (Uses c.args.items.now) order cyclic = subst (λ (xs : List ℕ). IsSorted (length (flat_map definitions_of c.args.items.now)) (Uses c.args.items.now) xs cyclic) (sym c.as_slice-order.ensures.value) c.requires in
    let at : slice_get order k ≡ Some (get_or order k 0) = slice_get-get_or order k 0 c.loop-number-test.true in
    let long = c.loop-number.invariant.long in
    let within = sorted.ordered.within k (get_or order k 0) at in
    let count = sorted.flagged.each in
    let low : get_or order k 0 < length table = omega arith in
    let defined : IsDefined c.args.items.now firsts c.args.laid.now.spots c.args.meanings.now cyclic table (get_or order k 0) c.in_ok-value.value =
    subst (λ (xs : List (Option Measured)). IsDefined c.args.items.now firsts c.args.laid.now.spots c.args.meanings.now cyclic xs (get_or order k 0) c.in_ok-value.value) c.as_slice.ensures.value c.in_ok-value.ensures in
    record {
      long = ap (λ (xs : List (Option Measured)). length xs) c.put.ensures ∙ length-set table (get_or order k 0) c.in_ok-value.value ∙ long;
      exact = λ source out.
          subst (λ (xs : List (Option Measured)). AreExactFirst source order (k + 1) xs) (sym c.put.ensures)
          (exact_next source c.args.items.now firsts c.args.laid.now.spots c.args.meanings.now order cyclic out sorted table k (get_or order k 0) c.in_ok-value.value at low
          (c.loop-number.invariant.exact source out) defined);
    }

pub returns : goal.returns
returns c source out =
    let order = c.as_slice-order.result.now in
    let firsts = c.args.laid.now.firsts in
    let cyclic = c.args.chained.now.cyclic.items in
    let sorted : IsSorted (length (flat_map definitions_of c.args.items.now)) (Uses c.args.items.now) order cyclic = subst (λ (xs : List ℕ). IsSorted (length (flat_map definitions_of c.args.items.now)) (Uses c.args.items.now) xs cyclic) (sym c.as_slice-order.ensures.value) c.requires in
    exact_all source c.args.items.now firsts c.args.laid.now.spots c.args.meanings.now order cyclic out sorted c.loop-number.table.items c.loop-number.number-index c.loop-number-test.false
    (c.loop-number.invariant.exact source out)
