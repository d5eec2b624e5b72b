use Rattle.std.proofs.Common.{◌≡◌, List, Some, length, slice_get, refl, sym, subst, arith}
use Rattle.std.proofs.lemmas.Option.{slice_get_read}
use Rattle.std.proofs.lemmas.List.{take_all}
use Rattle.fp_base.proofs.Lists.{take_next}
use Rattle.fp_meaning.specs.declared.names.Definition.{Definition}
use Rattle.fp_meaning.specs.Broken.{IsTwice}
use Rattle.fp_base.specs.Least.{InFirst, IsLeast}
use Rattle.fp_base.proofs.Elements.{least_first_none, least_first_all}
use Rattle.fp_names.specs.Tree.{IsTable}
use Rattle.fp_names.proofs.Faults.{twice_next}
use Rattle.fp_names.proofs.Roots.{roots_table}
use Rattle.fp_names.proofs.table.table_of.Goals as goal

pub loop-number-init : goal.loop-number-init
loop-number-init c = record {
  table = roots_table c.in_ok-nodes.nodes.items c.in_ok-nodes.ensures;
  least = least_first_none (IsTwice c.args.definitions.now) c.args.definitions.now;
}

pub loop-number-preserved : goal.loop-number-preserved
loop-number-preserved c =
    let all = c.args.definitions.now in
    let n = c.loop-number.number in
    let d = c.index-definitions-number.result in
    let at : slice_get all n ≡ Some d = slice_get_read all (length all) n d refl c.loop-number-test.true c.index-definitions-number.is in
    record {
      table = subst (λ (ds : List Definition). IsTable ds c.add.new.nodes.items) (sym (take_next all n d at)) c.in_ok-again.ensures.table;
      least = twice_next all n d c.loop-number.twice c.refusal_if.result c.lesser-twice.result c.in_ok-again.again at c.loop-number.invariant.least c.in_ok-again.ensures.again c.refusal_if.ensures c.lesser-twice.ensures;
    }

pub returns : goal.returns
returns c =
    let all = c.args.definitions.now in
    let n = c.loop-number.number in
    let ended : n ≡ length all = omega (arith, c.loop-number-test.false, c.loop-number.auto.number-end) in
    record {
      table = subst (λ (ds : List Definition). IsTable ds c.loop-number.nodes.items) (take_all n all c.loop-number-test.false) c.loop-number.invariant.table;
      twice = least_first_all (IsTwice all) all c.loop-number.twice (subst (λ k. IsLeast (InFirst k (IsTwice all) all) c.loop-number.twice) ended c.loop-number.invariant.least);
    }
