use Rattle.std.proofs.Common.{◌≡◌, ℕ, Some, length, slice_get, refl}
use Rattle.std.proofs.lemmas.Option.{slice_get_read}
use Rattle.fp_base.proofs.Elements.{least_first_none, least_next, least_of_all}
use Rattle.fp_dictdefs.specs.Broken.{DictionaryBroken}
use Rattle.fp_dictdefs.proofs.faults.dictionary_faults.Goals as goal

pub loop-component-init : goal.loop-component-init
loop-component-init c = least_first_none (λ (k : ℕ). DictionaryBroken c.args.types.now) c.args.components.now

pub loop-component-preserved : goal.loop-component-preserved
loop-component-preserved c =
    let all = c.args.components.now in
    let n = c.loop-component.component-index in
    let x = c.component-item.result in
    let at : slice_get all n ≡ Some x = slice_get_read all (length all) n x refl c.loop-component-test.true c.component-item.is in
    least_next (λ (k : ℕ). DictionaryBroken c.args.types.now) all n x c.loop-component.first c.lesser-first.result c.in_ok-fault.fault at c.lesser-first.ensures c.in_ok-fault.ensures c.loop-component.invariant

pub returns : goal.returns
returns c = least_of_all (λ (k : ℕ). DictionaryBroken c.args.types.now) c.args.components.now c.loop-component.component-index c.loop-component.first c.loop-component-test.false c.loop-component.invariant
