use Rattle.std.proofs.Common.{◌≡◌, ◌||◌, Bool, ℕ, List, Some, None, cond, length, slice_get, bytes_eq, refl, ap, ◌∙◌}
use Rattle.std.proofs.lemmas.Option.{slice_get_read}
use Rattle.fp_base.specs.declared.rule.Rule.TheVariants.{NameRepeated}
use Rattle.fp_base.specs.Least.{broken_at}
use Rattle.fp_base.specs.NameSets.{has_name}
use Rattle.fp_dictdefs.specs.declared.listed.Listed.{Listed}
use Rattle.fp_dictdefs.proofs.Naming.{names_none, names_next, names_all}
use Rattle.fp_dictdefs.proofs.names.name_fault.Goals as goal

pub loop-one-init : goal.loop-one-init
loop-one-init c = names_none NameRepeated (λ (x : Listed). x.name) (λ (x : Listed). x.at) c.args.list.now c.new-seen.result c.new-seen.ensures.empty

pub loop-one-preserved : goal.loop-one-preserved
loop-one-preserved c =
    let all = c.args.list.now in
    let n = c.loop-one.one-index in
    let x = c.one-item.result in
    let at : slice_get all n ≡ Some x = slice_get_read all (length all) n x refl c.loop-one-test.true c.one-item.is in
    names_next NameRepeated (λ (y : Listed). y.name) (λ (y : Listed). y.at) all n x c.loop-one.first c.lesser-first.result c.refusal_if-fault.result c.loop-one.seen c.see.new.seen at c.lesser-first.ensures
    (c.refusal_if-fault.ensures
    ∙ ap (λ (b : Bool). cond b (Some (broken_at NameRepeated x.at)) None) (c.in_ok-again.ensures.again ∙ ap (has_name c.loop-one.seen) c.as_str.ensures))
    (λ q. c.in_ok-again.ensures.seen q ∙ ap (λ (s : List ℕ). has_name c.loop-one.seen q || bytes_eq q s) c.as_str.ensures) c.loop-one.invariant

pub returns : goal.returns
returns c = names_all NameRepeated (λ (x : Listed). x.name) (λ (x : Listed). x.at) c.args.list.now c.loop-one.one-index c.loop-one.first c.loop-one.seen c.loop-one-test.false c.loop-one.invariant
