use Rattle.std.proofs.Common.{◌≡◌, ◌||◌, Bool, ℕ, List, Some, None, cond, length, slice_get, bytes_eq, refl, ap, ◌∙◌}
use Rattle.std.proofs.lemmas.Option.{slice_get_read}
use Rattle.fp_base.specs.declared.rule.Rule.TheVariants.{ParameterRepeated}
use Rattle.fp_base.specs.Least.{broken_at}
use Rattle.fp_base.specs.NameSets.{has_name}
use Rattle.fp_written_parts.specs.declared.port.WrittenFormal.{WrittenFormal}
use Rattle.fp_dictdefs.proofs.Naming.{names_none, names_next, names_all}
use Rattle.fp_dictdefs.proofs.names.repeated_formal.Goals as goal

pub loop-formal-init : goal.loop-formal-init
loop-formal-init c = names_none ParameterRepeated (λ (x : WrittenFormal). x.name) (λ (x : WrittenFormal). x.at) c.args.formals.now c.new-seen.result c.new-seen.ensures.empty

pub loop-formal-preserved : goal.loop-formal-preserved
loop-formal-preserved c =
    let all = c.args.formals.now in
    let n = c.loop-formal.formal-index in
    let x = c.formal-item.result in
    let at : slice_get all n ≡ Some x = slice_get_read all (length all) n x refl c.loop-formal-test.true c.formal-item.is in
    names_next ParameterRepeated (λ (y : WrittenFormal). y.name) (λ (y : WrittenFormal). y.at) all n x c.loop-formal.first c.lesser-first.result c.refusal_if-fault.result c.loop-formal.seen c.see.new.seen at c.lesser-first.ensures
    (c.refusal_if-fault.ensures
    ∙ ap (λ (b : Bool). cond b (Some (broken_at ParameterRepeated x.at)) None) (c.in_ok-again.ensures.again ∙ ap (has_name c.loop-formal.seen) c.as_str.ensures))
    (λ q. c.in_ok-again.ensures.seen q ∙ ap (λ (s : List ℕ). has_name c.loop-formal.seen q || bytes_eq q s) c.as_str.ensures) c.loop-formal.invariant

pub returns : goal.returns
returns c = names_all ParameterRepeated (λ (x : WrittenFormal). x.name) (λ (x : WrittenFormal). x.at) c.args.formals.now c.loop-formal.formal-index c.loop-formal.first c.loop-formal.seen c.loop-formal-test.false c.loop-formal.invariant
