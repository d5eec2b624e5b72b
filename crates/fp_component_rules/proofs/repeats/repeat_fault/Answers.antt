use Rattle.std.proofs.Common.{◌≡◌, ◌∙◌, ◌||◌, List, Some, length, slice_get, refl, ap}
use Rattle.std.proofs.lemmas.Option.{slice_get_read}
use Rattle.fp_base.proofs.Elements.{least_of_all}
use Rattle.fp_written_parts.specs.declared.port.WrittenPort.{WrittenPort}
use Rattle.fp_component_rules.specs.Firsts.{has_port}
use Rattle.fp_component_rules.specs.Broken.{RepeatsAt}
use Rattle.fp_component_rules.proofs.Clashing.{repeats_next, repeats_none, within_one}
use Rattle.fp_component_rules.proofs.repeats.repeat_fault.Goals as goal

pub loop-member-init : goal.loop-member-init
loop-member-init c fs gifts within = repeats_none fs c.args.members.now c.new-seen.result c.none-kinds.result c.new-seen.ensures c.none-kinds.ensures

pub loop-member-preserved : goal.loop-member-preserved
loop-member-preserved c fs gifts within =
    let all = c.args.members.now in
    let n = c.loop-member.member-index in
    let m = c.member-item.result in
    let gift = c.in_ok-gift.gift in
    let seen = c.loop-member.seen in
    let at : slice_get all n ≡ Some m = slice_get_read all (length all) n m refl c.loop-member-test.true c.member-item.is in
    repeats_next fs all n m gift seen c.in_ok-seen.seen c.loop-member.kinds c.joined-kinds.result c.loop-member.first c.lesser-first.result c.clash_fault-fault.result at
    (c.in_ok-gift.ensures fs gifts (within_one fs all n m at within)) c.clash_fault-fault.ensures c.lesser-first.ensures
    (λ q. c.in_ok-seen.ensures q ∙ ap (λ (ps : List WrittenPort). has_port q seen || has_port q ps) c.ports.ensures) c.joined-kinds.ensures
    (c.loop-member.invariant fs gifts within)

pub returns : goal.returns
returns c fs gifts within = least_of_all (RepeatsAt fs c.args.members.now) c.args.members.now c.loop-member.member-index c.loop-member.first c.loop-member-test.false (c.loop-member.invariant fs gifts within).least
