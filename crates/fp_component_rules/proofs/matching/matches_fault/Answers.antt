use Rattle.std.proofs.Common.{◌≡◌, ◌∙◌, ℕ, List, Some, length, slice_get, refl, sym, ap}
use Rattle.std.specs.Prelude.{option_map}
use Rattle.std.specs.List.{find}
use Rattle.std.proofs.lemmas.Option.{slice_get_read}
use Rattle.fp_base.proofs.Calculus.{least_along}
use Rattle.fp_base.proofs.Elements.{least_first_none, least_next, least_of_all}
use Rattle.fp_written_parts.specs.declared.port.WrittenPort.{WrittenPort}
use Rattle.fp_component_rules.specs.Firsts.{is_named}
use Rattle.fp_component_rules.specs.Broken.{MatchAt}
use Rattle.fp_component_rules.specs.Tested.{end_of, find_end}
use Rattle.fp_component_rules.proofs.Pairing.{match_least}
use Rattle.fp_component_rules.proofs.matching.matches_fault.Goals as goal

pub loop-member-init : goal.loop-member-init
loop-member-init c fs h = least_first_none (λ (k : ℕ). MatchAt fs c.args.members.now) c.args.members.now

pub loop-member-preserved : goal.loop-member-preserved
loop-member-preserved c fs h =
    let all = c.args.members.now in
    let gift = c.args.gift.now in
    let n = c.loop-member.member-index in
    let m = c.member-item.result in
    let at : slice_get all n ≡ Some m = slice_get_read all (length all) n m refl c.loop-member-test.true c.member-item.is in
    least_next (λ (k : ℕ). MatchAt fs all) all n m c.loop-member.first c.lesser-first.result c.match_fault-fault.result at c.lesser-first.ensures
    (least_along (sym c.match_fault-fault.ensures)
    (match_least fs all gift h (find_end c.in_ok-ends.ends)
    (λ q. c.in_ok-ends.ensures q ∙ ap (λ (ps : List WrittenPort). option_map end_of (find (is_named q) ps)) c.ports.ensures) m))
    (c.loop-member.invariant fs h)

pub returns : goal.returns
returns c fs h = least_of_all (λ (k : ℕ). MatchAt fs c.args.members.now) c.args.members.now c.loop-member.member-index c.loop-member.first c.loop-member-test.false (c.loop-member.invariant fs h)
