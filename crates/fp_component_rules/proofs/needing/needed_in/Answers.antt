use Rattle.std.proofs.Common.{◌≡◌, ◌∙◌, ◌≤◌, List, Some, length, slice_get, take, refl, sym, ap}
use Rattle.std.specs.List.{list_any}
use Rattle.std.proofs.lemmas.List.{take_all}
use Rattle.std.proofs.lemmas.Option.{slice_get_read}
use Rattle.fp_base.proofs.Lists.{take_next}
use Rattle.fp_base.proofs.Passing.{any_pushed}
use Rattle.fp_written_parts.specs.declared.member.WrittenMember.{WrittenMember}
use Rattle.fp_component_rules.specs.Broken.{needs}
use Rattle.fp_component_rules.proofs.Meeting.{joined_as}
use Rattle.fp_component_rules.proofs.needing.needed_in.Goals as goal

pub loop-member-init : goal.loop-member-init
loop-member-init c s = c.none-needed.ensures s

pub loop-member-preserved : goal.loop-member-preserved
loop-member-preserved c s =
    let all = c.args.members.now in
    let n = c.loop-member.member-index in
    let m = c.member-item.result in
    let at : slice_get all n ≡ Some m = slice_get_read all (length all) n m refl c.loop-member-test.true c.member-item.is in
    c.joined-needed.ensures s ∙ joined_as _ _ _ _ (c.loop-member.invariant s) (c.needed_by.ensures s)
    ∙ sym (ap (λ (ms : List WrittenMember). list_any (needs s) ms) (take_next all n m at) ∙ any_pushed (needs s) (take n all) m)

pub returns : goal.returns
returns c s =
    let over : length c.args.members.now ≤ c.loop-member.member-index = c.loop-member-test.false in
    c.loop-member.invariant s ∙ ap (λ (ms : List WrittenMember). list_any (needs s) ms) (take_all c.loop-member.member-index c.args.members.now over)
