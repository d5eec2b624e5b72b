use Rattle.std.proofs.Common.{◌≡◌, Some, length, slice_get, refl}
use Rattle.std.proofs.lemmas.Option.{slice_get_read}
use Rattle.fp_tree.specs.declared.expression.Assignment.{Assignment}
use Rattle.fp_type_forms.proofs.Noting.{names_none, names_next, names_all}
use Rattle.fp_type_forms.proofs.names.repeated_name.Goals as goal

pub loop-member-init : goal.loop-member-init
loop-member-init c = names_none (λ (m : Assignment). m.name) c.args.members.now c.new-seen.result c.new-seen.ensures.empty

pub loop-member-preserved : goal.loop-member-preserved
loop-member-preserved c =
    let all = c.args.members.now in
    let n = c.loop-member.member-index in
    let x = c.member-item.result in
    let at : slice_get all n ≡ Some x = slice_get_read all (length all) n x refl c.loop-member-test.true c.member-item.is in
    names_next (λ (m : Assignment). m.name) all n x c.loop-member.first c.lesser-first.result c.in_ok-again.again c.loop-member.seen c.note.new.seen at c.lesser-first.ensures c.in_ok-again.ensures.again
    c.in_ok-again.ensures.seen c.loop-member.invariant

pub returns : goal.returns
returns c = names_all (λ (m : Assignment). m.name) c.args.members.now c.loop-member.member-index c.loop-member.first c.loop-member.seen c.loop-member-test.false c.loop-member.invariant
