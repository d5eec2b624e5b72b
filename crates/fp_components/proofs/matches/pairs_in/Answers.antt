use Rattle.std.proofs.Common.{◌≡◌, Some, length, flat_map, slice_get, take, refl}
use Rattle.std.proofs.lemmas.Option.{slice_get_read}
use Rattle.fp_components.specs.Resolved.{IsMatch, match_in}
use Rattle.fp_components.proofs.Each.{each_none}
use Rattle.fp_components.proofs.Matched.{matches_all, matches_next, one_whole}
use Rattle.fp_components.proofs.matches.pairs_in.Goals as goal

pub loop-member-init : goal.loop-member-init
loop-member-init c all finds whole = each_none (λ k. IsMatch all) c.new-pairs.result c.new-pairs.ensures

pub loop-member-preserved : goal.loop-member-preserved
loop-member-preserved c all finds whole =
    let members = c.args.members.now in
    let n = c.loop-member.member-index in
    let x = c.member-item.result in
    let at : slice_get members n ≡ Some x = slice_get_read members (length members) n x refl c.loop-member-test.true c.member-item.is in
    matches_next all members n x _ at (c.in_ok-note_match.ensures all (flat_map match_in (take n members)) finds (one_whole all members n x at whole) (c.loop-member.invariant all finds whole))

pub returns : goal.returns
returns c all finds whole = matches_all all c.args.members.now c.loop-member.member-index c.loop-member.pairs c.loop-member-test.false (c.loop-member.invariant all finds whole)
