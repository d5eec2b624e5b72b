use Rattle.std.proofs.Common.{◌+◌, take, map, ap, ◌∙◌, arith}
use Rattle.std.specs.List.{enumerate_from}
use Rattle.serde_json.specs.Data.{object, no_members}
use Rattle.fp_dictionary.specs.Objects.{held, with_entries}
use Rattle.fp_dictionary.specs.Types.{member_entry}
use Rattle.fp_dictionary.proofs.DescriptorEntries.{entry_more, next_numbered, all_numbered}
use Rattle.fp_dictionary.proofs.descriptor_types.members_value.Goals as goal

pub loop-at-preserved : goal.loop-at-preserved
loop-at-preserved c =
    let fields = c.args.fields.now in
    let i = c.loop-at.at in
    let field = c.index-fields-at.result in
    entry_more (member_entry c.args.types.now) (take i (enumerate_from 0 fields)) (take (i + 1) (enumerate_from 0 fields)) (i, field) (held c.loop-at.object) (held c.put.new.self) c.as_str.result.now _
    (next_numbered fields i field c.loop-at-test.true c.index-fields-at.is) c.loop-at.invariant c.as_str.ensures c.in_ok-member.ensures c.in_ok-put.ensures

pub returns : goal.returns
returns c =
    let fields = c.args.fields.now in
    c.into_value.ensures
    ∙ ap object (c.loop-at.invariant
    ∙ ap (λ ps. with_entries (map (member_entry c.args.types.now) ps) no_members) (all_numbered fields c.loop-at.at (omega (arith, c.loop-at-test.false, c.loop-at.auto))))
