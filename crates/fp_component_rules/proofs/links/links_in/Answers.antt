use Rattle.std.proofs.Common.{◌≡◌, ◌∙◌, ◌++◌, [], ◌∷◌, List, Some, length, slice_get, refl, sym, ap}
use Rattle.std.proofs.lemmas.Option.{slice_get_read}
use Rattle.fp_component_rules.specs.declared.links.Link.{Link}
use Rattle.fp_component_rules.specs.Links.{link_by, links_in}
use Rattle.fp_component_rules.proofs.Sorting.{filtered_next}
use Rattle.fp_component_rules.proofs.links.links_in.Goals as goal

pub loop-member-preserved : goal.loop-member-preserved
loop-member-preserved c =
    let all = c.args.members.now in
    let n = c.loop-member.member-index in
    let m = c.member-item.result in
    let at : slice_get all n ≡ Some m = slice_get_read all (length all) n m refl c.loop-member-test.true c.member-item.is in
    c.in_ok-links.ensures ∙ ap (λ (xs : List Link). xs ++ links_in c.args.importer (m ∷ [])) c.loop-member.invariant ∙ sym (filtered_next (link_by c.args.importer) all n m at)
