use Rattle.std.proofs.Common.{◌≡◌, ◌∙◌, ◌++◌, [], ◌∷◌, List, ℕ, Some, length, slice_get, refl, sym, ap}
use Rattle.std.proofs.lemmas.Option.{slice_get_read}
use Rattle.fp_component_rules.specs.Links.{imported_by, imported_in}
use Rattle.fp_component_rules.proofs.Sorting.{filtered_next}
use Rattle.fp_component_rules.proofs.imports.imported_in.Goals as goal

pub loop-member-preserved : goal.loop-member-preserved
loop-member-preserved c =
    let all = c.args.members.now in
    let n = c.loop-member.member-index in
    let m = c.member-item.result in
    let at : slice_get all n ≡ Some m = slice_get_read all (length all) n m refl c.loop-member-test.true c.member-item.is in
    c.in_ok-imported.ensures ∙ ap (λ (xs : List ℕ). xs ++ imported_in (m ∷ [])) c.loop-member.invariant ∙ sym (filtered_next imported_by all n m at)
