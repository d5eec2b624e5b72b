use Rattle.std.proofs.Common.{◌≡◌, ◌∙◌, ◌++◌, [], ◌∷◌, List, ℕ, Some, length, map, slice_get, take, refl, sym, ap}
use Rattle.std.proofs.lemmas.Option.{slice_get_read}
use Rattle.fp_base.proofs.Mapped.{mapped_next}
use Rattle.fp_written_parts.specs.declared.member.WrittenInterface.{WrittenInterface}
use Rattle.fp_written_parts.specs.declared.member.WrittenMember.{WrittenMember}
use Rattle.fp_component_rules.specs.Links.{imported_in}
use Rattle.fp_component_rules.proofs.imports.imported_of_each.Goals as goal

abbrev row_of : WrittenInterface → List ℕ
row_of f = imported_in f.members

pub loop-interface-preserved : goal.loop-interface-preserved
loop-interface-preserved c =
    let all = c.args.interfaces.now in
    let n = c.loop-interface.interface-index in
    let f = c.interface-item.result in
    let at : slice_get all n ≡ Some f = slice_get_read all (length all) n f refl c.loop-interface-test.true c.interface-item.is in
    let row = c.in_ok-row.row in
    let row_is = c.in_ok-row.ensures ∙ ap (λ (ms : List WrittenMember). imported_in ms) c.as_slice.ensures in
    c.in_ok-push.ensures.items ∙ ap (λ (rows : List (List ℕ)). rows ++ row ∷ []) c.loop-interface.invariant
    ∙ ap (λ (r : List ℕ). map row_of (take n all) ++ r ∷ []) row_is ∙ sym (mapped_next row_of all n f at)
