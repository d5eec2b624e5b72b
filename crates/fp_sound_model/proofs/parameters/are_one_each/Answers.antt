use Rattle.std.proofs.Common.{◌≡◌, ◌∙◌, ◌&&◌, Bool, true, ap₂, arith}
use Rattle.std.proofs.lemmas.Cmp.{nat_cmp_total}
use Rattle.std.proofs.lemmas.Bool.Decides.{nat_tests, same_from_decides}
use Rattle.std.specs.Ordering.{eq_by_cmp, nat_cmp}
use Rattle.fp_tables.specs.Lists.{apart}
use Rattle.fp_tables.proofs.Differing.{distinct_count, differ_numbers}
use Rattle.fp_sound_model.proofs.Numbered.{each_among}
use Rattle.fp_sound_model.proofs.parameters.are_one_each.Goals as goal

pub returns : goal.returns
returns c =
    let numbers = c.args.numbers.items in
    let distinct = c.in_ok-distinct.distinct in
    let d = distinct_count nat_cmp_total numbers distinct c.in_ok-distinct.ensures in
    let differ = same_from_decides {P = apart (eq_by_cmp nat_cmp) numbers ≡ true} _ (apart (eq_by_cmp nat_cmp) numbers)
    (λ h. d.0 (grind (arith, nat_tests, c.len.ensures.len, c.len-count.ensures, h)), λ h. let e = d.1 h in grind (arith, nat_tests, c.len.ensures.len, c.len-count.ensures, e)) (λ h. h, λ h. h) in
    ap₂ (λ (a b : Bool). a && b) (c.each_is_among.ensures ∙ each_among numbers distinct c.in_ok-distinct.ensures c.args.params.now) (differ ∙ differ_numbers numbers)
