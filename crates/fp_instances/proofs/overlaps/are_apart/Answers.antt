use Rattle.std.proofs.Common.{List, ◌++◌, ap, subst, sym, ◌∙◌}
use Rattle.std.specs.List.Sorted.{IsPermutation}
use Rattle.fp_instances.specs.Ascending.{rise}
use Rattle.fp_instances.specs.declared.ranges.IdRange.{IdRange}
use Rattle.fp_instances.proofs.Apart.{risen_apart}
use Rattle.fp_instances.proofs.overlaps.are_apart.Goals as goal

pub returns : goal.returns
returns c h =
    let rs = c.args.ranges.now in
    let sorted = c.sort_by_key.new.self.items in
    let same = c.in_ok-extend_from_slice.ensures.items ∙ ap (λ (xs : List IdRange). xs ++ rs) c.in_ok-sorted.ensures.items in
    risen_apart rs sorted (subst (λ (xs : List IdRange). IsPermutation xs sorted) same c.sort_by_key.ensures.permutation) (sym (c.rise.ensures ∙ ap rise c.as_slice.ensures.value) ∙ h)
