use Rattle.std.proofs.Common.{◌≡◌, ◌∙◌, ap, rules, sym, subst, List}
use Rattle.std.specs.List.Sorted.{IsPermutation, IsSorted, IsStable}
use Rattle.std.specs.Ordering.{is_lt}
use Rattle.fp_base.proofs.Comparing.{compares}
use Rattle.fp_tables.specs.declared.topology.Link.{Link}
use Rattle.fp_topologies.specs.Ordered.{AreInOrder, link_cmp}
use Rattle.fp_topologies.proofs.Ordering.{link_ranks}
use Rattle.fp_topologies.proofs.sorting.in_order.Goals as goal

pub returns : goal.returns
returns c =
    let cs = c.args.components.now in
    let is = c.args.instances.now in
    let cmp = link_cmp cs is in
    let after = c.sort_by.new.self.items in
    let sorted : IsSorted cmp after = c.in_ok-sort_by.ensures.sorted (λ a b. is_lt (link_cmp cs is a b)) (link_ranks cs is) (compares cmp (λ a r h k. search rules)) in
    let stable : IsStable cmp c.into_vec-links.result.items after =
    c.in_ok-sort_by.ensures.stable (λ a b. is_lt (link_cmp cs is a b)) (link_ranks cs is) (compares cmp (λ a r h k. search rules)) in
    let made : AreInOrder cmp c.into_vec-links.result.items after = record { permutation = c.in_ok-sort_by.ensures.permutation; sorted = sorted; stable = stable } in
    subst (λ (ls : List Link). AreInOrder cmp c.args.links ls) (sym c.from_vec.ensures) (subst (λ (ls : List Link). AreInOrder cmp ls after) c.into_vec-links.ensures made)
