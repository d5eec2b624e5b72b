use Rattle.std.proofs.Common.{rules, sym, subst, List, ℕ}
use Rattle.std.specs.List.Sorted.{IsSorted}
use Rattle.std.specs.Ordering.{is_lt}
use Rattle.fp_base.proofs.Comparing.{compares}
use Rattle.fp_dictionary.specs.Sorting.{AreByName, type_cmp}
use Rattle.fp_dictionary.proofs.UsedOrdering.{type_ranks}
use Rattle.fp_dictionary.proofs.sorting.by_name.Goals as goal

pub returns : goal.returns
returns c =
    let types = c.args.types.now in
    let after = c.sort_by.new.self.items in
    let sorted : IsSorted (type_cmp types) after = c.in_ok-sort_by.ensures.sorted (λ a b. is_lt (type_cmp types a b)) (type_ranks types) (compares (type_cmp types) (λ a r h k. search rules)) in
    let made : AreByName types c.into_vec-positions.result.items after = record { permutation = c.in_ok-sort_by.ensures.permutation; sorted = sorted } in
    subst (λ (ks : List ℕ). AreByName types c.args.positions ks) (sym c.from_vec.ensures) (subst (λ (ks : List ℕ). AreByName types ks after) c.into_vec-positions.ensures made)
